-- A loop over parts: what is found of one part and of the rest is what is found of both.
use Rattle.std.proofs.Common.{◌≡◌, ℕ, ◌+◌, ◌-◌, ◌<◌, List, ◌∷◌, ◌++◌, length, get_or, map, drop, add-one, ap, sym, subst, ◌∙◌, arith}
use Rattle.os_ast.specs.declared.program.Param.{Param}
use Rattle.os_ast.specs.Names.{Scope}
use Rattle.os_ast.specs.Notes.Declarators.{after_declarator, after_declarators, declarator_notes, declarators_notes}
use Rattle.os_ast.specs.Notes.Kinds.{Note, Parameter}
use Rattle.os_ast.specs.Notes.Programs.{after_param, after_params, params_notes}
use Rattle.os_ast.specs.Trees.{DeclaratorTree}
use Rattle.os_ast.specs.Views.{declarator_tree}
use Rattle.os_ast.specs.declared.stmt.Declarator.{Declarator}
use Rattle.std.proofs.Math.Seq.{drop-cons}
use Rattle.window_check_laws.proofs.HasRoom.{room_less, room_declarator, room_param}
use Rattle.window_check_names.proofs.Noted.{noted-append}
use Rattle.window_check_laws.proofs.Trees.{map-drop, declarators_notes-drop, after_declarators-drop}
use Rattle.window_check_names.specs.Findings.{note, noted}
use Rattle.window_check_names.specs.declared.found.Found.{Found}
use Rattle.window_check_laws.specs.Room.{HasRoom, declarator_weight, declarators_weight}

pub noted-loop : (f after : Found) (whole part rest : List Note) → whole ≡ part ++ rest → after ≡ noted f part → noted after rest ≡ noted f whole
noted-loop f after whole part rest split step = rw (split, step) (sym (noted-append f part rest))

-- a declarator of a list, and those behind it
pub declarators_room-first : (s : Scope) (ds : List Declarator) (i : ℕ) (d : Declarator) → i < length ds → d ≡ get_or ds i d →
    HasRoom s (declarators_weight (map declarator_tree (drop i ds))) → HasRoom s (declarator_weight (declarator_tree d))
declarators_room-first s ds i d h is room =
    room_less s _ (declarator_weight (declarator_tree d))
    (subst (λ (ts : List DeclaratorTree). HasRoom s (declarators_weight ts)) (map-drop declarator_tree ds i d h is) room) (omega arith)

pub declarators_room-next : (s after : Scope) (ds : List Declarator) (i : ℕ) (d : Declarator) → i < length ds → d ≡ get_or ds i d →
    HasRoom s (declarators_weight (map declarator_tree (drop i ds))) → after ≡ after_declarator s (declarator_tree d) →
    HasRoom after (declarators_weight (map declarator_tree (drop (i + 1) ds)))
declarators_room-next s after ds i d h is room step =
    rw step
    (room_declarator s (declarator_tree d) (declarators_weight (map declarator_tree (drop (i + 1) ds)))
    (subst (λ (ts : List DeclaratorTree). HasRoom s (declarators_weight ts)) (map-drop declarator_tree ds i d h is) room))

pub declarators_scopes-next : (s after end : Scope) (ds : List Declarator) (i : ℕ) (d : Declarator) → i < length ds → d ≡ get_or ds i d →
    after_declarators s (map declarator_tree (drop i ds)) ≡ end → after ≡ after_declarator s (declarator_tree d) →
    after_declarators after (map declarator_tree (drop (i + 1) ds)) ≡ end
declarators_scopes-next s after end ds i d h is sofar step = rw step (sym (after_declarators-drop s ds i d h is) ∙ sofar)

pub declarators_found-next : (s after : Scope) (f found end : Found) (ds : List Declarator) (i : ℕ) (d : Declarator) → i < length ds → d ≡ get_or ds i d →
    noted f (declarators_notes s (map declarator_tree (drop i ds))) ≡ end →
    after ≡ after_declarator s (declarator_tree d) → found ≡ noted f (declarator_notes s (declarator_tree d)) →
    noted found (declarators_notes after (map declarator_tree (drop (i + 1) ds))) ≡ end
declarators_found-next s after f found end ds i d h is sofar step noting =
    let t = declarator_tree d in
    let rest = declarators_notes (after_declarator s t) (map declarator_tree (drop (i + 1) ds)) in
    rw step (noted-loop f found _ (declarator_notes s t) rest (declarators_notes-drop s ds i d h is) noting ∙ sofar)

-- a parameter, and those behind it
pub params_room-next : (s after : Scope) (ns : List Param) (i : ℕ) (n : Param) → i < length ns → HasRoom s (length ns - i) → after ≡ after_param s (get_or ns i n) →
    HasRoom after (length ns - (i + 1))
params_room-next s after ns i n h room step =
    rw step (room_param s (get_or ns i n) (length ns - (i + 1)) (room_less s (length ns - i) (1 + (length ns - (i + 1))) room (omega arith)))

name-next : (ns : List Param) (i : ℕ) (n : Param) → i < length ns → drop i ns ≡ get_or ns i n ∷ drop (i + 1) ns
name-next ns i n h = drop-cons ns i n h ∙ ap (λ (k : ℕ). get_or ns i n ∷ drop k ns) (sym (add-one i))

pub params_scopes-next : (s after end : Scope) (ns : List Param) (i : ℕ) (n : Param) → i < length ns → after_params s (drop i ns) ≡ end → after ≡ after_param s (get_or ns i n) →
    after_params after (drop (i + 1) ns) ≡ end
params_scopes-next s after end ns i n h sofar step =
    ap (λ (x : Scope). after_params x (drop (i + 1) ns)) step ∙ ap (after_params s) (sym (name-next ns i n h)) ∙ sofar

pub params_found-next : (s after : Scope) (f found end : Found) (ns : List Param) (i : ℕ) (n : Param) → i < length ns → noted f (params_notes s (drop i ns)) ≡ end →
    after ≡ after_param s (get_or ns i n) → found ≡ note f (Parameter s (get_or ns i n)) → noted found (params_notes after (drop (i + 1) ns)) ≡ end
params_found-next s after f found end ns i n h sofar step noting =
    ap (λ (g : Found). noted g (params_notes after (drop (i + 1) ns))) noting
    ∙ ap (λ (x : Scope). noted (note f (Parameter s (get_or ns i n))) (params_notes x (drop (i + 1) ns))) step
    ∙ ap (λ (xs : List Param). noted f (params_notes s xs)) (sym (name-next ns i n h))
    ∙ sofar
