-- What the walk over a task's body lists is what the task captures by name.
use Rattle.std.proofs.Common.{◌≡◌, ℕ, ◌≤◌, ◌+◌, ◌==◌, ◌||◌, ◌&&◌, Bool, true, false, if◌then◌else◌, List, [], ◌∷◌, ◌++◌, map, Some, refl, ap, sym, subst, ◌∙◌, arith, eqb-true}
use Rattle.std.proofs.lemmas.Bool.Decides.{nat_tests}
use Rattle.os_ast.specs.Captured.{Scalar, scalar_of, others, scalars, among, captured, slots_of}
use Rattle.os_ast.specs.Names.{lookup, entity_of}
use Rattle.os_ast.specs.FreeNames.{task_names}
use Rattle.os_ast.specs.ClauseMembers.{ClauseMember, is_in}
use Rattle.os_ast.specs.Stacked.{Stacked, main_extent}
use Rattle.os_ast.specs.Trees.{StmtTree}
use Rattle.os_ast.specs.declared.names.Entity.{Entity}
use Rattle.os_ast.specs.declared.names.Entity.TheVariants as entity
use Rattle.os_ast.specs.declared.names.Entry.{Entry}
use Rattle.window_check_laws.proofs.Ascending.{same_members, ascends_with_slots, is_in-with_slots, is_in-append}
use Rattle.window_check_laws.specs.CapturedByUse.{Ascends, slots_named}
use Rattle.window_check_laws.specs.Slots.{with_slots, control_slots}

-- scalars whose slots ascend, from one on and below another
abbrev Between : ℕ → List Scalar → ℕ → Type 0
Between lo [] hi = lo ≤ hi
Between lo (c ∷ cs) hi = (lo ≤ c.slot) × Between (c.slot + 1) cs hi

between_lower : (lo from : ℕ) (cs : List Scalar) (hi : ℕ) → lo ≤ from → Between from cs hi → Between lo cs hi
between_lower lo from [] hi h b = omega (arith, h, b)
between_lower lo from (c ∷ cs) hi h b = (omega (arith, h, b.0), b.1)

between_append : (lo : ℕ) (cs : List Scalar) (mid : ℕ) (ds : List Scalar) (hi : ℕ) → Between lo cs mid → Between mid ds hi → Between lo (cs ++ ds) hi
between_append lo [] mid ds hi a b = between_lower lo mid ds hi a b
between_append lo (c ∷ cs) mid ds hi a b = (a.0, between_append (c.slot + 1) cs mid ds hi a.1 b)

between_others : (lo id : ℕ) (cs : List Scalar) (hi : ℕ) → Between lo cs hi → Between lo (others id cs) hi
between_others lo id [] hi b = b
between_others lo id (c ∷ cs) hi b = chosen (c.id == id) (between_others (c.slot + 1) id cs hi b.1)
  where
    chosen : (t : Bool) → Between (c.slot + 1) (others id cs) hi → Between lo (if t then others id cs else c ∷ others id cs) hi
    chosen true h = between_lower lo (c.slot + 1) (others id cs) hi (omega (arith, b.0)) h
    chosen false h = (b.0, h)

between_among : (lo : ℕ) (ids : List ℕ) (cs : List Scalar) (hi : ℕ) → Between lo cs hi → Between lo (among ids cs) hi
between_among lo ids [] hi b = b
between_among lo ids (c ∷ cs) hi b = chosen (is_in c.id ids) (between_among (c.slot + 1) ids cs hi b.1)
  where
    chosen : (t : Bool) → Between (c.slot + 1) (among ids cs) hi → Between lo (if t then c ∷ among ids cs else among ids cs) hi
    chosen true h = (b.0, h)
    chosen false h = between_lower lo (c.slot + 1) (among ids cs) hi (omega (arith, b.0)) h

between_declared : (id : ℕ) (e : Entity) (u : Bool) (top : ℕ) (es : List Entry) → Stacked main_extent top (record { id = id; depth = 0; entity = e; unsigned = u } ∷ es) →
    ((t : ℕ) → Stacked main_extent t es → Between 0 (scalars es) t) → Between 0 (others id (scalars es) ++ scalar_of id e) top
between_declared id (entity.Control slot) u top es h ih =
    between_append 0 (others id (scalars es)) slot _ top (between_others 0 id (scalars es) slot (ih slot h.1)) (omega arith, omega (arith, h.0))
between_declared id entity.InputLength u top es h ih =
    between_append 0 (others id (scalars es)) 0 _ top (between_others 0 id (scalars es) 0 (ih 0 h.1)) (omega arith, omega (arith, h.0))
between_declared id (entity.Window slot) u top es h ih =
    between_append 0 (others id (scalars es)) slot [] top (between_others 0 id (scalars es) slot (ih slot h.1)) (omega (arith, h.0))
between_declared id (entity.Constant v) u top es h ih = between_append 0 (others id (scalars es)) top [] top (between_others 0 id (scalars es) top (ih top h.1)) (omega arith)
between_declared id (entity.Function n k) u top es h ih = between_append 0 (others id (scalars es)) top [] top (between_others 0 id (scalars es) top (ih top h.1)) (omega arith)
between_declared id (entity.Scalar n) u top es h ih = between_append 0 (others id (scalars es)) top [] top (between_others 0 id (scalars es) top (ih top h.1)) (omega arith)
between_declared id (entity.Array n k) u top es h ih = between_append 0 (others id (scalars es)) top [] top (between_others 0 id (scalars es) top (ih top h.1)) (omega arith)
between_declared id (entity.Stream n) u top es h ih = between_append 0 (others id (scalars es)) top [] top (between_others 0 id (scalars es) top (ih top h.1)) (omega arith)
between_declared id (entity.Streams n k) u top es h ih = between_append 0 (others id (scalars es)) top [] top (between_others 0 id (scalars es) top (ih top h.1)) (omega arith)
between_declared id (entity.Element n k) u top es h ih = between_append 0 (others id (scalars es)) top [] top (between_others 0 id (scalars es) top (ih top h.1)) (omega arith)
between_declared id (entity.View n k) u top es h ih = between_append 0 (others id (scalars es)) top [] top (between_others 0 id (scalars es) top (ih top h.1)) (omega arith)

-- the scalars in scope, in the order of their declarations
between_scalars : (top : ℕ) (es : List Entry) → Stacked main_extent top es → Between 0 (scalars es) top
between_scalars top [] h = omega arith
between_scalars top (e ∷ es) h = between_declared e.id e.entity e.unsigned top es h (λ t k. between_scalars t es k)

ascends_slots : (lo : ℕ) (cs : List Scalar) (hi : ℕ) → Between lo cs hi → Ascends lo (map (λ c. c.slot) cs)
ascends_slots lo [] hi b = tt
ascends_slots lo (c ∷ cs) hi b = (b.0, ascends_slots (c.slot + 1) cs hi b.1)

-- whether a name is that of a scalar with a slot
abbrev is_scalar : ℕ → ℕ → List Scalar → Bool
is_scalar id x [] = false
is_scalar id x (c ∷ cs) = ((c.id == id) && (c.slot == x)) || is_scalar id x cs

abbrev has_slot : List Entry → ℕ → ℕ → Bool
has_slot es x id = is_in x (control_slots (entity_of (lookup es id)))

or_over : (b c d : Bool) → ((b || c) || d) ≡ (b || (c || d))
or_over true c d = refl
or_over false c d = refl

is_scalar-append : (id x : ℕ) (cs ds : List Scalar) → is_scalar id x (cs ++ ds) ≡ (is_scalar id x cs || is_scalar id x ds)
is_scalar-append id x [] ds = refl
is_scalar-append id x (c ∷ cs) ds =
    ap (λ b. ((c.id == id) && (c.slot == x)) || b) (is_scalar-append id x cs ds)
    ∙ sym (or_over ((c.id == id) && (c.slot == x)) (is_scalar id x cs) (is_scalar id x ds))

-- a scalar of another name
apart_test : (b : Bool) (c id k : ℕ) (t : Bool) → (c == id) ≡ b → (k == id) ≡ true → (c == k) ≡ false → ((c == id) && t) ≡ false
apart_test b c id k t e f g = let same : k ≡ id = eqb-true k id f in let none : (c == id) ≡ false = subst (λ x. (c == x) ≡ false) same g in rw none refl

same_test : (c id k : ℕ) (t : Bool) → (c == k) ≡ true → (k == id) ≡ false → ((c == id) && t) ≡ false
same_test c id k t e f = let same : c ≡ k = eqb-true c k e in let none : (c == id) ≡ false = subst (λ x. (x == id) ≡ false) (sym same) f in rw none refl

-- without the scalars of a name
others-same : (k id x : ℕ) (cs : List Scalar) → (k == id) ≡ true → is_scalar id x (others k cs) ≡ false
others-same k id x [] h = refl
others-same k id x (c ∷ cs) h = chosen (c.id == k) refl (others-same k id x cs h)
  where
    chosen : (t : Bool) → (c.id == k) ≡ t → is_scalar id x (others k cs) ≡ false → is_scalar id x (if t then others k cs else c ∷ others k cs) ≡ false
    chosen true e ih = ih
    chosen false e ih = rw (apart_test (c.id == id) c.id id k (c.slot == x) refl h e) ih

others-apart : (k id x : ℕ) (cs : List Scalar) → (k == id) ≡ false → is_scalar id x (others k cs) ≡ is_scalar id x cs
others-apart k id x [] h = refl
others-apart k id x (c ∷ cs) h = chosen (c.id == k) refl (others-apart k id x cs h)
  where
    chosen : (t : Bool) → (c.id == k) ≡ t → is_scalar id x (others k cs) ≡ is_scalar id x cs →
        is_scalar id x (if t then others k cs else c ∷ others k cs) ≡ (((c.id == id) && (c.slot == x)) || is_scalar id x cs)
    chosen true e ih = rw (same_test c.id id k (c.slot == x) e h) ih
    chosen false e ih = ap (λ b. ((c.id == id) && (c.slot == x)) || b) ih

declared-is : (k id x : ℕ) (e : Entity) → (k == id) ≡ true → is_scalar id x (scalar_of k e) ≡ is_in x (control_slots (Some e))
declared-is k id x (entity.Control slot) h = rw h refl
declared-is k id x entity.InputLength h = rw h refl
declared-is k id x (entity.Constant v) h = refl
declared-is k id x (entity.Function n m) h = refl
declared-is k id x (entity.Scalar n) h = refl
declared-is k id x (entity.Array n m) h = refl
declared-is k id x (entity.Window n) h = refl
declared-is k id x (entity.Stream n) h = refl
declared-is k id x (entity.Streams n m) h = refl
declared-is k id x (entity.Element n m) h = refl
declared-is k id x (entity.View n m) h = refl

declared-not : (k id x : ℕ) (e : Entity) → (k == id) ≡ false → is_scalar id x (scalar_of k e) ≡ false
declared-not k id x (entity.Control slot) h = rw h refl
declared-not k id x entity.InputLength h = rw h refl
declared-not k id x (entity.Constant v) h = refl
declared-not k id x (entity.Function n m) h = refl
declared-not k id x (entity.Scalar n) h = refl
declared-not k id x (entity.Array n m) h = refl
declared-not k id x (entity.Window n) h = refl
declared-not k id x (entity.Stream n) h = refl
declared-not k id x (entity.Streams n m) h = refl
declared-not k id x (entity.Element n m) h = refl
declared-not k id x (entity.View n m) h = refl

or_false : (b : Bool) → (b || false) ≡ b
or_false true = refl
or_false false = refl

-- the scalars in scope are those that a look-up finds
in_scope : (es : List Entry) (id x : ℕ) → is_scalar id x (scalars es) ≡ has_slot es x id
in_scope [] id x = refl
in_scope (e ∷ es) id x = is_scalar-append id x (others e.id (scalars es)) (scalar_of e.id e.entity) ∙ chosen (e.id == id) refl (in_scope es id x)
  where
    chosen : (t : Bool) → (e.id == id) ≡ t → is_scalar id x (scalars es) ≡ has_slot es x id →
        (is_scalar id x (others e.id (scalars es)) || is_scalar id x (scalar_of e.id e.entity))
        ≡ is_in x (control_slots (entity_of (if t then Some e else lookup es id)))
    chosen true h ih = rw (others-same e.id id x (scalars es) h) (declared-is e.id id x e.entity h)
    chosen false h ih =
        rw (others-apart e.id id x (scalars es) h, declared-not e.id id x e.entity h)
        (or_false (is_scalar id x (scalars es)) ∙ ih)

-- one of some names is that of a scalar with a slot
abbrev any_scalar : List ℕ → ℕ → List Scalar → Bool
any_scalar [] x cs = false
any_scalar (id ∷ ids) x cs = is_scalar id x cs || any_scalar ids x cs

or_middle : (a b c d : Bool) → ((a || b) || (c || d)) ≡ ((a || c) || (b || d))
or_middle true b true d = refl
or_middle true b false d = refl
or_middle false true true d = refl
or_middle false true false d = refl
or_middle false false true d = refl
or_middle false false false d = refl

and_or : (a b t : Bool) → ((a && t) || (b && t)) ≡ ((a || b) && t)
and_or true true true = refl
and_or true true false = refl
and_or true false true = refl
and_or true false false = refl
and_or false true true = refl
and_or false true false = refl
and_or false false true = refl
and_or false false false = refl

eqb_swap : (a b : ℕ) → (a == b) ≡ (b == a)
eqb_swap a b = grind (arith, nat_tests)

any_scalar-cons : (ids : List ℕ) (x : ℕ) (c : Scalar) (cs : List Scalar) → any_scalar ids x (c ∷ cs) ≡ ((is_in c.id ids && (c.slot == x)) || any_scalar ids x cs)
any_scalar-cons [] x c cs = refl
any_scalar-cons (id ∷ ids) x c cs =
    rw (any_scalar-cons ids x c cs)
    (or_middle ((c.id == id) && (c.slot == x)) (is_scalar id x cs) (is_in c.id ids && (c.slot == x)) (any_scalar ids x cs)
    ∙ ap (λ b. b || (is_scalar id x cs || any_scalar ids x cs)) (and_or (c.id == id) (is_in c.id ids) (c.slot == x))
    ∙ ap (λ b. ((b || is_in c.id ids) && (c.slot == x)) || (is_scalar id x cs || any_scalar ids x cs)) (eqb_swap c.id id))

no_scalar : (ids : List ℕ) (x : ℕ) → any_scalar ids x [] ≡ false
no_scalar [] x = refl
no_scalar (id ∷ ids) x = no_scalar ids x

among_slots : (ids : List ℕ) (x : ℕ) (cs : List Scalar) → is_in x (map (λ c. c.slot) (among ids cs)) ≡ any_scalar ids x cs
among_slots ids x [] = sym (no_scalar ids x)
among_slots ids x (c ∷ cs) = chosen (is_in c.id ids) refl (among_slots ids x cs) ∙ sym (any_scalar-cons ids x c cs)
  where
    chosen : (t : Bool) → is_in c.id ids ≡ t → is_in x (map (λ (c : Scalar). c.slot) (among ids cs)) ≡ any_scalar ids x cs →
        is_in x (map (λ (c : Scalar). c.slot) (if t then c ∷ among ids cs else among ids cs)) ≡ ((is_in c.id ids && (c.slot == x)) || any_scalar ids x cs)
    chosen true h ih = rw h (ap (λ b. (c.slot == x) || b) ih)
    chosen false h ih = rw h ih

slots_named-is : (es : List Entry) (ids : List ℕ) (x : ℕ) → is_in x (slots_named es ids) ≡ any_scalar ids x (scalars es)
slots_named-is es [] x = refl
slots_named-is es (id ∷ ids) x =
    is_in-append x (control_slots (entity_of (lookup es id))) (slots_named es ids)
    ∙ ap (λ b. has_slot es x id || b) (slots_named-is es ids x)
    ∙ ap (λ b. b || any_scalar ids x (scalars es)) (sym (in_scope es id x))

-- Slots that are collected one by one, as names mean them, are those of the scalars in the order of their declarations.
pub collected : (es : List Entry) (ids : List ℕ) (top : ℕ) → Stacked main_extent top es →
    with_slots (slots_named es ids) [] ≡ map (λ c. c.slot) (among ids (scalars es))
collected es ids top h =
    same_members 0 (with_slots (slots_named es ids) []) (map (λ (c : Scalar). c.slot) (among ids (scalars es)))
    (ascends_with_slots (slots_named es ids) [] tt)
    (ascends_slots 0 (among ids (scalars es)) top (between_among 0 ids (scalars es) top (between_scalars top es h)))
    (λ x.
    is_in-with_slots x (slots_named es ids) []
    ∙ or_false (is_in x (slots_named es ids))
    ∙ slots_named-is es ids x
    ∙ sym (among_slots ids x (scalars es)))

-- Captured slots ascend strictly, and are those that the names mean.
pub captured-ascends : (es : List Entry) (ps : List ClauseMember) (a : StmtTree) (top : ℕ) → Stacked main_extent top es → Ascends 0 (slots_of (captured es ps a))
captured-ascends es ps a top h =
    ascends_slots 0 (among (task_names ps a) (scalars es)) top (between_among 0 (task_names ps a) (scalars es) top (between_scalars top es h))

pub collected-members : (es : List Entry) (ids : List ℕ) (x : ℕ) → is_in x (slots_of (among ids (scalars es))) ≡ is_in x (slots_named es ids)
collected-members es ids x = among_slots ids x (scalars es) ∙ sym (slots_named-is es ids x)
