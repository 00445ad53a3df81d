-- A task's body beside the names round it.
use Rattle.std.proofs.Common.{◌≡◌, ℕ, suc, ◌==◌, ◌||◌, Bool, true, false, if◌then◌else◌, List, [], ◌∷◌, ◌++◌, length, Option, Some, None, ℤ, refl, sym, ap, ◌∙◌, subst, inl, inr, eq-eqb, eqb-true, arith}
use Rattle.std.specs.Prelude.{⊤, ◌⊎◌}
use Rattle.cddf_meaning.specs.File.{File}
use Rattle.cddf_meaning.specs.Moves.{CallsFall}
use Rattle.cddf_meaning.specs.Tasks.{Task as MeaningTask}
use Rattle.cddf_meaning.specs.Variables.{find, flag_or}
use Rattle.cddf_meaning.specs.declared.variable.Variable.{Variable}
use Rattle.flow_core_laws.specs.declared.claim.Claim.{Claim}
use Rattle.os_ast.specs.Captured.{Scalar, captured, slots_of}
use Rattle.os_ast.specs.FreeNames.{task_names}
use Rattle.os_ast.specs.Names.{Scope, lookup, entity_of, declare, flag_of, flagged}
use Rattle.os_ast.specs.Notes.Clauses.{item_entity, with_items, in_task, captured_in, in_task_body, item_flag}
use Rattle.os_ast.specs.Notes.Kinds.{Note, Used, Sized, Declared, Parameter, Global, Left, Returned, Pragma, Task, Listed}
use Rattle.os_ast.specs.Notes.Statements.{stmt_notes}
use Rattle.os_ast.specs.ClauseMembers.{ClauseMember, Item, Private, members, item_name, is_in, private_ids}
use Rattle.os_ast.specs.Rules.{is_changed, is_misplaced_stream, is_misplaced_window}
use Rattle.os_ast.specs.Stacked.{main_extent}
use Rattle.os_ast.specs.Stacked as text
use Rattle.os_ast.specs.declared.expr.Name.{Name}
use Rattle.os_ast.specs.declared.names.Entity.{Entity}
use Rattle.os_ast.specs.declared.names.Entity.TheVariants as entity
use Rattle.os_ast.specs.declared.names.Entry.{Entry}
use Rattle.os_ast.specs.declared.names.Owner.TheVariants as owner
use Rattle.os_ast.specs.declared.names.Resolved.{Resolved}
use Rattle.os_ast.specs.declared.names.Role.TheVariants as role
use Rattle.os_ast.specs.declared.names.Use.{Use}
use Rattle.os_ast.specs.declared.names.Use.TheVariants as usage
use Rattle.os_code.specs.declared.parts.Parts.{Parts}
use Rattle.lowering_relation.proofs.Capturing.{HasSlot, AreScalars, captured_scalars, one_name}
use Rattle.lowering_relation.proofs.Alignment.{flag_or_of}
use Rattle.lowering_relation.proofs.Context.{InTask, FileHas, Reaches, flag_round, IsPlain, Context, Agree, In, kept_rule, declared_flag, split}
use Rattle.lowering_relation.proofs.Functions.{Known, known_has, FileFits}
use Rattle.lowering_relation.proofs.NoTasks.{items_owner}
use Rattle.lowering_relation.proofs.TaskTexts.{IsOfMain, AllOfMain, TaskAt}
use Rattle.window_check_laws.specs.CapturedByUse.{used_slots, slots_named}
use Rattle.window_check_laws.specs.Order.{InOrder}
use Rattle.window_check_laws.specs.Slots.{control_slots, named_slots}
use Rattle.window_check_laws.specs.Sums.{extent_in}
use Rattle.window_check_laws.specs.Told.{KeepsAll, Tells, AreLawful, rules}
use Rattle.window_check_laws.proofs.Named.{captured-members}

-- the declarations of items, as they stand within others
abbrev pub made_items : Scope → ℕ → ℕ → List ClauseMember → List Entry → List Entry
made_items s depth item [] es = es
made_items s depth item (Item d i ∷ ps) es = made_items s depth (suc item) ps (record { id = (item_name i.stream i.window).id; depth = depth; entity = item_entity s item d i; unsigned = item_flag s i } ∷ es)
made_items s depth item (Private n ∷ ps) es = made_items s depth item ps es

pub items_entries : (s inner : Scope) (ps : List ClauseMember) (item : ℕ) → (with_items s inner item ps).entries ≡ made_items s inner.depth item ps inner.entries
items_entries s inner [] item = refl
items_entries s inner (Item d i ∷ ps) item = items_entries s (declare (flagged (item_flag s i) inner) (item_name i.stream i.window).id (item_entity s item d i)) ps (suc item)
items_entries s inner (Private n ∷ ps) item = items_entries s inner ps item

pub items_captured : (s inner : Scope) (ps : List ClauseMember) (item : ℕ) → (with_items s inner item ps).captured ≡ inner.captured
items_captured s inner [] item = refl
items_captured s inner (Item d i ∷ ps) item = items_captured s (declare (flagged (item_flag s i) inner) (item_name i.stream i.window).id (item_entity s item d i)) ps (suc item)
items_captured s inner (Private n ∷ ps) item = items_captured s inner ps item

pub items_slots : (s inner : Scope) (ps : List ClauseMember) (item : ℕ) → (with_items s inner item ps).slots ≡ inner.slots
items_slots s inner [] item = refl
items_slots s inner (Item d i ∷ ps) item = items_slots s (declare (flagged (item_flag s i) inner) (item_name i.stream i.window).id (item_entity s item d i)) ps (suc item)
items_slots s inner (Private n ∷ ps) item = items_slots s inner ps item

pub items_onto : (s : Scope) (depth item : ℕ) (ps : List ClauseMember) (xs ys : List Entry) → made_items s depth item ps (xs ++ ys) ≡ made_items s depth item ps xs ++ ys
items_onto s depth item [] xs ys = refl
items_onto s depth item (Item d i ∷ ps) xs ys = items_onto s depth (suc item) ps (record { id = (item_name i.stream i.window).id; depth = depth; entity = item_entity s item d i; unsigned = item_flag s i } ∷ xs) ys
items_onto s depth item (Private n ∷ ps) xs ys = items_onto s depth item ps xs ys

-- the declaration of a captured scalar
abbrev pub entity_or : Scalar → Option Entry → Entity
entity_or c None = entity.Control c.slot
entity_or c (Some e) = e.entity

abbrev pub captured_entry : List Entry → Scalar → Entry
captured_entry es c = record { id = c.id; depth = 0; entity = entity_or c (lookup es c.id); unsigned = flag_of (lookup es c.id) }

abbrev pub made_captured : List Entry → List Scalar → List Entry → List Entry
made_captured es [] xs = xs
made_captured es (c ∷ cs) xs = made_captured es cs (captured_entry es c ∷ xs)

-- the file's declarations lie behind those of `main`
in_file : (inner file : List Entry) (id : ℕ) (d : Entity) → AllOfMain inner → (IsOfMain d → ⊥) → entity_of (lookup (inner ++ file) id) ≡ Some d → entity_of (lookup file id) ≡ Some d
in_file [] file id d all other is = is
in_file (e ∷ inner) file id d all other is = by_case (e.id == id) is (λ k. in_file inner file id d all.1 other k)
  where
    by_case : (t : Bool) → entity_of (if t then Some e else lookup (inner ++ file) id) ≡ Some d → (entity_of (lookup (inner ++ file) id) ≡ Some d → entity_of (lookup file id) ≡ Some d) → entity_of (lookup file id) ≡ Some d
    by_case true k next = let same : e.entity ≡ d = cc in absurd (other (subst IsOfMain same all.0))
    by_case false k next = next k

-- so such a name is the file's
in_file_alone : (inner file : List Entry) (id : ℕ) (d : Entity) → AllOfMain inner → (IsOfMain d → ⊥) → entity_of (lookup (inner ++ file) id) ≡ Some d → lookup (inner ++ file) id ≡ lookup file id
in_file_alone [] file id d all other is = refl
in_file_alone (e ∷ inner) file id d all other is = by_case (e.id == id) is (λ k. in_file_alone inner file id d all.1 other k)
  where
    by_case : (t : Bool) → entity_of (if t then Some e else lookup (inner ++ file) id) ≡ Some d → (entity_of (lookup (inner ++ file) id) ≡ Some d → lookup (inner ++ file) id ≡ lookup file id) →
        (if t then Some e else lookup (inner ++ file) id) ≡ lookup file id
    by_case true k next = let same : e.entity ≡ d = cc in absurd (other (subst IsOfMain same all.0))
    by_case false k next = next k

-- the file has nothing that only `main` declares
file_apart : (code : Parts) (file : File) (v : Option Variable) (d : Entity) → FileHas code file v d → IsOfMain d → ⊥
file_apart code file v (entity.Constant x) h is = is
file_apart code file v (entity.Function number params) h is = is
file_apart code file v (entity.Scalar slot) h is = h
file_apart code file v (entity.Control slot) h is = h
file_apart code file v entity.InputLength h is = h
file_apart code file v (entity.Array first size) h is = h
file_apart code file v (entity.Window slot) h is = h
file_apart code file v (entity.Stream number) h is = h
file_apart code file v (entity.Streams first count) h is = h
file_apart code file v (entity.Element item x) h is = h
file_apart code file v (entity.View item x) h is = h

module _ (es : List Entry) where
  -- captured scalars have the types that they have in `main`
  abbrev SameFlags : List Entry → Type 0
  SameFlags xs = (id : ℕ) (d : Entity) → entity_of (lookup xs id) ≡ Some d → flag_of (lookup xs id) ≡ flag_of (lookup es id)

  flags_caught : (cs : List Scalar) (xs : List Entry) → SameFlags xs → SameFlags (made_captured es cs xs)
  flags_caught [] xs same = same
  flags_caught (c ∷ cs) xs same = flags_caught cs (captured_entry es c ∷ xs) (λ id d is. by_case id d (c.id == id) refl is)
    where
      by_case : (id : ℕ) (d : Entity) (t : Bool) → (c.id == id) ≡ t → entity_of (if t then Some (captured_entry es c) else lookup xs id) ≡ Some d →
          flag_of (if t then Some (captured_entry es c) else lookup xs id) ≡ flag_of (lookup es id)
      by_case id d true e is = ap (λ k. flag_of (lookup es k)) (eqb-true c.id id e)
      by_case id d false e is = same id d is

  by_own : (c : Scalar) (xs : List Entry) (id : ℕ) (d : Entity) (t : Bool) → (c.id == id) ≡ t → entity_of (lookup es id) ≡ Some d → (t ≡ false → entity_of (lookup xs id) ≡ Some d) →
      entity_of (if t then Some (captured_entry es c) else lookup xs id) ≡ Some d
  by_own c xs id d false e is more = more refl
  by_own c xs id d true e is more = by_found (lookup es c.id) (ap (λ k. entity_of (lookup es k)) (eqb-true c.id id e) ∙ is)
    where
      by_found : (o : Option Entry) → entity_of o ≡ Some d → Some (entity_or c o) ≡ Some d
      by_found None h = absurd (cc)
      by_found (Some x) h = h

  kept : (cs : List Scalar) (xs : List Entry) (id : ℕ) (d : Entity) → entity_of (lookup es id) ≡ Some d → entity_of (lookup xs id) ≡ Some d → entity_of (lookup (made_captured es cs xs) id) ≡ Some d
  kept [] xs id d is h = h
  kept (c ∷ cs) xs id d is h = kept cs (captured_entry es c ∷ xs) id d is (by_own c xs id d (c.id == id) refl is (λ _. h))

  abbrev IsAmong : ℕ → List Scalar → Type 0
  IsAmong id [] = ⊥
  IsAmong id (c ∷ cs) = (c.id ≡ id) ⊎ IsAmong id cs

  caught : (cs : List Scalar) (xs : List Entry) (id : ℕ) (d : Entity) → entity_of (lookup es id) ≡ Some d → IsAmong id cs → entity_of (lookup (made_captured es cs xs) id) ≡ Some d
  caught [] xs id d is h = absurd (h)
  caught (c ∷ cs) xs id d is (inl e) =
      kept cs (captured_entry es c ∷ xs) id d is (by_own c xs id d (c.id == id) refl is (λ f. let t : (c.id == id) ≡ true = eq-eqb c.id id e in absurd (cc)))
  caught (c ∷ cs) xs id d is (inr h) = caught cs (captured_entry es c ∷ xs) id d is h

  abbrev NotAmong : ℕ → List Scalar → Type 0
  NotAmong id [] = ⊤
  NotAmong id (c ∷ cs) = ((c.id == id) ≡ false) × NotAmong id cs

  missed : (cs : List Scalar) (xs : List Entry) (id : ℕ) → NotAmong id cs → lookup xs id ≡ None → lookup (made_captured es cs xs) id ≡ None
  missed [] xs id h none = none
  missed (c ∷ cs) xs id h none = missed cs (captured_entry es c ∷ xs) id h.1 (ap (λ t. if t then Some (captured_entry es c) else lookup xs id) h.0 ∙ none)

  among_by_slot : (cs : List Scalar) (top id slot : ℕ) → text.Stacked main_extent top es → AreScalars es cs → HasSlot (entity_of (lookup es id)) slot → is_in slot (slots_of cs) ≡ true → IsAmong id cs
  among_by_slot [] top id slot st all h is = absurd (cc)
  among_by_slot (c ∷ cs) top id slot st all h is = by_case (c.slot == slot) refl is (λ k. among_by_slot cs top id slot st all.1 h k)
    where
      by_case : (t : Bool) → (c.slot == slot) ≡ t → (t || is_in slot (slots_of cs)) ≡ true → (is_in slot (slots_of cs) ≡ true → IsAmong id cs) → IsAmong id (c ∷ cs)
      by_case true e k next = inl (one_name es top c.id id slot st (subst (HasSlot (entity_of (lookup es c.id))) (eqb-true c.slot slot e) all.0) h)
      by_case false e k next = inr (next k)

  not_among : (cs : List Scalar) (id : ℕ) (d : Entity) → AreScalars es cs → entity_of (lookup es id) ≡ Some d → control_slots (Some d) ≡ [] → NotAmong id cs
  not_among [] id d all is none = tt
  not_among (c ∷ cs) id d all is none = (by_case (c.id == id) refl, not_among cs id d all.1 is none)
    where
      by_case : (t : Bool) → (c.id == id) ≡ t → t ≡ false
      by_case false e = refl
      by_case true e =
          let a : control_slots (entity_of (lookup es id)) ≡ c.slot ∷ [] = subst (λ k. HasSlot (entity_of (lookup es k)) c.slot) (eqb-true c.id id e) all.0 in
          let b : control_slots (entity_of (lookup es id)) ≡ [] = ap control_slots is ∙ none in
          absurd (cc)

-- what a task knows of its names: the scalars of `main` that they mean are captured
abbrev pub Besides : List ℕ → Note → Type 0
Besides slots (Used s n u) = (slot : ℕ) → is_in slot (control_slots (entity_of (lookup s.entries n.id))) ≡ true → is_in slot slots ≡ true
Besides slots _ = ⊤

pub is_in_both : (x : ℕ) (xs ys : List ℕ) → is_in x (xs ++ ys) ≡ (is_in x xs || is_in x ys)
is_in_both x [] ys = refl
is_in_both x (y ∷ xs) ys = ap (λ b. (y == x) || b) (is_in_both x xs ys) ∙ or_assoc (y == x) (is_in x xs) (is_in x ys)
  where
    or_assoc : (a b c : Bool) → (a || (b || c)) ≡ ((a || b) || c)
    or_assoc true b c = refl
    or_assoc false b c = refl

pub or_left : (a b : Bool) → a ≡ true → (a || b) ≡ true
or_left true b h = refl
or_left false b h = absurd (cc)

pub or_right : (a b : Bool) → b ≡ true → (a || b) ≡ true
or_right true b h = refl
or_right false b h = h

pub note_besides : (slots : List ℕ) (n : Note) → ((x : ℕ) → is_in x (named_slots n) ≡ true → is_in x slots ≡ true) → Besides slots n
note_besides slots (Used s n u) h = h
note_besides slots (Sized s n) h = tt
note_besides slots (Declared s d) h = tt
note_besides slots (Parameter s n) h = tt
note_besides slots (Global s n) h = tt
note_besides slots (Left s m) h = tt
note_besides slots (Returned s m) h = tt
note_besides slots (Pragma s m) h = tt
note_besides slots (Task s m k cs) h = tt
note_besides slots (Listed before n) h = tt

agrees_by_slots : (c : Context) (slots : List ℕ) (ns : List Note) → ((n : Note) → Besides slots n → c.besides n) → AreLawful ns → Tells c.names ns → ((x : ℕ) → is_in x (used_slots ns) ≡ true → is_in x slots ≡ true) → Agree c ns
agrees_by_slots c slots [] gives lawful tells h = tt
agrees_by_slots c slots (n ∷ ns) gives lawful tells h = (
  (lawful.0, tells.0, gives n (note_besides slots n (λ x k. h x (is_in_both x (named_slots n) (used_slots ns) ∙ or_left (is_in x (named_slots n)) (is_in x (used_slots ns)) k)))),
  agrees_by_slots c slots ns gives lawful.1 tells.1 (λ x k. h x (is_in_both x (named_slots n) (used_slots ns) ∙ or_right (is_in x (named_slots n)) (is_in x (used_slots ns)) k)),
)

-- No window and no stream is used in the body of a task.
no_window : (n : Name) (u : Use) (slot : ℕ) → IsPlain u → is_misplaced_window n.id u (entity.Window slot) ≡ false → ⊥
no_window n (usage.Place role.Value s) slot plain a = absurd (cc)
no_window n (usage.Place role.Changed s) slot plain a = absurd (cc)
no_window n (usage.Place (role.Flow d) s) slot plain a = plain
no_window n (usage.Called args) slot plain a = absurd (cc)
no_window n (usage.Joined s) slot plain a = plain
no_window n usage.Private slot plain a = plain

no_stream : (n : Name) (u : Use) (number : ℕ) → IsPlain u → is_misplaced_stream n.id u (entity.Stream number) ≡ false → is_changed n.id u (entity.Stream number) ≡ false → ⊥
no_stream n (usage.Place role.Value s) number plain a b = absurd (cc)
no_stream n (usage.Place role.Changed s) number plain a b = absurd (cc)
no_stream n (usage.Place (role.Flow d) s) number plain a b = plain
no_stream n (usage.Called args) number plain a b = absurd (cc)
no_stream n (usage.Joined s) number plain a b = plain
no_stream n usage.Private number plain a b = plain

no_streams : (n : Name) (u : Use) (first count : ℕ) → IsPlain u → is_misplaced_stream n.id u (entity.Streams first count) ≡ false → is_changed n.id u (entity.Streams first count) ≡ false → ⊥
no_streams n (usage.Place role.Value s) first count plain a b = absurd (cc)
no_streams n (usage.Place role.Changed s) first count plain a b = absurd (cc)
no_streams n (usage.Place (role.Flow d) s) first count plain a b = plain
no_streams n (usage.Called args) first count plain a b = absurd (cc)
no_streams n (usage.Joined s) first count plain a b = plain
no_streams n usage.Private first count plain a b = plain

pub in_slots : (slot : ℕ) → is_in slot (slot ∷ []) ≡ true
in_slots slot = ap (λ t. t || false) (eq-eqb slot slot refl)

module _ (code : Parts) (file : File) (falls : CallsFall file) (rs : List Resolved) (ordered : InOrder rs) (file_es : List Entry) (fits : FileFits code file file_es) (t : MeaningTask) (slots : List ℕ) (there : TaskAt rs file_es t slots) (claims : List Claim) where
  abbrev pub ps : List ClauseMember
  ps = members there.clauses

  abbrev pub cs : List Scalar
  cs = captured there.scope.entries ps there.body

  abbrev around : Scope
  around = in_task there.scope (captured_in there.scope.owner (slots_of cs))

  abbrev pub inner : Scope
  inner = in_task_body there.scope ps there.body

  abbrev pub items : List Entry
  items = made_items there.scope around.depth 0 ps []

  abbrev pub caught_all : List Entry
  caught_all = made_captured there.scope.entries cs []

  abbrev pub bound : List Entry
  bound = items ++ caught_all

  round_is : inner.entries ≡ items ++ there.scope.entries
  round_is = items_entries there.scope around ps 0 ∙ items_onto there.scope around.depth 0 ps [] there.scope.entries

  main_stacked : text.Stacked main_extent there.scope.slots there.scope.entries
  main_stacked = subst (λ o. text.Stacked (extent_in o) there.scope.slots there.scope.entries) there.in_main.owner there.in_main.stacked

  scalars_all : AreScalars there.scope.entries cs
  scalars_all = captured_scalars there.scope.entries (task_names ps there.body)

  file_entity : (id : ℕ) (d : Entity) → (IsOfMain d → ⊥) → entity_of (lookup there.scope.entries id) ≡ Some d → Known code file (find file.names id) d
  file_entity id d other is =
      fits.known id d (in_file there.in_main.inner file_es id d there.in_main.all other (subst (λ es. entity_of (lookup es id) ≡ Some d) there.in_main.entries is))

  by_file : (id : ℕ) (d : Entity) → (IsOfMain d → ⊥) → control_slots (Some d) ≡ [] → entity_of (lookup there.scope.entries id) ≡ Some d → lookup bound id ≡ lookup caught_all id → Reaches code file bound id d
  by_file id d other none is same =
      inr (same ∙ missed there.scope.entries cs [] id (not_among there.scope.entries cs id d scalars_all is none) refl, known_has code file (find file.names id) d (file_entity id d other is))

  by_scalar : (id slot : ℕ) (d : Entity) → HasSlot (Some d) slot → entity_of (lookup there.scope.entries id) ≡ Some d → is_in slot slots ≡ true → lookup bound id ≡ lookup caught_all id → Reaches code file bound id d
  by_scalar id slot d has is caught_slot same =
      let among = among_by_slot there.scope.entries cs there.scope.slots id slot main_stacked scalars_all (ap control_slots is ∙ has) (ap (is_in slot) (sym there.captures) ∙ caught_slot) in
      inl (ap entity_of same ∙ caught there.scope.entries cs [] id d is among)

  by_entity : (s : Scope) (n : Name) (u : Use) (d : Entity) → IsPlain u → KeepsAll rules (Used s n u) → Besides slots (Used s n u) → entity_of (lookup s.entries n.id) ≡ Some d →
      entity_of (lookup there.scope.entries n.id) ≡ Some d → lookup bound n.id ≡ lookup caught_all n.id → Reaches code file bound n.id d
  by_entity s n u (entity.Control slot) plain lawful besides is main same =
      by_scalar n.id slot (entity.Control slot) refl main (besides slot (ap (λ o. is_in slot (control_slots o)) is ∙ in_slots slot)) same
  by_entity s n u entity.InputLength plain lawful besides is main same = by_scalar n.id 0 entity.InputLength refl main (besides 0 (ap (λ o. is_in 0 (control_slots o)) is ∙ in_slots 0)) same
  by_entity s n u (entity.Constant v) plain lawful besides is main same = by_file n.id (entity.Constant v) (λ x. x) refl main same
  by_entity s n u (entity.Function number params) plain lawful besides is main same = by_file n.id (entity.Function number params) (λ x. x) refl main same
  by_entity s n u (entity.Scalar slot) plain lawful besides is main same = absurd (file_entity n.id (entity.Scalar slot) (λ x. x) main)
  by_entity s n u (entity.Array first size) plain lawful besides is main same = absurd (file_entity n.id (entity.Array first size) (λ x. x) main)
  by_entity s n u (entity.Element item x) plain lawful besides is main same = absurd (file_entity n.id (entity.Element item x) (λ x. x) main)
  by_entity s n u (entity.View item x) plain lawful besides is main same = absurd (file_entity n.id (entity.View item x) (λ x. x) main)
  by_entity s n u (entity.Window slot) plain lawful besides is main same =
      absurd (no_window n u slot plain (kept_rule is_misplaced_window s n u (entity.Window slot) is lawful.1.1.1.1.1.1.1.1.1.1.1.1.1.0))
  by_entity s n u (entity.Stream number) plain lawful besides is main same =
      absurd (no_stream n u number plain (kept_rule is_misplaced_stream s n u (entity.Stream number) is lawful.1.1.1.1.1.1.1.1.1.0) (kept_rule is_changed s n u (entity.Stream number) is lawful.1.1.1.1.0))
  by_entity s n u (entity.Streams first count) plain lawful besides is main same =
      absurd (no_streams n u first count plain (kept_rule is_misplaced_stream s n u (entity.Streams first count) is lawful.1.1.1.1.1.1.1.1.1.0) (kept_rule is_changed s n u (entity.Streams first count) is lawful.1.1.1.1.0))

  abbrev Splits : ℕ → Type 0
  Splits id = (lookup (items ++ there.scope.entries) id ≡ lookup bound id) ⊎ ((lookup (items ++ there.scope.entries) id ≡ lookup there.scope.entries id) × (lookup bound id ≡ lookup caught_all id))

  pub reach : (s : Scope) (n : Name) (u : Use) (d : Entity) → IsPlain u → KeepsAll rules (Used s n u) → Besides slots (Used s n u) → entity_of (lookup s.entries n.id) ≡ Some d →
      lookup s.entries n.id ≡ lookup inner.entries n.id → Reaches code file bound n.id d
  reach s n u d plain lawful besides is same = by_split (split items there.scope.entries caught_all n.id)
    where
      in_round : entity_of (lookup (items ++ there.scope.entries) n.id) ≡ Some d
      in_round = ap (λ es. entity_of (lookup es n.id)) (sym round_is) ∙ ap entity_of (sym same) ∙ is

      by_split : Splits n.id → Reaches code file bound n.id d
      by_split (inl e) = inl (ap entity_of (sym e) ∙ in_round)
      by_split (inr (text_side, run_side)) = by_entity s n u d plain lawful besides is (ap entity_of (sym text_side) ∙ in_round) run_side

  -- what is reached has the type that it has in the text
  flag_reached : (id : ℕ) (d : Entity) → entity_of (lookup inner.entries id) ≡ Some d → Reaches code file bound id d → flag_round file bound id ≡ flag_of (lookup inner.entries id)
  flag_reached id d is reached = by_reach reached ∙ ap (λ es. flag_of (lookup es id)) (sym round_is)
    where
      elsewhere : Bool
      elsewhere = flag_or false file.names id

      in_round : entity_of (lookup (items ++ there.scope.entries) id) ≡ Some d
      in_round = ap (λ es. entity_of (lookup es id)) (sym round_is) ∙ is

      by_bound : entity_of (lookup bound id) ≡ Some d → Splits id → flag_of (lookup bound id) ≡ flag_of (lookup (items ++ there.scope.entries) id)
      by_bound h (inl e) = ap flag_of (sym e)
      by_bound h (inr (text_side, run_side)) =
          ap flag_of run_side ∙ flags_caught there.scope.entries cs [] (λ k x none. absurd (cc)) id d (ap entity_of (sym run_side) ∙ h) ∙ ap flag_of (sym text_side)

      by_none : lookup bound id ≡ None → FileHas code file (find file.names id) d → Splits id → elsewhere ≡ flag_of (lookup (items ++ there.scope.entries) id)
      by_none none h (inl e) = let bad : None ≡ Some d = ap entity_of (sym (e ∙ none)) ∙ in_round in absurd (cc)
      by_none none h (inr (text_side, run_side)) =
          let main : entity_of (lookup there.scope.entries id) ≡ Some d = ap entity_of (sym text_side) ∙ in_round in
          let alone : lookup there.scope.entries id ≡ lookup file_es id = ap (λ es. lookup es id) there.in_main.entries
          ∙ in_file_alone there.in_main.inner file_es id d there.in_main.all (file_apart code file (find file.names id) d h) (ap (λ es. entity_of (lookup es id)) (sym there.in_main.entries) ∙ main) in
          fits.flag id ∙ ap flag_of (sym (text_side ∙ alone))

      by_reach : Reaches code file bound id d → flag_round file bound id ≡ flag_of (lookup (items ++ there.scope.entries) id)
      by_reach (inl h) = declared_flag elsewhere (lookup bound id) d h ∙ by_bound h (split items there.scope.entries caught_all id)
      by_reach (inr (none, h)) = ap (flag_or_of elsewhere) none ∙ by_none none h (split items there.scope.entries caught_all id)

  pub flagged_reach : (s : Scope) (n : Name) (u : Use) (d : Entity) → IsPlain u → KeepsAll rules (Used s n u) → Besides slots (Used s n u) → entity_of (lookup s.entries n.id) ≡ Some d →
      lookup s.entries n.id ≡ lookup inner.entries n.id → flag_round file bound n.id ≡ flag_of (lookup inner.entries n.id)
  flagged_reach s n u d plain lawful besides is same = flag_reached n.id d (ap entity_of (sym same) ∙ is) (reach s n u d plain lawful besides is same)

  pub constant_reach : (id : ℕ) (v : ℤ) → entity_of (lookup inner.entries id) ≡ Some (entity.Constant v) → Reaches code file bound id (entity.Constant v)
  constant_reach id v is = by_split (split items there.scope.entries caught_all id)
    where
      in_round : entity_of (lookup (items ++ there.scope.entries) id) ≡ Some (entity.Constant v)
      in_round = ap (λ es. entity_of (lookup es id)) (sym round_is) ∙ is

      by_split : Splits id → Reaches code file bound id (entity.Constant v)
      by_split (inl e) = inl (ap entity_of (sym e) ∙ in_round)
      by_split (inr (text_side, run_side)) = by_file id (entity.Constant v) (λ x. x) refl (ap entity_of (sym text_side) ∙ in_round) run_side

  abbrev pub task_context : Context
  task_context = record {
    code = code;
    file = file;
    falls = falls;
    names = rs;
    ordered = ordered;
    owner = owner.OfTask;
    captured = slots;
    side = InTask claims;
    floor = 0;
    round = inner.entries;
    bound = bound;
    besides = Besides slots;
    reaches = reach;
    flagged = flagged_reach;
    constants = constant_reach;
  }

  pub task_agrees : Agree task_context (stmt_notes inner there.body)
  task_agrees =
      agrees_by_slots task_context slots (stmt_notes inner there.body) (λ n b. b) there.lawful there.tells
      (λ x h. ap (is_in x) there.captures ∙ captured-members there.scope ps there.body x ∙ or_right (is_in x (slots_named there.scope.entries (private_ids ps))) (is_in x (used_slots (stmt_notes inner there.body))) h)

  pub task_in : In task_context inner []
  task_in = record {
    owner = items_owner ps there.scope around 0;
    captured = items_captured there.scope around ps 0 ∙ ap (λ o. captured_in o (slots_of cs)) there.in_main.owner ∙ sym there.captures;
    entries = refl;
    deep = omega arith;
    arrays = tt;
  }

  pub first_slots : inner.slots ≡ length slots
  first_slots = items_slots there.scope around ps 0 ∙ ap (λ o. length (captured_in o (slots_of cs))) there.in_main.owner ∙ ap length (sym there.captures)
