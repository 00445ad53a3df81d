-- What holds of each scope of a lawful program, step by step.
use Rattle.std.proofs.Common.{◌≡◌, ◌≤◌, ◌<◌, ℕ, suc, ◌+◌, ◌==◌, Bool, true, false, if◌then◌else◌, List, [], ◌∷◌, length, Option, Some, None, refl, sym, ap, subst, ◌∙◌, arith, eqb-true, inl, inr}
use Rattle.std.specs.Prelude.{⊤, ◌⊎◌}
use Rattle.os_ast.specs.declared.ty.Ty.{Ty}
use Rattle.os_ast.specs.Unsigned.{is_unsigned}
use Rattle.os_ast.specs.declared.program.Param.{Param}
use Rattle.os_ast.specs.Captured.{captured, slots_of}
use Rattle.os_ast.specs.Leveled.{IsStmt}
use Rattle.os_ast.specs.Names.{Scope, lookup, entity_of, declare, enter, in_loop, in_unit, osin_id, osout_id, osin_len_id, typed, flagged}
use Rattle.os_ast.specs.Notes.Clauses.{with_items, in_task, in_task_body, captured_in, named_entity, item_entity, item_flag}
use Rattle.os_ast.specs.Notes.Declarators.{size_of, sized_form, form, form_with, taken, form_entity, declared_entity, scalar_entity, after_declarator, after_declarators, after_start}
use Rattle.os_ast.specs.Notes.Programs.{after_param, after_params, round_body}
use Rattle.os_ast.specs.Notes.Statements.{after_stmt}
use Rattle.os_ast.specs.ClauseMembers.{ClauseMember, Item, Private, item_name}
use Rattle.os_ast.specs.Stacked.{Stacked, Extent, main_extent, unit_extent, begins, ends}
use Rattle.os_ast.specs.Trees as tree
use Rattle.os_ast.specs.Violations.{streams}
use Rattle.os_ast.specs.declared.names.Direction.{Direction}
use Rattle.os_ast.specs.declared.names.Entity.{Entity}
use Rattle.os_ast.specs.declared.names.Entity.TheVariants as entity
use Rattle.os_ast.specs.declared.names.Entry.{Entry}
use Rattle.os_ast.specs.declared.names.Form.{Form}
use Rattle.os_ast.specs.declared.names.Form.TheVariants as form_of
use Rattle.os_ast.specs.declared.names.Owner.{Owner}
use Rattle.os_ast.specs.declared.names.Owner.TheVariants as owner
use Rattle.window_check_laws.proofs.Counted.{functions_taken, functions_stmt}
use Rattle.window_check_laws.proofs.Owners.{owner_declarator, owner_stmt}
use Rattle.window_check_laws.proofs.Rise.{rise_stmt, grow_taken, grow_stmt}
use Rattle.window_check_laws.proofs.Stacks.{stacked_more}
use Rattle.window_check_laws.proofs.Summed.{stays_in, stacked-scalar, stacked-declarator}
use Rattle.window_check_laws.specs.Known.{global, IsKnown, IsSoundScope}
use Rattle.window_check_laws.specs.Sums.{extent_in}

-- what is known where `functions` functions and `streams` streams stand before
abbrev pub KnownSo : tree.ProgramTree → (functions streams id : ℕ) → Entity → Type 0
KnownSo p functions streams id (entity.Constant v) = global p id ≡ Some (entity.Constant v)
KnownSo p functions streams id (entity.Function number params) = (global p id ≡ Some (entity.Function number params)) × (number < functions)
KnownSo p functions streams id (entity.Stream number) = number < 2 + streams
KnownSo p functions streams id (entity.Streams first count) = first + count ≤ 2 + streams
KnownSo p functions streams id (entity.Scalar slot) = ⊤
KnownSo p functions streams id (entity.Control slot) = ⊤
KnownSo p functions streams id entity.InputLength = ⊤
KnownSo p functions streams id (entity.Array first size) = ⊤
KnownSo p functions streams id (entity.Window slot) = ⊤
KnownSo p functions streams id (entity.Element item d) = ⊤
KnownSo p functions streams id (entity.View item d) = ⊤

known-more : (p : tree.ProgramTree) (f g a b id : ℕ) (e : Entity) → f ≤ g → a ≤ b → KnownSo p f a id e → KnownSo p g b id e
known-more p f g a b id (entity.Constant v) fg ab h = h
known-more p f g a b id (entity.Function number params) fg ab h = (h.0, omega (arith, h.1, fg))
known-more p f g a b id (entity.Stream number) fg ab h = omega (arith, h, ab)
known-more p f g a b id (entity.Streams first count) fg ab h = omega (arith, h, ab)
known-more p f g a b id (entity.Scalar slot) fg ab h = tt
known-more p f g a b id (entity.Control slot) fg ab h = tt
known-more p f g a b id entity.InputLength fg ab h = tt
known-more p f g a b id (entity.Array first size) fg ab h = tt
known-more p f g a b id (entity.Window slot) fg ab h = tt
known-more p f g a b id (entity.Element item d) fg ab h = tt
known-more p f g a b id (entity.View item d) fg ab h = tt

-- as the program's streams say it
known-so : (p : tree.ProgramTree) (s : Scope) (id : ℕ) (e : Entity) → 2 + s.streams ≤ streams p → KnownSo p s.functions s.streams id e → IsKnown p s id e
known-so p s id (entity.Constant v) few h = h
known-so p s id (entity.Function number params) few h = h
known-so p s id (entity.Stream number) few h = omega (arith, h, few)
known-so p s id (entity.Streams first count) few h = omega (arith, h, few)
known-so p s id (entity.Scalar slot) few h = tt
known-so p s id (entity.Control slot) few h = tt
known-so p s id entity.InputLength few h = tt
known-so p s id (entity.Array first size) few h = tt
known-so p s id (entity.Window slot) few h = tt
known-so p s id (entity.Element item d) few h = tt
known-so p s id (entity.View item d) few h = tt

-- no slots of a function or task are in scope
abbrev pub HasNoUnits : List Entry → Type 0
HasNoUnits [] = ⊤
HasNoUnits (e ∷ es) = (unit_extent e.entity ≡ None) × HasNoUnits es

-- what holds of a scope, step by step
pub record Holds (p : tree.ProgramTree) (s : Scope) : Type 0 where
  pub known : (id : ℕ) (e : Entity) → entity_of (lookup s.entries id) ≡ Some e → KnownSo p s.functions s.streams id e
  pub stacked : Stacked (extent_in s.owner) s.slots s.entries
  pub bare : s.owner ≡ owner.OfMain → HasNoUnits s.entries

pub sound : (p : tree.ProgramTree) (s : Scope) → 2 + s.streams ≤ streams p → Holds p s → IsSoundScope p s
sound p s few h = record { known = λ id e is. known-so p s id e few (h.known id e is); stacked = h.stacked }

pub holds-on : (p : tree.ProgramTree) (s t : Scope) → t.entries ≡ s.entries → t.owner ≡ s.owner → s.functions ≤ t.functions → s.slots ≤ t.slots →
    s.streams ≤ t.streams → Holds p s → Holds p t
holds-on p s t same own fs slots few h = record {
  known = λ id e is. known-more p s.functions t.functions s.streams t.streams id e fs few
      (h.known id e (subst (λ (es : List Entry). entity_of (lookup es id) ≡ Some e) same is));
  stacked = subst (λ (o : Owner). Stacked (extent_in o) t.slots t.entries) (sym own)
      (subst (λ (es : List Entry). Stacked (extent_in s.owner) t.slots es) (sym same)
      (stacked_more (extent_in s.owner) s.slots t.slots s.entries slots h.stacked));
  bare = λ is. subst HasNoUnits (sym same) (h.bare (sym own ∙ is));
}

-- with one more declaration
pub holds-declared : (p : tree.ProgramTree) (s : Scope) (id : ℕ) (e : Entity) → Holds p s → KnownSo p s.functions s.streams id e →
    Stacked (extent_in s.owner) s.slots (declare s id e).entries → (s.owner ≡ owner.OfMain → unit_extent e ≡ None) → Holds p (declare s id e)
holds-declared p s id e h new stacked bare = record {
  known = λ other d is. by_case other d (id == other) refl is;
  stacked = stacked;
  bare = λ is. (bare is, h.bare is);
}
  where
    by_case : (other : ℕ) (d : Entity) (t : Bool) → (id == other) ≡ t →
        entity_of (if t then Some (record { id = id; depth = s.depth; entity = e; unsigned = s.unsigned }) else lookup s.entries other) ≡ Some d →
        KnownSo p s.functions s.streams other d
    by_case other d true same is =
        let x : e ≡ d = cc in
        subst (KnownSo p s.functions s.streams other) x (subst (λ (k : ℕ). KnownSo p s.functions s.streams k e) (eqb-true id other same) new)
    by_case other d false same is = h.known other d is

-- declarators
pub taken_entries : (s : Scope) (f : Form) → (taken s f).entries ≡ s.entries
taken_entries s form_of.Scalar = refl
taken_entries s (form_of.Array size) = refl
taken_entries s form_of.Window = refl
taken_entries s form_of.Stream = refl
taken_entries s (form_of.Streams size) = refl

known-scalar : (p : tree.ProgramTree) (o : Owner) (functions streams id slot : ℕ) → KnownSo p functions streams id (scalar_entity o slot)
known-scalar p owner.OfMain functions streams id slot = tt
known-scalar p owner.OfFunction functions streams id slot = tt
known-scalar p owner.OfTask functions streams id slot = tt

known-form : (p : tree.ProgramTree) (s : Scope) (f : Form) (id : ℕ) → KnownSo p (taken s f).functions (taken s f).streams id (form_entity s f)
known-form p s form_of.Scalar id = known-scalar p s.owner s.functions s.streams id s.slots
known-form p s (form_of.Array size) id = tt
known-form p s form_of.Window id = tt
known-form p s form_of.Stream id = omega arith
known-form p s (form_of.Streams size) id = omega arith

bare-scalar : (o : Owner) (slot : ℕ) → o ≡ owner.OfMain → unit_extent (scalar_entity o slot) ≡ None
bare-scalar o slot own = ap (λ (x : Owner). unit_extent (scalar_entity x slot)) own

bare-form : (s : Scope) (stream : Bool) (i : Option tree.IndexTree) → s.owner ≡ owner.OfMain → unit_extent (form_entity s (form_with s stream i)) ≡ None
bare-form s false None own = bare-scalar s.owner s.slots own
bare-form s false (Some i) own = ap (λ (x : Owner). unit_extent (form_entity s (sized_form x (size_of s i.value)))) own
bare-form s true None own = refl
bare-form s true (Some i) own = refl

pub holds-declarator : (p : tree.ProgramTree) (s : Scope) (d : tree.DeclaratorTree) → Holds p s → Holds p (after_declarator s d)
holds-declarator p s d h =
    let f = form s d in
    let t = taken s f in
    let own : t.owner ≡ s.owner = owner_declarator s d in
    holds-declared p t d.name.id (declared_entity s d)
    (holds-on p s t (taken_entries s f) own (omega (arith, functions_taken s f)) (rise s f) (grow_taken s f) h)
    (known-form p s f d.name.id)
    (subst (λ (o : Owner). Stacked (extent_in o) t.slots (after_declarator s d).entries) (sym own) (stacked-declarator s d h.stacked))
    (λ is. bare-form s d.stream d.size (sym own ∙ is))
  where
    rise : (s : Scope) (f : Form) → s.slots ≤ (taken s f).slots
    rise s form_of.Scalar = omega arith
    rise s (form_of.Array size) = omega arith
    rise s form_of.Window = omega arith
    rise s form_of.Stream = omega arith
    rise s (form_of.Streams size) = omega arith

pub holds-declarators : (p : tree.ProgramTree) (s : Scope) (ds : List tree.DeclaratorTree) → Holds p s → Holds p (after_declarators s ds)
holds-declarators p s [] h = h
holds-declarators p s (d ∷ ds) h = holds-declarators p (after_declarator s d) ds (holds-declarator p s d h)

pub holds-typed : (p : tree.ProgramTree) (t : Ty) (s : Scope) → Holds p s → Holds p (typed t s)
holds-typed p t s h = holds-on p s (typed t s) refl refl (omega arith) (omega arith) (omega arith) h

pub holds-start : (p : tree.ProgramTree) (s : Scope) (t : tree.StartTree) → Holds p s → Holds p (after_start s t)
holds-start p s tree.StartTree.Empty h = h
holds-start p s (tree.StartTree.Declare t ds) h = holds-declarators p (typed t s) ds (holds-typed p t s h)
holds-start p s (tree.StartTree.Change c) h = h

pub holds-stmt : (p : tree.ProgramTree) {a : tree.StmtTree} → IsStmt a → (s : Scope) → Holds p s → Holds p (after_stmt s a)
holds-stmt p {a = a} is s h =
    holds-on p s (after_stmt s a) (stays_in is s) (owner_stmt s a) (omega (arith, functions_stmt s a)) (rise_stmt s a) (grow_stmt s a) h

pub holds-enter : (p : tree.ProgramTree) (s : Scope) → Holds p s → Holds p (enter s)
holds-enter p s h = record { known = h.known; stacked = h.stacked; bare = h.bare }

pub holds-in_loop : (p : tree.ProgramTree) (s : Scope) → Holds p s → Holds p (in_loop s)
holds-in_loop p s h = record { known = h.known; stacked = h.stacked; bare = h.bare }

-- no slots lie anywhere
stacked-units : (es : List Entry) (top : ℕ) → HasNoUnits es → Stacked unit_extent top es
stacked-units [] top h = tt
stacked-units (e ∷ es) top h =
    subst (λ (x : Option Extent). (ends x top ≤ top) × Stacked unit_extent (begins x top) es) (sym h.0) (omega arith, stacked-units es top h.1)

-- tasks
is-item : (item : ℕ) (d : Direction) (w : Option tree.JoinTree) (o : Option Entity) →
    (named_entity item d w o ≡ entity.Element item d) ⊎ (named_entity item d w o ≡ entity.View item d)
is-item item d None o = inl refl
is-item item d (Some j) None = inl refl
is-item item d (Some j) (Some (entity.Constant v)) = inl refl
is-item item d (Some j) (Some (entity.Function n k)) = inl refl
is-item item d (Some j) (Some (entity.Scalar n)) = inl refl
is-item item d (Some j) (Some (entity.Control n)) = inl refl
is-item item d (Some j) (Some entity.InputLength) = inl refl
is-item item d (Some j) (Some (entity.Array n k)) = inl refl
is-item item d (Some j) (Some (entity.Window n)) = inr refl
is-item item d (Some j) (Some (entity.Stream n)) = inl refl
is-item item d (Some j) (Some (entity.Streams n k)) = inl refl
is-item item d (Some j) (Some (entity.Element n x)) = inl refl
is-item item d (Some j) (Some (entity.View n x)) = inl refl

-- what an item's name is has no slots
pub record IsFree (p : tree.ProgramTree) (functions streams id : ℕ) (e : Entity) : Type 0 where
  pub known : KnownSo p functions streams id e
  pub none : unit_extent e ≡ None

free-item : (p : tree.ProgramTree) (functions streams id : ℕ) (e : Entity) (item : ℕ) (d : Direction) →
    (e ≡ entity.Element item d) ⊎ (e ≡ entity.View item d) → IsFree p functions streams id e
free-item p functions streams id e item d (inl is) = subst (IsFree p functions streams id) (sym is) (record { known = tt; none = refl })
free-item p functions streams id e item d (inr is) = subst (IsFree p functions streams id) (sym is) (record { known = tt; none = refl })

pub stacked-free : (top id depth : ℕ) (e : Entity) (u : Bool) (es : List Entry) → unit_extent e ≡ None → Stacked unit_extent top es →
    Stacked unit_extent top (record { id = id; depth = depth; entity = e; unsigned = u } ∷ es)
stacked-free top id depth e u es none h =
    subst (λ (x : Option Extent). (ends x top ≤ top) × Stacked unit_extent (begins x top) es) (sym none) (omega arith, h)

holds-items : (p : tree.ProgramTree) (s inner : Scope) (n : ℕ) (ps : List ClauseMember) → inner.owner ≡ owner.OfTask → Holds p inner → Holds p (with_items s inner n ps)
holds-items p s inner n [] own h = h
holds-items p s inner n (Private m ∷ ps) own h = holds-items p s inner n ps own h
holds-items p s inner n (Item d i ∷ ps) own h =
    let id = (item_name i.stream i.window).id in
    let e = item_entity s n d i in
    let typed_inner = flagged (item_flag s i) inner in
    let free = free-item p inner.functions inner.streams id e n d (is-item n d i.window (entity_of (lookup s.entries (item_name i.stream i.window).id))) in
    holds-items p s (declare typed_inner id e) (suc n) ps own
    (holds-declared p typed_inner id e (holds-on p inner typed_inner refl refl (omega arith) (omega arith) (omega arith) h) free.known
    (subst (λ (o : Owner). Stacked (extent_in o) inner.slots (declare typed_inner id e).entries) (sym own)
    (stacked-free inner.slots id inner.depth e (item_flag s i) inner.entries free.none (subst (λ (o : Owner). Stacked (extent_in o) inner.slots inner.entries) own h.stacked)))
    (λ is. free.none))

pub holds-task : (p : tree.ProgramTree) (s : Scope) (ps : List ClauseMember) (a : tree.StmtTree) → s.owner ≡ owner.OfMain → Holds p s → Holds p (in_task_body s ps a)
holds-task p s ps a main h =
    let slots = captured_in s.owner (slots_of (captured s.entries ps a)) in
    holds-items p s (in_task s slots) 0 ps refl (record {
      known = h.known;
      stacked = stacked-units s.entries (length slots) (h.bare main);
      bare = λ is. absurd (cc);
    })

-- parameters
pub holds-param : (p : tree.ProgramTree) (s : Scope) (n : Param) → Holds p s → Holds p (after_param s n)
holds-param p s n h =
    holds-declared p (typed n.ty (record s { slots = s.slots + 1 })) n.name.id (scalar_entity s.owner s.slots)
    (holds-on p s (typed n.ty (record s { slots = s.slots + 1 })) refl refl (omega arith) (omega arith) (omega arith) h)
    (known-scalar p s.owner s.functions s.streams n.name.id s.slots)
    (stacked-scalar s.owner n.name.id s.depth s.slots (is_unsigned n.ty) s.entries h.stacked)
    (λ is. bare-scalar s.owner s.slots is)

pub holds-params : (p : tree.ProgramTree) (s : Scope) (ns : List Param) → Holds p s → Holds p (after_params s ns)
holds-params p s [] h = h
holds-params p s (n ∷ ns) h = holds-params p (after_param s n) ns (holds-param p s n h)

-- The file declares constants and functions alone, which have no slots.
pub record IsSlotless (e : Entity) : Type 0 where
  pub unit : unit_extent e ≡ None
  pub main : main_extent e ≡ None

abbrev pub AreSlotless : List Entry → Type 0
AreSlotless [] = ⊤
AreSlotless (e ∷ es) = IsSlotless e.entity × AreSlotless es

slotless-units : (es : List Entry) → AreSlotless es → HasNoUnits es
slotless-units [] h = tt
slotless-units (e ∷ es) h = (h.0.unit, slotless-units es h.1)

slotless-main : (es : List Entry) (top : ℕ) → AreSlotless es → Stacked main_extent top es
slotless-main [] top h = tt
slotless-main (e ∷ es) top h =
    subst (λ (x : Option Extent). (ends x top ≤ top) × Stacked main_extent (begins x top) es) (sym h.0.main) (omega arith, slotless-main es top h.1)

-- the scope of a body, before its parameters
abbrev pub inside : Owner → Scope → Scope
inside o s = enter (round_body o (enter (in_unit o s)))

pub holds-inside : (p : tree.ProgramTree) (o : Owner) (s : Scope) → AreSlotless s.entries → Holds p s → Holds p (inside o s)
holds-inside p owner.OfFunction s none h = record {
  known = h.known;
  stacked = stacked-units s.entries 0 (slotless-units s.entries none);
  bare = λ is. slotless-units s.entries none;
}
holds-inside p owner.OfTask s none h = record {
  known = h.known;
  stacked = stacked-units s.entries 0 (slotless-units s.entries none);
  bare = λ is. slotless-units s.entries none;
}
holds-inside p owner.OfMain s none h =
    let free = slotless-units s.entries none in
    let start = flagged false (record (enter (in_unit owner.OfMain s)) { slots = 1 }) in
    let one = declare start osin_id (entity.Stream 0) in
    let two = declare one osout_id (entity.Stream 1) in
    let three = declare two osin_len_id entity.InputLength in
    let at_start : Holds p start = record { known = h.known; stacked = slotless-main s.entries 1 none; bare = λ is. free } in
    let at_one = holds-declared p start osin_id (entity.Stream 0) at_start (omega arith) (omega arith, slotless-main s.entries 1 none) (λ is. refl) in
    let at_two = holds-declared p one osout_id (entity.Stream 1) at_one (omega arith) (omega arith, (omega arith, slotless-main s.entries 1 none))
    (λ is. refl) in
    let at_three = holds-declared p two osin_len_id entity.InputLength at_two tt
    (omega arith, (omega arith, (omega arith, slotless-main s.entries 0 none))) (λ is. refl) in
    holds-on p three (inside owner.OfMain s) refl refl (omega arith) (omega arith) (omega arith) at_three
