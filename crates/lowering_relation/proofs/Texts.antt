-- A body of a lawful program in its unit: what its notes say, and what its scopes hold.
use Rattle.std.proofs.Common.{◌≡◌, ℕ, ◌+◌, ◌<◌, ◌≤◌, ◌==◌, ◌||◌, Bool, true, false, not, if◌then◌else◌, List, [], ◌∷◌, ◌++◌, length, Option, Some, None, refl, sym, ap, ◌∙◌, subst, inl, inr, arith, eqb-true}
use Rattle.std.proofs.lemmas.Bool.{ltb-true, ltb-false}
use Rattle.std.specs.List.{position_or_len}
use Rattle.std.specs.Prelude.{⊤, ◌⊎◌, All, unwrap_or, nat_lt, cond, ltb}
use Rattle.os_ast.specs.Captured.{slots_of}
use Rattle.os_ast.specs.Limits.{items_limit, captured_limit}
use Rattle.os_ast.specs.Meanings.{what_declared, meaning_in, place_in}
use Rattle.os_ast.specs.Names.{Scope, lookup, entity_of, main_id, flag_of}
use Rattle.os_ast.specs.Notes.Declarators.{declared_entity, form_with, form_entity, scalar_entity, sized_form, taken, after_declarator, size_of}
use Rattle.os_ast.specs.Notes.Kinds.{Note, Used, Sized, Declared, Parameter, Global, Left, Returned, Pragma, Task, Listed}
use Rattle.os_ast.specs.ClauseMembers.{is_in}
use Rattle.os_ast.specs.Rules.{is_wrong_kind, has_other_count, is_changed, is_main_body, is_misplaced_window, is_a_window, is_fixed}
use Rattle.os_ast.specs.Trees as tree
use Rattle.os_ast.specs.Violations.{resolutions_of}
use Rattle.os_ast.specs.declared.expr.Name.{Name}
use Rattle.os_ast.specs.declared.names.Direction.{Direction}
use Rattle.os_ast.specs.declared.names.Direction.TheVariants as direction
use Rattle.os_ast.specs.declared.names.Entity.{Entity}
use Rattle.os_ast.specs.declared.names.Entity.TheVariants as entity
use Rattle.os_ast.specs.declared.names.Entry.{Entry}
use Rattle.os_ast.specs.declared.names.Owner.{Owner}
use Rattle.os_ast.specs.declared.names.Owner.TheVariants as owned
use Rattle.os_ast.specs.declared.names.Resolved.{Resolved}
use Rattle.os_ast.specs.declared.names.Role.TheVariants as role
use Rattle.os_ast.specs.declared.names.Shape.{Shape}
use Rattle.os_ast.specs.declared.names.Use.{Use}
use Rattle.os_ast.specs.declared.names.Use.TheVariants as usage
use Rattle.os_ast.specs.declared.names.What.TheVariants as what
use Rattle.os_code.specs.Effects.{operands_of}
use Rattle.os_code.specs.Parts.{Main}
use Rattle.os_code.specs.declared.instr.Instr.TheVariants as instr
use Rattle.lowering_relation.specs.Names.{told_at, first_of}
use Rattle.lowering_relation.proofs.Context.{told_is, kept_rule}
use Rattle.lowering_relation.proofs.Exprs.{same_count}
use Rattle.lowering_relation.proofs.Homes.{Home, tells, HasItem, HasOutput, IsCallee, IsCalled, Fits, IsOutput, FitsUse, FitsNote, AllFit}
use Rattle.lowering_relation.proofs.Names.{means_function}
use Rattle.lowering_relation.proofs.TaskContexts.{in_slots}
use Rattle.window_check_laws.specs.Order.{InOrder}
use Rattle.window_check_laws.specs.Slots.{control_slots}
use Rattle.window_check_laws.specs.Told.{AreIn, AreLawful, KeepsAll, Tells, rules}
use Rattle.window_check_laws.proofs.Told.{told-use, declared-use}

-- a body in its unit, the names of its program, and what it captures
pub record Text : Type 0 where
  pub home : Home
  pub names : List Resolved
  pub ordered : InOrder names
  pub told : tells home ≡ told_at names
  pub owner : Owner
  pub captured : List ℕ
  pub in_main : owner ≡ owned.OfMain → home.kind ≡ Main
  pub caught_fit : owner ≡ owned.OfTask → length captured ≤ home.slots

-- what `main` declares may be named in tasks, as far as it is captured
abbrev pub OfMainAlone : Owner → Type 0 → Type 0
OfMainAlone owned.OfMain T = T
OfMainAlone owned.OfTask T = ⊤
OfMainAlone owned.OfFunction T = ⊥

-- an item that is written is an output
abbrev pub IsWritten : Home → Direction → ℕ → Type 0
IsWritten h direction.Reads item = ⊤
IsWritten h direction.Writes item = HasOutput h item

-- What a declaration may be in a scope of a body.
abbrev pub May : Home → Owner → ℕ → Entity → Type 0
May h o id (entity.Constant v) = ⊤
May h o id (entity.Function number params) = (id == main_id) ≡ false → (operands_of h.code (instr.Call number) ≡ params) × IsCallee h number
May h o id (entity.Scalar slot) = slot + 1 ≤ h.slots
May h o id (entity.Control slot) = OfMainAlone o (slot + 1 ≤ h.slots)
May h o id entity.InputLength = OfMainAlone o (0 + 1 ≤ h.slots)
May h o id (entity.Array first size) = first + size ≤ h.slots
May h o id (entity.Window slot) = OfMainAlone o ((h.kind ≡ Main) × (slot + 1 ≤ h.slots))
May h o id (entity.Stream number) = OfMainAlone o (number < h.code.streams)
May h o id (entity.Streams first count) = OfMainAlone o (first < h.code.streams)
May h o id (entity.Element item d) = HasItem h item × IsWritten h d item
May h o id (entity.View item d) = HasItem h item × IsWritten h d item

abbrev pub AllMay : Home → Owner → List Entry → Type 0
AllMay h o [] = ⊤
AllMay h o (e ∷ es) = May h o e.id e.entity × AllMay h o es

pub may_found : (h : Home) (o : Owner) (es : List Entry) (id : ℕ) (d : Entity) → AllMay h o es → entity_of (lookup es id) ≡ Some d → May h o id d
may_found h o [] id d all is = absurd (cc)
may_found h o (e ∷ es) id d all is = by_case (e.id == id) refl is (λ k. may_found h o es id d all.1 k)
  where
    by_case : (t : Bool) → (e.id == id) ≡ t → entity_of (if t then Some e else lookup es id) ≡ Some d → (entity_of (lookup es id) ≡ Some d → May h o id d) →
        May h o id d
    by_case false _ k next = next k
    by_case true same k next =
        let x : e.entity ≡ d = cc in
        subst (λ i. May h o i d) (eqb-true e.id id same) (subst (May h o e.id) x all.0)

-- the scalars of `main` that a task names are captured
abbrev pub Catches : Owner → List ℕ → Note → Type 0
Catches owned.OfTask slots (Used s n u) = (slot : ℕ) → is_in slot (control_slots (entity_of (lookup s.entries n.id))) ≡ true → is_in slot slots ≡ true
Catches o slots n = ⊤

-- what the checks say of what stands in a body
abbrev pub Known : Text → List Note → Type 0
Known t [] = ⊤
Known t (n ∷ ns) = (KeepsAll rules n × AreIn t.names (resolutions_of n) × Catches t.owner t.captured n) × Known t ns

pub known_first : (t : Text) (xs ys : List Note) → Known t (xs ++ ys) → Known t xs
known_first t [] ys all = tt
known_first t (x ∷ xs) ys all = (all.0, known_first t xs ys all.1)

pub known_rest : (t : Text) (xs ys : List Note) → Known t (xs ++ ys) → Known t ys
known_rest t [] ys all = all
known_rest t (x ∷ xs) ys all = known_rest t xs ys all.1

-- A part is known that is lawful and told, where it names no more of `main` than what is captured.
pub known_by : (t : Text) (ns : List Note) → AreLawful ns → Tells t.names ns → ((n : Note) → Catches t.owner t.captured n) → Known t ns
known_by t [] lawful tells catches = tt
known_by t (n ∷ ns) lawful tells catches = ((lawful.0, tells.0, catches n), known_by t ns lawful.1 tells.1 catches)

-- a scope of the body
pub record In (t : Text) (s : Scope) : Type 0 where
  pub owner : s.owner ≡ t.owner
  pub captured : s.captured ≡ t.captured
  pub may : AllMay t.home t.owner s.entries

-- a use that stands in `main` alone
abbrev pub IsPlaced : Text → Use → Type 0
IsPlaced t (usage.Place role.Value s) = ⊤
IsPlaced t (usage.Place role.Changed s) = ⊤
IsPlaced t (usage.Place (role.Flow d) s) = t.owner ≡ owned.OfMain
IsPlaced t (usage.Called args) = ⊤
IsPlaced t (usage.Joined s) = t.owner ≡ owned.OfMain
IsPlaced t usage.Private = ⊤

-- where what stands in a body stands
abbrev pub Scoped : Text → Note → Type 0
Scoped t (Used s n u) = In t s × IsPlaced t u
Scoped t (Declared s d) = In t s × ((after_declarator s d).slots ≤ t.home.slots)
Scoped t (Pragma s m) = In t s
Scoped t (Task s m items captured) = In t s × All (λ slot. slot < t.home.slots) (slots_of captured)
Scoped t _ = ⊤

abbrev pub AllScoped : Text → List Note → Type 0
AllScoped t [] = ⊤
AllScoped t (n ∷ ns) = Scoped t n × AllScoped t ns

pub scoped_both : (t : Text) (xs ys : List Note) → AllScoped t xs → AllScoped t ys → AllScoped t (xs ++ ys)
scoped_both t [] ys a b = b
scoped_both t (x ∷ xs) ys a b = (a.0, scoped_both t xs ys a.1 b)

-- the place of a captured scalar
place_within : (xs : List ℕ) (slot : ℕ) → is_in slot xs ≡ true → place_in xs slot + 1 ≤ length xs
place_within xs slot is = by_test (position_or_len (λ s. s == slot) xs) (nat_lt (position_or_len (λ s. s == slot) xs) (length xs)) refl
  where
    some : (ys : List ℕ) → is_in slot ys ≡ true → 0 < length ys
    some [] h = absurd (cc)
    some (y ∷ ys) h = omega arith

    by_test : (n : ℕ) (t : Bool) → nat_lt n (length xs) ≡ t → unwrap_or (cond t (Some n) None) 0 + 1 ≤ length xs
    by_test n true e = omega (arith, ltb-true n (length xs) e)
    by_test n false e = omega (arith, some xs is)

-- what a declaration means in a body: itself, or a captured scalar
same_meaning : (o : Owner) (slots : List ℕ) (d : Entity) → (meaning_in o slots d ≡ what_declared d) ⊎ ((slot : ℕ) × (meaning_in o slots d ≡ what.Scalar slot))
same_meaning owned.OfMain slots d = inl refl
same_meaning owned.OfFunction slots d = inl refl
same_meaning owned.OfTask slots (entity.Constant v) = inl refl
same_meaning owned.OfTask slots (entity.Function number params) = inl refl
same_meaning owned.OfTask slots (entity.Scalar slot) = inl refl
same_meaning owned.OfTask slots (entity.Control slot) = inr (place_in slots slot, refl)
same_meaning owned.OfTask slots entity.InputLength = inr (place_in slots 0, refl)
same_meaning owned.OfTask slots (entity.Array first size) = inl refl
same_meaning owned.OfTask slots (entity.Window slot) = inl refl
same_meaning owned.OfTask slots (entity.Stream number) = inl refl
same_meaning owned.OfTask slots (entity.Streams first count) = inl refl
same_meaning owned.OfTask slots (entity.Element item d) = inl refl
same_meaning owned.OfTask slots (entity.View item d) = inl refl

module _ (h : Home) (id : ℕ) where
  fits_main : (d : Entity) → May h owned.OfMain id d → Fits h (what_declared d)
  fits_main (entity.Constant v) may = tt
  fits_main (entity.Function number params) may = tt
  fits_main (entity.Scalar slot) may = may
  fits_main (entity.Control slot) may = may
  fits_main entity.InputLength may = may
  fits_main (entity.Array first size) may = may
  fits_main (entity.Window slot) may = may
  fits_main (entity.Stream number) may = tt
  fits_main (entity.Streams first count) may = tt
  fits_main (entity.Element item d) may = may.0
  fits_main (entity.View item d) may = may.0

  fits_function : (d : Entity) → May h owned.OfFunction id d → Fits h (what_declared d)
  fits_function (entity.Constant v) may = tt
  fits_function (entity.Function number params) may = tt
  fits_function (entity.Scalar slot) may = may
  fits_function (entity.Control slot) may = absurd may
  fits_function entity.InputLength may = absurd may
  fits_function (entity.Array first size) may = may
  fits_function (entity.Window slot) may = absurd may
  fits_function (entity.Stream number) may = tt
  fits_function (entity.Streams first count) may = tt
  fits_function (entity.Element item d) may = may.0
  fits_function (entity.View item d) may = may.0

  fits_task : (slots : List ℕ) (d : Entity) → length slots ≤ h.slots → is_a_window d ≡ false →
      ((slot : ℕ) → is_in slot (control_slots (Some d)) ≡ true → is_in slot slots ≡ true) →
      May h owned.OfTask id d → Fits h (meaning_in owned.OfTask slots d)
  fits_task slots (entity.Constant v) few other caught may = tt
  fits_task slots (entity.Function number params) few other caught may = tt
  fits_task slots (entity.Scalar slot) few other caught may = may
  fits_task slots (entity.Control slot) few other caught may = omega (arith, few, place_within slots slot (caught slot (in_slots slot)))
  fits_task slots entity.InputLength few other caught may = omega (arith, few, place_within slots 0 (caught 0 (in_slots 0)))
  fits_task slots (entity.Array first size) few other caught may = may
  fits_task slots (entity.Window slot) few other caught may = absurd (cc)
  fits_task slots (entity.Stream number) few other caught may = tt
  fits_task slots (entity.Streams first count) few other caught may = tt
  fits_task slots (entity.Element item d) few other caught may = may.0
  fits_task slots (entity.View item d) few other caught may = may.0

  fits_in : (o : Owner) (slots : List ℕ) (d : Entity) → (o ≡ owned.OfTask → length slots ≤ h.slots) → (o ≡ owned.OfTask → is_a_window d ≡ false) →
      (o ≡ owned.OfTask → (slot : ℕ) → is_in slot (control_slots (Some d)) ≡ true → is_in slot slots ≡ true) → May h o id d → Fits h (meaning_in o slots d)
  fits_in owned.OfMain slots d few other caught may = fits_main d may
  fits_in owned.OfFunction slots d few other caught may = fits_function d may
  fits_in owned.OfTask slots d few other caught may = fits_task slots d (few refl) (other refl) (caught refl) may

  -- what may be changed is an output
  output_own : (o : Owner) (s : Shape) (d : Entity) → is_fixed d ≡ false → May h o id d → IsOutput h (what_declared d)
  output_own o s (entity.Constant v) free may = tt
  output_own o s (entity.Function number params) free may = tt
  output_own o s (entity.Scalar slot) free may = tt
  output_own o s (entity.Control slot) free may = tt
  output_own o s entity.InputLength free may = tt
  output_own o s (entity.Array first size) free may = tt
  output_own o s (entity.Window slot) free may = tt
  output_own o s (entity.Stream number) free may = tt
  output_own o s (entity.Streams first count) free may = tt
  output_own o s (entity.Element item direction.Reads) free may = absurd (cc)
  output_own o s (entity.Element item direction.Writes) free may = may.1
  output_own o s (entity.View item direction.Reads) free may = absurd (cc)
  output_own o s (entity.View item direction.Writes) free may = may.1

  output_in : (o : Owner) (slots : List ℕ) (s : Shape) (d : Entity) → is_fixed d ≡ false → May h o id d → IsOutput h (meaning_in o slots d)
  output_in o slots s d free may = by_meaning (same_meaning o slots d)
    where
      by_meaning : (meaning_in o slots d ≡ what_declared d) ⊎ ((slot : ℕ) × (meaning_in o slots d ≡ what.Scalar slot)) → IsOutput h (meaning_in o slots d)
      by_meaning (inl e) = subst (IsOutput h) (sym e) (output_own o s d free may)
      by_meaning (inr (slot, e)) = subst (IsOutput h) (sym e) tt

  called_in : (o : Owner) (slots : List ℕ) (args : ℕ) (d : Entity) → is_wrong_kind id (usage.Called args) d ≡ false →
      has_other_count id (usage.Called args) d ≡ false → May h o id d → IsCalled h args (meaning_in o slots d)
  called_in o slots args (entity.Function number params) kind count may =
      let there = may (other_kind (id == main_id) kind) in
      record { callee = number; is = means_function o slots number params; takes = there.0 ∙ sym (same_count args params count); suits = there.1 }
    where
      other_kind : (t : Bool) → (false || t) ≡ false → t ≡ false
      other_kind t e = e
  called_in o slots args (entity.Constant v) kind count may = absurd (cc)
  called_in o slots args (entity.Scalar slot) kind count may = absurd (cc)
  called_in o slots args (entity.Control slot) kind count may = absurd (cc)
  called_in o slots args entity.InputLength kind count may = absurd (cc)
  called_in o slots args (entity.Array first size) kind count may = absurd (cc)
  called_in o slots args (entity.Window slot) kind count may = absurd (cc)
  called_in o slots args (entity.Stream number) kind count may = absurd (cc)
  called_in o slots args (entity.Streams first size) kind count may = absurd (cc)
  called_in o slots args (entity.Element item d) kind count may = absurd (cc)
  called_in o slots args (entity.View item d) kind count may = absurd (cc)

  flow_main : (d : Direction) (s : Shape) (e : Entity) → is_wrong_kind id (usage.Place (role.Flow d) s) e ≡ false → May h owned.OfMain id e →
      first_of (what_declared e) < h.code.streams
  flow_main d s (entity.Stream number) kind may = may
  flow_main d s (entity.Streams first size) kind may = may
  flow_main d s (entity.Function number params) kind may = absurd (cc)
  flow_main d s (entity.Constant v) kind may = absurd (cc)
  flow_main d s (entity.Scalar slot) kind may = absurd (cc)
  flow_main d s (entity.Control slot) kind may = absurd (cc)
  flow_main d s entity.InputLength kind may = absurd (cc)
  flow_main d s (entity.Array first size) kind may = absurd (cc)
  flow_main d s (entity.Window slot) kind may = absurd (cc)
  flow_main d s (entity.Element item x) kind may = absurd (cc)
  flow_main d s (entity.View item x) kind may = absurd (cc)

  flow_in : (o : Owner) (slots : List ℕ) (d : Direction) (s : Shape) (e : Entity) → o ≡ owned.OfMain →
      is_wrong_kind id (usage.Place (role.Flow d) s) e ≡ false → May h o id e →
      first_of (meaning_in o slots e) < h.code.streams
  flow_in owned.OfMain slots d s e is kind may = flow_main d s e kind may
  flow_in owned.OfFunction slots d s e is kind may = absurd (cc)
  flow_in owned.OfTask slots d s e is kind may = absurd (cc)

-- what holds of neither
pub or_none_first : (a b : Bool) → (a || b) ≡ false → a ≡ false
or_none_first false b e = refl
or_none_first true b e = absurd (cc)

or_none_rest : (a b : Bool) → (a || b) ≡ false → b ≡ false
or_none_rest false b e = e
or_none_rest true b e = absurd (cc)

-- What stands in a body of a lawful program fits.
module _ (t : Text) where
  -- a used name, by what it is declared as
  use_fits : (s : Scope) (n : Name) (u : Use) (d : Entity) → In t s → IsPlaced t u → KeepsAll rules (Used s n u) → Catches t.owner t.captured (Used s n u) →
      entity_of (lookup s.entries n.id) ≡ Some d →
      FitsUse t.home u (meaning_in t.owner t.captured d)
  use_fits s n u d is placed lawful catches found = by_use u placed lawful
    where
      may : May t.home t.owner n.id d
      may = may_found t.home t.owner s.entries n.id d is.may found

      caught : (o : Owner) → Catches o t.captured (Used s n u) → o ≡ owned.OfTask → (slot : ℕ) → is_in slot (control_slots (Some d)) ≡ true →
          is_in slot t.captured ≡ true
      caught owned.OfTask catches e slot k = catches slot (ap (λ x. is_in slot (control_slots x)) found ∙ k)
      caught owned.OfMain catches e slot k = absurd (cc)
      caught owned.OfFunction catches e slot k = absurd (cc)

      fits : (t.owner ≡ owned.OfTask → is_a_window d ≡ false) → Fits t.home (meaning_in t.owner t.captured d)
      fits other = fits_in t.home n.id t.owner t.captured d t.caught_fit other (caught t.owner catches) may

      by_use : (v : Use) → IsPlaced t v → KeepsAll rules (Used s n v) → FitsUse t.home v (meaning_in t.owner t.captured d)
      by_use (usage.Place role.Value x) placed lawful =
          fits (λ e. kept_rule is_misplaced_window s n (usage.Place role.Value x) d found lawful.1.1.1.1.1.1.1.1.1.1.1.1.1.0)
      by_use (usage.Place role.Changed x) placed lawful = (
        fits (λ e. kept_rule is_misplaced_window s n (usage.Place role.Changed x) d found lawful.1.1.1.1.1.1.1.1.1.1.1.1.1.0),
        output_in t.home n.id t.owner t.captured x d (kept_rule is_changed s n (usage.Place role.Changed x) d found lawful.1.1.1.1.0) may,
      )
      by_use (usage.Place (role.Flow k) x) placed lawful =
          flow_in t.home n.id t.owner t.captured k x d placed (kept_rule is_wrong_kind s n (usage.Place (role.Flow k) x) d found lawful.1.0) may
      by_use (usage.Called args) placed lawful =
          called_in t.home n.id t.owner t.captured args d (kept_rule is_wrong_kind s n (usage.Called args) d found lawful.1.0) (kept_rule has_other_count s n (usage.Called args) d found lawful.1.1.1.0) may
      by_use (usage.Joined x) placed lawful = fits (λ e. let z : owned.OfMain ≡ owned.OfTask = sym placed ∙ e in absurd (cc))
      by_use usage.Private placed lawful = tt

  told_use : (s : Scope) (n : Name) (u : Use) → In t s → IsPlaced t u → KeepsAll rules (Used s n u) → AreIn t.names (resolutions_of (Used s n u)) →
      Catches t.owner t.captured (Used s n u) →
      FitsUse t.home u (tells t.home n.mark.place).what
  told_use s n u is placed lawful told catches =
      let d = declared-use s n u (lawful, tt) in
      let w = told-use t.names s n u d.0 d.1 (told, tt) in
      let same : (tells t.home n.mark.place).what ≡ meaning_in t.owner t.captured d.0 =
      ap (λ f. (f n.mark.place).what) t.told
      ∙ ap (λ (r : Resolved). r.what) (told_is t.names n.mark.place (meaning_in s.owner s.captured d.0) (flag_of (lookup s.entries n.id)) t.ordered w)
      ∙ ap (λ o. meaning_in o s.captured d.0) is.owner
      ∙ ap (λ xs. meaning_in t.owner xs d.0) is.captured in
      subst (FitsUse t.home u) (sym same) (use_fits s n u d.0 is placed lawful catches d.1)

  main_kind : (o : Owner) → t.owner ≡ o → not (is_main_body o) ≡ false → t.home.kind ≡ Main
  main_kind owned.OfMain e h = t.in_main e
  main_kind owned.OfFunction e h = absurd (cc)
  main_kind owned.OfTask e h = absurd (cc)

  -- what is declared fits where its slots do
  scalar_fits : (o : Owner) (slot : ℕ) → slot + 1 ≤ t.home.slots → Fits t.home (what_declared (scalar_entity o slot))
  scalar_fits owned.OfMain slot le = le
  scalar_fits owned.OfFunction slot le = le
  scalar_fits owned.OfTask slot le = le

  sized_fits : (o : Owner) (s : Scope) (size : Option ℕ) → t.owner ≡ o → (taken s (sized_form o size)).slots ≤ t.home.slots →
      Fits t.home (what_declared (form_entity s (sized_form o size)))
  sized_fits owned.OfMain s size e le = (t.in_main e, le)
  sized_fits owned.OfFunction s size e le = le
  sized_fits owned.OfTask s size e le = le

  form_fits : (s : Scope) (stream : Bool) (size : Option tree.IndexTree) → In t s → (taken s (form_with s stream size)).slots ≤ t.home.slots →
      Fits t.home (what_declared (form_entity s (form_with s stream size)))
  form_fits s true None is le = tt
  form_fits s true (Some i) is le = tt
  form_fits s false None is le = scalar_fits s.owner s.slots le
  form_fits s false (Some i) is le = sized_fits s.owner s (size_of s i.value) (sym is.owner) le

  note_fits : (n : Note) → Scoped t n → KeepsAll rules n → AreIn t.names (resolutions_of n) → Catches t.owner t.captured n → FitsNote t.home n
  note_fits (Used s n u) scoped lawful told catches = told_use s n u scoped.0 scoped.1 lawful told catches
  note_fits (Declared s d) scoped lawful told catches = (
    ap (λ f. (f d.name.mark.place).what) t.told ∙ ap (λ (r : Resolved). r.what) (told_is t.names d.name.mark.place (what_declared (declared_entity s d)) s.unsigned t.ordered told.0),
    form_fits s d.stream d.size scoped.0 scoped.1,
  )
  note_fits (Pragma s m) scoped lawful told catches = main_kind s.owner (sym scoped.owner) lawful.1.1.1.1.1.1.1.0
  note_fits (Task s m items captured) scoped lawful told catches =
      let few = lawful.1.1.1.1.1.1.1.1.1.1.1.1.0 in (
        main_kind s.owner (sym scoped.0.owner) lawful.1.1.1.1.1.1.1.0,
        ltb-false items_limit items (or_none_first (ltb items_limit items) (ltb captured_limit (length captured)) few),
        ltb-false captured_limit (length captured) (or_none_rest (ltb items_limit items) (ltb captured_limit (length captured)) few),
        scoped.1,
      )
  note_fits (Sized s n) scoped lawful told catches = tt
  note_fits (Parameter s n) scoped lawful told catches = tt
  note_fits (Global s n) scoped lawful told catches = tt
  note_fits (Left s m) scoped lawful told catches = tt
  note_fits (Returned s m) scoped lawful told catches = tt
  note_fits (Listed before n) scoped lawful told catches = tt

  pub all_fit : (ns : List Note) → AllScoped t ns → Known t ns → AllFit t.home ns
  all_fit [] scoped known = tt
  all_fit (n ∷ ns) scoped known = (note_fits n scoped.0 known.0.0 known.0.1 known.0.2, all_fit ns scoped.1 known.1)
