-- What a code is that a draft becomes.
use Rattle.std.proofs.Common.{◌≡◌, ◌∙◌, ℕ, List, [], ◌∷◌, ◌++◌, length, Option, Some, None, slice_get, ap, sym, refl, inl, inr}
use Rattle.std.proofs.lemmas.Bool.Decides.{eqb_tells}
use Rattle.std.proofs.lemmas.Option.{none-some, slice_get_within}
use Rattle.lowering_draft.proofs.Keeping.{Keeps}
use Rattle.lowering_draft.proofs.Lists.{slice_get-set_other, slice_get-set_same}
use Rattle.lowering_draft.specs.Draft.{Becomes, with_instr, with_place, with_places}
use Rattle.lowering_draft.specs.declared.draft.Draft.{Draft}
use Rattle.lowering_draft.specs.declared.draft.Label.{Label}
use Rattle.os_code.specs.Parts.{instr_at}
use Rattle.os_code.specs.declared.parts.Parts.{Parts}
use Rattle.os_code.specs.declared.instr.Instr.{Instr}

-- the last of a list
pub slice_get-last : {A : Type 0} (xs : List A) (x : A) → slice_get (xs ++ x ∷ []) (length xs) ≡ Some x
slice_get-last [] x = refl
slice_get-last (y ∷ xs) x = slice_get-last xs x

-- what stands in a `Some`
abbrev inside : {A : Type 0} → Option A → A → A
inside (Some x) y = x
inside None y = y

some_none : {n : ℕ} → Some None ≡ Some (Some n) → None ≡ Some n
some_none is = ap (λ o. inside o None) is

module _ {code : Parts} {place_of : ℕ → ℕ} where
  -- what a draft becomes, a draft before it becomes too
  pub back : {d e : Draft} → Keeps d e → Becomes e code place_of → Becomes d code place_of
  back k b = record {
    instrs = λ at i is. b.instrs at i (k.front at (slice_get_within _ at i is) ∙ is);
    places = λ l at is. b.places l at (k.same l (slice_get_within _ l (Some at) is) ∙ is);
  }

  -- the last instruction stands where it was emitted
  pub instr_stands : (d : Draft) (i : Instr) → Becomes (with_instr d i) code place_of → instr_at code (length d.instrs) ≡ Some (with_places place_of i)
  instr_stands d i b = b.instrs (length d.instrs) i (slice_get-last d.instrs i)

  -- a label that gets its place here is this place
  pub placed_here : (d : Draft) (label : Label) → slice_get d.places label.number ≡ Some None → Becomes (with_place d label) code place_of →
      place_of label.number ≡ length d.instrs
  placed_here d label open_label b =
      b.places label.number (length d.instrs) (slice_get-set_same d.places label.number (Some (length d.instrs)) (slice_get_within d.places label.number None open_label))

  -- before a label got its place
  pub before_place : (d : Draft) (label : Label) → slice_get d.places label.number ≡ Some None → Becomes (with_place d label) code place_of → Becomes d code place_of
  before_place d label open_label b = record {
    instrs = b.instrs;
    places = λ l at is. elim (eqb_tells label.number l) [
      | inl same ↦ absurd (none-some at (some_none (sym open_label ∙ ap (slice_get d.places) same.1 ∙ is)))
      | inr other ↦ b.places l at (slice_get-set_other d.places label.number l (Some (length d.instrs)) other.1 ∙ is)
    ];
  }
