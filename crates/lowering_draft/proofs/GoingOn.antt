-- Where the code goes on behind a part: at the next place, by a jump, or at a label of its own.
use Rattle.std.proofs.Common.{◌≡◌, ◌∙◌, ℕ, ◌<◌, [], ◌∷◌, length, length-append, Option, Some, None, slice_get, subst, sym, refl, arith}
use Rattle.lowering_draft.proofs.Becoming.{back, before_place, instr_stands, placed_here, slice_get-last}
use Rattle.lowering_draft.proofs.ExpressionsStand.{length-instr}
use Rattle.lowering_draft.proofs.Keeping.{KeepsLabels, kept, keeps_instr}
use Rattle.lowering_draft.specs.Draft.{Becomes, next_label, with_label}
use Rattle.lowering_draft.specs.Emission.Expressions.{Emission}
use Rattle.lowering_draft.specs.Emission.Statements.{closed, end_of, jump_on, opened}
use Rattle.lowering_draft.specs.Going.{GoesOn}
use Rattle.lowering_draft.specs.declared.draft.Draft.{Draft}
use Rattle.lowering_draft.specs.declared.draft.Label.{Label}
use Rattle.os_code.specs.declared.instr.Instr.TheVariants.{Jump}
use Rattle.os_code.specs.declared.parts.Parts.{Parts}
use Rattle.lowering_relation.specs.Statements.{Ends, by_itself, by_jump}

-- what a label that gets its place last is
pub new_is_open : (d : Draft) → slice_get (with_label d).places (next_label d).number ≡ Some None
new_is_open d = slice_get-last d.places None

pub new_is_within : (d : Draft) → (next_label d).number < length (with_label d).places
new_is_within d = omega (arith, length-append d.places (None ∷ []))

module _ (code : Parts) where
  -- something before a part
  ends_behind : (p q : (next from to : ℕ) → Type 0) (from mid next : ℕ) → ((n to : ℕ) → p n mid to → q n from to) → {to : ℕ}
      → Ends code p next mid to → Ends code q next from to
  ends_behind p q from mid next f {to} (by_itself h) = by_itself (f next to h)
  ends_behind p q from mid next f (by_jump end h is) = by_jump end (f end end h) is

module _ (code : Parts) (place_of : ℕ → ℕ) where
  -- The label of where the code goes on: the given one, or one that is placed at the part's end.
  abbrev pub Meets : Option Label → (end : Label) → (to : ℕ) → Type 0
  Meets None end to = place_of end.number ≡ to
  Meets (Some next) end to = next ≡ end

  -- a part that goes on there ends there
  pub ends_there : (part : (next from to : ℕ) → Type 0) (next : Option Label) (end : Label) (from to : ℕ)
      → Meets next end to → GoesOn code place_of next part from to
      → Ends code part (place_of end.number) from to
  ends_there part None end from to there goes = by_itself (subst (λ n. part n from to) (sym there) goes)
  ends_there part (Some next) end from to same goes = subst (λ (l : Label). Ends code part (place_of l.number) from to) same goes

  -- a part with a label of where it goes on
  pub closed_stands : (f : Label → Emission) (part : (next from to : ℕ) → Type 0) → ((end : Label) → KeepsLabels (f end)) → (next : Option Label) (d : Draft)
      → ((end : Label) (e : Draft) → e.spawned ≡ d.spawned → Becomes (f end e) code place_of → Meets next end (length (f end e).instrs)
      → part (place_of end.number) (length e.instrs) (length (f end e).instrs))
      → Becomes (closed next (end_of next d) (f (end_of next d) (opened next d))) code place_of
      → GoesOn code place_of next part (length d.instrs) (length (closed next (end_of next d) (f (end_of next d) (opened next d))).instrs)
  closed_stands f part keeps None d stands becomes =
      let end = next_label d in
      let d1 = with_label d in
      let made = f end d1 in
      let is_open : slice_get made.places end.number ≡ Some None = (keeps end d1).same end.number (new_is_within d) ∙ new_is_open d in
      let there : place_of end.number ≡ length made.instrs = placed_here made end is_open becomes in
      subst (λ n. part n (length d.instrs) (length made.instrs)) there (stands end d1 refl (before_place made end is_open becomes) there)
  closed_stands f part keeps (Some next) d stands becomes = by_itself (stands next d refl becomes refl)

  -- code that goes on behind it, or by a jump behind it
  pub jump_stands : (part : (next from to : ℕ) → Type 0) (from : ℕ) (next : Option Label) (d : Draft)
      → (Becomes d code place_of → part (length d.instrs) from (length d.instrs)) → Becomes (jump_on next d) code place_of
      → GoesOn code place_of next part from (length (jump_on next d).instrs)
  jump_stands part from None d stands becomes = stands becomes
  jump_stands part from (Some next) d stands becomes =
      subst (Ends code part (place_of next.number) from) (sym (length-instr d (Jump next.number)))
      (by_jump (length d.instrs) (stands (back (keeps_instr (kept d) (Jump next.number)) becomes)) (instr_stands d (Jump next.number) becomes))

  -- code that doesn't go on
  pub still_stands : (part : (next from to : ℕ) → Type 0) (from to : ℕ) (next : Option Label) → ((n : ℕ) → part n from to)
      → GoesOn code place_of next part from to
  still_stands part from to None stands = stands to
  still_stands part from to (Some next) stands = by_itself (stands (place_of next.number))

  pub goes_behind : (p q : (next from to : ℕ) → Type 0) (from mid to : ℕ) → ((n to : ℕ) → p n mid to → q n from to) → (next : Option Label)
      → GoesOn code place_of next p mid to → GoesOn code place_of next q from to
  goes_behind p q from mid to f None h = f to to h
  goes_behind p q from mid to f (Some next) h = ends_behind code p q from mid (place_of next.number) f h
