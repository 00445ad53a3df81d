-- A body that stands in a draft, and the unit that holds it.
use Rattle.std.proofs.Common.{◌≡◌, ◌∙◌, ℕ, ◌<◌, List, [], ◌∷◌, ◌++◌, length, length-append, map, Option, Some, None, slice_get, ap, subst, sym, refl, arith}
use Rattle.std.specs.Option.{option_map}
use Rattle.std.proofs.lemmas.Option.{none-some, slice_get-map}
use Rattle.lowering_draft.proofs.Becoming.{back, before_place, placed_here, slice_get-last}
use Rattle.lowering_draft.proofs.ExpressionsStand.{stands_plain}
use Rattle.lowering_draft.proofs.Growing.{Grows, unit_stays}
use Rattle.lowering_draft.proofs.Keeping.{KeepsLabels, kept, keeps_instrs}
use Rattle.lowering_draft.specs.Draft.{Becomes, next_label, with_label, with_place, with_places}
use Rattle.lowering_draft.specs.Emission.Statements.{StmtPart}
use Rattle.lowering_draft.specs.Emission.Units.{body_code, exits_of, parts_made, place_in, place_or}
use Rattle.lowering_draft.specs.Going.{AreNumbered, IsLeave}
use Rattle.lowering_draft.specs.Laws.{MakesGoingOn}
use Rattle.lowering_draft.specs.declared.draft.Draft.{Draft}
use Rattle.lowering_draft.specs.declared.exits.Exits.{Exits}
use Rattle.lowering_draft.specs.declared.draft.Label.{Label}
use Rattle.lowering_draft.specs.declared.units.Units.{Units}
use Rattle.os_ast.specs.Violations.{streams}
use Rattle.os_code.specs.Parts.{unit_at}
use Rattle.os_code.specs.declared.instr.Instr.{Instr}
use Rattle.os_code.specs.declared.parts.Parts.{Parts}
use Rattle.lowering_relation.specs.Expressions.{Stands}
use Rattle.lowering_relation.specs.Statements.{Body}
use Rattle.lowering_relation.specs.Tasks.{TaskTree}

-- a draft whose labels give way to their places becomes the code
pub becomes_resolved : (made : Units) (streams : ℕ) → Becomes made.draft (parts_made streams made) (place_in made.draft.places)
becomes_resolved made streams = record {
  instrs = λ at i is.
      slice_get-map (with_places (place_in made.draft.places)) made.draft.instrs at ∙ ap (option_map (with_places (place_in made.draft.places))) is;
  places = λ label at is. ap place_or is;
}

-- a body that stands in a draft, and what stands behind it
pub record Framed (code : Parts) (has : (broke continued next from to : ℕ) → Type 0) (falls : List Instr) (from to : ℕ) : Type 0 where
  pub end : ℕ
  pub body : has end end end from end
  pub falls_off : Stands code falls end to

pub framed : (code : Parts) (place_of : ℕ → ℕ) (b : Body) (f : StmtPart) (tasks : List TaskTree) (has : (broke continued next from to : ℕ) → Type 0)
    → ((x : Exits) (next : Option Label) → KeepsLabels (f x next)) → MakesGoingOn code place_of b f tasks has → IsLeave b.leaves
    → (falls : List Instr) → map (with_places place_of) falls ≡ falls → (d : Draft) → AreNumbered b.tasks d.spawned tasks
    → Becomes (body_code b.leaves f falls d) code place_of
    → Framed code has falls (length d.instrs) (length (body_code b.leaves f falls d).instrs)
framed code place_of b f tasks has keeps makes leave falls plain d numbered becomes =
    let end = next_label d in
    let x = exits_of end b.leaves in
    let d1 = with_label d in
    let d2 = f x None d1 in
    let d3 = with_place d2 end in
    let b3 : Becomes d3 code place_of = back (keeps_instrs (kept d3) falls) becomes in
    let within : length d.places < length d1.places = omega (arith, length-append d.places (None ∷ [])) in
    let open_end : slice_get d2.places end.number ≡ Some None = (keeps x None d1).same (length d.places) within ∙ slice_get-last d.places None in
    let b2 : Becomes d2 code place_of = before_place d2 end open_end b3 in
    let here : place_of end.number ≡ length d2.instrs = placed_here d2 end open_end b3 in
    record {
      end = length d2.instrs;
      body = subst (λ p. has p p (length d2.instrs) (length d.instrs) (length d2.instrs)) here (makes leave x refl None d1 numbered b2);
      falls_off = stands_plain d3 falls plain becomes;
    }

pub none_numbered : (first : ℕ) (tasks : List TaskTree) → tasks ≡ [] → AreNumbered [] first tasks
none_numbered first tasks none k t is = absurd (none-some t (ap (λ ts. slice_get ts k) (sym none) ∙ is))

module _ (streams : ℕ) (final : Units) where
  -- the unit that was made last
  pub last_unit : (made after : Units) (unit : _) → after.units ≡ made.units ++ unit ∷ [] → Grows after final → unit_at (parts_made streams final) (length made.units) ≡ Some unit
  last_unit made after unit is g =
      unit_stays g (length made.units) unit (omega (arith, ap length is, length-append made.units (unit ∷ [])))
      (ap (λ us. slice_get us (length made.units)) is ∙ slice_get-last made.units unit)
