use Rattle.std.proofs.Common.{◌≡◌, ℕ, ◌<◌, ◌≤◌, Some, true}
use Rattle.os_code.specs.declared.instr.Instr.{Instr}
use Rattle.os_code.specs.Parts.{instr_at}
use Rattle.os_object_validity.specs.Tables.{place_stands}
use Rattle.os_object_validity.proofs.places.unit_stands.Given as goal

abbrev pub invariant-loop-place : goal.invariant-loop-place
invariant-loop-place l = (place : ℕ) (instr : Instr) → l.region.unit.start ≤ place → place < l.place → instr_at l.parts place ≡ Some instr
    → place_stands l.parts l.region.number l.region.unit place instr ≡ true
