-- What is made of a lawful program stands for it, and its units lie one behind another.
use Rattle.std.proofs.Common.{◌≡◌, ◌∙◌, ◌*◌, ◌<◌, ◌≤◌, ◌^◌, length, ap, subst, sym, arith}
use Rattle.std.proofs.lemmas.List.{length-map}
use Rattle.lowering_draft.proofs.FewUnits.{program_few}
use Rattle.lowering_draft.proofs.SlotsSum.{program_slots}
use Rattle.lowering_draft.proofs.Tiled.{program_tiled}
use Rattle.lowering_draft.proofs.UnitsStand.{program_stands}
use Rattle.lowering_draft.specs.Draft.{with_places}
use Rattle.lowering_draft.specs.Emission.Units.{parts_made, place_in, program_units}
use Rattle.lowering_draft.specs.declared.units.Units.{Units}
use Rattle.os_ast.specs.Spelling.{spell}
use Rattle.os_ast.specs.Views.{program_tree}
use Rattle.os_ast.specs.Violations as text
use Rattle.os_code.specs.declared.parts.Parts.{Parts}
use Rattle.lowering_relation.proofs.AllUnits.{Standing, all_laid}
use Rattle.lowering_relation.proofs.ValidHeights.{frames, heights}
use Rattle.lowering_relation.proofs.ValidRegions.{regions, targets}
use Rattle.lowering_relation.proofs.ValidSites.{sites}
use Rattle.lowering_relation.specs.Laws.{StandingIsValid, CodeStandsFor}
use Rattle.lowering_relation.specs.Names.{told_at}
use Rattle.lowering_relation.specs.Programs.{HasProgram}
use Rattle.lowering_relation.specs.Tiling.{IsTiled}
use Rattle.window_check.specs.declared.checked.Checked.{Checked}

standing : StandingIsValid
standing p code leveled placed lawful has tiled =
    let st : Standing p code = record { leveled = leveled; placed = placed; lawful = lawful; has = has; tiled = tiled } in
    let all = all_laid p code st in
    record { regions = regions code all; targets = targets code all; frames = frames code all; sites = sites p code st; heights = heights code all }

module _ (checked : Checked) (made : Units) (parts : Parts)
    (is_made : made ≡ program_units (told_at checked.names) checked.captured (program_tree checked.program))
    (is : parts ≡ parts_made checked.streams made) where
  its_own : parts ≡ parts_made (text.streams (program_tree checked.program))
      (program_units (told_at (text.names (program_tree checked.program))) (text.captured_by_tasks (program_tree checked.program))
      (program_tree checked.program))
  its_own =
      is
      ∙ ap (parts_made checked.streams) is_made
      ∙ ap (λ n. parts_made n (program_units (told_at checked.names) checked.captured (program_tree checked.program))) checked.counted
      ∙ ap (λ rs. parts_made (text.streams (program_tree checked.program))
      (program_units (told_at rs) checked.captured (program_tree checked.program))) checked.named
      ∙ ap (λ cs. parts_made (text.streams (program_tree checked.program))
      (program_units (told_at (text.names (program_tree checked.program))) cs (program_tree checked.program))) checked.captures

  pub has_program : HasProgram parts (program_tree checked.program) (told_at (text.names (program_tree checked.program)))
      (text.captured_by_tasks (program_tree checked.program)) (text.streams (program_tree checked.program))
  has_program =
      let p = program_tree checked.program in
      subst (λ code. HasProgram code p (told_at (text.names p)) (text.captured_by_tasks p) (text.streams p)) (sym its_own)
      (program_stands (told_at (text.names p)) p checked.leveled checked.placed checked.lawful checked.few)

  same_units : made ≡ program_units (told_at (text.names (program_tree checked.program))) (text.captured_by_tasks (program_tree checked.program))
      (program_tree checked.program)
  same_units =
      let p = program_tree checked.program in
      is_made ∙ ap (λ rs. program_units (told_at rs) checked.captured p) checked.named
      ∙ ap (λ cs. program_units (told_at (text.names p)) cs p) checked.captures

  few_drafted : length made.draft.instrs ≤ 8 * length (spell (program_tree checked.program))
  few_drafted =
      let p = program_tree checked.program in
      subst (λ (m : Units). length m.draft.instrs ≤ 8 * length (spell p)) (sym same_units) (program_few (told_at (text.names p)) (text.captured_by_tasks p) p)

  pub few_instrs : length parts.instrs ≤ 8 * length (spell (program_tree checked.program))
  few_instrs = omega (
    arith,
    few_drafted,
    ap (λ (code : Parts). length code.instrs) is,
    length-map made.draft.instrs (with_places (place_in made.draft.places)),
  )

  pub is_tiled : IsTiled parts (program_tree checked.program)
  is_tiled =
      let p = program_tree checked.program in
      let short : length made.draft.instrs < 2 ^ 32 = omega (arith, few_drafted, checked.few) in
      subst (λ code. IsTiled code p) (sym its_own)
      (program_tiled (told_at (text.names p)) (text.captured_by_tasks p) (text.streams p) p
      (subst (λ (m : Units). length m.draft.instrs < 2 ^ 32) same_units short)
      (program_slots p checked.placed checked.lawful checked.few))

  -- it has all that is asked of a code
  pub stands_for : CodeStandsFor parts (program_tree checked.program)
  stands_for = record {
    leveled = checked.leveled;
    placed = checked.placed;
    lawful = checked.lawful;
    has = has_program;
    valid = standing (program_tree checked.program) parts checked.leveled checked.placed checked.lawful has_program is_tiled;
  }
