-- The code that is drafted for a lawful program.
use Rattle.std.proofs.Common.{◌*◌, ◌<◌, ◌≤◌, ◌^◌, length, arith}
use Rattle.std.proofs.lemmas.List.{length-map}
use Rattle.lowering.proofs.ProgramRuns.{runs_bodies, runs_control}
use Rattle.lowering_draft.proofs.FewUnits.{program_few}
use Rattle.lowering_draft.proofs.SlotsSum.{program_slots}
use Rattle.lowering_draft.proofs.Tiled.{program_tiled}
use Rattle.lowering_draft.proofs.UnitsStand.{program_stands}
use Rattle.lowering_draft.specs.Draft.{with_places}
use Rattle.lowering_draft.specs.Emission.Units.{parts_made, place_in, program_units}
use Rattle.lowering_draft.specs.declared.units.Units.{Units}
use Rattle.lowering_relation.specs.Laws.{CodeStandsFor, StandingIsValid}
use Rattle.lowering_relation.specs.Names.{told_at}
use Rattle.lowering_relation.specs.Programs.{HasProgram}
use Rattle.lowering_relation.specs.Tiling.{IsTiled}
use Rattle.os_ast.specs.Spelling.{spell}
use Rattle.os_ast.specs.Trees.{ProgramTree}
use Rattle.os_ast.specs.Violations.{captured_by_tasks, names, streams}
use Rattle.os_code.specs.declared.parts.Parts.{Parts}
use Rattle.lowering_laws.proofs.Accepted.{IsLawful}
use Rattle.lowering_laws.specs.Laws.{HasCode}

module _ (standing : StandingIsValid) (p : ProgramTree) (is : IsLawful p) where
  abbrev pub made : Units
  made = program_units (told_at (names p)) (captured_by_tasks p) p

  abbrev pub drafted : Parts
  drafted = parts_made (streams p) made

  few_drafted : length made.draft.instrs ≤ 8 * length (spell p)
  few_drafted = program_few (told_at (names p)) (captured_by_tasks p) p

  pub few_instrs : length drafted.instrs ≤ 8 * length (spell p)
  few_instrs = omega (arith, few_drafted, length-map made.draft.instrs (with_places (place_in made.draft.places)))

  pub tiled : IsTiled drafted p
  tiled =
      let short : length made.draft.instrs < 2 ^ 32 = omega (arith, few_drafted, is.few) in
      program_tiled (told_at (names p)) (captured_by_tasks p) (streams p) p short (program_slots p is.placed is.lawful is.few)

  has : HasProgram drafted p (told_at (names p)) (captured_by_tasks p) (streams p)
  has = program_stands (told_at (names p)) p is.leveled is.placed is.lawful is.few

  pub stands : CodeStandsFor drafted p
  stands = record {
    leveled = is.leveled;
    placed = is.placed;
    lawful = is.lawful;
    has = has;
    valid = standing p drafted is.leveled is.placed is.lawful has tiled;
  }

  pub has_code : HasCode p
  has_code = record {
    code = drafted;
    stands = stands;
    bodies = runs_bodies drafted p stands;
    control = runs_control drafted p stands;
    is_small = record { few_instrs = few_instrs; units = tiled.units; sites = has.sites };
  }
