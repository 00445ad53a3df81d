use Rattle.std.proofs.Common.{◌≡◌, drop}
use Rattle.lowering_draft.specs.Emission.Conditions.{conditions_code}
use Rattle.os_ast.specs.Views.{links_tree}
use Rattle.lowering_relation.specs.Names.{told_at}
use Rattle.lowering_expressions.proofs.conditions.+conditions.Given as goal

abbrev pub invariant-emit_conditions-loop-link : goal.invariant-emit_conditions-loop-link
invariant-emit_conditions-loop-link l =
    conditions_code (told_at l.told.names.now) (links_tree (drop l.link-index l.links)) l.fails l.draft
    ≡ conditions_code (told_at l.told.names.now) (links_tree l.links) l.fails l.fn.draft
