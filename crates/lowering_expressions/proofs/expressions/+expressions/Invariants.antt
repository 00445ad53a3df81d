use Rattle.std.proofs.Common.{◌≡◌, drop}
use Rattle.cddf_meaning.specs.ExpressionTypes.{type_behind}
use Rattle.lowering_draft.specs.Emission.Expressions.{args_code, links_code}
use Rattle.os_ast.specs.Views.{args_tree, links_tree}
use Rattle.lowering_relation.specs.Names.{flags_by, told_at}
use Rattle.lowering_expressions.proofs.expressions.+expressions.Given as goal

abbrev pub invariant-emit_args-loop-arg : goal.invariant-emit_args-loop-arg
invariant-emit_args-loop-arg l =
    args_code (told_at l.told.names.now) (args_tree (drop l.arg-index l.args)) l.draft ≡ args_code (told_at l.told.names.now) (args_tree l.args) l.fn.draft

abbrev pub invariant-emit_links-loop-link : goal.invariant-emit_links-loop-link
invariant-emit_links-loop-link l = record {
  types : type_behind (flags_by (told_at l.told.names.now)) (links_tree (drop l.link-index l.links)) l.left
      ≡ type_behind (flags_by (told_at l.told.names.now)) (links_tree l.links) l.first;
  code : links_code (told_at l.told.names.now) (links_tree (drop l.link-index l.links)) l.left l.draft
      ≡ links_code (told_at l.told.names.now) (links_tree l.links) l.first l.fn.draft;
}
