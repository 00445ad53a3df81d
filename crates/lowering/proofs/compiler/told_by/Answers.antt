use Rattle.std.proofs.Common.{◌∙◌}
use Rattle.lowering.proofs.Ordered.{names_ascend}
use Rattle.os_ast.specs.Views.{program_tree}
use Rattle.lowering.proofs.compiler.told_by.Goals as goal

pub invariant_of-result : goal.invariant_of-result
invariant_of-result c =
    let checked = c.args.checked.now in
    record { ascends = names_ascend (program_tree checked.program) c.as_slice.result.now checked.placed (c.as_slice.ensures ∙ checked.named) }
