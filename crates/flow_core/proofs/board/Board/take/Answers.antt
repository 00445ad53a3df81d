use Rattle.std.proofs.Common.{List, Option, sym, ap, ◌∙◌, subst, arith}
use Rattle.flow_core_laws.specs.declared.task_end.TaskEnd.{TaskEnd}
use Rattle.flow_core_laws.specs.Outcome.{root_of}
use Rattle.flow_core.specs.Shows.{Shows}
use Rattle.flow_core.proofs.Showing.{Shows-ended, no_root_is_done}
use Rattle.flow_core.proofs.board.Board.take.Goals as goal

pub deliver-requires-clause-fits : goal.deliver-requires-clause-fits
deliver-requires-clause-fits c = λ none. omega (arith, c.requires.fits (no_root_is_done _ c.args.end (sym c.root-root.ensures ∙ none)))

pub returns-clause-shows : goal.returns-clause-shows
returns-clause-shows c = λ m shows gives.
    let len = c.in_ok-deliver.ensures.counted.cells_of_plan ∙ sym c.requires.counted.cells_of_plan in
    let root = c.root-root.ensures ∙ ap (λ n. root_of n c.args.end) c.number.ensures in
    subst (λ (xs : List (Option TaskEnd)). Shows c.args.plan.now m c.deliver.new.self.cells.items xs) (sym c.deliver.ensures.ends)
    (Shows-ended _ _ _ _ _ _ _ _ _ c.requires.sound c.requires.exists shows gives root len c.in_ok-deliver.ensures.carried)
