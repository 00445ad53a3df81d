use Rattle.std.proofs.Common.{arith}
use Rattle.flow_core_laws.proofs.Windows.{length-windows}
use Rattle.osview_graph.proofs.Linked.{claims_rise, claims_within}
use Rattle.osview_graph.proofs.Spans.{count}
use Rattle.osview_graph.proofs.links.add_activation.Goals as goal

pub add_windows-requires-clause-ordered : goal.add_windows-requires-clause-ordered
add_windows-requires-clause-ordered c =
    omega (arith, c.first_window-first.ensures, c.first_window-end.ensures, claims_rise c.args.drawn.now.activations.now c.args.activation)

pub add_windows-requires-clause-exist : goal.add_windows-requires-clause-exist
add_windows-requires-clause-exist c =
    let acts = c.args.drawn.now.activations.now in
    omega (arith, c.first_window-end.ensures, claims_within acts c.args.activation, length-windows acts, count c.args.drawn.now c.requires.drawn)
