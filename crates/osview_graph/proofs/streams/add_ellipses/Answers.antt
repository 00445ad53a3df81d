use Rattle.std.proofs.Common.{◌∙◌}
use Rattle.osview_graph.specs.Drawing.{run_of}
use Rattle.osview_graph.specs.Streams.{ellipse_if_used}
use Rattle.osview_graph.proofs.Joined.{one_more_from_none}
use Rattle.osview_graph.proofs.streams.add_ellipses.Goals as goal

pub loop-stream-preserved : goal.loop-stream-preserved
loop-stream-preserved c =
    c.in_ok-add_used.ensures
    ∙ one_more_from_none (ellipse_if_used (run_of c.args.drawn.now)) c.loop-stream.stream c.args.told.now c.loop-stream.told c.loop-stream.invariant
