use Rattle.std.proofs.Common.{◌+◌, ◌-◌, refl, arith}
use Rattle.std.specs.List.{flat_map, range_with_len}
use Rattle.stream_match_layouts.specs.Spans.{frame_count}
use Rattle.stream_match_layouts.proofs.Sums.{frames_bound}
use Rattle.collector.specs.Report.{activation_line}
use Rattle.collector.proofs.Buffered.{on, out}
use Rattle.collector.proofs.Reported.{lines_at, lines_more}
use Rattle.collector.proofs.report.activation_lines.Goals as goal

pub overflow_cast-frame-end : goal.overflow_cast-frame-end
overflow_cast-frame-end g c = omega (arith, c.len.ensures, frames_bound c.args.layout.now c.requires)

pub returns-in_err-activation_line : goal.returns-in_err-activation_line
returns-in_err-activation_line g c = λ activations of.
    let f = activation_line activations c.args.layout.now.input_len c.args.ends.now.ends in
    let k = c.loop-frame.frame in
    let n = frame_count c.args.layout.now in
    let rest = flat_map f (range_with_len (k + 1) (n - (k + 1))) in
    on (c.loop-frame.invariant activations of) (out _ rest _ _ c.from_residual.ensures.1 (λ y q. q) (c.in_err-activation_line.ensures activations of).err refl) (lines_at f k n (omega (arith, c.len.ensures, c.loop-frame-test.true)))

pub loop-frame-preserved : goal.loop-frame-preserved
loop-frame-preserved g c = λ activations of.
    let f = activation_line activations c.args.layout.now.input_len c.args.ends.now.ends in
    (on (c.loop-frame.invariant activations of) (c.in_ok-activation_line.ensures activations of) (lines_more f c.loop-frame.frame)).ok
