use Rattle.std.proofs.Common.{List}
use Rattle.flow_core_laws.specs.declared.activation.Activation.{Activation}
use Rattle.stream_match_layouts.specs.Layout.{IsLayoutOf}
use Rattle.collector.specs.Buffering.{WentOn}
use Rattle.collector.specs.Report.{activation_lines}
use Rattle.collector.proofs.report.activation_lines.Given as goal

-- the lines so far went on
abbrev pub invariant-loop-frame : goal.invariant-loop-frame
invariant-loop-frame g l = (activations : List Activation) → IsLayoutOf l.layout activations
    → WentOn g.S.Sink l.initial.sink l.sink l.initial.buffer l.buffer (activation_lines activations l.layout.input_len l.ends.ends l.frame)
