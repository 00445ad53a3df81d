use Rattle.std.proofs.Common.{◌≡◌, List}
use Rattle.std.specs.List.{flat_map, range_with_len}
use Rattle.flow_core_laws.specs.declared.activation.Activation.{Activation}
use Rattle.osview_sentences.specs.Facts.{sentence_at}
use Rattle.stream_match_layouts.specs.Layout.{IsLayoutOf}
use Rattle.osview_sentences.proofs.finding.sentences.Given as goal

-- the sentences so far
abbrev pub invariant-loop-frame : goal.invariant-loop-frame
invariant-loop-frame l = (activations : List Activation) → IsLayoutOf l.layout activations
    → l.found.items ≡ flat_map (sentence_at activations l.layout.input_len l.ends.ends l.lines) (range_with_len 0 l.frame)
