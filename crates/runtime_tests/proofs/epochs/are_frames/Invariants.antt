use Rattle.stream_match_layouts.specs.Spans.{frame_count}
use Rattle.runtime_tests.proofs.Numbers.{AscendTo}
use Rattle.runtime_tests.proofs.epochs.are_frames.Given as goal

abbrev pub invariant-loop-number : goal.invariant-loop-number
invariant-loop-number l = AscendTo l.numbers (frame_count l.layout) l.next l.number-index
