use Rattle.std.proofs.Common.{ℕ, ◌<◌, get_or}
use Rattle.stream_match_layouts.specs.Spans.{frame_count}
use Rattle.wait_certs.proofs.check.are_frames.Given as goal

-- the members so far are activations
abbrev pub invariant-loop-member : goal.invariant-loop-member
invariant-loop-member l = (k d : ℕ) → k < l.member-index → get_or l.members k d < frame_count l.layout
