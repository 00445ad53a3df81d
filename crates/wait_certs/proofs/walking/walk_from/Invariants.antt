use Rattle.std.proofs.Common.{◌≡◌, ◌<◌, ◌-◌, ℕ, false, List, length, get_or}
use Rattle.flow_core_laws.specs.declared.activation.Activation.{Activation}
use Rattle.stream_match_layouts.specs.Layout.{IsLayoutOf}
use Rattle.stream_match_layouts.specs.Spans.{frame_count}
use Rattle.wait_certs_laws.specs.Walk.{waited_for}
use Rattle.wait_certs_laws.proofs.Growing.{IsGrown}
use Rattle.wait_certs.specs.Searching.{has_member}
use Rattle.wait_certs.proofs.walking.walk_from.Given as goal

-- the walk so far has grown by one after the other, and the marks are those of its members
abbrev pub invariant-walking : goal.invariant-walking
invariant-walking l = record {
  one_each : length l.marks ≡ frame_count l.layout;
  last_exists : l.last < frame_count l.layout;
  grown : (activations : List Activation) → IsLayoutOf l.layout activations → IsGrown (waited_for activations l.layout.input_len l.ends.ends) l.frame l.members l.last;
  marked : (q : ℕ) → q < frame_count l.layout → get_or l.marks q false ≡ has_member l.members q;
}

abbrev pub decreases-walking : goal.decreases-walking
decreases-walking l = frame_count l.layout - length l.members
