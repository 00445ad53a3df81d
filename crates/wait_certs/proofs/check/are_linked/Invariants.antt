use Rattle.std.proofs.Common.{◌≡◌, ◌+◌, ◌<◌, ℕ, true, List}
use Rattle.std.specs.Prelude.{slice_index}
use Rattle.flow_core_laws.specs.declared.activation.Activation.{Activation}
use Rattle.stream_match_layouts.specs.Layout.{IsLayoutOf}
use Rattle.wait_certs.specs.Searching.{reads_from}
use Rattle.wait_certs.proofs.check.are_linked.Given as goal

-- the members before this one are linked
abbrev pub invariant-loop-next : goal.invariant-loop-next
invariant-loop-next l = (activations : List Activation) → IsLayoutOf l.layout activations
    → (k : ℕ) → k + 1 < l.next → reads_from activations (slice_index l.members k) (slice_index l.members (k + 1)) ≡ true
