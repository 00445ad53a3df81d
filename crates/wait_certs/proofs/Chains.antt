-- Chains by what the checks of their parts answer.
use Rattle.std.proofs.Common.{◌≡◌, ℕ, ◌+◌, ◌<◌, ◌≤◌, true, List, length, arith}
use Rattle.std.specs.Prelude.{All, slice_index}
use Rattle.flow_core_laws.specs.declared.activation.Activation.{Activation}
use Rattle.stream_match_layouts.specs.declared.layout.Layout.{Layout}
use Rattle.stream_match_layouts.specs.Layout.{IsLayout, IsLayoutOf}
use Rattle.stream_match_layouts.specs.Spans.{frame_count}
use Rattle.stream_match_layouts.proofs.Tallies.{frame_count-is}
use Rattle.wait_certs_laws.specs.Chain.{IsChain}
use Rattle.wait_certs.specs.Searching.{EndsInVain, reads_from}
use Rattle.wait_certs.proofs.Giving.{awaits_by, reads_by}

module _ (layout : Layout) (is : IsLayout layout) (activations : List Activation) (of : IsLayoutOf layout activations) (chain : List ℕ) where
  -- the members of a chain exist
  pub exist_of : IsChain activations layout.input_len chain → All (λ a. a < frame_count layout) chain
  exist_of c k d lt = omega (arith, c.members_exist k d lt, frame_count-is layout activations of)

  -- and are linked
  pub linked_of : IsChain activations layout.input_len chain → (k : ℕ) → k + 1 < length chain → reads_from activations (slice_index chain k) (slice_index chain (k + 1)) ≡ true
  linked_of c k lt = reads_by layout is activations of layout.input_len (slice_index chain k) (slice_index chain (k + 1)) (c.awaits_next k lt)

  -- a list whose members exist and are linked, and that ends in vain, is a chain
  pub chain_of : 1 ≤ length chain → All (λ a. a < frame_count layout) chain
      → ((k : ℕ) → k + 1 < length chain → reads_from activations (slice_index chain k) (slice_index chain (k + 1)) ≡ true)
      → EndsInVain activations layout.input_len chain → IsChain activations layout.input_len chain
  chain_of some exist linked vain = record {
    has_members = some;
    members_exist = λ k d lt. omega (arith, exist k d lt, frame_count-is layout activations of);
    awaits_next = λ k lt. awaits_by layout is activations of layout.input_len (slice_index chain k) (slice_index chain (k + 1)) (linked k lt);
    ends_in_vain = vain;
  }
