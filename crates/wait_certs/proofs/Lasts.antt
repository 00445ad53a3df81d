-- That a walk from an activation of a layout has a last member, which is one too.
use Rattle.std.proofs.Common.{◌≡◌, ℕ, zero, suc, ◌+◌, ◌-◌, ◌<◌, ◌≤◌, List, [], ◌∷◌, Option, Some, length, refl, arith}
use Rattle.std.specs.Prelude.{slice_get, slice_index}
use Rattle.std.proofs.lemmas.Option.{slice_get_within}
use Rattle.flow_core_laws.specs.declared.activation.Activation.{Activation}
use Rattle.flow_core_laws.specs.declared.task_end.TaskEnd.{TaskEnd}
use Rattle.stream_match_layouts.specs.Layout.{IsLayout, IsLayoutOf}
use Rattle.stream_match_layouts.specs.Spans.{frame_count}
use Rattle.stream_match_layouts.specs.declared.layout.Layout.{Layout}
use Rattle.wait_certs.proofs.Growth.{next_exists}
use Rattle.wait_certs_laws.specs.Chain.{last_of}
use Rattle.wait_certs_laws.specs.Walk.{IsWalk}

module _ (layout : Layout) (is : IsLayout layout) (activations : List Activation) (of : IsLayoutOf layout activations) (ends : List (Option TaskEnd))
    (a : ℕ) (members : List ℕ) (walk : IsWalk activations layout.input_len ends a members) where
  pub some_members : 1 ≤ length members
  some_members = slice_get_within members 0 a walk.begins

  pub last_exists : a < frame_count layout → last_of members < frame_count layout
  last_exists exists = at_end (length members) refl
    where
      first_is : (xs : List ℕ) → slice_get xs 0 ≡ Some a → slice_index xs 0 ≡ a
      first_is [] h = absurd (cc)
      first_is (x ∷ xs) h = cc

      at_end : (n : ℕ) → length members ≡ n → last_of members < frame_count layout
      at_end zero e = absurd (let some = some_members in omega (arith, e, some))
      at_end (suc zero) e =
          let at : length members - 1 ≡ 0 = omega (arith, e) in
          let first = first_is members walk.begins in
          rw (at, first) exists
      at_end (suc (suc k)) e =
          let more : k + 1 < length members = omega (arith, e) in
          let at : length members - 1 ≡ k + 1 = omega (arith, e) in
          rw at (next_exists layout is activations of ends (slice_index members k) (slice_index members (k + 1)) (walk.goes_on k more))
