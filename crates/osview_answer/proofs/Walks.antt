-- The members of a walk are activations.
use Rattle.std.proofs.Common.{◌≡◌, ◌∙◌, ℕ, zero, suc, ◌+◌, ◌<◌, All, List, [], ◌∷◌, Option, Some, length, get_or, refl, arith, subst, sym}
use Rattle.std.specs.Prelude.{slice_get, slice_index}
use Rattle.flow_core_laws.specs.declared.activation.Activation.{Activation}
use Rattle.flow_core_laws.specs.declared.task_end.TaskEnd.{TaskEnd}
use Rattle.stream_match_layouts.specs.Layout.{IsLayout, IsLayoutOf}
use Rattle.stream_match_layouts.specs.Spans.{frame_count}
use Rattle.stream_match_layouts.specs.declared.layout.Layout.{Layout}
use Rattle.stream_match_layouts.proofs.Tallies.{frame_count-is}
use Rattle.wait_certs.proofs.Growth.{next_exists}
use Rattle.wait_certs_laws.specs.Walk.{IsWalk}

module _ (layout : Layout) (is : IsLayout layout) (activations : List Activation) (of : IsLayoutOf layout activations) (ends : List (Option TaskEnd))
    (a : ℕ) (members : List ℕ) (walk : IsWalk activations layout.input_len ends a members) where
  -- which default an index has makes no difference to a member
  default_of : (xs : List ℕ) (k d e : ℕ) → k < length xs → get_or xs k d ≡ get_or xs k e
  default_of [] k d e lt = absurd (omega arith)
  default_of (x ∷ xs) zero d e lt = refl
  default_of (x ∷ xs) (suc k) d e lt = default_of xs k d e (omega arith)

  first_is : (xs : List ℕ) → slice_get xs 0 ≡ Some a → slice_index xs 0 ≡ a
  first_is [] h = absurd (cc)
  first_is (x ∷ xs) h = cc

  member_exists : a < length activations → (k : ℕ) → k < length members → slice_index members k < length activations
  member_exists exists zero lt = let first = first_is members walk.begins in omega (arith, exists, first)
  member_exists exists (suc k) lt =
      let more : k + 1 < length members = omega (arith, lt) in
      let there : slice_index members (k + 1) < frame_count layout = next_exists layout is activations of ends (slice_index members k) (slice_index members (k + 1)) (walk.goes_on k more) in
      let at : k + 1 ≡ suc k = omega arith in
      let count = frame_count-is layout activations of in
      subst (λ j. slice_index members j < length activations) at (omega (arith, there, count))

  pub members_exist : a < length activations → All (λ m. m < length activations) members
  members_exist exists k d lt = subst (λ m. m < length activations) (default_of members k 0 d lt) (member_exists exists k lt)
