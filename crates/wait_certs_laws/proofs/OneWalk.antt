-- That an activation has one walk: two walks have the same members, one after the other, and neither goes on where the other ends.
use Rattle.std.proofs.Common.{◌≡◌, ℕ, zero, suc, ◌+◌, ◌-◌, ◌<◌, inl, inr, List, [], ◌∷◌, Option, Some, length, get_or, refl, sym, ap, ◌∙◌, arith}
use Rattle.std.specs.Prelude.{slice_get, slice_index}
use Rattle.std.proofs.lemmas.Bool.{cases_lt}
use Rattle.std.proofs.lemmas.List.{ext_get_or}
use Rattle.std.proofs.lemmas.Option.{same_Some, slice_get_within}
use Rattle.flow_core_laws.specs.declared.activation.Activation.{Activation}
use Rattle.flow_core_laws.specs.declared.task_end.TaskEnd.{TaskEnd}
use Rattle.wait_certs_laws.specs.Chain.{last_of}
use Rattle.wait_certs_laws.specs.Laws.{OneWalk}
use Rattle.wait_certs_laws.specs.Walk.{IsWalk, waited_for}

module _ (activations : List Activation) (input_len : ℕ) (ends : List (Option TaskEnd)) (a : ℕ) where
  abbrev Walks : List ℕ → Type 0
  Walks members = IsWalk activations input_len ends a members

  first_is : (xs : List ℕ) (x : ℕ) → slice_get xs 0 ≡ Some x → slice_index xs 0 ≡ x
  first_is [] x h = absurd (cc)
  first_is (y ∷ ys) x h = cc

  other_default : (xs : List ℕ) (k d : ℕ) → k < length xs → slice_index xs k ≡ get_or xs k d
  other_default [] k d lt = absurd (omega arith)
  other_default (x ∷ xs) zero d lt = refl
  other_default (x ∷ xs) (suc k) d lt = other_default xs k d (omega arith)

  -- the members at a place that both have are the same
  same_at : (members others : List ℕ) → Walks members → Walks others → (k : ℕ) → k < length members → k < length others
      → slice_index members k ≡ slice_index others k
  same_at members others walk other zero lt lt_too = first_is members a walk.begins ∙ sym (first_is others a other.begins)
  same_at members others walk other (suc k) lt lt_too =
      let more : k + 1 < length members = omega arith in
      let more_too : k + 1 < length others = omega arith in
      let next : k + 1 ≡ suc k = omega arith in
      let before = same_at members others walk other k (omega arith) (omega arith) in
      ap (slice_index members) (sym next)
      ∙ same_Some (slice_index members (k + 1)) (slice_index others (k + 1)) (sym (walk.goes_on k more) ∙ ap (waited_for activations input_len ends) before ∙ other.goes_on k more_too)
      ∙ ap (slice_index others) next

  -- what follows the last member of a walk that a longer one goes on from
  follows : (members others : List ℕ) → Walks members → Walks others → (k : ℕ) → length members ≡ k + 1 → k + 1 < length others
      → waited_for activations input_len ends (last_of members) ≡ Some (slice_index others (k + 1))
  follows members others walk other k long longer =
      let at : length members - 1 ≡ k = omega arith in
      let same = same_at members others walk other k (omega arith) (omega arith) in
      let next = other.goes_on k longer in
      rw (at, same) next

  -- none goes on where another one ends
  no_longer : (members others : List ℕ) → Walks members → Walks others → (k : ℕ) → length members ≡ k + 1 → k + 1 < length others → ⊥
  no_longer members others walk other k long longer =
      let b = slice_index others (k + 1) in
      let (j, lt, stands) = walk.goes_as_far b (follows members others walk other k long longer) in
      let before = same_at members others walk other j lt (omega arith) in
      let there = other_default members j b lt in
      other.has_each_once j (k + 1) (omega arith) longer (rw (sym before, there) stands)

  not_longer : (members others : List ℕ) → Walks members → Walks others → length members < length others → ⊥
  not_longer members others walk other longer =
      let some = slice_get_within members 0 a walk.begins in
      no_longer members others walk other (length members - 1) (omega (arith, some)) (omega (arith, some))

  same_length : (members others : List ℕ) → Walks members → Walks others → length members ≡ length others
  same_length members others walk other = elim (cases_lt (length members) (length others)) [
    | inl shorter ↦ absurd (not_longer members others walk other shorter)
    | inr longer ↦ elim (cases_lt (length others) (length members)) [
      | inl shorter ↦ absurd (not_longer others members other walk shorter)
      | inr longer_too ↦ omega (arith, longer, longer_too)
    ]
  ]

pub one_walk : OneWalk
one_walk activations input_len ends a members others walk other =
    let lengths = same_length activations input_len ends a members others walk other in
    ext_get_or 0 members others lengths (λ k lt. same_at activations input_len ends a members others walk other k lt (omega (arith, lengths, lt)))
