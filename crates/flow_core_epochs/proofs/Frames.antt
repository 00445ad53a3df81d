-- The frames of an epoch and their numbers.
use Rattle.std.proofs.Common.{◌≡◌, ℕ, ◌<◌, List, Option, Some, None, true, false, get_or, refl, sym, ap, ◌∙◌, ◌⊎◌, inl, inr, arith}
use Rattle.std.specs.Prelude.{slice_get, is_none, ◌==◌}
use Rattle.std.proofs.lemmas.Bool.{eqb-true, eq-eqb, cases_order}
use Rattle.std.proofs.lemmas.List.Quantifiers.{position-Some}
use Rattle.std.proofs.lemmas.Option.{slice_get_within, slice_get-get_or, get_or_from_slice_get}
use Rattle.flow_core_laws.specs.Outcome.{State, outcome_at}
use Rattle.flow_core_laws.proofs.Sources.{position_only}
use Rattle.flow_core_epochs.specs.Epoch.{open_in, number_among}
use Rattle.flow_core_laws.proofs.Filtered.{filtered_each, filtered_ascends, filtered_all}

-- What frames are: activations without an outcome, each with one number; what is left out gets none.
pub record AreTaken (state whole : State) (count : ℕ) (frames : List ℕ) : Type 0 where
  pub exists : (f a : ℕ) → slice_get frames f ≡ Some a → a < count
  pub waits : (f a : ℕ) → slice_get frames f ≡ Some a → outcome_at state a ≡ None
  pub numbered : (f a : ℕ) → slice_get frames f ≡ Some a → number_among frames a ≡ Some f
  pub others : (a : ℕ) → a < count → outcome_at state a ≡ None → number_among frames a ≡ None → outcome_at whole a ≡ None

-- the number of a frame is that of its activation
pub numbers_back : (frames : List ℕ) (a f : ℕ) → number_among frames a ≡ Some f → slice_get frames f ≡ Some a
numbers_back frames a f h =
    let p = position-Some (λ g. g == a) frames f 0 h in
    slice_get-get_or frames f 0 p.0 ∙ ap Some (eqb-true (get_or frames f 0) a p.1)

-- each of ascending frames has its number
pub ascending_numbered : (frames : List ℕ) → ((f g a b : ℕ) → f < g → slice_get frames f ≡ Some a → slice_get frames g ≡ Some b → a < b) → (f a : ℕ) → slice_get frames f ≡ Some a → number_among frames a ≡ Some f
ascending_numbered frames ascend f a h = position_only (λ g. g == a) frames f a h (eq-eqb a a refl) (λ j b b_is same. one j b b_is (eqb-true b a same) (cases_order j f))
  where
    one : (j b : ℕ) → slice_get frames j ≡ Some b → b ≡ a → (j ≡ f) ⊎ ((j < f) ⊎ (f < j)) → j ≡ f
    one j b b_is same (inl e) = e
    one j b b_is same (inr (inl lt)) = absurd (omega (arith, same, ascend j f b a lt b_is h))
    one j b b_is same (inr (inr lt)) = absurd (omega (arith, same, ascend f j a b lt h b_is))

-- all that are open
pub open_each : {O : Type 0} (state : List (Option O)) (count f a : ℕ) → slice_get (open_in state count) f ≡ Some a → (a < count) × (outcome_at state a ≡ None)
open_each {O = O} state count f a h =
    let p = filtered_each (λ a. is_none (outcome_at state a)) 0 count f (slice_get_within (open_in state count) f a h) in
    let high = p.high in
    let e = get_or_from_slice_get (open_in state count) f a 0 h in
    (omega arith, none (outcome_at state a) refl (ap (λ a. is_none (outcome_at state a)) (sym e) ∙ p.passes))
  where
    none : (o : Option O) → outcome_at state a ≡ o → is_none (outcome_at state a) ≡ true → outcome_at state a ≡ None
    none None e h = e
    none (Some o) e h = let z : is_none (outcome_at state a) ≡ false = ap is_none e in absurd (cc)

pub open_ascend : {O : Type 0} (state : List (Option O)) (count f g a b : ℕ) → f < g → slice_get (open_in state count) f ≡ Some a → slice_get (open_in state count) g ≡ Some b → a < b
open_ascend state count f g a b lt a_at b_at =
    omega (arith, filtered_ascends (λ a. is_none (outcome_at state a)) 0 count f g lt (slice_get_within (open_in state count) g b b_at), get_or_from_slice_get (open_in state count) f a 0 a_at, get_or_from_slice_get (open_in state count) g b 0 b_at)

pub open_all : {O : Type 0} (state : List (Option O)) (count a : ℕ) → a < count → outcome_at state a ≡ None → (f : ℕ) × (slice_get (open_in state count) f ≡ Some a)
open_all state count a lt waits =
    let (k, within, is) = filtered_all (λ a. is_none (outcome_at state a)) 0 count a (omega arith) (omega arith) (ap is_none waits) in
    (k, slice_get-get_or (open_in state count) k 0 within ∙ ap Some is)
