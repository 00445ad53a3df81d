-- What stands in the ran lists, and how much.
use Rattle.std.proofs.Common.{◌≡◌, ℕ, zero, suc, ◌+◌, ◌<◌, ◌≤◌, Bool, true, false, List, [], ◌∷◌, Some, refl, ap, ◌∙◌, ◌⊎◌, inl, inr, length, get_or, count_by, cond, arith}
use Rattle.std.specs.Prelude.{All, ◌==◌, nat_lt, sum_by, slice_get}
use Rattle.std.proofs.lemmas.Bool.{cases_lt, cases_eq, eq-eqb, lt-ltb}
use Rattle.std.proofs.lemmas.Bool.Decides.{nat_tests}
use Rattle.std.proofs.lemmas.List.{get_or_past}
use Rattle.std.proofs.lemmas.List.Elements.{All-from_get_or, All-head, All-tail}
use Rattle.std.proofs.lemmas.List.Sums.{sum_by-cons}
use Rattle.std.proofs.lemmas.Option.{slice_get-get_or}
use Rattle.flow_core_concurrent.specs.Counted.{one}
use Rattle.flow_core_concurrent.specs.IsGood.{IsGood}
use Rattle.flow_core_concurrent.specs.States.{times, CoreState}
use Rattle.flow_core_concurrent.specs.Words.{word_at, is_started}
use Rattle.flow_core_concurrent.specs.declared.known.Known.{Known}
use Rattle.flow_core_concurrent.specs.declared.view.View.{View}
use Rattle.flow_core_concurrent.specs.declared.word.Word.TheVariants.{Open}
use Rattle.flow_core_concurrent.proofs.Sums.{count_by-has, sum_by-has}

-- how many of a list lie below a bound
below : ℕ → List ℕ → ℕ
below n fs = count_by (λ f. nat_lt f n) fs

below-one : (n f : ℕ) → cond {A = ℕ} (nat_lt f (suc n)) 1 0 ≡ cond (nat_lt f n) 1 0 + cond (f == n) 1 0
below-one n f = grind (arith, nat_tests)

-- one more bound counts what stands at it
below-more : (n : ℕ) (fs : List ℕ) → below (suc n) fs ≡ below n fs + times n fs
unfolding below
below-more n [] = refl
below-more n (f ∷ fs) =
    let a = sum_by-cons (λ g. cond {A = ℕ} (nat_lt g (suc n)) 1 0) f fs in
    let b = sum_by-cons (λ g. cond {A = ℕ} (nat_lt g n) 1 0) f fs in
    let c = sum_by-cons (λ g. cond {A = ℕ} (g == n) 1 0) f fs in
    let one_f = below-one n f in
    let rest = below-more n fs in
    omega (arith, a, b, c, one_f, rest)

below-zero : (fs : List ℕ) → below 0 fs ≡ 0
unfolding below
below-zero [] = refl
below-zero (f ∷ fs) =
    let a = sum_by-cons (λ g. cond {A = ℕ} (nat_lt g 0) 1 0) f fs in
    let none : cond {A = ℕ} (nat_lt f 0) 1 0 ≡ 0 = grind (arith, nat_tests) in
    let rest = below-zero fs in
    omega (arith, a, none, rest)

-- where all lie below it, all are counted
below-all : (n : ℕ) (fs : List ℕ) → All (λ f. f < n) fs → length fs ≤ below n fs
unfolding below
below-all n [] all = omega arith
below-all n (f ∷ fs) all =
    let a = sum_by-cons (λ g. cond {A = ℕ} (nat_lt g n) 1 0) f fs in
    let lt = All-head (λ g. g < n) f fs all in
    let counts : cond {A = ℕ} (nat_lt f n) 1 0 ≡ 1 = ap one (lt-ltb f n lt) in
    let rest = below-all n fs (All-tail (λ g. g < n) f fs all) in
    omega (arith, a, counts, rest)

-- the same of the lists of all seats
in_all : ℕ → List View → ℕ
in_all n seats = sum_by (λ (v : View). below n v.ran) seats

in_all-zero : (seats : List View) → in_all 0 seats ≡ 0
unfolding in_all
in_all-zero [] = refl
in_all-zero (v ∷ vs) =
    let a = sum_by-cons (λ (u : View). below 0 u.ran) v vs in
    let none = below-zero v.ran in
    let rest = in_all-zero vs in
    omega (arith, a, none, rest)

in_all-more : (n : ℕ) (seats : List View) → in_all (suc n) seats ≡ in_all n seats + sum_by (λ (v : View). times n v.ran) seats
unfolding in_all
in_all-more n [] = refl
in_all-more n (v ∷ vs) =
    let a = sum_by-cons (λ (u : View). below (suc n) u.ran) v vs in
    let b = sum_by-cons (λ (u : View). below n u.ran) v vs in
    let c = sum_by-cons (λ (u : View). times n u.ran) v vs in
    let more = below-more n v.ran in
    let rest = in_all-more n vs in
    omega (arith, a, b, c, more, rest)

in_all-lengths : (n : ℕ) (seats : List View) → ((seat : ℕ) (v : View) → slice_get seats seat ≡ Some v → All (λ f. f < n) v.ran)
    → sum_by (λ (v : View). length v.ran) seats ≤ in_all n seats
unfolding in_all
in_all-lengths n [] each = omega arith
in_all-lengths n (v ∷ vs) each =
    let a = sum_by-cons (λ (u : View). length u.ran) v vs in
    let b = sum_by-cons (λ (u : View). below n u.ran) v vs in
    let all = below-all n v.ran (each 0 v refl) in
    let rest = in_all-lengths n vs (λ seat u there. each (suc seat) u there) in
    omega (arith, a, b, all, rest)

-- where no frame stands in them more than once, they have no more than `n` below `n`
in_all-few : (n : ℕ) (seats : List View) → ((f : ℕ) → sum_by (λ (v : View). times f v.ran) seats ≤ 1) → in_all n seats ≤ n
in_all-few zero seats once = let none = in_all-zero seats in omega (arith, none)
in_all-few (suc n) seats once =
    let more = in_all-more n seats in
    let here = once n in
    let rest = in_all-few n seats once in
    omega (arith, more, here, rest)

one_at_most : (test : Bool) → one test ≤ 1
one_at_most true = omega arith
one_at_most false = omega arith

is_so : (test : Bool) → 1 ≤ one test → test ≡ true
is_so true le = refl
is_so false le = absurd (omega (arith, le))

-- what was claimed is a frame of the plan
started_is_frame : (known : Known) (state : CoreState) (f : ℕ) → IsGood known state → is_started (word_at state.words f) ≡ true → f < length known.plan.frames
started_is_frame known state f good started = by (cases_lt f (length state.words)) (cases_eq f (length known.plan.frames))
  where
    by : (f < length state.words) ⊎ (length state.words ≤ f) → (f ≡ length known.plan.frames) ⊎ (f ≡ length known.plan.frames → ⊥) → f < length known.plan.frames
    by (inr past) at = let none : is_started (word_at state.words f) ≡ false = ap is_started (get_or_past state.words f Open past) in absurd (cc)
    by (inl lt) (inl sink) = let none : is_started (word_at state.words f) ≡ false = ap (λ (g : ℕ). is_started (word_at state.words g)) sink ∙ good.sink_is_not_taken in absurd (cc)
    by (inl lt) (inr other) = let words = good.words_of_plan in omega (arith, lt, words, other)

-- each seat ran frames of the plan
pub ran_are_frames : (known : Known) (state : CoreState) (seat : ℕ) (view : View) → IsGood known state → slice_get state.seats seat ≡ Some view
    → All (λ f. f < length known.plan.frames) view.ran
ran_are_frames known state seat view good sees = All-from_get_or (λ f. f < length known.plan.frames) view.ran 0 at
  where
    at : (i : ℕ) → i < length view.ran → get_or view.ran i 0 < length known.plan.frames
    at i lt =
        let f : ℕ = get_or view.ran i 0 in
        let here : 1 ≤ times f view.ran = count_by-has (λ g. g == f) view.ran i f (slice_get-get_or view.ran i 0 lt) (eq-eqb f f refl) in
        let in_seats = sum_by-has (λ (v : View). times f v.ran) state.seats seat view sees in
        let once = good.ran_once f in
        started_is_frame known state f good (is_so (is_started (word_at state.words f)) (omega (arith, here, in_seats, once)))

-- and no more than it has
pub ran_are_few_in_all : (known : Known) (state : CoreState) → IsGood known state → sum_by (λ (v : View). length v.ran) state.seats ≤ length known.plan.frames
ran_are_few_in_all known state good =
    let n : ℕ = length known.plan.frames in
    let lengths = in_all-lengths n state.seats (λ seat view sees. ran_are_frames known state seat view good sees) in
    let few = in_all-few n state.seats (λ f. let once = good.ran_once f in let most = one_at_most (is_started (word_at state.words f)) in omega (arith, once, most)) in
    omega (arith, lengths, few)

pub ran_are_few : (known : Known) (state : CoreState) (seat : ℕ) (view : View) → IsGood known state → slice_get state.seats seat ≡ Some view
    → length view.ran ≤ length known.plan.frames
ran_are_few known state seat view good sees =
    let here = sum_by-has (λ (v : View). length v.ran) state.seats seat view sees in
    let all = ran_are_few_in_all known state good in
    omega (arith, here, all)
