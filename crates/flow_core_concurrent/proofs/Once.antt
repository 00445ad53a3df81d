-- What a seat's lists say of a frame that is Open, or that waits.
use Rattle.std.proofs.Common.{◌≡◌, ℕ, Bool, true, false, Some, refl, ap, arith}
use Rattle.std.specs.Prelude.{slice_get, not, ◌&&◌}
use Rattle.flow_core_concurrent.specs.States.{times, CoreState}
use Rattle.flow_core_concurrent.specs.Counted.{one}
use Rattle.flow_core_concurrent.proofs.Sums.{sum_by-has}
use Rattle.flow_core_concurrent.specs.declared.known.Known.{Known}
use Rattle.flow_core_concurrent.specs.declared.view.View.{View}
use Rattle.flow_core_concurrent.specs.declared.word.Word.{Word}
use Rattle.flow_core_concurrent.specs.Words.{word_at, opening_words, is_open, is_started, waits}
use Rattle.flow_core_concurrent.specs.IsGood.{IsGood}
use Rattle.flow_core_concurrent.proofs.Words.{open_is}

pub not_started : (w : Word) → is_open w ≡ true → one (is_started w) ≡ 0
not_started w h = ap (λ w. one (is_started w)) (open_is w h)

-- no seat claimed a frame that is Open
pub open_is_new : (known : Known) (state : CoreState) (seat : ℕ) (view : View) (f : ℕ) → IsGood known state → slice_get state.seats seat ≡ Some view → is_open (word_at state.words f) ≡ true → times f view.ran ≡ 0
open_is_new known state seat view f good sees opened =
    let a = sum_by-has (λ (v : View). times f v.ran) state.seats seat view sees in
    let b = good.ran_once f in
    let z = not_started (word_at state.words f) opened in
    omega (arith, a, b, z)

pub none_made : (a b : Bool) → b ≡ true → one (a && not b) ≡ 0
none_made a false h = absurd (cc)
none_made true true h = refl
none_made false true h = refl

-- no seat opened a frame that waits
pub waiting_is_new : (known : Known) (state : CoreState) (seat : ℕ) (view : View) (f : ℕ) → IsGood known state → slice_get state.seats seat ≡ Some view → waits (word_at state.words f) ≡ true → times f view.made ≡ 0
waiting_is_new known state seat view f good sees waiting =
    let a = sum_by-has (λ (v : View). times f v.made) state.seats seat view sees in
    let b = good.made_once f in
    let z = none_made (waits (word_at (opening_words known.plan) f)) (waits (word_at state.words f)) waiting in
    omega (arith, a, b, z)
