-- SPLIT and JOIN keep a state good.
use Rattle.std.proofs.Common.{◌≡◌, ℕ, ◌+◌, ◌-◌, ◌<◌, ◌≤◌, true, false, List, [], ◌∷◌, ◌++◌, Option, Some, None, set, refl, sym, ap, ◌∙◌, subst, ◌⊎◌, inl, inr, arith}
use Rattle.std.specs.Prelude.{slice_get, sum_by}
use Rattle.std.proofs.lemmas.Bool.{cases_lt}
use Rattle.std.proofs.lemmas.List.{map_push}
use Rattle.std.proofs.lemmas.List.Sums.{sum_by_push, sum_by-append}
use Rattle.flow_core_concurrent.specs.declared.view.FrameRun.{FrameRun}
use Rattle.flow_core_concurrent.specs.States.{times, CoreState, fresh, runs_of}
use Rattle.flow_core_concurrent.proofs.Sums.{each_set, each_push, set_again, sum_by-written, at_other}
use Rattle.flow_core_concurrent.specs.declared.known.Known.{Known}
use Rattle.flow_core_concurrent.specs.declared.view.View.{View}
use Rattle.flow_core_concurrent.specs.declared.word.Word.{Word}
use Rattle.flow_core_concurrent.specs.Words.{waits, is_started, word_at}
use Rattle.flow_core_concurrent.specs.Steps.{CanSplit, after_split, CanJoin, with_joined, after_join}
use Rattle.flow_core_concurrent.specs.IsGood.{IsGood}
use Rattle.flow_core_concurrent.proofs.Parts.{Flows, Sits, Books, flows_of, sits_of, books_of, good_from, run_at, runs-set}
use Rattle.flow_core_concurrent.proofs.Moves.{flows_pushed}

-- a seat that did nothing yet
pub fresh_sits : (known : Known) (words : List Word) (shares : ℕ) → Sits known words (fresh known shares)
fresh_sits known words shares = record {
  sound = record { knows_the_run = λ h. refl; spent_is_empty = λ e. ap (fresh known) e; runs_at_a_place = λ r h. absurd (cc) };
  has_end = λ r h. absurd (cc);
  looked = λ j last low high below. absurd (omega arith);
  found = λ f h. absurd (omega arith);
  lost = λ f h. absurd (omega arith);
}

-- without shares it may speak of anything
pub spent_sits : (known other : Known) (words : List Word) → Sits known words (fresh other 0)
spent_sits known other words = record {
  sound = record { knows_the_run = λ h. absurd (omega arith); spent_is_empty = λ e. refl; runs_at_a_place = λ r h. absurd (cc) };
  has_end = λ r h. absurd (cc);
  looked = λ j last low high below. absurd (omega arith);
  found = λ f h. absurd (omega arith);
  lost = λ f h. absurd (omega arith);
}

pub split_keeps : (known : Known) (s : CoreState) (i : ℕ) (v : View) → IsGood known s → CanSplit s i v → IsGood known (after_split s i v)
split_keeps known s i v g can = good_from known (after_split s i v) flows
    (each_push (Sits known s.words) (set s.seats i left) (fresh v.about 1) right_sits (each_set (Sits known s.words) s.seats i left left_sits (λ j u n there. sits_of known s g j u there)))
    books
  where
    left : View
    left = record v { looks = 0; shares = v.shares - 1 }

    sees : slice_get s.seats i ≡ Some v
    sees = can.is_seat.sees

    two : 2 ≤ v.shares
    two = can.has_two_shares

    old : Sits known s.words v
    old = sits_of known s g i v sees

    left_sits : Sits known s.words left
    left_sits = record {
      sound = record { knows_the_run = λ h. old.sound.knows_the_run (omega (arith, two)); spent_is_empty = λ e. absurd (omega (arith, two, e)); runs_at_a_place = old.sound.runs_at_a_place };
      has_end = old.has_end;
      looked = λ j last low high below. absurd (omega (arith, low, high));
      found = old.found;
      lost = old.lost;
    }

    right_sits : Sits known s.words (fresh v.about 1)
    right_sits = subst (λ (k : Known). Sits known s.words (fresh k 1)) (sym (old.sound.knows_the_run (omega (arith, two)))) (fresh_sits known s.words 1)

    same_runs : runs_of (after_split s i v) ≡ runs_of s ++ None ∷ []
    same_runs =
        map_push (λ (v : View). v.run) (set s.seats i left) (fresh v.about 1)
        ∙ ap (λ (l : List (Option FrameRun)). l ++ None ∷ []) (runs-set s.seats i left ∙ set_again (runs_of s) i v.run (run_at s.seats i v sees))

    flows : Flows known s.words s.cells (runs_of (after_split s i v))
    flows = subst (Flows known s.words s.cells) (sym same_runs) (flows_pushed known s.words s.cells (runs_of s) (flows_of known s g))

    sums : (f : View → ℕ) → sum_by f (set s.seats i left ++ fresh v.about 1 ∷ []) + f v ≡ sum_by f s.seats + f left + f (fresh v.about 1)
    sums f = let a = sum_by_push f (set s.seats i left) (fresh v.about 1) in let b = sum_by-written f s.seats i v left sees in omega (arith, a, b)

    books : Books known s.words (set s.seats i left ++ fresh v.about 1 ∷ [])
    books =
        let b = books_of known s g in
        record {
          made = λ f. let a = sums (λ (v : View). times f v.made) in let c = b.made f in omega (arith, a, c);
          ran = λ f. let a = sums (λ (v : View). times f v.ran) in let c = b.ran f in omega (arith, a, c);
          shares = let a = sums (λ (v : View). v.shares) in let c = b.shares in omega (arith, a, c, two);
        }

times-append : (f : ℕ) (xs ys : List ℕ) → times f (xs ++ ys) ≡ times f xs + times f ys
times-append f xs ys = sum_by-append _ xs ys

pub join_keeps : (known : Known) (s : CoreState) (i : ℕ) (v : View) (j : ℕ) (w : View) → IsGood known s → CanJoin s i v j w → IsGood known (after_join s i v j w)
join_keeps known s i v j w g can = good_from known (after_join s i v j w) flows
    (each_set (Sits known s.words) (set s.seats i both) j (fresh w.about 0) (spent_sits known w.about s.words) (λ k u n there. each_set (Sits known s.words) s.seats i both both_sits (λ k u n there. sits_of known s g k u there) k u there))
    books
  where
    both : View
    both = with_joined v w

    sees : slice_get s.seats i ≡ Some v
    sees = can.is_seat.sees

    sees_other : slice_get s.seats j ≡ Some w
    sees_other = can.is_other_seat.sees

    still : slice_get (set s.seats i both) j ≡ Some w
    still = at_other s.seats i j both can.are_two ∙ sees_other

    mine : Sits known s.words v
    mine = sits_of known s g i v sees

    theirs : Sits known s.words w
    theirs = sits_of known s g j w sees_other

    positive : 1 ≤ v.shares
    positive = can.is_seat.is_not_spent

    in_either : (xs ys : List ℕ) (P : Type 0) (f : ℕ) → (1 ≤ times f xs → P) → (1 ≤ times f ys → P) → 1 ≤ times f (xs ++ ys) → P
    in_either xs ys P f at_xs at_ys h = by (cases_lt 0 (times f xs))
      where
        by : (0 < times f xs) ⊎ (times f xs ≤ 0) → P
        by (inl some) = at_xs (omega arith)
        by (inr none) = at_ys (let e = times-append f xs ys in omega (arith, e, none, h))

    both_sits : Sits known s.words both
    both_sits = record {
      sound = record { knows_the_run = λ h. mine.sound.knows_the_run positive; spent_is_empty = λ e. absurd (omega (arith, positive, e)); runs_at_a_place = mine.sound.runs_at_a_place };
      has_end = mine.has_end;
      looked = λ k last low high below. absurd (omega (arith, low, high));
      found = λ f. in_either v.found w.found (waits (word_at s.words f) ≡ false) f (mine.found f) (theirs.found f);
      lost = λ f. in_either v.lost w.lost (is_started (word_at s.words f) ≡ true) f (mine.lost f) (theirs.lost f);
    }

    same_runs : runs_of (after_join s i v j w) ≡ runs_of s
    same_runs =
        runs-set (set s.seats i both) j (fresh w.about 0)
        ∙ ap (λ (l : List (Option FrameRun)). set l j None) (runs-set s.seats i both ∙ set_again (runs_of s) i v.run (run_at s.seats i v sees))
        ∙ set_again (runs_of s) j None (run_at s.seats j w sees_other ∙ ap Some can.runs_nothing)

    flows : Flows known s.words s.cells (runs_of (after_join s i v j w))
    flows = subst (Flows known s.words s.cells) (sym same_runs) (flows_of known s g)

    sums : (f : View → ℕ) → sum_by f (set (set s.seats i both) j (fresh w.about 0)) + f w + f v ≡ sum_by f s.seats + f both + f (fresh w.about 0)
    sums f = let a = sum_by-written f (set s.seats i both) j w (fresh w.about 0) still in let b = sum_by-written f s.seats i v both sees in omega (arith, a, b)

    books : Books known s.words (set (set s.seats i both) j (fresh w.about 0))
    books =
        let b = books_of known s g in
        record {
          made = λ f. let a = sums (λ (v : View). times f v.made) in let c = b.made f in let e = times-append f v.made w.made in omega (arith, a, c, e);
          ran = λ f. let a = sums (λ (v : View). times f v.ran) in let c = b.ran f in let e = times-append f v.ran w.ran in omega (arith, a, c, e);
          shares = let a = sums (λ (v : View). v.shares) in let c = b.shares in omega (arith, a, c);
        }
