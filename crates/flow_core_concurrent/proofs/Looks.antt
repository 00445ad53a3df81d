-- A CLAIM that misses and a LOOK keep a state good.
use Rattle.std.proofs.Common.{[], ◌≡◌, ℕ, zero, suc, ◌+◌, ◌-◌, ◌%◌, ◌≤◌, Bool, true, false, List, ◌∷◌, ◌++◌, length, refl, sym, ap, ◌∙◌, subst, arith, ◌<◌, ◌⊎◌, inl, inr}
use Rattle.std.specs.Prelude.{◌==◌, if◌then◌else◌}
use Rattle.std.proofs.lemmas.Bool.{eqb-true, cases_lt}
use Rattle.flow_core_concurrent.specs.States.{times, CoreState, IsSeat, knows}
use Rattle.flow_core_laws.specs.IsSound.{IsSound}
use Rattle.flow_core_concurrent.specs.declared.known.Known.{Known}
use Rattle.flow_core_concurrent.specs.declared.view.View.{View}
use Rattle.flow_core_concurrent.specs.declared.word.Word.{Word}
use Rattle.flow_core_concurrent.specs.Words.{waits, is_open, is_started, word_at}
use Rattle.flow_core_concurrent.specs.Steps.{CanClaim, with_miss, lost_with, CanLook, next_look, after_look, with_view}
use Rattle.flow_core_concurrent.specs.IsGood.{IsGood, IsLast}
use Rattle.flow_core_concurrent.proofs.Words.{started_from, open_is}
use Rattle.flow_core_concurrent.proofs.Opening.{known_waits_no_more}
use Rattle.flow_core_concurrent.proofs.Parts.{Sits, sits_of, good_with_view}
use Rattle.std.proofs.lemmas.List.Sums.{sum_by_push}
use Rattle.flow_core_concurrent.specs.Counted.{one}

pub times_push : (f : ℕ) (xs : List ℕ) (x : ℕ) → times f (xs ++ x ∷ []) ≡ times f xs + one (x == f)
times_push f xs x = sum_by_push (λ y. one (y == f)) xs x

-- what holds of the frames in a list and of one more holds of them together
pub in_push : (xs : List ℕ) (x f : ℕ) (P : ℕ → Type 0) → (1 ≤ times f xs → P f) → P x → 1 ≤ times f (xs ++ x ∷ []) → P f
in_push xs x f P at_xs at_x h = by (cases_lt 0 (times f xs))
  where
    is_it : (b : Bool) → (x == f) ≡ b → times f xs ≤ 0 → P f
    is_it true e none = subst P (eqb-true x f e) at_x
    is_it false e none = let a = times_push f xs x in let o : one (x == f) ≡ 0 = ap one e in absurd (omega (arith, a, o, none, h))

    by : (0 < times f xs) ⊎ (times f xs ≤ 0) → P f
    by (inl some) = at_xs (omega arith)
    by (inr none) = is_it (x == f) refl none

-- the lost frames with one more, which isn't Open
lost_more : (known : Known) (s : CoreState) (i : ℕ) (v : View) (f : ℕ) → IsSound known.plan → IsGood known s → IsSeat s i v → is_open (word_at s.words f) ≡ false → (g : ℕ) → 1 ≤ times g (lost_with v f) → is_started (word_at s.words g) ≡ true
lost_more known s i v f sound good seat closed g h = by (knows v f) refl h
  where
    old : 1 ≤ times g v.lost → is_started (word_at s.words g) ≡ true
    old = good.lost_is_started i g v seat.sees

    by : (b : Bool) → knows v f ≡ b → 1 ≤ times g (if b then v.lost ++ f ∷ [] else v.lost) → is_started (word_at s.words g) ≡ true
    by false e h = old h
    by true e h = in_push v.lost f g (λ k. is_started (word_at s.words k) ≡ true) old (started_from (word_at s.words f) (known_waits_no_more known s i v f sound good seat e) closed) h

-- one more look, at a frame that isn't Open
looked_more : (known : Known) (words : List Word) (looks : ℕ) → is_open (word_at words (looks % length known.plan.frames)) ≡ false → ((j : ℕ) → 1 ≤ j → j ≤ looks → j ≤ length known.plan.frames → is_open (word_at words ((looks - j) % length known.plan.frames)) ≡ false) → (j : ℕ) → 1 ≤ j → j ≤ looks + 1 → j ≤ length known.plan.frames → is_open (word_at words ((looks + 1 - j) % length known.plan.frames)) ≡ false
looked_more known words looks closed old zero low high below = absurd (omega arith)
looked_more known words looks closed old (suc zero) low high below = subst (λ n. is_open (word_at words (n % length known.plan.frames)) ≡ false) (let e : looks ≡ looks + 1 - 1 = omega arith in e) closed
looked_more known words looks closed old (suc (suc k)) low high below = subst (λ n. is_open (word_at words (n % length known.plan.frames)) ≡ false) (let e : looks - suc k ≡ looks + 1 - suc (suc k) = omega arith in e) (old (suc k) (omega arith) (omega arith) (omega arith))

pub miss_keeps : (known : Known) (s : CoreState) (i : ℕ) (v : View) (f : ℕ) → IsSound known.plan → IsGood known s → CanClaim known s i v f → is_open (word_at s.words f) ≡ false → IsGood known (with_view s i (with_miss known v f))
miss_keeps known s i v f sound g can closed = good_with_view known s i v (with_miss known v f) g can.is_seat.sees refl refl refl refl sits
  where
    old : Sits known s.words v
    old = sits_of known s g i v can.is_seat.sees

    positive : 1 ≤ v.shares
    positive = can.is_seat.is_not_spent

    looked : (b : Bool) → (f == v.looks % length known.plan.frames) ≡ b → (j : ℕ) → IsLast known v → 1 ≤ j → j ≤ (if b then v.looks + 1 else v.looks) → j ≤ length known.plan.frames → is_open (word_at s.words (((if b then v.looks + 1 else v.looks) - j) % length known.plan.frames)) ≡ false
    looked false e j last low high below = old.looked j last low high below
    looked true e j last low high below = looked_more known s.words v.looks (sym (ap (λ n. is_open (word_at s.words n)) (eqb-true f (v.looks % length known.plan.frames) e)) ∙ closed) (λ j l h b. old.looked j last l h b) j low high below

    sits : Sits known s.words (with_miss known v f)
    sits = record {
      sound = record { knows_the_run = old.sound.knows_the_run; spent_is_empty = λ e. absurd (omega (arith, positive, e)); runs_at_a_place = old.sound.runs_at_a_place };
      has_end = old.has_end;
      looked = looked (f == v.looks % length known.plan.frames) refl;
      found = old.found;
      lost = lost_more known s i v f sound g can.is_seat closed;
    }

pub look_keeps : (known : Known) (s : CoreState) (i : ℕ) (v : View) → IsSound known.plan → IsGood known s → CanLook known s i v → IsGood known (after_look known s i v)
look_keeps known s i v sound g can = by (is_open (word_at s.words f)) refl
  where
    f : ℕ
    f = next_look known v

    old : Sits known s.words v
    old = sits_of known s g i v can.is_seat.sees

    positive : 1 ≤ v.shares
    positive = can.is_seat.is_not_spent

    by : (b : Bool) → is_open (word_at s.words f) ≡ b → IsGood known (with_view s i (if b then record v { found = v.found ++ f ∷ [] } else record v { lost = lost_with v f; looks = v.looks + 1 }))
    by true e = good_with_view known s i v (record v { found = v.found ++ f ∷ [] }) g can.is_seat.sees refl refl refl refl (record {
      sound = record { knows_the_run = old.sound.knows_the_run; spent_is_empty = λ z. absurd (omega (arith, positive, z)); runs_at_a_place = old.sound.runs_at_a_place };
      has_end = old.has_end;
      looked = old.looked;
      found = λ h. in_push v.found f h (λ k. waits (word_at s.words k) ≡ false) (old.found h) (ap waits (open_is (word_at s.words f) e));
      lost = old.lost;
    })
    by false e = good_with_view known s i v (record v { lost = lost_with v f; looks = v.looks + 1 }) g can.is_seat.sees refl refl refl refl (record {
      sound = record { knows_the_run = old.sound.knows_the_run; spent_is_empty = λ z. absurd (omega (arith, positive, z)); runs_at_a_place = old.sound.runs_at_a_place };
      has_end = old.has_end;
      looked = λ j last low high below. looked_more known s.words v.looks e (λ j l h b. old.looked j last l h b) j low high below;
      found = old.found;
      lost = lost_more known s i v f sound g can.is_seat e;
    })
