-- A FINISH keeps a state good.
use Rattle.std.proofs.Common.{◌≡◌, ℕ, ◌+◌, ◌<◌, ◌≢◌, true, List, Some, None, length, set, refl, sym, ap, ◌∙◌, subst, ◌⊎◌, inl, inr, arith, count_by}
use Rattle.std.specs.Prelude.{slice_get}
use Rattle.std.proofs.lemmas.Bool.{ne_eqb}
use Rattle.flow_core_laws.specs.declared.plan.Piece.{Piece}
use Rattle.flow_core_concurrent.specs.declared.view.FrameRun.{FrameRun}
use Rattle.flow_core_concurrent.specs.Counted.{one, is_run_of, is_past, has_stored}
use Rattle.flow_core_concurrent.proofs.Sums.{count_by-written, count_by-kept}
use Rattle.flow_core_concurrent.proofs.Runs.{same_frame, is_past-later, is_past-other, has_stored-none, run_there, running_is_taken, runs_alone}
use Rattle.flow_core_laws.specs.declared.task_end.TaskEnd.{TaskEnd}
use Rattle.flow_core_laws.specs.Plans.{frame_at}
use Rattle.flow_core_laws.specs.IsSound.{IsSound}
use Rattle.flow_core_concurrent.specs.declared.known.Known.{Known}
use Rattle.flow_core_concurrent.specs.declared.view.View.{View}
use Rattle.flow_core_concurrent.specs.declared.word.Word.{Word}
use Rattle.flow_core_concurrent.specs.declared.word.Word.TheVariants.{Taken, Ended}
use Rattle.flow_core_concurrent.specs.Words.{word_at, amount, waits, is_taken, is_started, has_ended, end_in}
use Rattle.flow_core_concurrent.specs.States.{CoreState, runs_of}
use Rattle.flow_core_concurrent.specs.Steps.{CanFinish, after_finish}
use Rattle.flow_core_concurrent.specs.IsGood.{IsGood, IsRunPlace}
use Rattle.flow_core_concurrent.proofs.Words.{word_at-set, word_at-kept}
use Rattle.flow_core_concurrent.proofs.Counts.{CountsAlike, StoresAlike, piece_of_frame}
use Rattle.flow_core_concurrent.proofs.Parts.{Sits, sits_of}
use Rattle.flow_core_concurrent.proofs.Starts.{Starts, still_sits, started_keeps}

-- what a run gave when it ends
record Gave (known : Known) (r : FrameRun) : Type 0 where
  stored_none : r.stored ≡ 0
  past_each : (q : ℕ) (p : Piece) → slice_get known.plan.pieces q ≡ Some p → p.from ≡ r.frame → is_past p.from q (Some r) ≡ true

gave : (known : Known) (s : CoreState) (i : ℕ) (v : View) (r : FrameRun) (end : TaskEnd) → IsSound known.plan → IsRunPlace known.plan r → CanFinish known s i v r end → Gave known r
gave known s i v r end sound place can = record {
  stored_none = place.has_none_behind can.gave_all;
  past_each = λ q p h e. is_past-later r p.from q (sym e) (let a = subst (λ f. q < (frame_at known.plan f).piece + (frame_at known.plan f).pieces) e (piece_of_frame known.plan q p sound h).1 in let b = can.gave_all in omega (arith, a, b));
}

pub finish_keeps : (known : Known) (s : CoreState) (i : ℕ) (v : View) (r : FrameRun) (end : TaskEnd) → IsSound known.plan → IsGood known s → CanFinish known s i v r end → IsGood known (after_finish s i v r end)
finish_keeps known s i v r end sound g can = started_keeps known s i v w f (Ended end) g sees starts counts stores taken refl (λ h. let a = word_at-kept (λ w. one (is_started w)) s.words f (Ended end) lt (ap (λ w. one (is_started w)) (sym is)) h in omega (arith, a)) refl sits
  where
    f : ℕ
    f = r.frame

    w : View
    w = record v { run = None }

    words' : List Word
    words' = set s.words f (Ended end)

    sees : slice_get s.seats i ≡ Some v
    sees = can.is_seat.sees

    there : slice_get (runs_of s) i ≡ Some (Some r)
    there = run_there s i v r sees can.runs

    is : word_at s.words f ≡ Taken
    is = running_is_taken known s i v r g sees can.runs

    place : IsRunPlace known.plan r
    place = (g.views_are_sound i v sees).runs_at_a_place r can.runs

    lt : f < length s.words
    lt = let a = g.words_of_plan in let b = place.of_a_frame in omega (arith, a, b)

    ends : Gave known r
    ends = gave known s i v r end sound place can

    starts : Starts known s.words f (Ended end)
    starts = record {
      of_a_frame = place.of_a_frame;
      exists = lt;
      missed_nothing = ap amount is;
      waited_not = ap waits is;
      misses_nothing = refl;
      waits_not = refl;
      is_not_open = refl;
      started = refl;
      is_meant = λ e h. can.is_meant ∙ ap end_in h;
    }

    counts : CountsAlike known.plan s.words (runs_of s) words' (set (runs_of s) i None)
    counts = record { each = λ q p h. by q p h (word_at-set s.words f (Ended end) p.from lt) }
      where
        by : (q : ℕ) (p : Piece) → slice_get known.plan.pieces q ≡ Some p → ((p.from ≡ f) × (word_at words' p.from ≡ Ended end)) ⊎ ((p.from ≢ f) × (word_at words' p.from ≡ word_at s.words p.from)) → one (has_ended (word_at words' p.from)) + count_by (is_past p.from q) (set (runs_of s) i None) ≡ one (has_ended (word_at s.words p.from)) + count_by (is_past p.from q) (runs_of s)
        by q p h (inl (e, now)) =
            let a = count_by-written (is_past p.from q) (runs_of s) i (Some r) None there in
            let z : one (is_past p.from q None) ≡ 0 = refl in
            let b : one (is_past p.from q (Some r)) ≡ 1 = ap one (ends.past_each q p h e) in
            let c : one (has_ended (word_at words' p.from)) ≡ 1 = ap (λ w. one (has_ended w)) now in
            let d : one (has_ended (word_at s.words p.from)) ≡ 0 = ap (λ k. one (has_ended (word_at s.words k))) e ∙ ap (λ w. one (has_ended w)) is in
            omega (arith, a, z, b, c, d)
        by q p h (inr (n, now)) =
            let a = count_by-kept (is_past p.from q) (runs_of s) i (Some r) None there (sym (is_past-other r p.from q (λ e. n (sym e)))) in
            let c : one (has_ended (word_at words' p.from)) ≡ one (has_ended (word_at s.words p.from)) = ap (λ w. one (has_ended w)) now in
            omega (arith, a, c)

    stores : StoresAlike known.plan (runs_of s) (set (runs_of s) i None)
    stores = record { each = λ q k p h. count_by-kept (has_stored p.from q k) (runs_of s) i (Some r) None there (sym (has_stored-none r p.from q k ends.stored_none)) }

    taken : (h : ℕ) → count_by (is_run_of h) (set (runs_of s) i None) ≡ one (is_taken (word_at words' h))
    taken h = by (word_at-set s.words f (Ended end) h lt)
      where
        a : count_by (is_run_of h) (set (runs_of s) i None) + one (is_run_of h (Some r)) ≡ count_by (is_run_of h) (runs_of s) + 0
        a = count_by-written (is_run_of h) (runs_of s) i (Some r) None there

        by : ((h ≡ f) × (word_at words' h ≡ Ended end)) ⊎ ((h ≢ f) × (word_at words' h ≡ word_at s.words h)) → count_by (is_run_of h) (set (runs_of s) i None) ≡ one (is_taken (word_at words' h))
        by (inl (e, now)) =
            let b : count_by (is_run_of h) (runs_of s) ≡ 1 = ap (λ k. count_by (is_run_of k) (runs_of s)) e ∙ runs_alone known s i v r g sees can.runs in
            let c : one (is_taken (word_at words' h)) ≡ 0 = ap (λ w. one (is_taken w)) now in
            let d : one (is_run_of h (Some r)) ≡ 1 = ap (λ k. one (is_run_of k (Some r))) e ∙ ap one (same_frame f) in
            omega (arith, a, b, c, d)
        by (inr (n, now)) =
            let b = g.taken_is_run_by_one h in
            let c : one (is_taken (word_at words' h)) ≡ one (is_taken (word_at s.words h)) = ap (λ w. one (is_taken w)) now in
            let d : one (is_run_of h (Some r)) ≡ 0 = ap one (ne_eqb f h (λ e. n (sym e))) in
            omega (arith, a, b, c, d)

    sits : Sits known words' w
    sits =
        let old : Sits known words' v = still_sits known s.words f (Ended end) v starts (sits_of known s g i v sees) in
        let positive = can.is_seat.is_not_spent in
        record {
          sound = record {
            knows_the_run = old.sound.knows_the_run;
            spent_is_empty = λ e. absurd (omega (arith, positive, e));
            runs_at_a_place = λ r h. absurd (cc);
          };
          has_end = λ r h. absurd (cc);
          looked = old.looked;
          found = old.found;
          lost = old.lost;
        }
