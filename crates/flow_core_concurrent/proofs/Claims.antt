-- A CLAIM keeps a state good.
use Rattle.std.proofs.Common.{◌≡◌, ℕ, ◌+◌, ◌<◌, ◌≢◌, Bool, true, false, List, Option, Some, None, length, set, refl, sym, ap, ◌∙◌, subst, ◌⊎◌, inl, inr, arith, count_by, eq-eqb}
use Rattle.std.specs.Prelude.{slice_get, ◌==◌, if◌then◌else◌, IsSome, is_none}
use Rattle.std.proofs.lemmas.Bool.{ne_eqb}
use Rattle.std.proofs.lemmas.Option.{same_Some}
use Rattle.std.specs.Option.{option_map}
use Rattle.flow_core_laws.specs.Outcome.{outcome_at}
use Rattle.flow_core_laws.specs.Round.{gathered, inputs_in}
use Rattle.flow_core_laws.proofs.Counting.{passing-none}
use Rattle.flow_core_laws.proofs.Gathering.{all_gathered}
use Rattle.flow_core_concurrent.proofs.Cells.{full_value}
use Rattle.flow_core_concurrent.specs.Laws.{IsFit}
use Rattle.flow_core_laws.specs.declared.outcome.Outcome.{Outcome}
use Rattle.flow_core_laws.specs.Plans.{frame_at, cells_of, cell_source, plan_reads, plan_element}
use Rattle.flow_core_laws.proofs.Sources.{map_map}
use Rattle.flow_core_concurrent.specs.declared.view.FrameRun.{FrameRun}
use Rattle.flow_core_concurrent.specs.States.{times, CoreState, runs_of}
use Rattle.flow_core_concurrent.specs.Counted.{one, is_run_of, is_past, has_stored}
use Rattle.flow_core_concurrent.proofs.Sums.{count_by-written, count_by-kept}
use Rattle.flow_core_concurrent.proofs.Looks.{times_push, miss_keeps}
use Rattle.flow_core_concurrent.proofs.Runs.{has_stored-none, first_is_place, is_past-first}
use Rattle.flow_core_concurrent.specs.declared.known.Known.{Known}
use Rattle.flow_core_concurrent.specs.declared.view.View.{View}
use Rattle.flow_core_concurrent.specs.declared.word.Word.{Word}
use Rattle.flow_core_concurrent.specs.declared.word.Word.TheVariants.{Open, Taken, Ended}
use Rattle.flow_core_concurrent.specs.Words.{word_at, amount, waits, is_open, is_taken, is_started, has_ended}
use Rattle.flow_core_concurrent.specs.Steps.{first_place, CanClaim, with_claim, with_miss, after_claim, with_view, end_of}
use Rattle.flow_core_concurrent.specs.IsGood.{IsGood, IsRunPlace}
use Rattle.flow_core_concurrent.proofs.Words.{open_is, word_at-set, word_at-kept}
use Rattle.flow_core_concurrent.proofs.Counts.{CountsAlike, StoresAlike}
use Rattle.flow_core_concurrent.proofs.Parts.{Sits, sits_of, run_at}
use Rattle.flow_core_concurrent.proofs.Starts.{Starts, still_sits, started_keeps}

-- where a frame misses nothing, all its inputs are there in the meaning, so it has an end there
full_has_end : (known : Known) (s : CoreState) (f : ℕ) → IsFit known → IsGood known s → f < length known.plan.frames → amount (word_at s.words f) ≡ 0 → IsSome (end_of known f)
full_has_end known s f fit g lt none =
    let (vs, h) = all_gathered (λ c. plan_element known.plan known.meaning (cell_source known.plan c)) (cells_of known.plan f)
    (passing-none (λ c. is_none (plan_element known.plan known.meaning (cell_source known.plan c))) (frame_at known.plan f).cell (frame_at known.plan f).inputs (λ c low high. ap is_none (full_value known s f c g (omega (arith, lt)) none (low, high)).2)) in
    let inputs : inputs_in (plan_element known.plan) (plan_reads known.plan) known.meaning f ≡ Some vs = ap gathered (map_map (cell_source known.plan) (plan_element known.plan known.meaning) (cells_of known.plan f)) ∙ h in
    has_end (outcome_at known.meaning f) (fit.full_has_outcome f vs lt inputs)
  where
    has_end : (o : Option Outcome) → IsSome o → IsSome (option_map (λ (o : Outcome). o.end) o)
    has_end None h = h
    has_end (Some o) h = refl

hit_keeps : (known : Known) (s : CoreState) (i : ℕ) (v : View) (f : ℕ) → IsFit known → IsGood known s → CanClaim known s i v f → is_open (word_at s.words f) ≡ true → IsGood known (record { words = set s.words f Taken; cells = s.cells; seats = set s.seats i (with_claim known v f) })
hit_keeps known s i v f fit g can opened = started_keeps known s i v (with_claim known v f) f Taken g sees starts counts stores taken refl ran refl sits
  where
    words' : List Word
    words' = set s.words f Taken

    runs : List (Option FrameRun)
    runs = runs_of s

    runs' : List (Option FrameRun)
    runs' = set runs i (Some (first_place known.plan f))

    sees : slice_get s.seats i ≡ Some v
    sees = can.is_seat.sees

    is : word_at s.words f ≡ Open
    is = open_is (word_at s.words f) opened

    lt : f < length s.words
    lt = let a = g.words_of_plan in let b = can.exists in omega (arith, a, b)

    there : slice_get runs i ≡ Some None
    there = run_at s.seats i v sees ∙ ap Some can.runs_nothing

    starts : Starts known s.words f Taken
    starts = record {
      of_a_frame = can.exists;
      exists = lt;
      missed_nothing = ap amount is;
      waited_not = ap waits is;
      misses_nothing = refl;
      waits_not = refl;
      is_not_open = refl;
      started = refl;
      is_meant = λ end h. let z : is_taken Taken ≡ is_taken (Ended end) = ap is_taken h in absurd (cc);
    }

    counts : CountsAlike known.plan s.words runs words' runs'
    counts = record {
      each = λ q p h.
          let a = word_at-kept (λ w. one (has_ended w)) s.words f Taken lt (ap (λ w. one (has_ended w)) (sym is)) p.from in
          let b = count_by-kept (is_past p.from q) runs i None (Some (first_place known.plan f)) there (is_past-first known.plan f q p fit.plan_is_sound h) in
          omega (arith, a, b);
    }

    stores : StoresAlike known.plan runs runs'
    stores = record { each = λ q k p h. count_by-kept (has_stored p.from q k) runs i None (Some (first_place known.plan f)) there (has_stored-none (first_place known.plan f) p.from q k refl) }

    -- a test of words that passes at Taken and not at Open
    rises : (test : Word → Bool) → test Open ≡ false → test Taken ≡ true → (h : ℕ) → one (test (word_at words' h)) ≡ one (test (word_at s.words h)) + one (f == h)
    rises test at_open at_taken h = by (word_at-set s.words f Taken h lt)
      where
        by : ((h ≡ f) × (word_at words' h ≡ Taken)) ⊎ ((h ≢ f) × (word_at words' h ≡ word_at s.words h)) → one (test (word_at words' h)) ≡ one (test (word_at s.words h)) + one (f == h)
        by (inl (e, now)) =
            let b : one (test (word_at s.words h)) ≡ 0 = ap (λ k. one (test (word_at s.words k))) e ∙ ap (λ w. one (test w)) is ∙ ap one at_open in
            let c : one (test (word_at words' h)) ≡ 1 = ap (λ w. one (test w)) now ∙ ap one at_taken in
            let d : one (f == h) ≡ 1 = ap one (eq-eqb f h (sym e)) in
            omega (arith, b, c, d)
        by (inr (n, now)) =
            let c : one (test (word_at words' h)) ≡ one (test (word_at s.words h)) = ap (λ w. one (test w)) now in
            let d : one (f == h) ≡ 0 = ap one (ne_eqb f h (λ e. n (sym e))) in
            omega (arith, c, d)

    taken : (h : ℕ) → count_by (is_run_of h) runs' ≡ one (is_taken (word_at words' h))
    taken h =
        let a = count_by-written (is_run_of h) runs i None (Some (first_place known.plan f)) there in
        let z : one (is_run_of h None) ≡ 0 = refl in
        let o : one (is_run_of h (Some (first_place known.plan f))) ≡ one (f == h) = refl in
        let b = g.taken_is_run_by_one h in
        let c = rises is_taken refl refl h in
        omega (arith, a, z, o, b, c)

    ran : (h : ℕ) → times h (with_claim known v f).ran + one (is_started (word_at s.words h)) ≡ times h v.ran + one (is_started (word_at words' h))
    ran h = let a = times_push h v.ran f in let c = rises is_started refl refl h in omega (arith, a, c)

    sits : Sits known words' (with_claim known v f)
    sits =
        let old : Sits known words' v = still_sits known s.words f Taken v starts (sits_of known s g i v sees) in
        let positive = can.is_seat.is_not_spent in
        record {
          sound = record {
            knows_the_run = old.sound.knows_the_run;
            spent_is_empty = λ e. absurd (omega (arith, positive, e));
            runs_at_a_place = λ r h. subst (IsRunPlace known.plan) (same_Some (first_place known.plan f) r h) (first_is_place known.plan f can.exists);
          };
          has_end = λ r h. subst (λ (r : FrameRun). IsSome (end_of known r.frame)) (same_Some (first_place known.plan f) r h) (full_has_end known s f fit g can.exists (ap amount is));
          looked = λ j last low high below. absurd (omega (arith, low, high));
          found = old.found;
          lost = old.lost;
        }

pub claim_keeps : (known : Known) (s : CoreState) (i : ℕ) (v : View) (f : ℕ) → IsFit known → IsGood known s → CanClaim known s i v f → IsGood known (after_claim known s i v f)
claim_keeps known s i v f fit g can = by (is_open (word_at s.words f)) refl
  where
    by : (b : Bool) → is_open (word_at s.words f) ≡ b → IsGood known (if b then (record { words = set s.words f Taken; cells = s.cells; seats = set s.seats i (with_claim known v f) }) else with_view s i (with_miss known v f))
    by true e = hit_keeps known s i v f fit g can e
    by false e = miss_keeps known s i v f fit.plan_is_sound g can e
