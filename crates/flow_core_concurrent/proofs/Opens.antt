-- The state at opening is good.
use Rattle.std.proofs.Common.{◌≡◌, ℕ, ◌+◌, ◌-◌, ◌<◌, ◌≤◌, ◌≢◌, Bool, true, false, [], ◌∷◌, Option, Some, None, length, refl, sym, ap, ◌∙◌, ◌⊎◌, inl, inr, arith, count_by}
use Rattle.std.specs.Prelude.{slice_get, is_none, not, ◌&&◌, ◌==◌, if◌then◌else◌}
use Rattle.std.specs.Option.{option_map_or}
use Rattle.std.proofs.lemmas.Bool.{cases_lt}
use Rattle.std.proofs.lemmas.List.{get_or_past}
use Rattle.flow_core_laws.specs.declared.plan.FramePlan.{FramePlan}
use Rattle.flow_core_laws.specs.declared.plan.Piece.{Piece}
use Rattle.flow_core_concurrent.specs.Counted.{one, is_past, has_stored, counted, underway, counted_at, underway_at, lacks_cell, lacking}
use Rattle.flow_core_concurrent.proofs.Sums.{count_by-same, each_push}
use Rattle.flow_core_laws.specs.declared.plan.Plan.{Plan}
use Rattle.flow_core_laws.specs.declared.task_end.TaskEnd.{TaskEnd}
use Rattle.flow_core_laws.specs.Plans.{plan_element, frame_at, held_at, cells_of, missing_of, piece_at, piece_source, cell_source}
use Rattle.flow_core_laws.specs.Element.{initial}
use Rattle.flow_core_laws.specs.IsSound.{IsSound}
use Rattle.flow_core_laws.specs.declared.elem.Elem.{Elem}
use Rattle.flow_core_concurrent.specs.declared.known.Known.{Known}
use Rattle.flow_core_concurrent.specs.declared.word.Word.{Word}
use Rattle.flow_core_concurrent.specs.declared.word.Word.TheVariants.{Wait, Open, Taken, Ended}
use Rattle.flow_core_concurrent.specs.Words.{word_at, opening_word, opening_words, amount, waits, is_taken, is_started, has_ended}
use Rattle.flow_core_concurrent.specs.States.{fresh, opening}
use Rattle.flow_core_concurrent.specs.Steps.{end_of}
use Rattle.flow_core_concurrent.specs.IsGood.{IsGood}
use Rattle.flow_core_concurrent.proofs.Parts.{Flows, Sits, Books, good_from}
use Rattle.flow_core_concurrent.proofs.Opening.{opening_at, opening_length, opening_amount, opening_is_some}
use Rattle.flow_core_concurrent.proofs.Splits.{fresh_sits}

-- no frame was claimed at opening
not_started : (frame : FramePlan) → is_started (opening_word frame) ≡ false
not_started frame = by (frame.wait == 0)
  where
    by : (b : Bool) → is_started (if b then Open else Wait frame.wait) ≡ false
    by true = refl
    by false = refl

pub opening_not_started : (plan : Plan) (f : ℕ) → is_started (word_at (opening_words plan) f) ≡ false
opening_not_started plan f = by (cases_lt (length plan.frames) f)
  where
    by : (length plan.frames < f) ⊎ (f ≤ length plan.frames) → is_started (word_at (opening_words plan) f) ≡ false
    by (inl behind) = ap is_started (get_or_past (opening_words plan) f Open (let e = opening_length plan in omega (arith, e, behind)))
    by (inr le) = ap is_started (opening_at plan f le) ∙ not_started (frame_at plan f)

-- what wasn't claimed
unstarted_taken : (w : Word) → is_started w ≡ false → is_taken w ≡ false
unstarted_taken (Wait n) h = refl
unstarted_taken Open h = refl
unstarted_taken Taken h = absurd (cc)
unstarted_taken (Ended e) h = refl

unstarted_delivered : (w : Word) → is_started w ≡ false → has_ended w ≡ false
unstarted_delivered (Wait n) h = refl
unstarted_delivered Open h = refl
unstarted_delivered Taken h = refl
unstarted_delivered (Ended e) h = absurd (cc)

unstarted_meant : (known : Known) (f : ℕ) (w : Word) (end : TaskEnd) → is_started w ≡ false → w ≡ Ended end → end_of known f ≡ Some end
unstarted_meant known f w end h e = let z : false ≡ true = sym h ∙ ap is_started e in absurd (cc)

map_or-zero : {X : Type 0} (f : X → ℕ) (o : Option X) → ((x : X) → f x ≡ 0) → option_map_or f o 0 ≡ 0
map_or-zero f None each = refl
map_or-zero f (Some x) each = each x

-- nothing counts or is stored at opening
none_counted : (plan : Plan) (c : ℕ) → counted_at plan (opening_words plan) (None ∷ []) c ≡ 0
none_counted plan c = map_or-zero (counted plan (opening_words plan) (None ∷ [])) (piece_at plan c) (λ q. map_or-zero (λ (p : Piece). one (has_ended (word_at (opening_words plan) p.from)) + count_by (is_past p.from q) (None ∷ [])) (slice_get plan.pieces q) (λ p. let a : one (has_ended (word_at (opening_words plan) p.from)) ≡ 0 = ap one (unstarted_delivered (word_at (opening_words plan) p.from) (opening_not_started plan p.from)) in let b : count_by (is_past p.from q) (None ∷ []) ≡ 0 = refl in omega (arith, a, b)))

none_stored : (plan : Plan) (c : ℕ) → underway_at plan (None ∷ []) c ≡ 0
none_stored plan c = map_or-zero (underway plan (None ∷ []) c) (piece_at plan c) (λ q. map_or-zero (λ (p : Piece). count_by (has_stored p.from q (c - p.at)) (None ∷ [])) (slice_get plan.pieces q) (λ p. refl))

-- what is filled holds what it was given
initial_holds : (known : Known) (c : ℕ) (value : Elem) → held_at known.plan.filled c ≡ Some value → plan_element known.plan known.meaning (cell_source known.plan c) ≡ Some value
unfolding cell_source
initial_holds known c value h = ap (λ (o : Option Elem). plan_element known.plan known.meaning (option_map_or initial o (piece_source known.plan c))) h

pub opens_good : (known : Known) → IsSound known.plan → IsGood known (opening known)
opens_good known sound = good_from known (opening known) flows (each_push (Sits known (opening_words known.plan)) [] (fresh known known.seats) (fresh_sits known (opening_words known.plan) known.seats) (λ j u h. absurd (cc))) books
  where
    plan : Plan
    plan = known.plan

    and_true : (b : Bool) (n : ℕ) → n ≡ 0 → (b && n == 0) ≡ b
    and_true true n e = ap (λ k. k == 0) e
    and_true false n e = refl

    flows : Flows known (opening_words plan) plan.filled (None ∷ [])
    flows = record {
      words_of_plan = opening_length plan;
      cells_of_plan = refl;
      hold = initial_holds known;
      filled = λ c. let a = none_counted plan c in let b = none_stored plan c in omega (arith, a, b);
      count = λ f le.
          let a : amount (word_at (opening_words plan) f) ≡ (frame_at plan f).wait = ap amount (opening_at plan f le) ∙ opening_amount (frame_at plan f) in
          let b : (frame_at plan f).wait ≡ missing_of plan plan.filled f = sound.wait_counts f le in
          let d : lacking plan (opening_words plan) (None ∷ []) f ≡ missing_of plan plan.filled f = count_by-same (lacks_cell plan (opening_words plan) (None ∷ [])) (λ c. is_none (held_at plan.filled c)) (cells_of plan f) (λ c. and_true (is_none (held_at plan.filled c)) (counted_at plan (opening_words plan) (None ∷ []) c) (none_counted plan c)) in
          omega (arith, a, b, d);
      wait_for_some = λ f. some f (cases_lt (length plan.frames) f);
      taken = λ f. sym (ap one (unstarted_taken (word_at (opening_words plan) f) (opening_not_started plan f)));
      meant = λ f end h. unstarted_meant known f (word_at (opening_words plan) f) end (opening_not_started plan f) h;
      sink = opening_not_started plan (length plan.frames);
    }
      where
        some : (f : ℕ) → (length plan.frames < f) ⊎ (f ≤ length plan.frames) → word_at (opening_words plan) f ≢ Wait 0
        some f (inl behind) = λ h. let e : Open ≡ Wait 0 = sym (get_or_past (opening_words plan) f Open (let e = opening_length plan in omega (arith, e, behind))) ∙ h in let y : false ≡ true = ap waits e in cc
        some f (inr le) = λ h. opening_is_some (frame_at plan f) (sym (opening_at plan f le) ∙ h)

    books : Books known (opening_words plan) (fresh known known.seats ∷ [])
    books = record {
      made = λ f. sym (ap one (and_not (waits (word_at (opening_words plan) f))));
      ran = λ f. sym (ap one (opening_not_started plan f));
      shares = let e : 0 + known.seats ≡ known.seats = omega arith in e;
    }
      where
        and_not : (b : Bool) → (b && not b) ≡ false
        and_not true = refl
        and_not false = refl
