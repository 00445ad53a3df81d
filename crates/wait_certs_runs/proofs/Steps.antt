-- The steps of a run are no more than its budgets allow.
use Rattle.std.proofs.Common.{◌≡◌, ◌∙◌, ◌≤◌, ◌+◌, ◌*◌, ℕ, zero, suc, ℤ, List, [], ◌∷◌, All, Option, Some, None, length, slice_get, refl, sym, ap, subst, arith}
use Rattle.std.specs.Prelude.{sum}
use Rattle.std.proofs.Math.Nat.{suc-mul}
use Rattle.std.proofs.lemmas.List.Elements.{All-get_or}
use Rattle.std.proofs.lemmas.List.Sums.{sum_by-cons}
use Rattle.std.proofs.lemmas.Option.{get_or_from_slice_get, same_Some, slice_get_within}
use Rattle.epoch_run_bodies.specs.Frames.{frame_outcome}
use Rattle.flow_core_laws.specs.Poisoning.{least_root, values_of}
use Rattle.flow_core_laws.specs.Round.{inputs_in}
use Rattle.flow_core_laws.specs.Streams.{stream_element, stream_meaning, stream_reads}
use Rattle.flow_core_laws.specs.declared.activation.Activation.{Activation}
use Rattle.flow_core_laws.specs.declared.control.Control.{Control}
use Rattle.flow_core_laws.specs.declared.elem.Elem.{Elem}
use Rattle.lowering_laws.specs.Laws.{ActivationsFit, OfCodes}
use Rattle.os_code.specs.Control.{ControlEnds}
use Rattle.os_code.specs.IsValid.{IsValid}
use Rattle.os_code.specs.Laws.{MainEnds, MainEndsAreOne, TasksEnd}
use Rattle.os_code.specs.Machine.{most_steps}
use Rattle.os_code.specs.Outcomes.{code_outcome, main_control}
use Rattle.os_code.specs.Tasks.{Fits, TaskEnds}
use Rattle.os_code.specs.declared.parts.Parts.{Parts}
use Rattle.wait_certs_runs.specs.Steps.{MainTakesFewSteps, RanOver, RunsTakeFewSteps}

pub of_main : MainEnds → MainEndsAreOne → MainTakesFewSteps
of_main ends one code input_len budget steps made valid is =
    let m = ends code input_len budget valid in
    let same : steps ≡ m.steps = (one code input_len budget made (main_control code input_len budget) steps m.steps is m.ends).1 in
    omega (arith, same, m.few)

-- numbers that are all small
sum_small : (most : ℕ) (ns : List ℕ) → ((a n : ℕ) → slice_get ns a ≡ Some n → n ≤ most) → sum ns ≤ length ns * most
sum_small most [] small = omega arith
sum_small most (n ∷ ns) small =
    let first : n ≤ most = small 0 n refl in
    let rest = sum_small most ns (λ a m at. small (suc a) m at) in
    by_product (length ns * most) (suc (length ns) * most) (suc-mul (length ns) most) first rest
  where
    by_product : (part all : ℕ) → all ≡ part + most → n ≤ most → sum ns ≤ part → sum (n ∷ ns) ≤ all
    by_product part all is first rest = omega (arith, is, first, rest, sum_by-cons (λ m. m) n ns)

module _ (ends : TasksEnd) (code : Parts) (valid : IsValid code) (activations : List Activation) (input : List ℕ) (task_budget : ℕ)
    (fit : All (Fits code) activations) where
  abbrev read_by : ℕ → Option (List Elem)
  read_by a = inputs_in stream_element (stream_reads activations input)
      (stream_meaning activations input (frame_outcome code activations task_budget)) a

  fits_at : (a : ℕ) (x : Activation) → slice_get activations a ≡ Some x → Fits code x
  fits_at a x at =
      subst (Fits code) (get_or_from_slice_get activations a x x at)
      (All-get_or (Fits code) activations a x (slice_get_within activations a x at) fit)

  -- the steps of an activation
  record IsStepsAt (a n : ℕ) : Type 0 where
    ran : (x : Activation) (inputs : List ℤ) → slice_get activations a ≡ Some x → RanOver code activations input task_budget a inputs
        → TaskEnds code x inputs task_budget (code_outcome code x inputs task_budget) n
    never_ran : ((inputs : List ℤ) → RanOver code activations input task_budget a inputs → ⊥) → n ≡ 0
    few : n ≤ most_steps code task_budget

  -- none, where its body never ran
  none_at : (a : ℕ) → ((x : Activation) (inputs : List ℤ) → slice_get activations a ≡ Some x → RanOver code activations input task_budget a inputs → ⊥) → IsStepsAt a 0
  none_at a never = record { ran = λ x inputs at over. absurd (never x inputs at over); never_ran = λ not. refl; few = omega arith }

  steps_at : (a : ℕ) → (n : ℕ) × IsStepsAt a n
  steps_at a = by_read (read_by a) refl
    where
      over_it : (es : List Elem) → read_by a ≡ Some es → least_root es ≡ None → (x : Activation) → slice_get activations a ≡ Some x → (n : ℕ) × IsStepsAt a n
      over_it es read none x at =
          let t = ends code x (values_of es) task_budget valid (fits_at a x at) in (
            t.steps,
            record {
              ran = λ y inputs there over.
                  let same_x : x ≡ y = same_Some x y (sym at ∙ there) in
                  let same_read : es ≡ over.read = same_Some es over.read (sym read ∙ over.is_there) in
                  let same_inputs : values_of es ≡ inputs = ap values_of same_read ∙ sym over.values in
                  subst (λ (z : Activation). TaskEnds code z inputs task_budget (code_outcome code z inputs task_budget) t.steps) same_x
                  (subst (λ vs. TaskEnds code x vs task_budget (code_outcome code x vs task_budget) t.steps) same_inputs t.ends);
              never_ran = λ not. absurd (not (values_of es) (record { read = es; is_there = read; no_poison = none; values = refl }));
              few = t.few;
            },
          )

      by_activation : (o : Option Activation) → slice_get activations a ≡ o → (es : List Elem) → read_by a ≡ Some es → least_root es ≡ None → (n : ℕ) × IsStepsAt a n
      by_activation None at es read none = (0, none_at a (λ x inputs there over. let never : None ≡ Some x = sym at ∙ there in cc))
      by_activation (Some x) at es read none = over_it es read none x at

      by_root : (root : Option ℕ) (es : List Elem) → least_root es ≡ root → read_by a ≡ Some es → (n : ℕ) × IsStepsAt a n
      by_root None es none read = by_activation (slice_get activations a) refl es read none
      by_root (Some r) es some read = (
        0,
        none_at a (λ x inputs there over.
            let same_read : es ≡ over.read = same_Some es over.read (sym read ∙ over.is_there) in
            let never : Some r ≡ None = sym some ∙ ap least_root same_read ∙ over.no_poison in cc),
      )

      by_read : (o : Option (List Elem)) → read_by a ≡ o → (n : ℕ) × IsStepsAt a n
      by_read None read = (0, none_at a (λ x inputs there over. let never : None ≡ Some over.read = sym read ∙ over.is_there in cc))
      by_read (Some es) read = by_root (least_root es) es refl read

-- a list of numbers, each with what holds of it
all_of : (P : ℕ → ℕ → Type 0) (count : ℕ) → ((a : ℕ) → (n : ℕ) × P a n)
    → (ns : List ℕ) × (length ns ≡ count) × ((a n : ℕ) → slice_get ns a ≡ Some n → P a n)
all_of P zero each = ([], refl, λ a n at. absurd (cc))
all_of P (suc count) each =
    let (ns, long, holds) = all_of (λ a. P (suc a)) count (λ a. each (suc a)) in
    let (first, is) = each 0 in
    (first ∷ ns, ap suc long, at first is ns holds)
  where
    at : (first : ℕ) → P 0 first → (ns : List ℕ) → ((a n : ℕ) → slice_get ns a ≡ Some n → P (suc a) n) → (a n : ℕ) → slice_get (first ∷ ns) a ≡ Some n → P a n
    at first is ns holds zero n stands = subst (P 0) (same_Some first n stands) is
    at first is ns holds (suc a) n stands = holds a n stands

pub in_all : MainEnds → TasksEnd → OfCodes ActivationsFit → RunsTakeFewSteps
in_all main_ends ends fits code input task_budget control_budget made valid low control_is =
    let fit : All (Fits code) made.activations =
    subst (λ (c : Control). All (Fits code) c.activations) (sym control_is) (fits code valid (length input) control_budget low).fit in
    let m = main_ends code (length input) control_budget valid in
    let (ns, long, holds) = all_of (IsStepsAt ends code valid made.activations input task_budget fit) (length made.activations) (steps_at ends code valid made.activations input task_budget fit) in
    record {
      of_main = m.steps;
      main_ends = subst (λ (c : Control). ControlEnds code (length input) control_budget c m.steps) (sym control_is) m.ends;
      of_tasks = ns;
      tasks_end = record {
        one_each = long;
        ran = λ a n x inputs at stands over. (holds a n stands).ran x inputs at over;
        never_ran = λ a n stands not. (holds a n stands).never_ran not;
      };
      few = together m.steps (most_steps code control_budget) (sum ns) (length ns * most_steps code task_budget)
          (length made.activations * most_steps code task_budget) m.few
          (sum_small (most_steps code task_budget) ns (λ a n stands. (holds a n stands).few)) (ap (λ n. n * most_steps code task_budget) long);
    }
  where
    together : (a most_a b most_b all_b : ℕ) → a ≤ most_a → b ≤ most_b → most_b ≡ all_b → a + b ≤ most_a + all_b
    together a most_a b most_b all_b first second same = omega (arith, first, second, same)
