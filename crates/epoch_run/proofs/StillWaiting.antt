-- That what waited before an epoch waits still, and that none may run, where all new activations wait.
use Rattle.std.proofs.Common.{◌≡◌, ℕ, ℤ, ◌<◌, ◌≤◌, ◌⊎◌, List, [], ◌++◌, Option, None, inl, inr, length, sym, ap, ◌∙◌, subst, arith}
use Rattle.std.specs.Prelude.{Contains}
use Rattle.std.proofs.lemmas.Bool.{cases_lt}
use Rattle.epoch_run_bodies.specs.Frames.{TakesFrame, frame_outcome}
use Rattle.epoch_run_bodies.specs.Laws.{LaterActivationsChangeNothing}
use Rattle.epoch_run_ready.proofs.StillWaiting.{waits_on}
use Rattle.epoch_run_ready.specs.Newest.{WaitBefore, WaitFrom}
use Rattle.flow_core_epochs.specs.Epoch.{CannotCome, LeaveOutWaiting, ServesAll}
use Rattle.flow_core_laws.specs.Outcome.{ends_of, outcome_at}
use Rattle.flow_core_laws.specs.Place.{input_places}
use Rattle.flow_core_laws.specs.Streams.{stream_meaning, stream_source}
use Rattle.flow_core_laws.specs.declared.activation.Activation.{Activation}
use Rattle.flow_core_laws.specs.declared.outcome.Outcome.{Outcome}
use Rattle.flow_core_laws.specs.declared.place.Place.{Place}
use Rattle.flow_core_laws.specs.declared.task_end.TaskEnd.{TaskEnd}
use Rattle.os_code.specs.declared.parts.Parts.{Parts}
use Rattle.epoch_run.proofs.Step.{length-ends}
use Rattle.epoch_run.specs.Held.{IsHeldBefore}
use Rattle.epoch_run.specs.declared.held.Held.{Held}

-- an activation reads an element that can't come where none runs
abbrev Waits : List Activation → List ℕ → List (Option TaskEnd) → ℕ → Type 0
Waits activations input ends a = (p : Place) × (Contains (input_places activations a) p) × CannotCome ends [] (stream_source activations input p)

-- what had no end in what is held waits still, where nothing new runs
pub wait_before : (code : Parts) (activations : List Activation) (input : List ℕ) (budget : ℕ) (held : Held) → LaterActivationsChangeNothing
    → IsHeldBefore code activations input budget held → ServesAll activations (frame_outcome code activations budget) (TakesFrame code activations budget) → WaitBefore activations input held.ends.ends (length held.ends.ends)
wait_before code activations input budget held later is serves a old none =
    subst (λ (xs : List Activation). Waits xs input held.ends.ends a) (sym is.are_all)
    (subst (λ (es : List (Option TaskEnd)). Waits (is.before ++ is.new) input es a) (sym ends_are)
    (waits_on is.before is.new input body (TakesFrame code (is.before ++ is.new) budget) serves_all a (omega (arith, many)) (ap (λ (es : List (Option TaskEnd)). outcome_at es a) (sym ends_are) ∙ none)))
  where
    body : ℕ → List ℤ → Outcome
    body = frame_outcome code (is.before ++ is.new) budget

    serves_all : ServesAll (is.before ++ is.new) (frame_outcome code (is.before ++ is.new) budget) (TakesFrame code (is.before ++ is.new) budget)
    serves_all = subst (λ (xs : List Activation). ServesAll xs (frame_outcome code xs budget) (TakesFrame code xs budget)) is.are_all serves

    ends_are : held.ends.ends ≡ ends_of (stream_meaning is.before input (frame_outcome code (is.before ++ is.new) budget))
    ends_are = is.meant.is_meant.ends_are_meant ∙ ap ends_of (later code is.before is.new input budget)

    many : length held.ends.ends ≡ length is.before
    many = ap length ends_are ∙ length-ends is.before input (frame_outcome code (is.before ++ is.new) budget)

-- where all new ones wait, none may run
pub none_may_run : (code : Parts) (activations : List Activation) (input : List ℕ) (budget : ℕ) (held : Held) → LaterActivationsChangeNothing
    → IsHeldBefore code activations input budget held → ServesAll activations (frame_outcome code activations budget) (TakesFrame code activations budget)
    → WaitFrom activations input held.ends.ends (length held.ends.ends) → LeaveOutWaiting activations input held.ends.ends []
none_may_run code activations input budget held later is serves new_wait = record {
  are_open = λ f a h. absurd (cc);
  ascend = λ f g a b lt h also. absurd (cc);
  others_wait = λ a lt none out. by a lt none (cases_lt a (length held.ends.ends));
}
  where
    by : (a : ℕ) → a < length activations → outcome_at held.ends.ends a ≡ None → (a < length held.ends.ends) ⊎ (length held.ends.ends ≤ a) → Waits activations input held.ends.ends a
    by a lt none (inl old) = wait_before code activations input budget held later is serves a old none
    by a lt none (inr new) = new_wait a new lt
