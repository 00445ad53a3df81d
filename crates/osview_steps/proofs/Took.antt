-- One more run.
use Rattle.std.proofs.Common.{◌≡◌, ◌∙◌, ◌⊎◌, inl, inr, ℕ, zero, suc, ◌++◌, List, [], ◌∷◌, Some, length, refl, subst, sym, ap}
use Rattle.std.specs.Prelude.{slice_get}
use Rattle.std.proofs.lemmas.Option.{same_Some}
use Rattle.flow_core_laws.specs.declared.activation.Activation.{Activation}
use Rattle.os_code.specs.declared.parts.Parts.{Parts}
use Rattle.osview_outcomes.specs.declared.kept.Outcomes.{Outcomes}
use Rattle.osview_steps.specs.Taking.{HaveRun, Took, end_at, inputs_at}
use Rattle.osview_steps.specs.declared.runs.TaskRun.{TaskRun}

-- what stands in a list with one more at the end
at_end : {X : Type 0} (xs : List X) (y x : X) (i : ℕ) → slice_get (xs ++ y ∷ []) i ≡ Some x → (slice_get xs i ≡ Some x) ⊎ ((i ≡ length xs) × (y ≡ x))
at_end [] y x zero h = inr (refl, same_Some y x h)
at_end [] y x (suc i) h = absurd (cc)
at_end (z ∷ xs) y x zero h = inl h
at_end {X = X} (z ∷ xs) y x (suc i) h = further (at_end xs y x i h)
  where
    further : (slice_get xs i ≡ Some x) ⊎ ((i ≡ length xs) × (y ≡ x)) → (slice_get xs i ≡ Some x) ⊎ ((suc i ≡ suc (length xs)) × (y ≡ x))
    further (inl e) = inl e
    further (inr (at, is)) = inr (ap suc at, is)

pub none_run : (code : Parts) (activations : List Activation) (budget : ℕ) (outcomes : Outcomes) → HaveRun code activations budget outcomes []
none_run code activations budget outcomes = record {
  of_tasks = λ a x r _ h. absurd (cc);
  took = λ a x r _ h. absurd (cc);
}

pub one_more_run : (code : Parts) (activations : List Activation) (budget : ℕ) (outcomes : Outcomes) (runs : List TaskRun) (place : ℕ) (x : Activation) (run : TaskRun)
    → HaveRun code activations budget outcomes runs → length runs ≡ place → slice_get activations place ≡ Some x → run.task ≡ x.site
    → Took code x (inputs_at outcomes place) budget (end_at outcomes place) run.took → HaveRun code activations budget outcomes (runs ++ run ∷ [])
one_more_run code activations budget outcomes runs place x run old many is task took = record {
  of_tasks = λ a y r y_is r_is. task_at a y r y_is (at_end runs run r a r_is);
  took = λ a y r y_is r_is. took_at a y r y_is (at_end runs run r a r_is);
}
  where
    same : (a : ℕ) (y : Activation) → slice_get activations a ≡ Some y → a ≡ length runs → x ≡ y
    same a y y_is at = same_Some x y (sym is ∙ ap (slice_get activations) (sym (at ∙ many)) ∙ y_is)

    task_at : (a : ℕ) (y : Activation) (r : TaskRun) → slice_get activations a ≡ Some y → (slice_get runs a ≡ Some r) ⊎ ((a ≡ length runs) × (run ≡ r)) → r.task ≡ y.site
    task_at a y r y_is (inl earlier) = old.of_tasks a y r y_is earlier
    task_at a y r y_is (inr (at, r_is)) = ap (λ (q : TaskRun). q.task) (sym r_is) ∙ task ∙ ap (λ (z : Activation). z.site) (same a y y_is at)

    took_at : (a : ℕ) (y : Activation) (r : TaskRun) → slice_get activations a ≡ Some y → (slice_get runs a ≡ Some r) ⊎ ((a ≡ length runs) × (run ≡ r))
        → Took code y (inputs_at outcomes a) budget (end_at outcomes a) r.took
    took_at a y r y_is (inl earlier) = old.took a y r y_is earlier
    took_at a y r y_is (inr (at, r_is)) =
        subst (λ (q : TaskRun). Took code y (inputs_at outcomes a) budget (end_at outcomes a) q.took) r_is
        (subst (λ (z : Activation). Took code z (inputs_at outcomes a) budget (end_at outcomes a) run.took) (same a y y_is at)
        (subst (λ (k : ℕ). Took code x (inputs_at outcomes k) budget (end_at outcomes k) run.took) (sym (at ∙ many)) took))
