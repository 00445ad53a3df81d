use Rattle.std.proofs.Common.{ℕ, pos, [], ◌∷◌, true, false, refl, sym, subst}
use Rattle.std.specs.Prelude.{slice_index_or}
use Rattle.runtime_tests.specs.declared.one_thread.Rule.{Rule}
use Rattle.flow_core_laws.specs.declared.plan.Plan.{Plan}
use Rattle.flow_core_laws.specs.declared.task_end.TaskEnd.TheVariants.{Done, Trapped, OverBudget}
use Rattle.flow_core_laws.specs.IsSound.{IsSound}
use Rattle.flow_core_laws.proofs.SoundTests.{IsSound-from_tests, Serves-from_rules, Serves-at}
use Rattle.runtime_tests.proofs.one_thread.runs_frames_copies_what_they_give_and_poisons_what_they_fail_to_give.Goals as goal

abbrev at : ℕ → Rule
at f = slice_index_or (record { end = Done; copies = true } ∷ record { end = Done; copies = true } ∷ record { end = Done; copies = true } ∷ record { end = Done; copies = true } ∷ record { end = Done; copies = false } ∷ record { end = Done; copies = true } ∷ record { end = Done; copies = true } ∷ record { end = Done; copies = true } ∷ record { end = Done; copies = true } ∷ record { end = Trapped 2 6; copies = true } ∷ record { end = OverBudget; copies = true } ∷ record { end = Done; copies = true } ∷ record { end = Done; copies = false } ∷ []) f record { end = Done; copies = false }

pub execute_one-requires-clause-sound : goal.execute_one-requires-clause-sound
execute_one-requires-clause-sound g c = λ _. subst (λ (p : Plan). IsSound p) (sym c.in_ok-plan.ensures) (IsSound-from_tests _ refl refl refl refl refl refl refl refl refl refl refl refl refl refl)

pub execute_one-requires-clause-served : goal.execute_one-requires-clause-served
execute_one-requires-clause-served g c = λ _. Serves-at _ _ c.in_ok-plan.ensures (Serves-from_rules _ 13 (λ f. (at f).end) (λ f. (at f).copies) (pos 41) refl refl refl)
