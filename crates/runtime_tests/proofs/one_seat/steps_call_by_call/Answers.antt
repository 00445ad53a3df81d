use Rattle.std.proofs.Common.{◌∙◌, sym, subst}
use Rattle.std.specs.Prelude.{⊤}
use Rattle.flow_core_laws.specs.declared.plan.Plan.{Plan}
use Rattle.flow_core_laws.specs.IsSound.{IsSound}
use Rattle.flow_core_laws.specs.Serves.{Serves}
use Rattle.flow_core_concurrent.proofs.Fitting.{reader_fit}
use Rattle.flow_core_concurrent.specs.ReaderFirst.{outcome}
use Rattle.runtime_tests.proofs.SeatSteps.{serves, opened_for, only_seat}
use Rattle.runtime_tests.proofs.one_seat.steps_call_by_call.Goals as goal

pub open-requires-clause-sound : goal.open-requires-clause-sound
open-requires-clause-sound g c = λ _. subst (λ (p : Plan). IsSound p) (sym c.in_ok-plan.ensures) reader_fit.plan_is_sound

pub open-requires-clause-serves : goal.open-requires-clause-serves
open-requires-clause-serves g c = λ _. subst (λ (p : Plan). Serves p outcome (λ f inputs outputs. ⊤)) (sym c.in_ok-plan.ensures) serves

pub steps-requires : goal.steps-requires
steps-requires g c = only_seat _ _ _ (c.in_ok-table.ensures.known ∙ opened_for _ c.in_ok-plan.ensures) c.in_ok-table.ensures.all c.in_ok-table.ensures.fresh c.remove-seat.ensures.value
