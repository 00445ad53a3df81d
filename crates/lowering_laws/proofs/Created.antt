-- What `main` of a valid code creates is lawful, and so is what the control program of a program with a code creates.
use Rattle.std.proofs.Common.{subst}
use Rattle.control_run.proofs.All.{all-taken}
use Rattle.flow_core_laws.specs.declared.control.Control.{Control}
use Rattle.os_ast.specs.Violations.{streams}
use Rattle.os_code.specs.Outcomes.{main_control}
use Rattle.stream_match_layouts.specs.Lawful.{AreLawful}
use Rattle.lowering_laws.specs.Laws.{ActivationsFit, CreatesLawful, HasCode, OfAccepted, OfCodes}

pub codes : OfCodes ActivationsFit
codes code valid input_len budget low =
    let taken = all-taken code valid input_len budget low in
    record { fit = taken.fit; lawful = taken.lawful }

pub programs : OfAccepted HasCode → OfAccepted CreatesLawful
programs have text p short accepted input_len budget low =
    let is = have text p short accepted in
    subst (λ (made : Control). AreLawful (streams p) made.activations) (is.control input_len budget)
    (subst (λ n. AreLawful n (main_control is.code input_len budget).activations) is.stands.has.counted
    (codes is.code is.stands.valid input_len budget low).lawful)
