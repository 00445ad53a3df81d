-- What there is to tell of an activation: its status, and that it is one thing.
use Rattle.std.proofs.Common.{◌≡◌, ◌∙◌, ℕ, ◌<◌, true, false, List, Option, ap, sym, refl, arith}
use Rattle.collector.specs.Missing.{missing}
use Rattle.flow_core_laws.specs.declared.activation.Activation.{Activation}
use Rattle.flow_core_laws.specs.declared.task_end.TaskEnd.{TaskEnd}
use Rattle.osrun_core_answer.specs.Explained.{finding_status}
use Rattle.wait_certs.specs.Finding.{IsFinding}
use Rattle.wait_certs.specs.declared.finding.Finding.{Finding}
use Rattle.wait_certs.specs.declared.finding.Finding.TheVariants.{Absent, Ended, Starved}
use Rattle.wait_certs_laws.specs.Chain.{last_of}
use Rattle.wait_certs_laws.specs.Laws.{OneWalk}

-- the status is 0 or 1
pub small_status : (f : Finding) (n : ℕ) → n ≡ finding_status f → n < 2
small_status Absent n e = omega arith
small_status Ended n e = omega arith
small_status (Starved members last) n e = omega arith

-- there is one thing to tell of an activation
pub same_finding : OneWalk → (activations : List Activation) (input_len : ℕ) (ends : List (Option TaskEnd)) (a : ℕ) (f g : Finding)
    → IsFinding activations input_len ends a f → IsFinding activations input_len ends a g → f ≡ g
same_finding one activations input_len ends a Absent Absent is too = refl
same_finding one activations input_len ends a Absent Ended is too = absurd (let there = too.0 in omega (arith, is, there))
same_finding one activations input_len ends a Absent (Starved members last) is too = absurd (let there = too.0 in omega (arith, is, there))
same_finding one activations input_len ends a Ended Absent is too = absurd (let there = is.0 in omega (arith, too, there))
same_finding one activations input_len ends a Ended Ended is too = refl
same_finding one activations input_len ends a Ended (Starved members last) is too = absurd (let never : true ≡ false = sym is.1 ∙ too.1 in cc)
same_finding one activations input_len ends a (Starved members last) Absent is too = absurd (let there = is.0 in omega (arith, too, there))
same_finding one activations input_len ends a (Starved members last) Ended is too = absurd (let never : true ≡ false = sym too.1 ∙ is.1 in cc)
same_finding one activations input_len ends a (Starved members last) (Starved others other) is too =
    let same = one activations input_len ends a members others is.2 too.2 in
    let misses : last ≡ other = is.3 ∙ ap (λ ms. missing activations input_len ends (last_of ms)) same ∙ sym too.3 in
    ap (λ ms. Starved ms last) same ∙ ap (Starved others) misses
