use Rattle.std.proofs.Common.{◌≡◌, List, Option, Some, ◌∙◌, ap, subst}
use Rattle.std.specs.Prelude.{IfSome}
use Rattle.control_run.specs.Stretches.{created_so_far}
use Rattle.flow_core_laws.specs.declared.activation.Activation.{Activation}
use Rattle.os_code.specs.Codes.{parts_of}
use Rattle.epoch_run_bodies.specs.Frames.{code_ends}
use Rattle.epoch_run.specs.Run.{created}
use Rattle.epoch_run.proofs.epochs.run_by.Goals as goal

-- what holds if there is a value holds where there is one
of_some : {A : Type 0} (P : Type 0) (o : Option A) (x : A) → o ≡ Some x → IfSome o (λ y. P) → P
of_some {A = A} P o x is h = subst (λ (p : Option A). IfSome p (λ y. P)) is h

pub returns-clause-ends : goal.returns-clause-ends
returns-clause-ends g c =
    let all : created_so_far c.go_on.new.self.control ≡ created (parts_of c.args.code.now) c.args.input.now c.args.budgets =
    of_some (created_so_far c.go_on.new.self.control ≡ created (parts_of c.args.code.now) c.args.input.now c.args.budgets) c.in_ok-end.end c.in-Some.end c.in-Some.is c.in_ok-end.ensures.all in
    c.in_ok-run_last.ensures.ends
    ∙ ap (λ (xs : List Activation). code_ends (parts_of c.args.code.now) xs c.args.input.now c.args.budgets.task) all
