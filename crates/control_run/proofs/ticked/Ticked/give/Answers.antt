use Rattle.std.proofs.Common.{List, ℕ, sym, ap, ◌∙◌}
use Rattle.os_code.specs.Machine.{skip_at}
use Rattle.control_run.proofs.Untaken.{stays}
use Rattle.control_run.proofs.ticked.Ticked.give.Goals as goal

pub returns-else-self-clause-claims : goal.returns-else-self-clause-claims
returns-else-self-clause-claims c =
    sym (stays c.args.self.now c.args.claims.now (λ stream. ap (λ (amounts : List ℕ). skip_at amounts stream) (sym c.self.view_is) ∙ c.self.invariant c.if-self.false stream) c.requires.nothing).claims_are

pub returns-else-self-clause-skips : goal.returns-else-self-clause-skips
returns-else-self-clause-skips c =
    sym (stays c.args.self.now c.args.claims.now (λ stream. ap (λ (amounts : List ℕ). skip_at amounts stream) (sym c.self.view_is) ∙ c.self.invariant c.if-self.false stream) c.requires.nothing).skips_are
