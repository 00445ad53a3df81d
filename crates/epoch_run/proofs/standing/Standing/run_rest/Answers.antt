use Rattle.std.proofs.Common.{refl, subst, sym}
use Rattle.control_run.specs.Stretches.{created_so_far}
use Rattle.stream_match_layouts.specs.Layout.{IsLayout, IsLayoutOf}
use Rattle.epoch_run.specs.declared.standing.Standing.{Standing}
use Rattle.epoch_run.proofs.Going.{comes_to, whole_layout}
use Rattle.epoch_run.proofs.standing.Standing.run_rest.Goals as goal

pub returns-clause-layout : goal.returns-clause-layout
returns-clause-layout g c =
    subst (λ (s : Standing). IsLayoutOf s.layout (created_so_far c.args.self.now.control)) (sym c.in_ok-run.ensures.same) c.requires.stands.laid

pub returns-clause-whole : goal.returns-clause-whole
returns-clause-whole g c =
    subst (λ (s : Standing). IsLayout s.layout) (sym c.in_ok-run.ensures.same) (whole_layout c.args.code.now c.args.input.now c.args.budgets c.args.self.now c.requires.budgets c.requires.stands)

pub returns-clause-ends : goal.returns-clause-ends
returns-clause-ends g c =
    comes_to c.args.code.now c.args.input.now c.args.budgets c.args.self.now c.requires.budgets c.requires.stands c.run.new.self.held
    (created_so_far c.args.self.now.control) refl c.in_ok-run.ensures.run.held
