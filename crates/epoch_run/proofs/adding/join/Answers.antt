use Rattle.std.proofs.Common.{ap, length, subst, sym, ◌∙◌, ◌++◌}
use Rattle.stream_match_layouts.specs.Layout.{IsLayoutOf}
use Rattle.stream_match_layouts.specs.declared.layout.Layout.{Layout}
use Rattle.epoch_run.proofs.LaidBehind.{fits, length-joined}
use Rattle.epoch_run.proofs.adding.join.Goals as goal

pub join_to-requires : goal.join_to-requires
join_to-requires c = fits c.args.layout.now c.args.laid c.args.next.now c.requires.takes c.requires.laid

pub returns-clause-laid : goal.returns-clause-laid
returns-clause-laid c = λ before is_of.
    subst (λ (l : Layout). IsLayoutOf l (before ++ c.args.next.now)) (sym c.in_ok-join_to.ensures) (c.requires.laid.laid before is_of)

pub returns-clause-streams : goal.returns-clause-streams
returns-clause-streams c = ap (λ (l : Layout). length l.writers) c.in_ok-join_to.ensures ∙ length-joined c.args.layout.now c.args.laid
