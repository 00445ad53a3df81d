use Rattle.std.proofs.Common.{◌++◌}
use Rattle.flow_core_epochs.proofs.Epochs.{adds_up}
use Rattle.flow_core_epochs.proofs.Opening.{has_epoch}
use Rattle.stream_match.proofs.EpochStands.{epoch_stands}
use Rattle.stream_match.proofs.epoch_laws.epoch_plans_stand.Goals as goal

pub returns-clause-stand : goal.returns-clause-stand
returns-clause-stand c = λ layout input readers frames kept cursors plan places activations is of are outside cursors_are laid.
    epoch_stands layout is activations of input readers frames kept cursors are outside cursors_are plan places laid

pub returns-clause-go_on : goal.returns-clause-go_on
returns-clause-go_on c = λ layout input readers frames kept cursors plan places before new body state is of are outside cursors_are part readers_are chosen kept_for laid.
    adds_up before new input body state readers frames kept plan places (has_epoch before new input body state readers frames kept plan places (record {
      state_is_part = part;
      readers_are_open = readers_are;
      frames_are_chosen = chosen;
      has_kept = kept_for;
      plan_stands = epoch_stands layout is (before ++ new) of input readers frames kept cursors are outside cursors_are plan places laid;
    }))
