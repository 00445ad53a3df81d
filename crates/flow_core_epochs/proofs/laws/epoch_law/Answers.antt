use Rattle.flow_core_epochs.proofs.Epochs.{adds_up, frames_end}
use Rattle.flow_core_epochs.proofs.Leaving.{sink_leaves}
use Rattle.flow_core_epochs.proofs.Opening.{has_epoch}
use Rattle.flow_core_epochs.proofs.laws.epoch_law.Goals as goal

pub returns-clause-adds_up : goal.returns-clause-adds_up
returns-clause-adds_up c = λ before new input body state readers frames kept plan places e. adds_up before new input body state readers frames kept plan places (has_epoch before new input body state readers frames kept plan places e)

pub returns-clause-sink : goal.returns-clause-sink
returns-clause-sink c = λ before new input body state readers frames kept plan places e. sink_leaves before new input body state readers frames kept plan places (has_epoch before new input body state readers frames kept plan places e)

pub returns-clause-frames_end : goal.returns-clause-frames_end
returns-clause-frames_end c = λ before new input body state readers frames kept plan places e. frames_end before new input body state readers frames kept plan places (has_epoch before new input body state readers frames kept plan places e)
