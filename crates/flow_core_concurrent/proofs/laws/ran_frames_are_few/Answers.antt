use Rattle.flow_core_concurrent.proofs.Ran.{ran_are_frames, ran_are_few, ran_are_few_in_all}
use Rattle.flow_core_concurrent.proofs.laws.ran_frames_are_few.Goals as goal

pub returns-clause-frames : goal.returns-clause-frames
returns-clause-frames c = ran_are_frames

pub returns-clause-each : goal.returns-clause-each
returns-clause-each c = ran_are_few

pub returns-clause-all : goal.returns-clause-all
returns-clause-all c = ran_are_few_in_all
