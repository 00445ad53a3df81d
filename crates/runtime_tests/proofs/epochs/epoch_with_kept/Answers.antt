use Rattle.runtime_tests.specs.Worked.{worked}
use Rattle.runtime_tests.proofs.KeptOne.{kept_outside}
use Rattle.runtime_tests.proofs.epochs.epoch_with_kept.Goals as goal

pub build_epoch-requires-clause-kept : goal.build_epoch-requires-clause-kept
build_epoch-requires-clause-kept c = record { activations = worked; is_of = c.requires.of; outside = kept_outside }
