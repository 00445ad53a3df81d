-- What two lists of words name, by computation.
use Rattle.std.proofs.Common.{refl}
use Rattle.clap.specs.Faults.{defaults_fault, flags_fault, walk_fault}
use Rattle.clap.specs.Takes.{flags_pass, walk_passes}
use Rattle.clap.specs.Walk.{bundle_met, walked}
use Rattle.osrun_core_words.specs.Command.{request_by}
use Rattle.osrun_core_words.specs.Defaults.{HasDefaults, TakesOptions}

pub defaults : HasDefaults
unfolding request_by walk_fault defaults_fault flags_fault flags_pass walk_passes bundle_met walked
defaults = refl

pub options : TakesOptions
unfolding request_by walk_fault defaults_fault flags_fault flags_pass walk_passes bundle_met walked
options = refl
