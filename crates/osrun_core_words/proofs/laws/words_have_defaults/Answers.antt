use Rattle.osrun_core_words.proofs.Defaults as named
use Rattle.osrun_core_words.proofs.laws.words_have_defaults.Goals as goal

pub returns : goal.returns
returns c = record { defaults = named.defaults; options = named.options }
