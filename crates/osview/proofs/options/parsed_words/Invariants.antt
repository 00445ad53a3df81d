use Rattle.std.proofs.Common.{◌-◌, length}
use Rattle.osview.specs.Words.{AreWithin}
use Rattle.osview.proofs.options.parsed_words.Given as goal

-- the options so far are within their bounds
abbrev pub invariant-loop-place : goal.invariant-loop-place
invariant-loop-place l = AreWithin l.parsed.options

abbrev pub decreases-loop-place : goal.decreases-loop-place
decreases-loop-place l = length l.words - l.place
