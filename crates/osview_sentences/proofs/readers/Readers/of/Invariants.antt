use Rattle.std.proofs.Common.{◌≡◌, ℕ, drop}
use Rattle.std.specs.Option.{option_or}
use Rattle.osview_sentences.specs.FirstReaders.{found}
use Rattle.osview_sentences.specs.Readers.{other_reader}
use Rattle.osview_sentences.proofs.readers.Readers.of.Given as goal

-- who isn't found among the claims so far stands among the others
abbrev pub invariant-loop-span : goal.invariant-loop-span
invariant-loop-span l =
    (stream at : ℕ) → option_or (found l.readers stream at) (other_reader (drop l.span-index l.spans) l.lines stream at) ≡ other_reader l.spans l.lines stream at
