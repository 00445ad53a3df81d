use Rattle.std.proofs.Common.{◌≡◌, count_by, take}
use Rattle.osview_sentences.specs.Sentences.{is_alike}
use Rattle.osview_sentences.specs.Tally.{left}
use Rattle.osview_sentences.specs.declared.fact.Sentence.{Sentence}
use Rattle.osview_sentences.proofs.tally.Tally.of.Given as goal

-- those so far were counted
abbrev pub invariant-loop-sentence : goal.invariant-loop-sentence
invariant-loop-sentence l = (s : Sentence) → left l.tally s ≡ count_by (is_alike s) (take l.sentence-index l.all)
