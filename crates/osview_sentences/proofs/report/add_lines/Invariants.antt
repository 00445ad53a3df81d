use Rattle.std.proofs.Common.{◌≡◌, ◌++◌, cond, count_by, take}
use Rattle.std.specs.List.{flat_map, list_any, range_with_len}
use Rattle.osview_sentences.specs.Contexts.{say_over}
use Rattle.osview_sentences.specs.Report.{line_at}
use Rattle.osview_sentences.specs.Sentences.{is_alike}
use Rattle.osview_sentences.specs.Tally.{left}
use Rattle.osview_sentences.specs.declared.fact.Sentence.{Sentence}
use Rattle.osview_sentences.proofs.report.add_lines.Given as goal

-- the lines so far were added, and of those that are like one of them none is left
abbrev pub invariant-loop-sentence : goal.invariant-loop-sentence
invariant-loop-sentence l = record {
  told : l.told ≡ l.initial.told ++ flat_map (line_at (say_over l.over.run) l.all) (range_with_len 0 l.sentence-index);
  rest : (s : Sentence) → left l.tally s ≡ cond (list_any (is_alike s) (take l.sentence-index l.all)) 0 (count_by (is_alike s) l.all);
}
