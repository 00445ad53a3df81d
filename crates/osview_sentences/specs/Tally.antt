-- How many sentences are left to be told, by what they have in common.
use Rattle.std.specs.Prelude.{ℕ, ◌-◌, ◌==◌, if◌then◌else◌, List, [], ◌++◌, unwrap_or}
use Rattle.std.specs.BTreeMap.{get}
use Rattle.os_io.specs.Lines.{ended_line}
use Rattle.osview_sentences.specs.Report.{more_text}
use Rattle.osview_sentences.specs.contracts.likeness.LikenessOrd.TheImpl as likeness_order
use Rattle.osview_sentences.specs.declared.fact.Fact.{Fact}
use Rattle.osview_sentences.specs.declared.fact.Fact.TheVariants as fact
use Rattle.osview_sentences.specs.declared.fact.Sentence.{Sentence}
use Rattle.osview_sentences.specs.declared.fact.Supply.{Supply}
use Rattle.osview_sentences.specs.declared.fact.Supply.TheVariants as supply
use Rattle.osview_sentences.specs.declared.likeness.Likeness.{Likeness}
use Rattle.osview_sentences.specs.declared.likeness.Way.{Way}
use Rattle.osview_sentences.specs.declared.likeness.Way.TheVariants as way
use Rattle.osview_sentences.specs.declared.likeness.What.{What}
use Rattle.osview_sentences.specs.declared.likeness.What.TheVariants as what
use Rattle.osview_sentences.specs.declared.tally.Tally.{Tally}

-- how an element is to be given
abbrev pub way_of : Supply → Way
way_of supply.Ended = way.Ended
way_of supply.Nobody = way.Nobody
way_of supply.Itself = way.Itself
way_of (supply.Waiting giver) = way.Waiting

-- what became of an activation
abbrev pub what_of : Fact → What
what_of (fact.Trapped code line) = what.Trapped code line
what_of fact.OverBudget = what.OverBudget
what_of (fact.Poisoned root) = what.Poisoned root
what_of (fact.Waits stream position by) = what.Waits stream (way_of by)

-- what sentences have in common that are alike
abbrev pub likeness : Sentence → Likeness
likeness s = record { task_line = s.task_line; what = what_of s.fact }

-- how many are left that are like a sentence
abbrev pub left : Tally → Sentence → ℕ
left tally s = unwrap_or (get (likeness_order.ghosts).cmp tally.counts (likeness s)) 0

-- one sentence for `count` activations that are alike, if there are any
abbrev pub told_for : (say : Sentence → List ℕ) → Sentence → (count : ℕ) → List ℕ
told_for say s count = if count == 0 then [] else ended_line (say s ++ more_text (count - 1))
