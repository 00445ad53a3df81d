-- The lines of the first two tasks that read a stream, as they are kept.
use Rattle.std.specs.Prelude.{◌≡◌, ℕ, ◌==◌, ◌&&◌, not, is_none, if◌then◌else◌, List, [], Option, Some, None, slice_index_or}
use Rattle.std.specs.BTreeMap.{get}
use Rattle.std.specs.Ordering.{nat_cmp}
use Rattle.osview_sentences.specs.Readers.{is_other_reader, other_reader, shared_text}
use Rattle.osview_sentences.specs.declared.fact.Fact.{Fact}
use Rattle.osview_sentences.specs.declared.fact.Fact.TheVariants as fact
use Rattle.osview_sentences.specs.declared.readers.Readers.{Readers}
use Rattle.osview_sentences.specs.declared.readers.Two.{Two}
use Rattle.stream_match_layouts.specs.declared.span.Span.{Span}

abbrev pub lines_of : Readers → ℕ → Option Two
lines_of readers stream = get nat_cmp readers.lines stream

-- the second line, where one more claim has a line
abbrev pub second_line : Two → ℕ → Option ℕ
second_line two line = if is_none two.second && not (two.first == line) then Some line else two.second

abbrev pub with_line : Option Two → ℕ → Two
with_line None line = record { first = line; second = None }
with_line (Some two) line = record { first = two.first; second = second_line two line }

-- the lines of stream `other`, once one more claim reads `stream` for a task in `line`
abbrev pub with_line_at : (stream line other : ℕ) → Option Two → Option Two
with_line_at stream line other two = if stream == other then Some (with_line two line) else two

-- the first of two lines that is another one than this
abbrev pub other_line : Option Two → ℕ → Option ℕ
other_line None at = None
other_line (Some two) at = if two.first == at then two.second else Some two.first

abbrev pub found : Readers → (stream at : ℕ) → Option ℕ
found readers stream at = other_line (lines_of readers stream) at

-- the line of a claim that reads a stream for another task
abbrev pub line_if_reads : (lines : List ℕ) → (stream at : ℕ) → Span → Option ℕ
line_if_reads lines stream at span = if is_other_reader lines stream at span then Some (slice_index_or lines span.frame 0) else None

-- the line that is found of another reader is the one that the claims have
abbrev pub AreReaders : List Span → (lines : List ℕ) → Readers → Type 0
AreReaders spans lines readers = (stream at : ℕ) → found readers stream at ≡ other_reader spans lines stream at

abbrev pub also_found : Readers → (at : ℕ) → Fact → List ℕ
also_found readers at (fact.Trapped code line) = []
also_found readers at fact.OverBudget = []
also_found readers at (fact.Poisoned root) = []
also_found readers at (fact.Waits stream position by) = shared_text by (found readers stream at)
