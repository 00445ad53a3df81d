-- The tasks that read a stream.
use Rattle.std.specs.Prelude.{ℕ, ◌==◌, ◌&&◌, not, Bool, List, [], ◌++◌, Option, codes, find, map, slice_index_or}
use Rattle.std.specs.Fmt.{decimal}
use Rattle.std.specs.Option.{option_map, option_map_or}
use Rattle.flow_core_laws.specs.Window.{windows}
use Rattle.flow_core_laws.specs.declared.activation.Activation.{Activation}
use Rattle.osview_sentences.specs.declared.fact.Fact.{Fact}
use Rattle.osview_sentences.specs.declared.fact.Fact.TheVariants as fact
use Rattle.osview_sentences.specs.declared.fact.Supply.{Supply}
use Rattle.osview_sentences.specs.declared.fact.Supply.TheVariants as supply
use Rattle.stream_match_layouts.specs.Layout.{span_of}
use Rattle.stream_match_layouts.specs.declared.span.Span.{Span}

-- the claims of activations with their positions
abbrev pub spans_of : List Activation → List Span
spans_of activations = map span_of (windows activations)

-- whether a claim reads a stream for an activation whose task doesn't stand in this line
abbrev pub is_other_reader : (lines : List ℕ) → (stream at : ℕ) → Span → Bool
is_other_reader lines stream at span = not span.write && (span.stream == stream) && not (slice_index_or lines span.frame 0 == at)

-- The line of another task that reads a stream, that of the first such claim.
abbrev pub other_reader : List Span → (lines : List ℕ) → (stream at : ℕ) → Option ℕ
other_reader spans lines stream at =
    option_map (λ (span : Span). slice_index_or lines span.frame 0) (find (is_other_reader lines stream at) spans)

-- another task reads the stream
abbrev pub reads_text : ℕ → List ℕ
reads_text at = codes "; the task in line " ++ decimal at ++ codes " reads this stream too"

abbrev pub shared_text : Supply → Option ℕ → List ℕ
shared_text supply.Ended other = []
shared_text supply.Nobody other = option_map_or reads_text other []
shared_text supply.Itself other = []
shared_text (supply.Waiting giver) other = []

-- Where an activation of a task waits for what nobody writes: whether another task reads the stream, since each reader takes
-- elements of its own.
abbrev pub also_text : List Span → (lines : List ℕ) → (at : ℕ) → Fact → List ℕ
also_text spans lines at (fact.Trapped code line) = []
also_text spans lines at fact.OverBudget = []
also_text spans lines at (fact.Poisoned root) = []
also_text spans lines at (fact.Waits stream position by) = shared_text by (other_reader spans lines stream at)
