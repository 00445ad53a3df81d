-- How many elements a stream has and how many are asked for, and windows whose burst isn't their size.
use Rattle.std.specs.Prelude.{ℕ, ◌+◌, ◌==◌, ◌&&◌, not, max, Bool, if◌then◌else◌, List, [], ◌++◌, Option, codes, find, map}
use Rattle.std.specs.Fmt.{decimal}
use Rattle.std.specs.List.{fold}
use Rattle.std.specs.Option.{option_map_or}
use Rattle.flow_core_laws.specs.Place.{written_count}
use Rattle.flow_core_laws.specs.Window.{claims_at}
use Rattle.flow_core_laws.specs.declared.activation.Activation.{Activation}
use Rattle.flow_core_laws.specs.declared.claim.Claim.{Claim}
use Rattle.osview_sentences.specs.Readers.{spans_of}
use Rattle.osview_sentences.specs.declared.fact.Fact.{Fact}
use Rattle.osview_sentences.specs.declared.fact.Fact.TheVariants as fact
use Rattle.osview_sentences.specs.declared.fact.Supply.{Supply}
use Rattle.osview_sentences.specs.declared.fact.Supply.TheVariants as supply
use Rattle.stream_match_layouts.specs.declared.span.Span.{Span}

-- how many elements a stream has: the bytes of the input, and what activations claim for writing of the others
abbrev pub stream_length : List Activation → (input_len stream : ℕ) → ℕ
stream_length activations input_len stream = if stream == 0 then input_len else written_count activations stream

-- the position up to which a claim reads a stream; 0 where it doesn't
abbrev pub read_to : (stream : ℕ) → Span → ℕ
read_to stream span = if not span.write && (span.stream == stream) then span.first + span.count else 0

-- How many elements of a stream are asked for: those up to the last position that a claim reads.
abbrev pub asked_length : List Span → (stream : ℕ) → ℕ
asked_length spans stream = fold max 0 (map (read_to stream) spans)

-- a stream has some of the elements that it is asked for
abbrev pub share_asked_text : (there asked : ℕ) → List ℕ
share_asked_text there asked = codes "; the stream has " ++ decimal there ++ codes " of the " ++ decimal asked ++ codes " asked for"

-- how many elements there are, where the stream ends too early
abbrev pub lack_text : Supply → (there asked : ℕ) → List ℕ
lack_text supply.Ended there asked = share_asked_text there asked
lack_text supply.Nobody there asked = share_asked_text there asked
lack_text supply.Itself there asked = []
lack_text (supply.Waiting giver) there asked = []

-- how many elements a window covers, and by how many it moves the stream on
abbrev pub window_text : Claim → List ℕ
window_text claim = codes "its window has size " ++ decimal claim.horizon ++ codes " and burst " ++ decimal claim.burst

-- with a burst of 0 the next claim reads the same elements
abbrev pub look_text : (burst : ℕ) → List ℕ
look_text burst = if burst == 0 then codes ", which looks without taking" else []

abbrev pub uneven_text : Claim → List ℕ
uneven_text claim = codes "; " ++ window_text claim ++ look_text claim.burst

-- whether a claim reads a stream with another burst than its size
abbrev pub is_uneven : (stream : ℕ) → Claim → Bool
is_uneven stream claim = not claim.write && (claim.stream == stream) && not (claim.burst == claim.horizon)

-- the first claim of an activation that does
abbrev pub uneven_claim : List Activation → (a stream : ℕ) → Option Claim
uneven_claim activations a stream = find (is_uneven stream) (claims_at activations a)

-- an activation waits for an element of a stream: how many elements the stream has, and how the activation reads it
abbrev pub waits_amounts : List Activation → (input_len a stream : ℕ) → Supply → List ℕ
waits_amounts activations input_len a stream by =
    lack_text by (stream_length activations input_len stream) (asked_length (spans_of activations) stream)
    ++ option_map_or uneven_text (uneven_claim activations a stream) []

-- What is said of the numbers of elements where an activation waits: where its stream ends too early, how many elements the stream has
-- and how many are asked for; and where the burst of its window isn't the size, both.
abbrev pub amounts_text : List Activation → (input_len a : ℕ) → Fact → List ℕ
amounts_text activations input_len a (fact.Trapped code line) = []
amounts_text activations input_len a fact.OverBudget = []
amounts_text activations input_len a (fact.Poisoned root) = []
amounts_text activations input_len a (fact.Waits stream position by) = waits_amounts activations input_len a stream by
