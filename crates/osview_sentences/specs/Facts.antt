-- What became of each activation that isn't done.
use Rattle.std.specs.Prelude.{ℕ, ◌==◌, if◌then◌else◌, List, [], ◌∷◌, Option, None, Some, length, slice_index_or}
use Rattle.std.specs.List.{flat_map, range_with_len}
use Rattle.std.specs.Option.{option_map, option_map_or}
use Rattle.collector.specs.Missing.{missing}
use Rattle.collector.specs.declared.missing.Missing.{Missing}
use Rattle.flow_core_laws.specs.declared.activation.Activation.{Activation}
use Rattle.flow_core_laws.specs.declared.task_end.TaskEnd.{TaskEnd}
use Rattle.flow_core_laws.specs.declared.task_end.TaskEnd.TheVariants as task_end
use Rattle.osview_sentences.specs.declared.fact.Fact.{Fact}
use Rattle.osview_sentences.specs.declared.fact.Fact.TheVariants as fact
use Rattle.osview_sentences.specs.declared.fact.Sentence.{Sentence}
use Rattle.osview_sentences.specs.declared.fact.Supply.{Supply}
use Rattle.osview_sentences.specs.declared.fact.Supply.TheVariants as supply

-- an element that no activation writes: of the input, which is stream 0, it stands past the end
abbrev pub given_by_none : ℕ → Supply
given_by_none stream = if stream == 0 then supply.Ended else supply.Nobody

-- Who should give the element that an activation misses. Another activation has no end either: with one the element would be
-- there, if only as poison.
abbrev pub supply_of : ℕ → Missing → Supply
supply_of a m = option_map_or (λ giver. if giver == a then supply.Itself else supply.Waiting giver) m.producer (given_by_none m.stream)

-- an activation waits for its first missing element
abbrev pub waiting_for : ℕ → Missing → Fact
waiting_for a m = fact.Waits m.stream m.position (supply_of a m)

-- an activation ended; of one that is Done nothing is told
abbrev pub ended_by : TaskEnd → Option Fact
ended_by task_end.Done = None
ended_by (task_end.Trapped code line) = Some (fact.Trapped code line)
ended_by task_end.OverBudget = Some fact.OverBudget
ended_by (task_end.Poisoned root) = Some (fact.Poisoned root)

-- What became of an activation: its end, or else the first missing element that it waits for.
abbrev pub fact_of : List Activation → (input_len : ℕ) → List (Option TaskEnd) → ℕ → Option Fact
fact_of activations input_len ends a = option_map_or ended_by (slice_index_or ends a None)
    (option_map (waiting_for a) (missing activations input_len ends a))

-- what became of an activation whose task stands in a line
abbrev pub sentence_of : ℕ → ℕ → Option Fact → List Sentence
sentence_of a line None = []
sentence_of a line (Some f) = record { activation = a; task_line = line; fact = f } ∷ []

-- the sentence of an activation that isn't Done, with the line of its task
abbrev pub sentence_at : List Activation → (input_len : ℕ) → List (Option TaskEnd) → (lines : List ℕ) → ℕ → List Sentence
sentence_at activations input_len ends lines a = sentence_of a (slice_index_or lines a 0) (fact_of activations input_len ends a)

-- The sentences of the activations that aren't Done, in control order.
abbrev pub sentences : List Activation → (input_len : ℕ) → List (Option TaskEnd) → (lines : List ℕ) → List Sentence
sentences activations input_len ends lines = flat_map (sentence_at activations input_len ends lines) (range_with_len 0 (length activations))
