-- All that is said of an activation, and the lines of some activations.
use Rattle.std.specs.Prelude.{ℕ, List, ◌++◌, Option, None, Some, codes, slice_index_or}
use Rattle.std.specs.List.{flat_map}
use Rattle.os_io.specs.Lines.{ended_line}
use Rattle.flow_core_laws.specs.declared.activation.Activation.{Activation}
use Rattle.flow_core_laws.specs.declared.task_end.TaskEnd.{TaskEnd}
use Rattle.osview_sentences.specs.Amounts.{amounts_text}
use Rattle.osview_sentences.specs.Facts.{fact_of}
use Rattle.osview_sentences.specs.Readers.{also_text, spans_of}
use Rattle.osview_sentences.specs.Sentences.{sentence_text, who_text}
use Rattle.osview_sentences.specs.declared.fact.Fact.{Fact}
use Rattle.osview_sentences.specs.declared.fact.Sentence.{Sentence}
use Rattle.osview_sentences.specs.declared.stream_name.StreamName.{StreamName}

-- All that is said of an activation that isn't Done: what became of it, where it waits the numbers of elements, and which other task reads
-- the stream.
abbrev pub whole_text : List ℕ → List StreamName → (lines : List ℕ) → List Activation → (input_len : ℕ) → Sentence → List ℕ
whole_text text names lines activations input_len s =
    sentence_text text names s ++ amounts_text activations input_len s.activation s.fact ++ also_text (spans_of activations) lines s.task_line s.fact

-- what is said of any activation: also of one that is Done
abbrev pub became_text : List ℕ → List StreamName → (lines : List ℕ) → List Activation → (input_len a line : ℕ) → Option Fact → List ℕ
became_text text names lines activations input_len a line None = who_text a line ++ codes "is done"
became_text text names lines activations input_len a line (Some f) =
    whole_text text names lines activations input_len (record { activation = a; task_line = line; fact = f })

-- a line for an activation
abbrev pub member_line : List ℕ → List StreamName → (lines : List ℕ) → List Activation → (input_len : ℕ) → List (Option TaskEnd) → ℕ → List ℕ
member_line text names lines activations input_len ends a =
    ended_line (became_text text names lines activations input_len a (slice_index_or lines a 0) (fact_of activations input_len ends a))

-- The lines of some activations, in the order in which they are listed.
abbrev pub member_lines : List ℕ → List StreamName → (lines : List ℕ) → List Activation → (input_len : ℕ) → List (Option TaskEnd) → (members : List ℕ) → List ℕ
member_lines text names lines activations input_len ends members = flat_map (member_line text names lines activations input_len ends) members
