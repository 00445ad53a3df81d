-- The report in sentences.
use Rattle.std.specs.Prelude.{ℕ, ◌+◌, ◌==◌, if◌then◌else◌, List, [], ◌∷◌, ◌++◌, codes, count_by, drop, find, length, slice_get, take, unwrap_or}
use Rattle.std.specs.Fmt.{decimal}
use Rattle.std.specs.List.{flat_map, list_any, range_with_len}
use Rattle.std.specs.Option.{option_map_or}
use Rattle.c_int.specs.ControlLimits.{limit_code}
use Rattle.c_int.specs.declared.control_limit.ControlLimit.{ControlLimit}
use Rattle.c_int.specs.declared.control_limit.ControlLimit.TheVariants.{Activations, Elements}
use Rattle.os_io.specs.Lines.{ended_line}
use Rattle.collector.specs.Status.{has_done}
use Rattle.collector.specs.Written.{written}
use Rattle.flow_core_laws.specs.Place.{written_count}
use Rattle.flow_core_laws.specs.declared.activation.Activation.{Activation}
use Rattle.flow_core_laws.specs.declared.control.ControlEnd.{ControlEnd}
use Rattle.flow_core_laws.specs.declared.control.ControlEnd.TheVariants as control_end
use Rattle.flow_core_laws.specs.declared.ends.Ends.{Ends}
use Rattle.osview_sentences.specs.Facts.{sentences}
use Rattle.osview_sentences.specs.Passing.{passing_lines}
use Rattle.osview_sentences.specs.Sentences.{is_alike, trap_text}
use Rattle.osview_sentences.specs.Whole.{whole_text}
use Rattle.osview_sentences.specs.declared.fact.Sentence.{Sentence}
use Rattle.osview_sentences.specs.declared.stream_name.StreamName.{StreamName}
use Rattle.osview_text.specs.Words.{activation_word}

-- how many more sentences are like the one that is told
abbrev pub likewise_text : ℕ → List ℕ
likewise_text more = codes "; likewise " ++ decimal more ++ codes " more of this task"

abbrev pub more_text : ℕ → List ℕ
more_text more = if more == 0 then [] else likewise_text more

-- a sentence of some, where `say` has the text of each: it is told where none before it is like it, with the number of those behind it
-- that are
abbrev pub told_at : (say : Sentence → List ℕ) → List Sentence → (place : ℕ) → Sentence → List ℕ
told_at say all place s =
    if list_any (is_alike s) (take place all) then []
    else ended_line (say s ++ more_text (count_by (is_alike s) (drop (place + 1) all)))

abbrev pub line_at : (say : Sentence → List ℕ) → List Sentence → (place : ℕ) → List ℕ
line_at say all place = option_map_or (told_at say all place) (slice_get all place) []

-- The lines of sentences: one for those that are alike, where the first of them stands.
abbrev pub sentence_lines : (say : Sentence → List ℕ) → List Sentence → List ℕ
sentence_lines say all = flat_map (line_at say all) (range_with_len 0 (length all))

-- how many activations `main` created
abbrev pub created_text : ℕ → List ℕ
created_text count = codes " after " ++ decimal count ++ activation_word count

-- what stopped `main` at a limit
abbrev pub limit_words : ControlLimit → List ℕ
limit_words Activations = codes ", as many as there may be: larger blocks need fewer"
limit_words Elements = codes ": the windows of one more would cover more than 4194304 elements in all"

-- all limits
abbrev pub limits : List ControlLimit
limits = Activations ∷ Elements ∷ []

-- what stopped `main`, by the code of the limit; a code of no limit is told as that of the elements
abbrev pub limit_text : ℕ → List ℕ
limit_text code = limit_words (unwrap_or (find (λ limit. code == limit_code limit) limits) Elements)

-- how `main` ended
abbrev pub control_text : ControlEnd → ℕ → List ℕ
control_text control_end.Done count = codes "main ended" ++ created_text count
control_text (control_end.Trapped code at) count =
    codes "main trapped in line " ++ decimal at ++ created_text count ++ codes ": " ++ trap_text code
control_text control_end.OverBudget count = codes "main used up its turns" ++ created_text count
control_text (control_end.Limit limit) count = codes "main was stopped" ++ created_text count ++ limit_text limit

-- how many there are of how many
abbrev pub share_text : ℕ → ℕ → (what : List ℕ) → List ℕ
share_text some all what = decimal some ++ codes " of " ++ decimal all ++ what

-- how `main` ended, how many activations are done, and how many bytes of the output are there
abbrev pub heading : ControlEnd → (activations done there claimed : ℕ) → List ℕ
heading control activations done there claimed =
    ended_line (control_text control activations)
    ++ ended_line (share_text done activations (codes " activations are done"))
    ++ ended_line (share_text there claimed (codes " bytes of the output are there"))

-- The report, over the text of a program, the names of its streams, and the line of each activation's task: how `main` ended,
-- how many activations are done, how many bytes of the output are there, which activations leave elements out, and what became of
-- those that aren't done.
abbrev pub report : List ℕ → List StreamName → (lines : List ℕ) → List Activation → (input_len : ℕ) → Ends → ControlEnd → List ℕ
report text names lines activations input_len ends control =
    heading control (length activations) (count_by has_done ends.ends) (length (written ends.output)) (written_count activations 1)
    ++ passing_lines text names lines activations
    ++ sentence_lines (whole_text text names lines activations input_len) (sentences activations input_len ends.ends lines)
