-- Activations that leave elements of a stream out, since their burst passes their window.
use Rattle.std.specs.Prelude.{ℕ, ◌-◌, ◌==◌, ◌&&◌, not, Bool, if◌then◌else◌, is_some, nat_lt, List, [], ◌++◌, Option}
use Rattle.std.specs.Prelude.{codes, count_by, find, length, slice_index_or}
use Rattle.std.specs.Fmt.{decimal}
use Rattle.std.specs.List.{range_with_len}
use Rattle.std.specs.Option.{option_map_or}
use Rattle.os_io.specs.Lines.{ended_line}
use Rattle.flow_core_laws.specs.Window.{claims_at}
use Rattle.flow_core_laws.specs.declared.activation.Activation.{Activation}
use Rattle.flow_core_laws.specs.declared.claim.Claim.{Claim}
use Rattle.osview_sentences.specs.Amounts.{window_text}
use Rattle.osview_sentences.specs.Names.{stream_text}
use Rattle.osview_sentences.specs.Sentences.{who_text}
use Rattle.osview_sentences.specs.declared.stream_name.StreamName.{StreamName}

-- whether a claim reads and moves its stream past its window, so that nobody reads the elements between
abbrev pub passes : Claim → Bool
passes claim = not claim.write && nat_lt claim.horizon claim.burst

-- the first claim of an activation that does
abbrev pub passing_claim : List Activation → (a : ℕ) → Option Claim
passing_claim activations a = find passes (claims_at activations a)

-- the first activation with such a claim
abbrev pub first_passing : List Activation → Option ℕ
first_passing activations = find (λ a. is_some (passing_claim activations a)) (range_with_len 0 (length activations))

-- how many activations have such a claim
abbrev pub passing_count : List Activation → ℕ
passing_count activations = count_by (λ (a : Activation). is_some (find passes a.claims)) activations

-- how many more activations have such a claim
abbrev pub more_passing_text : (more : ℕ) → List ℕ
more_passing_text more = if more == 0 then [] else codes "; likewise " ++ decimal more ++ codes " more"

-- an activation leaves elements out
abbrev pub passing_text : List ℕ → List StreamName → (a line : ℕ) → Claim → List ℕ
passing_text text names a line claim =
    who_text a line ++ codes "leaves elements of stream " ++ stream_text text names claim.stream ++ codes " out: " ++ window_text claim

-- the line of the first activation that leaves elements out
abbrev pub passing_line : List ℕ → List StreamName → (lines : List ℕ) → List Activation → (a : ℕ) → Claim → List ℕ
passing_line text names lines activations a claim =
    ended_line (passing_text text names a (slice_index_or lines a 0) claim ++ more_passing_text (passing_count activations - 1))

abbrev pub passing_line_at : List ℕ → List StreamName → (lines : List ℕ) → List Activation → (a : ℕ) → List ℕ
passing_line_at text names lines activations a = option_map_or (passing_line text names lines activations a) (passing_claim activations a) []

-- The line that tells of activations whose burst passes their window: of the first one, and how many more there are; none where no
-- activation does.
abbrev pub passing_lines : List ℕ → List StreamName → (lines : List ℕ) → List Activation → List ℕ
passing_lines text names lines activations = option_map_or (passing_line_at text names lines activations) (first_passing activations) []
