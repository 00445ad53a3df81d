-- What there is to tell of an activation of a run: why it is starved, or that it isn't.
use Rattle.std.specs.Prelude.{◌≡◌, ℕ, ◌<◌, ◌≤◌, true, false, List, [], ◌++◌, Option, codes, length}
use Rattle.std.specs.Fmt.{decimal}
use Rattle.std.specs.List.{flat_map}
use Rattle.std.specs.Option.{option_map_or}
use Rattle.os_io.specs.Lines.{field, ended_line}
use Rattle.collector.specs.Missing.{missing}
use Rattle.collector.specs.declared.missing.Missing.{Missing}
use Rattle.flow_core_laws.specs.Outcome.{has_end_at}
use Rattle.flow_core_laws.specs.declared.activation.Activation.{Activation}
use Rattle.flow_core_laws.specs.declared.task_end.TaskEnd.{TaskEnd}
use Rattle.wait_certs.specs.declared.finding.Finding.{Finding}
use Rattle.wait_certs.specs.declared.finding.Finding.TheVariants.{Absent, Ended, Starved}
use Rattle.wait_certs_laws.specs.Chain.{last_of}
use Rattle.wait_certs_laws.specs.Walk.{IsWalk}

-- What there is to tell of an activation, by the ends of a run: there is none of that number, it has an end, or it is starved, and
-- then its walk, with what the last member misses.
abbrev pub IsFinding : List Activation → ℕ → List (Option TaskEnd) → ℕ → Finding → Type 0
IsFinding activations input_len ends a Absent = length activations ≤ a
IsFinding activations input_len ends a Ended = (a < length activations) × (has_end_at ends a ≡ true)
IsFinding activations input_len ends a (Starved members last) =
    (a < length activations) × (has_end_at ends a ≡ false) × IsWalk activations input_len ends a members
    × (last ≡ missing activations input_len ends (last_of members))

-- Where a walk ends: at an element that nobody should write, or at one that a member should write.
abbrev pub stop_text : Missing → List ℕ
stop_text m = option_map_or (λ b. codes " back " ++ decimal b) m.producer
    (codes " none stream " ++ decimal m.stream ++ codes " position " ++ decimal m.position)

-- The line of a walk: its members, and what the last one misses.
abbrev pub chain_line : List ℕ → Option Missing → List ℕ
chain_line members last = ended_line (codes "chain" ++ flat_map field members ++ option_map_or stop_text last [])

-- the line that tells it
abbrev pub finding_line : ℕ → Finding → List ℕ
finding_line a Absent = ended_line (codes "no activation " ++ decimal a)
finding_line a Ended = ended_line (codes "not starved " ++ decimal a)
finding_line a (Starved members last) = chain_line members last
