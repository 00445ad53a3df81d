-- What is handed back of an answer over a planned run, whatever its activations make of their inputs.
use Rattle.std.specs.Prelude.{◌≡◌, ◌<◌, All, length, string_bytes}
use Rattle.collector.specs.Written.{IsByteIfThere, written}
use Rattle.flow_core_laws.specs.IsSound.{HasCell}
use Rattle.flow_core_laws.specs.declared.plan.Plan.{Plan}
use Rattle.osrun_core_run.specs.ReplayLine.{IsReplayLine}
use Rattle.osrun_core_run.specs.declared.planning.Planned.{Planned}
use Rattle.osrun_core_run.specs.declared.replaying.Replay.{Replay}
use Rattle.osrun_core_run.specs.declared.replaying.Replay.TheVariants.{Whole, Told}
use Rattle.trace_replay_laws.specs.declared.replayed.Replayed.{Replayed}
use Rattle.trace_replay_laws.specs.declared.replayed.Replayed.TheVariants as answers

-- the elements of the output are bytes, where they are there
abbrev pub HasBytes : Replayed → Type 0
HasBytes (answers.Whole ends) = All IsByteIfThere ends.output
HasBytes _ = Unit {0}

-- the cell is one of the frame's
abbrev pub HasItsCell : Plan → Replayed → Type 0
HasItsCell plan (answers.Stuck list frame cell) = (frame < length plan.frames) × HasCell plan frame cell
HasItsCell plan _ = Unit {0}

-- the planned run with the ends of the answer, or the answer's line
abbrev pub IsMadeOf : Planned → Replayed → Replay → Type 0
IsMadeOf planned answer (Whole run) = (answer ≡ answers.Whole run.ends) × (run.output.items ≡ written run.ends.output)
    × (run.layout ≡ planned.layout) × (run.control ≡ planned.control.end)
IsMadeOf planned answer (Told text) = IsReplayLine planned.plan planned.control.activations answer (string_bytes text)
