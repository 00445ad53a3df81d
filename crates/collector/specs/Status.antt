-- The status of a run.
use Rattle.std.specs.Prelude.{ℕ, List, Option, Bool, true, false, ◌&&◌, if◌then◌else◌}
use Rattle.std.specs.Option.{option_map_or}
use Rattle.std.specs.List.{list_all}
use Rattle.flow_core_laws.specs.declared.task_end.TaskEnd.{TaskEnd}
use Rattle.flow_core_laws.specs.declared.control.ControlEnd.{ControlEnd}
use Rattle.flow_core_laws.specs.declared.control.ControlEnd.TheVariants as control_end
use Rattle.flow_core_laws.specs.Outcome.{is_done}
use Rattle.collector.specs.declared.status.RunStatus.{RunStatus}
use Rattle.collector.specs.declared.status.RunStatus.TheVariants.{AllDone, NotAllDone}

-- whether an activation with this end, or none, is Done
abbrev pub has_done : Option TaskEnd → Bool
has_done end = option_map_or is_done end false

-- whether the control program ran to its end
abbrev pub is_done_control : ControlEnd → Bool
is_done_control control_end.Done = true
is_done_control _ = false

-- the status of a run of which every activation and the control program are Done
abbrev pub done_status : ℕ
done_status = 0

-- the status of every other run
abbrev pub not_done_status : ℕ
not_done_status = 1

-- The status: 0 where every activation and the control program are Done, else 1.
abbrev pub status : List (Option TaskEnd) → ControlEnd → ℕ
status ends control = if list_all has_done ends && is_done_control control then done_status else not_done_status

-- the number of a status that is given
abbrev pub run_status_code : RunStatus → ℕ
run_status_code AllDone = done_status
run_status_code NotAllDone = not_done_status
