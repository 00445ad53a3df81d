-- What is reported. The lines are those of this project's profile, with one for each activation that was poisoned.
use Rattle.std.specs.Prelude.{ℕ, List, [], ◌++◌, Option, None, length, codes, slice_index_or}
use Rattle.std.specs.Option.{option_map_or}
use Rattle.std.specs.List.{range_with_len, flat_map}
use Rattle.std.specs.Fmt.{decimal}
use Rattle.flow_core_laws.specs.declared.activation.Activation.{Activation}
use Rattle.flow_core_laws.specs.declared.control.ControlEnd.{ControlEnd}
use Rattle.flow_core_laws.specs.Place.{written_count}
use Rattle.flow_core_laws.specs.declared.task_end.TaskEnd.{TaskEnd}
use Rattle.flow_core_laws.specs.declared.task_end.TaskEnd.TheVariants as task_end
use Rattle.flow_core_laws.specs.declared.ends.Ends.{Ends}
use Rattle.collector.specs.declared.missing.Missing.{Missing}
use Rattle.os_io.specs.Lines.{ended_line}
use Rattle.collector.specs.Missing.{missing}
use Rattle.collector.specs.Written.{written}
use Rattle.flow_core_laws.specs.declared.control.ControlEnd.TheVariants as control_end

-- The producer of a missing element: its activation, which is starved too, or none.
abbrev pub producer_text : Option ℕ → List ℕ
producer_text producer = option_map_or (λ b. decimal b ++ codes " starved") producer (codes "none")

-- The line of an activation that is starved: its first missing element, with that element's producer.
abbrev pub starved_line : ℕ → Missing → List ℕ
starved_line a m = ended_line (codes "starved " ++ decimal a ++ codes " stream " ++ decimal m.stream ++ codes " position " ++ decimal m.position
    ++ codes " producer " ++ producer_text m.producer)

-- The line of an activation with an end; one that is Done has none, and one that was poisoned tells the root.
abbrev pub end_line : ℕ → TaskEnd → List ℕ
end_line a task_end.Done = []
end_line a (task_end.Trapped code line) = ended_line (codes "trapped " ++ decimal a ++ codes " code " ++ decimal code ++ codes " line " ++ decimal line)
end_line a task_end.OverBudget = ended_line (codes "over-budget " ++ decimal a)
end_line a (task_end.Poisoned root) = ended_line (codes "poisoned " ++ decimal a ++ codes " by " ++ decimal root)

-- The line of an activation by its end; one without an end is starved, as long as an element is missing.
abbrev pub activation_line : List Activation → ℕ → List (Option TaskEnd) → ℕ → List ℕ
activation_line activations input_len ends a = option_map_or (end_line a) (slice_index_or ends a None)
    (option_map_or (starved_line a) (missing activations input_len ends a) [])

-- The line of the control program.
abbrev pub control_line : ControlEnd → List ℕ
control_line control_end.Done = ended_line (codes "control done")
control_line (control_end.Trapped code line) = ended_line (codes "control trapped code " ++ decimal code ++ codes " line " ++ decimal line)
control_line control_end.OverBudget = ended_line (codes "control over-budget")
control_line (control_end.Limit limit) = ended_line (codes "control limit " ++ decimal limit)

-- The line of the output: how many bytes were written, of how many positions that are claimed for writing.
abbrev pub output_line : ℕ → ℕ → List ℕ
output_line count claimed = ended_line (codes "output " ++ decimal count ++ codes " of " ++ decimal claimed)

-- The lines of the first activations that aren't Done, in control order.
abbrev pub activation_lines : List Activation → ℕ → List (Option TaskEnd) → ℕ → List ℕ
activation_lines activations input_len ends count = flat_map (activation_line activations input_len ends) (range_with_len 0 count)

-- The report: the activations that aren't Done, the control program, the output.
abbrev pub report : List Activation → ℕ → Ends → ControlEnd → List ℕ
report activations input_len ends control = activation_lines activations input_len ends.ends (length activations)
    ++ control_line control ++ output_line (length (written ends.output)) (written_count activations 1)
