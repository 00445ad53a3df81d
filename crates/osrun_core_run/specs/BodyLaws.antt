-- The laws of bodies, as statements.
use Rattle.std.specs.Prelude.{◌≡◌, ℕ, ℤ, ◌+◌, ◌<◌, true, All, List, Some, length, slice_get, take}
use Rattle.collector.specs.Written.{IsByteIfThere}
use Rattle.flow_core_laws.specs.Byte.{IsByte}
use Rattle.flow_core_laws.specs.Laws.{IsFilled}
use Rattle.flow_core_laws.specs.Streams.{output_count, output_elements, stream_meaning}
use Rattle.flow_core_laws.specs.Window.{offset_after}
use Rattle.flow_core_laws.specs.declared.activation.Activation.{Activation}
use Rattle.flow_core_laws.specs.declared.claim.Claim.{Claim}
use Rattle.flow_core_laws.specs.declared.outcome.Outcome.{Outcome}
use Rattle.flow_core_laws.specs.declared.task_end.TaskEnd.TheVariants.{Done}
use Rattle.os_code.specs.IsValid.{IsValid}
use Rattle.os_code.specs.Outcomes.{code_outcome}
use Rattle.os_code.specs.Tasks.{Fits, input_count}
use Rattle.os_code.specs.declared.parts.Parts.{Parts}

-- what an activation writes to the output, which is stream 1, are bytes
abbrev pub GivesBytes : Activation → Outcome → Type 0
GivesBytes x o = (k j : ℕ) (c : Claim) (value : ℤ) → slice_get x.claims k ≡ Some c → c.write ≡ true → c.stream ≡ 1 → j < c.horizon
    → slice_get o.outputs (offset_after (take k x.claims) c + j) ≡ Some value → IsByte value

-- What the machine makes of an activation that fits a valid code and has its inputs writes nothing but bytes to the output.
abbrev pub CodesGiveBytes : Type 0
CodesGiveBytes = (code : Parts) (x : Activation) (inputs : List ℤ) (budget : ℕ) → IsValid code → Fits code x → length inputs ≡ input_count x
    → GivesBytes x (code_outcome code x inputs budget)

-- where all bodies give bytes, the elements of the output that are values are bytes
abbrev pub OutputsAreBytes : Type 0
OutputsAreBytes = (activations : List Activation) (input : List ℕ) (body : ℕ → List ℤ → Outcome)
    → ((a : ℕ) (x : Activation) (inputs : List ℤ) → slice_get activations a ≡ Some x → length inputs ≡ input_count x
    → GivesBytes x (body a inputs))
    → All IsByteIfThere (output_elements activations input (stream_meaning activations input body))

-- where all bodies that are done fill their output windows, the outputs of the meaning are filled
abbrev pub FilledBodiesFill : Type 0
FilledBodiesFill = (activations : List Activation) (input : List ℕ) (body : ℕ → List ℤ → Outcome)
    → ((a : ℕ) (x : Activation) (inputs : List ℤ) → slice_get activations a ≡ Some x → length inputs ≡ input_count x
    → (body a inputs).end ≡ Done → length (body a inputs).outputs ≡ output_count x)
    → IsFilled activations (stream_meaning activations input body)
