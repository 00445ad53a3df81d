-- What a program or a code comes to over an input: what it creates, and the ends of that.
use Rattle.std.specs.Prelude.{◌≡◌, ℕ, ℤ, ◌≤◌, List, length, slice_get}
use Rattle.std.specs.Option.{option_map_or}
use Rattle.cddf_meaning.specs.Body.{body}
use Rattle.cddf_meaning.specs.Control.{control}
use Rattle.epoch_run_bodies.specs.Frames.{code_ends}
use Rattle.flow_core_laws.specs.Limits.{budget_limit}
use Rattle.flow_core_laws.specs.Outcome.{over_budget}
use Rattle.flow_core_laws.specs.Streams.{meant_ends}
use Rattle.flow_core_laws.specs.declared.activation.Activation.{Activation}
use Rattle.flow_core_laws.specs.declared.control.Control.{Control}
use Rattle.flow_core_laws.specs.declared.ends.Ends.{Ends}
use Rattle.flow_core_laws.specs.declared.outcome.Outcome.{Outcome}
use Rattle.front_end.specs.Texts.{IsAccepted}
use Rattle.os_ast.specs.Trees.{ProgramTree}
use Rattle.os_code.specs.IsValid.{IsValid}
use Rattle.os_code.specs.Outcomes.{main_control}
use Rattle.os_code.specs.declared.parts.Parts.{Parts}
use Rattle.os_lexer.specs.Limits.{text_limit}

-- What the activation of a number makes of its inputs: what the body of its task does. A number that no activation has is never
-- asked for.
abbrev pub body_at : ProgramTree → List Activation → (budget number : ℕ) → List ℤ → Outcome
body_at p activations budget number inputs = option_map_or (λ (a : Activation). body p a inputs budget) (slice_get activations number) over_budget

-- A fact of what every accepted program comes to: of the activations that its control program creates, of the input, and of the ends
-- in their data-flow meaning.
abbrev pub OfPrograms : (List Activation → (input : List ℕ) → Ends → Type 0) → Type 0
OfPrograms fact = (text : List ℕ) (p : ProgramTree) (input : List ℕ) (task_budget control_budget : ℕ) (made : Control) (ends : Ends)
    → length text ≤ text_limit → IsAccepted text p → control_budget ≤ budget_limit
    → made ≡ control p (length input) control_budget
    → ends ≡ meant_ends made.activations input (body_at p made.activations task_budget)
    → fact made.activations input ends

-- A fact of what every valid code comes to on the machine.
abbrev pub OfCodeRuns : (List Activation → (input : List ℕ) → Ends → Type 0) → Type 0
OfCodeRuns fact = (code : Parts) (input : List ℕ) (task_budget control_budget : ℕ) (made : Control) (ends : Ends)
    → IsValid code → control_budget ≤ budget_limit
    → made ≡ main_control code (length input) control_budget
    → ends ≡ code_ends code made.activations input task_budget
    → fact made.activations input ends
