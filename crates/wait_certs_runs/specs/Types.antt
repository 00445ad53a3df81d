-- With which values the tasks of a program begin, as a statement.
use Rattle.std.specs.Prelude.{◌≡◌, ℕ, ◌<◌, ◌≤◌, All, List, Some, length, slice_get}
use Rattle.cddf_meaning.specs.Body.{bound_round, item_lists}
use Rattle.cddf_meaning.specs.BodyState.{state_of}
use Rattle.cddf_meaning.specs.Control.{control}
use Rattle.cddf_meaning.specs.Fitting.{StateFits}
use Rattle.cddf_meaning.specs.Program.{Main, main_of}
use Rattle.cddf_meaning.specs.Tasks.{Task}
use Rattle.flow_core_laws.specs.Limits.{budget_limit, input_limit}
use Rattle.flow_core_laws.specs.Poisoning.{values_of}
use Rattle.flow_core_laws.specs.Round.{inputs_in}
use Rattle.flow_core_laws.specs.Streams.{stream_element, stream_meaning, stream_reads}
use Rattle.flow_core_laws.specs.declared.activation.Activation.{Activation}
use Rattle.flow_core_laws.specs.declared.control.Control.{Control}
use Rattle.flow_core_laws.specs.declared.elem.Elem.{Elem}
use Rattle.os_ast.specs.Trees.{ProgramTree}
use Rattle.wait_certs_runs.specs.Meant.{body_at}

-- what an activation reads in the meaning of those that the control program creates, where all of it is there
abbrev pub Reads : ProgramTree → Control → (input : List ℕ) → (task_budget a : ℕ) → List Elem → Type 0
Reads p made input task_budget a read = inputs_in stream_element (stream_reads made.activations input)
    (stream_meaning made.activations input (body_at p made.activations task_budget)) a
    ≡ Some read

-- The body of a task begins with `int`s alone, in each activation of the control program and over what it reads in the meaning: the
-- scalars that it captures and the elements of its items.
abbrev pub BeginsTasksWithInts : ProgramTree → Type 0
BeginsTasksWithInts p = (input : List ℕ) (task_budget control_budget a : ℕ) (x : Activation) (m : Main) (t : Task) (read : List Elem)
    → length input ≤ input_limit → All (λ byte. byte < 256) input → control_budget ≤ budget_limit
    → slice_get (control p (length input) control_budget).activations a ≡ Some x
    → main_of p ≡ Some m → slice_get m.tasks x.site ≡ Some t
    → Reads p (control p (length input) control_budget) input task_budget a read
    → StateFits (state_of (bound_round t x.captured) (item_lists x.claims (values_of read)))
