-- The states in which `main` and tasks begin, and what goes from one to the other, as statements.
use Rattle.std.specs.Prelude.{◌≡◌, ℕ, ℤ, ◌≤◌, true, All, List}
use Rattle.std.specs.List.{list_all}
use Rattle.c_int.specs.Operators.{is_int}
use Rattle.cddf_meaning.specs.Body.{body, bound_round, item_lists}
use Rattle.cddf_meaning.specs.BodyState.{state_of}
use Rattle.cddf_meaning.specs.Control.{control, control_state}
use Rattle.cddf_meaning.specs.Fitting.{StateFits}
use Rattle.cddf_meaning.specs.Tasks.{Task}
use Rattle.flow_core_laws.specs.Limits.{horizon_limit, input_limit}
use Rattle.flow_core_laws.specs.declared.activation.Activation.{Activation}
use Rattle.flow_core_laws.specs.declared.claim.Claim.{Claim}
use Rattle.os_ast.specs.Leveled.{IsLeveled}
use Rattle.os_ast.specs.Trees.{ProgramTree}

-- all of these numbers are `int`s
abbrev pub AreInts : List ℤ → Type 0
AreInts values = list_all is_int values ≡ true

-- no claim covers more than a window may
abbrev pub HasSmallClaims : Activation → Type 0
HasSmallClaims a = All (λ (c : Claim). c.horizon ≤ horizon_limit) a.claims

-- `main` begins with `int`s alone: the length of the input is one
abbrev pub MainBeginsWithInts : Type 0
MainBeginsWithInts = (input_len : ℕ) → input_len ≤ input_limit → StateFits (control_state input_len)

-- a task begins with `int`s alone, where those are `int`s that it captures and reads
abbrev pub TasksBeginWithInts : Type 0
TasksBeginWithInts = (t : Task) (a : Activation) (inputs : List ℤ) → AreInts a.captured → HasSmallClaims a → AreInts inputs
    → StateFits (state_of (bound_round t a.captured) (item_lists a.claims inputs))

-- what an activation of the control program captures are `int`s
abbrev pub TasksCaptureInts : Type 0
TasksCaptureInts = (p : ProgramTree) (input_len budget : ℕ) → IsLeveled p → input_len ≤ input_limit
    → All (λ (a : Activation). AreInts a.captured) (control p input_len budget).activations

-- what the body of a task writes are `int`s, where those are that it captures and reads
abbrev pub BodiesGiveInts : Type 0
BodiesGiveInts = (p : ProgramTree) (a : Activation) (inputs : List ℤ) (budget : ℕ) → IsLeveled p → AreInts a.captured → HasSmallClaims a → AreInts inputs
    → AreInts (body p a inputs budget).outputs
