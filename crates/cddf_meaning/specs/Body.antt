-- What a task's body makes of its captured scalars and its input windows.
use Rattle.std.specs.Prelude.{ℕ, suc, ◌==◌, Bool, true, not, ◌&&◌, ◌||◌, if◌then◌else◌, List, [], ◌∷◌}
use Rattle.std.specs.Prelude.{◌++◌, take, drop, replicate, slice_get, Option, ℤ, pos}
use Rattle.std.specs.List.{list_all}
use Rattle.std.specs.Option.{option_map_or}
use Rattle.c_int.specs.Traps.{trap_code}
use Rattle.c_int.specs.declared.trap.Trap.TheVariants.{NoByte}
use Rattle.cddf_meaning.specs.File.{File}
use Rattle.cddf_meaning.specs.Flow.{Ran, Went, Ended}
use Rattle.cddf_meaning.specs.Functions.{in_function}
use Rattle.cddf_meaning.specs.Program.{Main, main_of}
use Rattle.cddf_meaning.specs.Run.{run}
use Rattle.cddf_meaning.specs.BodyState.{state_of}
use Rattle.cddf_meaning.specs.Tasks.{Task}
use Rattle.cddf_meaning.specs.Variables.{bind}
use Rattle.cddf_meaning.specs.declared.ending.Ending.TheVariants.{Trapped}
use Rattle.cddf_meaning.specs.declared.typed_name.TypedName.{TypedName}
use Rattle.cddf_meaning.specs.declared.variable.Binding.{Binding}
use Rattle.cddf_meaning.specs.declared.variable.Variable.TheVariants.{Scalar, Item}
use Rattle.flow_core_laws.specs.Byte.{is_byte}
use Rattle.flow_core_laws.specs.Outcome.{outcome_of, trapped, over_budget}
use Rattle.flow_core_laws.specs.declared.activation.Activation.{Activation}
use Rattle.flow_core_laws.specs.declared.claim.Claim.{Claim}
use Rattle.flow_core_laws.specs.declared.outcome.Outcome.{Outcome}
use Rattle.flow_core_laws.specs.declared.task_end.TaskEnd.TheVariants as end
use Rattle.os_ast.specs.Trees as tree

-- The captured scalars, by their names. An activation that fits its task has a value for each.
abbrev pub bind_captured : List TypedName → List ℤ → List Binding → List Binding
bind_captured [] vs bound = bound
bind_captured (n ∷ ns) [] bound = bind_captured ns [] (bind n.id n.unsigned (Scalar (pos 0)) bound)
bind_captured (n ∷ ns) (v ∷ vs) bound = bind_captured ns vs (bind n.id n.unsigned (Scalar v) bound)

-- The names of the items, by their numbers in the order of the clauses.
abbrev pub bind_items : ℕ → List TypedName → List Binding → List Binding
bind_items item [] bound = bound
bind_items item (n ∷ ns) bound = bind_items (suc item) ns (bind n.id n.unsigned (Item item) bound)

-- the declarations round the body of a task
abbrev pub bound_round : Task → List ℤ → List Binding
bound_round t values = bind_items 0 t.items (bind_captured t.captured values [])

-- The elements of the items, each as many as its claim's horizon: an input item has the next elements of the input, an
-- output item is 0 at first. The input has the sum of the read horizons as length.
abbrev pub item_lists : List Claim → List ℤ → List (List ℤ)
item_lists [] inputs = []
item_lists (c ∷ cs) inputs = if c.write then replicate c.horizon (pos 0) ∷ item_lists cs inputs
    else take c.horizon inputs ∷ item_lists cs (drop c.horizon inputs)

-- The elements of the output items, one item after another; each has as many as its claim's horizon.
abbrev pub outputs_of : List Claim → List (List ℤ) → List ℤ
outputs_of (c ∷ cs) (vs ∷ items) = if c.write then vs ++ outputs_of cs items else outputs_of cs items
outputs_of _ _ = []

-- whether a claim writes to `osout`, which is stream 1
abbrev pub writes_output : Claim → Bool
writes_output c = c.write && (c.stream == 1)

-- whether every element that goes to `osout` is a byte
abbrev pub gives_bytes : List Claim → List (List ℤ) → Bool
gives_bytes (c ∷ cs) (vs ∷ items) = (not (writes_output c) || list_all is_byte vs) && gives_bytes cs items
gives_bytes _ _ = true

abbrev pub done : List ℤ → Outcome
done outputs = outcome_of end.Done outputs

-- A body that ended normally is done where each element that goes to `osout` is a byte; else it is the trap `NoByte`, with the line
-- of the pragma. `return` stands in no task, `break` and `continue` in its loops alone, and a task meets no limit.
abbrev pub outcome : (line : ℕ) → List Claim → Ran → Outcome
outcome line claims (Went flow s turns) = if gives_bytes claims s.items then done (outputs_of claims s.items) else trapped (trap_code NoByte) line
outcome line claims (Ended (Trapped why at) activations) = trapped (trap_code why) at
outcome line claims _ = over_budget

-- the body of a task, behind these items of the file
abbrev pub task_outcome : File → Task → Activation → List ℤ → ℕ → Outcome
task_outcome file t a inputs budget = outcome t.mark.line a.claims
    (run (in_function file) t.body (state_of (bound_round t a.captured) (item_lists a.claims inputs)) budget)

-- An activation is of one of the tasks.
abbrev pub chosen_outcome : File → Option Task → Activation → List ℤ → ℕ → Outcome
chosen_outcome file t a inputs budget = option_map_or (λ t. task_outcome file t a inputs budget) t (done [])

-- A program has a function `main`.
abbrev pub outcome_in : Option Main → Activation → List ℤ → ℕ → Outcome
outcome_in m a inputs budget = option_map_or (λ (m : Main). chosen_outcome m.file (slice_get m.tasks a.site) a inputs budget) m (done [])

-- How an activation ends for its inputs, which are those of its input windows in clause order, and what it writes.
abbrev pub body : tree.ProgramTree → Activation → List ℤ → ℕ → Outcome
body program a inputs budget = outcome_in (main_of program) a inputs budget
