-- How an activation ends, and the ends that are known so far.
use Rattle.std.specs.Prelude.{◌≤◌, [], ℕ, ℤ, List, Bool, true, false, Option, Some, None, is_some, slice_index_or, map, refl}
use Rattle.std.specs.Option.{option_map}
use Rattle.flow_core_laws.specs.declared.task_end.TaskEnd.{TaskEnd}
use Rattle.flow_core_laws.specs.declared.task_end.TaskEnd.TheVariants.{Done, Trapped, OverBudget, Poisoned}
use Rattle.flow_core_laws.specs.declared.outcome.Outcome.{Outcome}

-- The outcome of an activation in a state, if it has one.
abbrev pub outcome_at : {O : Type 0} → List (Option O) → ℕ → Option O
outcome_at state activation = slice_index_or state activation None

-- The outcome of an activation that ends so with these values in its output windows: they appear together,
-- where the end is Done; else none does.
abbrev pub outcome_of : TaskEnd → List ℤ → Outcome
outcome_of Done outputs = record { end = Done; outputs = outputs; only_done = λ not_done. absurd (not_done refl) }
outcome_of end outputs = record { end = end; outputs = []; only_done = λ not_done. refl }

-- The outcomes of a body that traps, by the trap's code and line, and of one that uses up its turns: it writes nothing.
abbrev pub trapped : (code line : ℕ) → Outcome
trapped code line = outcome_of (Trapped code line) []

abbrev pub over_budget : Outcome
over_budget = outcome_of OverBudget []

-- A state gives each activation an outcome, or none.
abbrev pub State : Type 0
State = List (Option Outcome)

-- The ends of a state alone.
abbrev pub ends_of : State → List (Option TaskEnd)
ends_of state = map (option_map (λ (o : Outcome). o.end)) state

-- The root of an end of the activation of a number: of a trap and of used-up turns the activation itself, of
-- poison the root that it names. Done has none.
abbrev pub root_of : ℕ → TaskEnd → Option ℕ
root_of number Done = None
root_of number (Poisoned root) = Some root
root_of number _ = Some number

-- the last code that a trap has: the traps of the language are held to it by the law `traps_have_codes` of `os_code`
abbrev pub last_trap_code : ℕ
last_trap_code = 8

-- A trap has a code from 1 to that one.
abbrev pub IsTrapCode : ℕ → Type 0
IsTrapCode code = (1 ≤ code) × (code ≤ last_trap_code)

-- whether an activation with this end failed itself: it trapped, or used up its turns
abbrev pub has_failed : TaskEnd → Bool
has_failed (Trapped _ _) = true
has_failed OverBudget = true
has_failed _ = false

-- whether an end is Done
abbrev pub is_done : TaskEnd → Bool
is_done Done = true
is_done _ = false

-- whether an activation has an end by a list of ends
abbrev pub has_end_at : List (Option TaskEnd) → ℕ → Bool
has_end_at ends activation = is_some (slice_index_or ends activation None)
