-- What the control program does with streams: clause items, tasks and ticks.
use Rattle.std.specs.Prelude.{ℕ, zero, suc, ◌+◌, ◌==◌, true, false, leb, List, [], ◌∷◌, ◌++◌}
use Rattle.std.specs.Prelude.{map, get_or, position, Option, Some, None, ℤ, Ok}
use Rattle.std.specs.Option.{option_map_or}
use Rattle.c_int.specs.declared.control_limit.ControlLimit.{ControlLimit}
use Rattle.c_int.specs.declared.trap.Trap.TheVariants.{Move, OutputBurst}
use Rattle.cddf_meaning.specs.Answers.{Answer, Left, passing, and_then, left, with_turns}
use Rattle.cddf_meaning.specs.Claims.{with_skips, moves_behind, limit}
use Rattle.cddf_meaning.specs.File.{File, variable}
use Rattle.cddf_meaning.specs.Flow.{Ran, Ended, with_value, goes_on}
use Rattle.cddf_meaning.specs.BodyState.{BodyState}
use Rattle.cddf_meaning.specs.declared.site.Site.{Site}
use Rattle.cddf_meaning.specs.Variables.{find}
use Rattle.cddf_meaning.specs.Value.{value, checked, scalar_value}
use Rattle.cddf_meaning.specs.declared.cursor_move.Move.TheVariants.{Tick}
use Rattle.cddf_meaning.specs.declared.ending.Ending.TheVariants.{OverBudget, Limited}
use Rattle.cddf_meaning.specs.declared.variable.Variable.TheVariants.{Window, Stream}
use Rattle.cddf_meaning.specs.declared.variable.Variable.{Variable}
use Rattle.flow_core_laws.specs.Limits.{move_limit}
use Rattle.flow_core_laws.specs.declared.activation.Activation.{Activation}
use Rattle.flow_core_laws.specs.declared.claim.Claim.{Claim}
use Rattle.os_ast.specs.ClauseMembers.{ClauseMember, Item, Private}
use Rattle.os_ast.specs.Trees as tree
use Rattle.os_ast.specs.declared.expr.Mark.{Mark}
use Rattle.os_ast.specs.declared.names.Direction.TheVariants as direction
use Rattle.os_ast.specs.declared.names.Direction.{Direction}

-- The numbers of a stream or an array of streams. Nothing else stands for a stream, and the file declares none.
abbrev pub first_stream : Option Variable → ℕ
first_stream (Some (Stream first count)) = first
first_stream _ = 0

abbrev pub stream_count : Option Variable → ℕ
stream_count (Some (Stream first count)) = count
stream_count _ = 0

-- the stream of an item or a tick; an index that the array doesn't have is the trap `Index`, with the line of the `[`
abbrev pub stream_number : File → tree.TargetTree → BodyState → ℕ → Answer (Left ℕ)
stream_number file (tree.Variable n) s turns = Ok (left (first_stream (find s.bound n.id)) turns)
stream_number file (tree.Element n m e) s turns = let v = find s.bound n.id in
    and_then (value file e s turns) (λ i. and_then (checked (stream_count v) m.line i.value) (λ k. Ok (left (first_stream v + k) i.turns)))

-- The burst of an input item, or the amount of a tick, is 0 to 65,536; else it is the trap `Move`.
abbrev pub cursor_move : ℕ → ℤ → Answer ℕ
cursor_move line v = passing (λ n. leb n move_limit) Move line v

-- The burst of an output window is its horizon; else it is the trap `OutputBurst`.
abbrev pub output_burst : (line horizon : ℕ) → ℤ → Answer ℕ
output_burst line horizon v = passing (λ n. n == horizon) OutputBurst line v

-- the burst of an item with a window
abbrev pub burst_of : Direction → (line horizon : ℕ) → ℤ → Answer ℕ
burst_of direction.Reads line horizon v = cursor_move line v
burst_of direction.Writes line horizon v = output_burst line horizon v

-- the horizon of a window, which it got where it was declared; a scalar has horizon 1
abbrev pub horizon_of : Option Variable → ℕ
horizon_of (Some (Window horizon)) = horizon
horizon_of _ = 1

-- What an item claims. An output item moves the write cursor by its horizon, which is its burst.
abbrev pub claim_of : Direction → (stream horizon burst : ℕ) → Claim
claim_of direction.Reads stream horizon burst = record { stream = stream; write = false; horizon = horizon; burst = burst; skip = 0 }
claim_of direction.Writes stream horizon burst = record { stream = stream; write = true; horizon = horizon; burst = horizon; skip = 0 }

-- the burst of an item: 1 without one; else it is evaluated and checked, with the line of its `[`
abbrev pub burst : File → Direction → ℕ → Option tree.IndexTree → BodyState → ℕ → Answer (Left ℕ)
burst file d horizon None s turns = Ok (left 1 turns)
burst file d horizon (Some i) s turns = and_then (value file i.value s turns) (λ n. with_turns n.turns (burst_of d i.mark.line horizon n.value))

-- A stream alone has horizon 1 and burst 1.
abbrev pub joined : File → Direction → ℕ → Option tree.JoinTree → BodyState → ℕ → Answer (Left Claim)
joined file d stream None s turns = Ok (left (claim_of d stream 1 1) turns)
joined file d stream (Some j) s turns = let horizon = horizon_of (find s.bound j.name.id) in
    and_then (burst file d horizon j.burst s turns) (λ b. Ok (left (claim_of d stream horizon b.value) b.turns))

-- An item: first the stream's index, then the burst.
abbrev pub item_claim : File → Direction → tree.ClauseItemTree → BodyState → ℕ → Answer (Left Claim)
item_claim file d i s turns = and_then (stream_number file i.stream s turns) (λ n. joined file d n.value i.window s n.turns)

-- The items of a task, one after another.
abbrev pub items_claims : File → List ClauseMember → BodyState → ℕ → Answer (Left (List Claim))
items_claims file [] s turns = Ok (left [] turns)
items_claims file (Private n ∷ ps) s turns = items_claims file ps s turns
items_claims file (Item d i ∷ ps) s turns = and_then (item_claim file d i s turns)
    (λ c. and_then (items_claims file ps s c.turns) (λ cs. Ok (left (c.value ∷ cs.value) cs.turns)))

-- the values of captured scalars
abbrev pub captured_values : File → BodyState → List ℕ → List ℤ
captured_values file s ids = map (λ id. scalar_value s (variable file s id)) ids

-- an activation of the task with this number and these captured scalars
abbrev pub activation_of : File → ℕ → List ℕ → List Claim → BodyState → Activation
activation_of file site ids claims s = record { site = site; captured = captured_values file s ids; claims = with_skips s.moves claims }

-- the state with one more activation
abbrev pub with_activation : File → ℕ → List ℕ → List Claim → BodyState → BodyState
with_activation file site ids claims s =
    record s { activations = s.activations ++ activation_of file site ids claims s ∷ []; moves = moves_behind s.moves claims }

-- the control program ends at a limit; else there is one more activation
abbrev pub unless_limited : Option ControlLimit → BodyState → ℕ → BodyState → Ran
unless_limited limit s turns next = option_map_or (λ limit. Ended (Limited limit) s.activations) limit (goes_on next turns)

-- The number of the task with this PragmaStart, in the order of the text. In a program that tokens mean each mark has a
-- place of its own.
abbrev pub task_number : List Site → Mark → Option ℕ
task_number sites m = position (λ t. t.place == m.place) sites

-- what a task captures; its number is that of a task
abbrev pub captured_by : List Site → ℕ → List ℕ
captured_by sites number = get_or (map (λ t. t.captured) sites) number []

-- A task pragma: its items in order, then the limits, then the activation is there. Its PragmaStart is that of one of
-- the program's tasks.
abbrev pub run_task : File → List Site → Option ℕ → List ClauseMember → BodyState → ℕ → Ran
run_task file sites None ps s turns = goes_on s turns
run_task file sites (Some number) ps s turns = with_value (items_claims file ps s turns) s
    (λ c. unless_limited (limit s.activations c.value) s c.turns (with_activation file number (captured_by sites number) c.value s))

-- a tick moves the read cursor of a stream
abbrev pub moved : ℕ → ℕ → BodyState → BodyState
moved stream amount s = record s { moves = Tick stream amount ∷ s.moves }

-- the turn of a tick, behind its amount
abbrev pub tick_turn : ℕ → ℕ → BodyState → ℕ → Ran
tick_turn stream amount s zero = Ended OverBudget s.activations
tick_turn stream amount s (suc turns) = goes_on (moved stream amount s) turns

-- A tick: first the stream's index, then the amount, which is checked with the line of the `>>`, then a turn.
abbrev pub run_tick : File → tree.TargetTree → Mark → tree.ExprTree → BodyState → ℕ → Ran
run_tick file stream arrow e s turns = with_value (stream_number file stream s turns) s
    (λ n. with_value (value file e s n.turns) s (λ v. with_value (cursor_move arrow.line v.value) s (λ amount. tick_turn n.value amount s v.turns)))
