-- The code of a task's items and of ticks.
use Rattle.std.specs.Prelude.{ℕ, List, [], ◌∷◌, Option, Some, None, pos}
use Rattle.lowering_draft.specs.Draft.{with_instr, with_instrs}
use Rattle.lowering_draft.specs.Emission.Expressions.{Emission, expr_code}
use Rattle.os_ast.specs.ClauseMembers.{ClauseMember, Item, Private, target_name}
use Rattle.os_ast.specs.Trees as tree
use Rattle.os_ast.specs.declared.names.Direction.{Direction}
use Rattle.os_ast.specs.declared.names.Resolved.{Resolved}
use Rattle.os_ast.specs.declared.names.What.{What}
use Rattle.os_code.specs.declared.instr.Instr.TheVariants.{BurstIn, CheckAt, Push, Tick, Turn}
use Rattle.lowering_relation.specs.Names.{count_of, first_of}
use Rattle.lowering_relation.specs.Tasks.{bursting}

-- The stream of an item or a tick: its index, counted from the first number. That of a single stream is 0.
abbrev pub stream_code : (ℕ → Resolved) → tree.TargetTree → Emission
stream_code tells (tree.Variable n) draft = with_instr draft (Push (pos 0))
stream_code tells (tree.Element n m e) draft = with_instr (expr_code tells e draft) (CheckAt (count_of (tells n.mark.place).what) m.line)

-- the burst of an item, 1 where none is written
abbrev pub burst_code : (ℕ → Resolved) → Direction → What → Option tree.IndexTree → Emission
burst_code tells d w None draft = with_instr draft (Push (pos 1))
burst_code tells d w (Some i) draft = with_instr (expr_code tells i.value draft) (bursting d w i.mark.line)

abbrev pub join_code : (ℕ → Resolved) → Direction → Option tree.JoinTree → Emission
join_code tells d None draft = with_instr draft (Push (pos 1))
join_code tells d (Some j) draft = burst_code tells d (tells j.name.mark.place).what j.burst draft

-- an item: the stream's index, then the burst
abbrev pub item_code : (ℕ → Resolved) → Direction → tree.ClauseItemTree → Emission
item_code tells d i draft = join_code tells d i.window (stream_code tells i.stream draft)

abbrev pub items_code : (ℕ → Resolved) → List ClauseMember → Emission
items_code tells [] draft = draft
items_code tells (Private n ∷ ps) draft = items_code tells ps draft
items_code tells (Item d i ∷ ps) draft = items_code tells ps (item_code tells d i draft)

-- a tick: the stream's index, the amount, its check, its turn, the move
abbrev pub tick_code : (ℕ → Resolved) → tree.TargetTree → (line : ℕ) → tree.ExprTree → Emission
tick_code tells t line e draft =
    with_instrs (expr_code tells e (stream_code tells t draft))
    (BurstIn line ∷ Turn ∷ Tick (first_of (tells (target_name t).mark.place).what) ∷ [])
