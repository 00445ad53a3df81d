-- The two ends of a deque: what each shows as a line, and which deque it is an end of.
use Rattle.std.specs.Prelude.{ℕ, ◌-◌, ◌+◌, ◌==◌, List, ◌++◌, take, drop, length, Some, None, if◌then◌else◌}
use Rattle.std.specs.declared.alloc.Global.{Global}
use Rattle.atomic_blocks.specs.Lent.{RowsId}
use Rattle.crossbeam_deque.specs.Handles.{worker_view, worker_deque, stealer_deque, view}
use Rattle.steal_pool.specs.Lines.{LineState}
use Rattle.steal_pool.specs.Stakes.{whole}
use Rattle.steal_pool.specs.declared.rule.Stake.{Stake}
use Rattle.steal_pool.specs.declared.lines.OwnLine.{OwnLine}
use Rattle.steal_pool.specs.declared.lines.StealLine.{StealLine}

abbrev pub own_view : OwnLine → Stake
own_view line = worker_view line.owner

abbrev pub thief_view : StealLine → Stake
thief_view line = view line.pass

-- the owner's end; how many are left is told where nothing of the deque was cut off
abbrev pub own_shows : OwnLine → LineState
own_shows line = record {
  finds = line.finds;
  races = 0;
  bound = (worker_view line.owner).bound;
  handed_out = (worker_view line.owner).taken;
  left = if (worker_view line.owner).fraction == whole then Some (length (worker_view line.owner).pushed - length (worker_view line.owner).taken) else None;
}

-- what a thief's end of a deque shows of its line
abbrev pub steal_shows : StealLine → LineState
steal_shows line = record { finds = line.finds; races = line.races; bound = (view line.pass).bound; handed_out = (view line.pass).taken; left = None }

-- the identity of a deque, which all its ends share
abbrev pub Deque : Type 0
Deque = RowsId × Global

abbrev pub own_deque : OwnLine → Deque
own_deque line = worker_deque line.owner

abbrev pub stolen_deque : StealLine → Deque
stolen_deque line = stealer_deque line.stealer

-- the deques of a ring but for the one at a place, beginning with the one behind it
abbrev pub rest_of_ring : List Deque → ℕ → List Deque
rest_of_ring deques at = drop (at + 1) deques ++ take at deques
