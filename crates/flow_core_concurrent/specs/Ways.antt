-- The states that steps reach from opening, and what of the meaning they show.
use Rattle.std.specs.Prelude.{ℕ, ◌+◌, ◌==◌, Bool, false}
use Rattle.flow_core_concurrent.specs.Counted.{one}
use Rattle.flow_core_concurrent.specs.declared.known.Known.{Known}
use Rattle.flow_core_concurrent.specs.States.{CoreState, opening}
use Rattle.flow_core_concurrent.specs.Steps.{Step, split, join, claim, read, store, sub, finish, look}

-- A way from opening to a state, by steps of any seats in any order.
pub data Way (known : Known) : CoreState → Type 0 where
  opens : Way known (opening known)
  goes : (old new : CoreState) → Way known old → Step known old new → Way known new

-- whether a step is a STORE into a cell
abbrev pub stores_into : (known : Known) (old new : CoreState) → ℕ → Step known old new → Bool
stores_into known old new cell (split seat view needs) = false
stores_into known old new cell (join seat view other guest needs) = false
stores_into known old new cell (claim seat view frame needs) = false
stores_into known old new cell (read seat view run c needs) = false
stores_into known old new cell (store seat view run piece needs) = cell == piece.at + run.stored
stores_into known old new cell (sub seat view run piece needs) = false
stores_into known old new cell (finish seat view run end needs) = false
stores_into known old new cell (look seat view needs) = false

-- How many STOREs into a cell a way has.
abbrev pub stores : (known : Known) (state : CoreState) → ℕ → Way known state → ℕ
stores known state cell opens = 0
stores known state cell (goes old new way step) = stores known old cell way + one (stores_into known old new cell step)
