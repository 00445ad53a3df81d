use Rattle.std.proofs.Common.{◌≡◌, ℕ, ℤ, List, Option, ◌+◌, ◌<◌, ◌≤◌, length}
use Rattle.flow_core_laws.specs.declared.elem.Elem.{Elem}
use Rattle.flow_core_laws.specs.Element.{output_element}
use Rattle.flow_core_laws.specs.Plans.{held_at}
use Rattle.flow_core.proofs.cells.fill.Given as goal

-- the first elements are in their cells, and the other cells are as they were
pub record Filled (cells old : List (Option Elem)) (at first k : ℕ) (root : Option ℕ) (outputs : List ℤ) : Type 0 where
  pub same_length : length cells ≡ length old
  pub filled : (i : ℕ) → i < k → held_at cells (at + i) ≡ output_element root outputs (first + i)
  pub before : (c : ℕ) → c < at → held_at cells c ≡ held_at old c
  pub behind : (c : ℕ) → at + k ≤ c → held_at cells c ≡ held_at old c

abbrev pub invariant-loop-k : goal.invariant-loop-k
invariant-loop-k l = Filled l.cells.items l.initial.cells.items l.fn.piece.at l.fn.piece.first l.k l.fn.root l.fn.outputs
