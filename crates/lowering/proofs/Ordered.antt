-- The names of a program stand in the order of their places.
use Rattle.std.proofs.Common.{◌≡◌, ℕ, zero, suc, ◌<◌, List, [], ◌∷◌, length, subst, sym, arith}
use Rattle.lowering_draft.specs.Ascending.{Ascends, name_at}
use Rattle.os_ast.specs.Marks.{HasPlaces}
use Rattle.os_ast.specs.Trees as tree
use Rattle.os_ast.specs.Violations.{names}
use Rattle.os_ast.specs.declared.names.Resolved.{Resolved}
use Rattle.window_check_laws.proofs.Ordered.{names_in_order}
use Rattle.window_check_laws.specs.Order.{InOrder, IsBelowNext}

-- what stands behind a name has a greater place
behind : (place : ℕ) (rs : List Resolved) (j : ℕ) → IsBelowNext place rs → j < length rs → place < (name_at rs j).place
behind place [] j below within = absurd (omega (arith, within))
behind place (r ∷ rs) zero below within = below.0
behind place (r ∷ rs) (suc j) below within = omega (arith, below.0, behind r.place rs j below.1 (omega (arith, within)))

-- names in order, without the first
order_rest : (place : ℕ) (rs : List Resolved) → IsBelowNext place rs → InOrder rs
order_rest place [] below = tt
order_rest place (r ∷ rs) below = below.1

ascends : (rs : List Resolved) → InOrder rs → Ascends rs
ascends [] order i j less within = absurd (omega (arith, within))
ascends (r ∷ rs) order i zero less within = absurd (omega (arith, less))
ascends (r ∷ rs) order zero (suc j) less within = behind r.place rs j order (omega (arith, within))
ascends (r ∷ rs) order (suc i) (suc j) less within = ascends rs (order_rest r.place rs order) i j (omega (arith, less)) (omega (arith, within))

pub names_ascend : (p : tree.ProgramTree) (rs : List Resolved) → HasPlaces p → rs ≡ names p → Ascends rs
names_ascend p rs placed named = subst Ascends (sym named) (ascends (names p) (names_in_order p placed))
