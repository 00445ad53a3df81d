-- The constants and functions of a program, and the limits that a lawful one keeps.
use Rattle.std.specs.Prelude.{⊤, ◌≡◌, ℕ, suc, ◌≤◌, false, List, [], ◌∷◌}
use Rattle.os_ast.specs.Limits.{arrays_limit, streams_limit}
use Rattle.os_ast.specs.Names.{Scope}
use Rattle.os_ast.specs.ClauseMembers.{is_in}
use Rattle.os_ast.specs.Notes.Programs.{global_id}
use Rattle.os_ast.specs.Trees as tree

-- how many functions there are
abbrev pub count_functions : List tree.ItemTree → ℕ
count_functions [] = 0
count_functions (tree.Constant c ∷ is) = count_functions is
count_functions (tree.Function f ∷ is) = suc (count_functions is)

-- no two items have the same name, and none has one of the names `before`
abbrev pub AreApart : List ℕ → List tree.ItemTree → Type 0
AreApart before [] = ⊤
AreApart before (i ∷ is) = (is_in (global_id i) before ≡ false) × AreApart (global_id i ∷ before) is

-- a program has no more streams and elements of local arrays than it may have
pub record IsWithin (s : Scope) : Type 0 where
  pub streams : s.streams ≤ streams_limit
  pub arrays : s.arrays ≤ arrays_limit
