-- The slots of a body are few for its tokens, so that no sum of them is stopped.
use Rattle.std.proofs.Common.{◌≡◌, ℕ, ◌+◌, ◌<◌, ◌≤◌, ◌^◌, ◌&&◌, Bool, true, false, if◌then◌else◌, leb, List, [], ◌∷◌, ◌++◌, Option, Some, None, refl, arith}
use Rattle.std.specs.Prelude.{ℤ, pos, negsuc, is_some, unwrap_or}
use Rattle.std.proofs.lemmas.Bool.{leb-true, and_parts}
use Rattle.lowering_draft.specs.Emission.Units.{capped}
use Rattle.os_ast.specs.Limits.{size_limit}
use Rattle.os_ast.specs.Notes.Declarators.{within_limit}
use Rattle.os_ast.specs.Trees as tree
use Rattle.os_ast.specs.declared.names.Owner.{Owner}
use Rattle.os_ast.specs.declared.names.Owner.TheVariants as owner
use Rattle.os_ast.specs.declared.names.Resolved.{Resolved}
use Rattle.os_ast.specs.declared.names.What.{What}
use Rattle.os_ast.specs.declared.names.What.TheVariants as what
use Rattle.lowering_relation.specs.Programs.{constant_size, size_by}
use Rattle.lowering_relation.specs.Tasks.{TaskTree, all_tasks_of, tasks_of}
use Rattle.window_check_laws.specs.Room.{declarators_weight, start_weight, stmt_weight, stmts_weight}
use Rattle.window_check_laws.specs.Sums.{array_slots, declared_slots, declarators_slots, start_slots, stmt_slots, stmts_slots}

-- a size is at most the limit
chosen_small : (b : Bool) (n : ℕ) → (b ≡ true → n ≤ size_limit) → unwrap_or (if b then Some n else None) 0 ≤ size_limit
chosen_small true n h = h refl
chosen_small false n h = omega arith

limit_small : (v : ℤ) → unwrap_or (within_limit v) 0 ≤ size_limit
limit_small (pos n) = chosen_small (leb 1 n && leb n size_limit) n (λ e. leb-true n size_limit (and_parts (leb 1 n) (leb n size_limit) e).1)
limit_small (negsuc n) = omega arith

constant_small : (w : What) → constant_size w ≤ size_limit
constant_small (what.Constant v) = limit_small v
constant_small (what.Function n) = omega arith
constant_small (what.Scalar n) = omega arith
constant_small (what.Array n k) = omega arith
constant_small (what.Window n) = omega arith
constant_small (what.Stream n k) = omega arith
constant_small (what.Element n) = omega arith
constant_small (what.View n) = omega arith

pub size_small : (tells : ℕ → Resolved) (e : tree.ExprTree) → size_by tells e ≤ size_limit
size_small tells (tree.Number n) = limit_small (pos n)
size_small tells (tree.Wide n) = limit_small (pos n)
size_small tells (tree.Place (tree.Variable n)) = constant_small (tells n.mark.place).what
size_small tells (tree.Place (tree.Element n m e)) = omega arith
size_small tells (tree.ExprTree.Call f args) = omega arith
size_small tells (tree.Paren e) = omega arith
size_small tells (tree.Unary op m e) = omega arith
size_small tells (tree.Chain l first links) = omega arith
size_small tells (tree.Choice c a b) = omega arith

module _ (o : Owner) (size : tree.ExprTree → ℕ) (small : (e : tree.ExprTree) → size e ≤ size_limit) where
  array_small : (o : Owner) (n : ℕ) → n ≤ size_limit → array_slots o n ≤ size_limit
  array_small owner.OfMain n le = omega arith
  array_small owner.OfFunction n le = le
  array_small owner.OfTask n le = le

  declared_small : (stream : Bool) (i : Option tree.IndexTree) → declared_slots o size stream i ≤ (if is_some i then size_limit else 1)
  declared_small true None = omega arith
  declared_small true (Some i) = omega arith
  declared_small false None = omega arith
  declared_small false (Some i) = array_small o (size i.value) (small i.value)

  declarators_small : (ds : List tree.DeclaratorTree) → declarators_slots o size ds ≤ declarators_weight ds
  declarators_small [] = omega arith
  declarators_small (d ∷ ds) = omega (arith, declared_small d.stream d.size, declarators_small ds)

  start_small : (t : tree.StartTree) → start_slots o size t ≤ start_weight t
  start_small tree.StartTree.Empty = omega arith
  start_small (tree.StartTree.Declare ty ds) = declarators_small ds
  start_small (tree.StartTree.Change c) = omega arith

  mutual
    pub stmt_small : (a : tree.StmtTree) → stmt_slots o size a ≤ stmt_weight a
    stmt_small tree.StmtTree.Empty = omega arith
    stmt_small (tree.Block ss) = omega (arith, stmts_small ss)
    stmt_small (tree.StmtTree.Declare ty ds) = declarators_small ds
    stmt_small (tree.StmtTree.Change c) = omega arith
    stmt_small (tree.StmtTree.Call f args) = omega arith
    stmt_small (tree.If c a) = stmt_small a
    stmt_small (tree.IfElse c a b) = omega (arith, stmt_small a, stmt_small b)
    stmt_small (tree.While c a) = stmt_small a
    stmt_small (tree.For start test step a) = omega (arith, start_small start, stmt_small a)
    stmt_small (tree.Break m) = omega arith
    stmt_small (tree.Continue m) = omega arith
    stmt_small (tree.Return m e) = omega arith
    stmt_small (tree.Task m cs a) = omega arith
    stmt_small (tree.Tick m t arrow e) = omega arith
    stmt_small (tree.Taskwait m) = omega arith

    pub stmts_small : (ss : tree.Stmts) → stmts_slots o size ss ≤ stmts_weight ss
    stmts_small tree.no_stmts = omega arith
    stmts_small (tree.stmt a rest) = omega (arith, stmt_small a, stmts_small rest)

-- the bodies of tasks weigh no more than what they stand in
abbrev pub tasks_weight : List TaskTree → ℕ
tasks_weight [] = 0
tasks_weight (t ∷ ts) = stmt_weight t.body + tasks_weight ts

weight-append : (ts us : List TaskTree) → tasks_weight (ts ++ us) ≡ tasks_weight ts + tasks_weight us
weight-append [] us = omega arith
weight-append (t ∷ ts) us = omega (arith, weight-append ts us)

mutual
  tasks_small : (a : tree.StmtTree) → tasks_weight (tasks_of a) ≤ stmt_weight a
  tasks_small tree.StmtTree.Empty = omega arith
  tasks_small (tree.Block ss) = omega (arith, all_tasks_small ss)
  tasks_small (tree.StmtTree.Declare ty ds) = omega arith
  tasks_small (tree.StmtTree.Change c) = omega arith
  tasks_small (tree.StmtTree.Call f args) = omega arith
  tasks_small (tree.If c a) = tasks_small a
  tasks_small (tree.IfElse c a b) = omega (arith, weight-append (tasks_of a) (tasks_of b), tasks_small a, tasks_small b)
  tasks_small (tree.While c a) = tasks_small a
  tasks_small (tree.For start test step a) = omega (arith, tasks_small a)
  tasks_small (tree.Break m) = omega arith
  tasks_small (tree.Continue m) = omega arith
  tasks_small (tree.Return m e) = omega arith
  tasks_small (tree.Task m cs a) = omega arith
  tasks_small (tree.Tick m t arrow e) = omega arith
  tasks_small (tree.Taskwait m) = omega arith

  pub all_tasks_small : (ss : tree.Stmts) → tasks_weight (all_tasks_of ss) ≤ stmts_weight ss
  all_tasks_small tree.no_stmts = omega arith
  all_tasks_small (tree.stmt a rest) = omega (arith, weight-append (tasks_of a) (all_tasks_of rest), tasks_small a, all_tasks_small rest)

pub capped_small : (n : ℕ) → n < 2 ^ 32 → capped n ≡ n
capped_small n small = omega (arith, small)
