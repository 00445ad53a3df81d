-- How many slots a part of a program takes: sums over the tree, without scopes.
use Rattle.std.specs.Prelude.{⊤, ◌≡◌, ℕ, ◌+◌, Bool, true, false, List, [], ◌∷◌, Option, Some, None, unwrap_or}
use Rattle.os_ast.specs.Names.{Scope}
use Rattle.os_ast.specs.Notes.Declarators.{size_of}
use Rattle.os_ast.specs.Notes.Kinds.{Note, Declared}
use Rattle.os_ast.specs.Stacked.{Extent, main_extent, unit_extent}
use Rattle.os_ast.specs.Trees as tree
use Rattle.os_ast.specs.declared.names.Entity.{Entity}
use Rattle.os_ast.specs.declared.names.Owner.{Owner}
use Rattle.os_ast.specs.declared.names.Owner.TheVariants as owner

-- an array: in `main` it is a window, which has one slot
abbrev pub array_slots : Owner → ℕ → ℕ
array_slots owner.OfMain size = 1
array_slots owner.OfFunction size = size
array_slots owner.OfTask size = size

module _ (o : Owner) (size : tree.ExprTree → ℕ) where
  -- a declarator in a body of this owner, by the sizes of arrays
  abbrev pub declared_slots : Bool → Option tree.IndexTree → ℕ
  declared_slots true i = 0
  declared_slots false None = 1
  declared_slots false (Some i) = array_slots o (size i.value)

  abbrev pub declarators_slots : List tree.DeclaratorTree → ℕ
  declarators_slots [] = 0
  declarators_slots (d ∷ ds) = declared_slots d.stream d.size + declarators_slots ds

  abbrev pub start_slots : tree.StartTree → ℕ
  start_slots tree.StartTree.Empty = 0
  start_slots (tree.StartTree.Declare t ds) = declarators_slots ds
  start_slots (tree.StartTree.Change c) = 0

  -- A task has slots of its own.
  abbrev mutual
    pub stmt_slots : tree.StmtTree → ℕ
    stmt_slots tree.StmtTree.Empty = 0
    stmt_slots (tree.Block ss) = stmts_slots ss
    stmt_slots (tree.StmtTree.Declare t ds) = declarators_slots ds
    stmt_slots (tree.StmtTree.Change c) = 0
    stmt_slots (tree.StmtTree.Call f args) = 0
    stmt_slots (tree.If c a) = stmt_slots a
    stmt_slots (tree.IfElse c a b) = stmt_slots a + stmt_slots b
    stmt_slots (tree.While c a) = stmt_slots a
    stmt_slots (tree.For start test step a) = start_slots start + stmt_slots a
    stmt_slots (tree.Break m) = 0
    stmt_slots (tree.Continue m) = 0
    stmt_slots (tree.Return m e) = 0
    stmt_slots (tree.Task m cs a) = 0
    stmt_slots (tree.Tick m t arrow e) = 0
    stmt_slots (tree.Taskwait m) = 0

    pub stmts_slots : tree.Stmts → ℕ
    stmts_slots tree.no_stmts = 0
    stmts_slots (tree.stmt a rest) = stmt_slots a + stmts_slots rest

-- what has slots round a body, before its parameters: `osin_len`
abbrev pub slots_round : Owner → ℕ
slots_round owner.OfMain = 1
slots_round owner.OfFunction = 0
slots_round owner.OfTask = 0

-- the size of an array counts outside `main`: there it is a window's
abbrev pub IsArraySize : Owner → (told size : ℕ) → Type 0
IsArraySize owner.OfMain told size = ⊤
IsArraySize owner.OfFunction told size = told ≡ size
IsArraySize owner.OfTask told size = told ≡ size

-- an array has the size that its expression has by this
abbrev pub HasSize : (tree.ExprTree → ℕ) → Scope → Option tree.IndexTree → Type 0
HasSize size s None = ⊤
HasSize size s (Some i) = IsArraySize s.owner (unwrap_or (size_of s i.value) 0) (size i.value)

-- each array that is declared among these notes has
abbrev pub HasSizes : (tree.ExprTree → ℕ) → List Note → Type 0
HasSizes size [] = ⊤
HasSizes size (Declared s d ∷ ns) = HasSize size s d.size × HasSizes size ns
HasSizes size (_ ∷ ns) = HasSizes size ns

-- the slots of what is declared in bodies of this owner
abbrev pub extent_in : Owner → Entity → Option Extent
extent_in owner.OfMain = main_extent
extent_in owner.OfFunction = unit_extent
extent_in owner.OfTask = unit_extent
