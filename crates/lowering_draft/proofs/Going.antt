-- That the code of a statement stands for it, wherever it is left and goes on.
use Rattle.std.proofs.Common.{◌≡◌, ℕ, length, Option}
use Rattle.lowering_draft.specs.Draft.{Becomes}
use Rattle.lowering_draft.specs.Emission.Statements.{block_code, stmt_code}
use Rattle.lowering_draft.specs.Going.{AreNumbered, GoesOn}
use Rattle.lowering_draft.specs.declared.draft.Draft.{Draft}
use Rattle.lowering_draft.specs.declared.draft.Label.{Label}
use Rattle.lowering_draft.specs.declared.exits.Exits.{Exits}
use Rattle.os_ast.specs.Trees as tree
use Rattle.os_code.specs.declared.parts.Parts.{Parts}
use Rattle.lowering_relation.specs.Statements.{Body, HasStmt, HasStmts}
use Rattle.lowering_relation.specs.Tasks.{all_tasks_of, tasks_of}

module _ (code : Parts) (place_of : ℕ → ℕ) (b : Body) where
  -- what stands for a statement and for a block, by the labels of its exits
  abbrev pub StmtAt : tree.StmtTree → Exits → (next from to : ℕ) → Type 0
  StmtAt s x = HasStmt code b s (place_of x.broke.number) (place_of x.continued.number)

  abbrev pub StmtsAt : tree.Stmts → Exits → (next from to : ℕ) → Type 0
  StmtsAt ss x = HasStmts code b ss (place_of x.broke.number) (place_of x.continued.number)

  -- what their drafts become
  abbrev pub Goes : tree.StmtTree → Type 0
  Goes s = (x : Exits) → x.leaves ≡ b.leaves → (next : Option Label) (d : Draft) → AreNumbered b.tasks d.spawned (tasks_of s) →
      Becomes (stmt_code b.tells s x next d) code place_of →
      GoesOn code place_of next (StmtAt s x) (length d.instrs) (length (stmt_code b.tells s x next d).instrs)

  abbrev pub GoesAll : tree.Stmts → Type 0
  GoesAll ss = (x : Exits) → x.leaves ≡ b.leaves → (next : Option Label) (d : Draft) → AreNumbered b.tasks d.spawned (all_tasks_of ss) →
      Becomes (block_code b.tells ss x next d) code place_of →
      GoesOn code place_of next (StmtsAt ss x) (length d.instrs) (length (block_code b.tells ss x next d).instrs)
