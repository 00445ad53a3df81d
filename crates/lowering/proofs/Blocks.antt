-- The statements of a block, one by one.
use Rattle.std.proofs.Common.{◌≡◌, ◌∙◌, ℕ, ◌+◌, ◌<◌, List, [], ◌∷◌, length, get_or, drop, length-drop, ap, refl, arith}
use Rattle.lowering_draft.specs.Emission.Statements.{block_code, next_behind, stmt_code, tail_code}
use Rattle.lowering_draft.specs.declared.draft.Draft.{Draft}
use Rattle.lowering_draft.specs.declared.draft.Label.{Label}
use Rattle.lowering_draft.specs.declared.exits.Exits.{Exits}
use Rattle.os_ast.specs.Trees as tree
use Rattle.os_ast.specs.Views.{stmt_tree, stmts_tree}
use Rattle.os_ast.specs.declared.names.Resolved.{Resolved}
use Rattle.os_ast.specs.declared.stmt.Stmt.{Stmt}
use Rattle.std.specs.Prelude.{Option}
use Rattle.window_check_laws.proofs.Trees.{stmts_tree-drop}

-- a statement, and the ones behind it
tail_step : (tells : ℕ → Resolved) (a : tree.StmtTree) (rest : List Stmt) (x : Exits) (next : Option Label) (d : Draft)
    → tail_code tells (tree.stmt a (stmts_tree rest)) x next d
    ≡ tail_code tells (stmts_tree rest) x next (stmt_code tells a x (next_behind (length rest) next) d)
tail_step tells a [] x next d = refl
tail_step tells a (b ∷ rest) x next d = refl

-- all statements of a block that has some
pub tail_all : (tells : ℕ → Resolved) (ss : List Stmt) (x : Exits) (next : Option Label) (d : Draft) → (length ss ≡ 0 → ⊥)
    → tail_code tells (stmts_tree ss) x next d ≡ block_code tells (stmts_tree ss) x next d
tail_all tells [] x next d some = absurd (some refl)
tail_all tells (s ∷ ss) x next d some = refl

-- one statement on
pub tail_next : (tells : ℕ → Resolved) (ss : List Stmt) (i behind : ℕ) (s : Stmt) (x : Exits) (next : Option Label) (d : Draft)
    → i < length ss → s ≡ get_or ss i s → behind + (i + 1) ≡ length ss
    → tail_code tells (stmts_tree (drop i ss)) x next d
    ≡ tail_code tells (stmts_tree (drop (i + 1) ss)) x next (stmt_code tells (stmt_tree s) x (next_behind behind next) d)
tail_next tells ss i behind s x next d within is count =
    let left : length (drop (i + 1) ss) ≡ behind = omega (arith, length-drop (i + 1) ss, count) in
    ap (λ t. tail_code tells t x next d) (stmts_tree-drop ss i s within is)
    ∙ tail_step tells (stmt_tree s) (drop (i + 1) ss) x next d
    ∙ ap (λ n. tail_code tells (stmts_tree (drop (i + 1) ss)) x next (stmt_code tells (stmt_tree s) x (next_behind n next) d)) left
