-- The statements of a block, read one at a time.
use Rattle.std.proofs.Common.{◌≡◌, ℕ, ◌+◌, ◌-◌, ◌<◌, List, [], ◌∷◌, ◌++◌, length, true, false, refl, sym, ap}
use Rattle.std.proofs.lemmas.List.{length_push}
use Rattle.os_parser_grammar.proofs.Lists.{fuel-left}
use Rattle.os_ast.specs.Means.{Placed}
use Rattle.os_ast.specs.Trees as tree
use Rattle.os_ast.specs.Trees.{StmtTree, Stmts}
use Rattle.os_ast.specs.Views.{stmt_tree, stmts_tree}
use Rattle.os_ast.specs.declared.stmt.Stmt.{Stmt}
use Rattle.os_lexer.specs.declared.token.Kind.TheVariants as kind
use Rattle.os_lexer.specs.declared.token.Punct.TheVariants as puncts
use Rattle.os_parser_grammar.specs.Reading.{Read, Reader, got, fails, ◌>>=◌, after, begins}
use Rattle.os_parser_grammar.specs.Statements.{stmts}

-- statements before further statements
unfoldable pub stmts_onto : List Stmt → Stmts → Stmts
stmts_onto [] rest = rest
stmts_onto (s ∷ ss) rest = tree.stmt (stmt_tree s) (stmts_onto ss rest)

stmts_onto-push : (ss : List Stmt) (s : Stmt) (rest : Stmts) → stmts_onto (ss ++ s ∷ []) rest ≡ stmts_onto ss (tree.stmt (stmt_tree s) rest)
unfolding stmts_onto
stmts_onto-push [] s rest = refl
stmts_onto-push (k ∷ ss) s rest = ap (tree.stmt (stmt_tree k)) (stmts_onto-push ss s rest)

stmts_onto-none : (ss : List Stmt) → stmts_onto ss tree.no_stmts ≡ stmts_tree ss
unfolding stmts_onto
stmts_onto-none [] = refl
stmts_onto-none (s ∷ ss) = ap (tree.stmt (stmt_tree s)) (stmts_onto-none ss)

-- statements that were read, before those that a reader gives
unfoldable pub with_stmts : List Stmt → Read Stmts → Read Stmts
with_stmts ss r = r >>= λ rest us. got (stmts_onto ss rest) us

with_stmts-push : (ss : List Stmt) (s : Stmt) (r : Read Stmts) →
    with_stmts ss (r >>= λ rest us. got (tree.stmt (stmt_tree s) rest) us) ≡ with_stmts (ss ++ s ∷ []) r
unfolding with_stmts
with_stmts-push ss s (got rest us) = ap (λ x. got x us) (sym (stmts_onto-push ss s rest))
with_stmts-push ss s (fails us) = refl

pub with_stmts-start : (r : Read Stmts) → with_stmts [] r ≡ r
unfolding with_stmts stmts_onto
with_stmts-start (got rest us) = refl
with_stmts-start (fails us) = refl

pub with_stmts-more : (F : ℕ) (ss : List Stmt) (item : Reader StmtTree) (ts us : List Placed) (s : Stmt) →
    length ss < F → begins (kind.Punct puncts.CloseBrace) ts ≡ false → item ts ≡ got (stmt_tree s) us →
    with_stmts ss (stmts (F - length ss) item ts) ≡ with_stmts (ss ++ s ∷ []) (stmts (F - length (ss ++ s ∷ [])) item us)
unfolding stmts
with_stmts-more F ss item ts us s h brace read =
    let f = fuel-left F (length ss) h in
    let n : length (ss ++ s ∷ []) ≡ length ss + 1 = length_push ss s in
    rw (n, f.1, f.2, brace, read) (with_stmts-push ss s (stmts f.0 item us))

pub with_stmts-fails : (F : ℕ) (ss : List Stmt) (item : Reader StmtTree) (ts us : List Placed) →
    length ss < F → begins (kind.Punct puncts.CloseBrace) ts ≡ false → item ts ≡ fails us →
    with_stmts ss (stmts (F - length ss) item ts) ≡ fails us
unfolding stmts with_stmts
with_stmts-fails F ss item ts us h brace read =
    let f = fuel-left F (length ss) h in
    rw (f.1, brace, read) refl

pub with_stmts-end : (F : ℕ) (ss : List Stmt) (item : Reader StmtTree) (ts : List Placed) →
    length ss < F → begins (kind.Punct puncts.CloseBrace) ts ≡ true →
    with_stmts ss (stmts (F - length ss) item ts) ≡ got (stmts_tree ss) (after ts)
unfolding stmts with_stmts
with_stmts-end F ss item ts h brace =
    let f = fuel-left F (length ss) h in
    rw (f.1, brace, stmts_onto-none ss) refl
