-- What is spelled as a statement or a program is read back.
use Rattle.std.proofs.Common.{◌≡◌, ℕ, suc, ◌+◌, ◌≤◌, ◌<◌, Bool, true, false, List, [], ◌∷◌, Option, refl, ap, ◌∙◌, length, arith}
use Rattle.std.proofs.lemmas.List.{length-append}
use Rattle.os_ast.specs.Beginnings as can
use Rattle.os_ast.specs.Beginnings.{BeginsWith, CanBeginStmt}
use Rattle.os_ast.specs.Depth.{expr_depth, stmt_depth}
use Rattle.os_ast.specs.Leveled.{IsExpr}
use Rattle.os_ast.specs.Means as means
use Rattle.os_ast.specs.Means.{Placed, placed, Fit}
use Rattle.os_ast.specs.Spelling as spelling
use Rattle.os_ast.specs.Spelling.{Symbol, Printer, bare, marked}
use Rattle.os_ast.specs.Trees as tree
use Rattle.os_ast.specs.Trees.{ExprTree, Args, TargetTree, DeclaratorTree, StartTree, ChangeTree, ClauseTree, StmtTree, Stmts}
use Rattle.os_ast.specs.declared.expr.Mark.{Mark}
use Rattle.os_ast.specs.declared.expr.Name.{Name}
use Rattle.os_ast.specs.declared.stmt.Step.{Step}
use Rattle.os_ast.proofs.Prints.{Prints}
use Rattle.os_lexer.specs.Names.{omp_id, task_id, tick_id, taskwait_id}
use Rattle.os_lexer.specs.declared.token.Key.TheVariants as keys
use Rattle.os_lexer.specs.declared.token.Kind.{Kind}
use Rattle.os_lexer.specs.declared.token.Kind.TheVariants as kind
use Rattle.os_lexer.specs.declared.token.Punct.TheVariants as puncts
use Rattle.os_parser_grammar.specs.Beginners.{stmt_start, stmt_at}
use Rattle.os_parser_grammar.specs.Expressions.{args, expr_on, layer, below}
use Rattle.os_parser_grammar.specs.Kinds.{same}
use Rattle.os_parser_grammar.specs.Reading.{got, begins}
use Rattle.os_parser_grammar.specs.Statements.{Inner, inner, before, ended, named_stmt, block, condition, if_stmt, while_stmt, start, head_test, step, head, for_stmt, return_stmt, clauses, task, target, ticked, tick, taskwait, pragma, stmt_by, stmt_on}
use Rattle.os_parser_grammar.specs.declared.stmt_start.StmtStart.{StmtStart}
use Rattle.os_parser_grammar.specs.declared.stmt_start.StmtStart.TheVariants as starts
use Rattle.os_parser_grammar.proofs.Depths.{readers_of-inner}
use Rattle.os_parser_grammar.proofs.SameKinds.{same-equal}
use Rattle.os_parser_grammar.proofs.BackExprs.{Back, Plain, plain-back, Noted, expect-back, name_of, back-expr, closing}
use Rattle.os_parser_grammar.proofs.BackChanges.{Targeted}

pub stmt-some : (s : StmtTree) → 1 ≤ stmt_depth s
stmt-some tree.StmtTree.Empty = omega arith
stmt-some (tree.Block ss) = omega arith
stmt-some (tree.StmtTree.Declare t ds) = omega arith
stmt-some (tree.StmtTree.Change c) = omega arith
stmt-some (tree.StmtTree.Call f es) = omega arith
stmt-some (tree.If c a) = omega arith
stmt-some (tree.IfElse c a b) = omega arith
stmt-some (tree.While c s) = omega arith
stmt-some (tree.For st e c s) = omega arith
stmt-some (tree.Break m) = omega arith
stmt-some (tree.Continue m) = omega arith
stmt-some (tree.Return m e) = omega arith
stmt-some (tree.Task m cs s) = omega arith
stmt-some (tree.Tick m t a e) = omega arith
stmt-some (tree.Taskwait m) = omega arith

-- tokens are as many as the symbols that they fit
pub fit-length : {ps : List Symbol} {ts : List Placed} → Fit ps ts → length ps ≡ length ts
fit-length means.none = refl
fit-length (means.bare f) = ap suc (fit-length f)
fit-length (means.marked f) = ap suc (fit-length f)

pub begins-some : {P : Kind → Type 0} {ps : List Symbol} → BeginsWith P ps → 1 ≤ length ps
begins-some (can.begins p) = omega arith

pub print-less : {p : Printer} {P : Kind → Type 0} (ps : List Symbol) (ts us : List Placed) → Prints p → BeginsWith P (p []) → Fit (p ps) ts → Fit ps us → length us < length ts
print-less {p} ps ts us h b f g =
    let whole : length (p ps) ≡ length (p []) + length ps = ap length (h.in_front ps) ∙ length-append (p []) ps in
    let x = fit-length f in
    let y = fit-length g in
    let some = begins-some b in
    omega arith

-- how a statement is told by its first token
pub lift : {st : StmtStart} (s : Option Inner) (x : StmtTree) (ps : List Symbol) (ts : List Placed) → stmt_at ts ≡ st → Back (stmt_by st s) x ps ts → Back (stmt_on s) x ps ts
unfolding stmt_on
lift s x ps ts is b = record { rest = b.rest; read = rw is b.read; fits = b.fits; within = b.within }

no-other : (l k : Kind) (m : Mark) (s : Option Inner) (x : StmtTree) (ts us : List Placed) (b : Bool) → stmt_start l ≡ starts.Other → same k l ≡ b →
    stmt_by (stmt_start k) s (placed k m ∷ ts) ≡ got x us → b ≡ false
unfolding stmt_by
no-other l k m s x ts us true other e read =
    let is : stmt_start k ≡ starts.Other = ap stmt_start (same-equal k l e) ∙ other in
    absurd (cc (rw is at read))
no-other l k m s x ts us false other e read = refl

pub not-other : (l : Kind) (s : Option Inner) (x : StmtTree) (ts us : List Placed) → stmt_start l ≡ starts.Other → stmt_on s ts ≡ got x us → begins l ts ≡ false
unfolding stmt_on
not-other l s x [] us other read = refl
not-other l s x (placed k m ∷ ts) us other read = no-other l k m s x ts us (same k l) other refl read

-- statements, each from its parts
pub empty-back : (s : Option Inner) (ps : List Symbol) (ts : List Placed) → Plain (kind.Punct puncts.Semicolon) ps ts → Back (stmt_by starts.Semicolon s) tree.StmtTree.Empty ps ts
unfolding stmt_by
empty-back s ps ts t =
    let size = ap length t.head in
    record { rest = t.rest; read = rw t.head refl; fits = t.fits; within = omega arith }

pub block-back : (s : Option Inner) (ss : Stmts) (ps qs : List Symbol) (ts : List Placed) → (t : Plain (kind.Punct puncts.OpenBrace) qs ts) → Back (block s) ss ps t.rest →
    Back (stmt_by starts.Brace s) (tree.Block ss) ps ts
unfolding stmt_by
block-back s ss ps qs ts t b =
    let size = ap length t.head in
    record { rest = b.rest; read = rw (t.head, b.read) refl; fits = b.fits; within = omega (arith, b.within) }

pub named-change : (d : ℕ) (c : ChangeTree) (ps : List Symbol) (ts : List Placed) → (g : Targeted d c (bare (kind.Punct puncts.Semicolon) ∷ ps) ts) →
    Plain (kind.Punct puncts.Semicolon) ps g.back.rest → Back (stmt_by (starts.Name (name_of g.target).id) (inner d)) (tree.StmtTree.Change c) ps ts
unfolding stmt_by named_stmt
named-change d c ps ts g t =
    let s0 = ap length g.begun.head in
    let s1 = ap length t.head in
    record {
      rest = t.rest;
      read = rw (readers_of-inner d, g.begun.head, g.begun.open_paren, g.begun.back.read, g.back.read, t.head, expect-back (kind.Punct puncts.Semicolon) t.mark t.rest) refl;
      fits = t.fits;
      within = omega (arith, g.begun.back.within, g.back.within);
    }

pub stepped-back : (d : ℕ) (s : Step) (x : StmtTree) (ps : List Symbol) (ts : List Placed) → Back (λ us. ended (before s (below d) us) tree.StmtTree.Change) x ps ts →
    Back (stmt_by (starts.Step s) (inner d)) x ps ts
unfolding stmt_by
stepped-back d s x ps ts b = record { rest = b.rest; read = rw (readers_of-inner d) b.read; fits = b.fits; within = b.within }

pub call-back : (d : ℕ) (n : Name) (es : Args) (ps qs : List Symbol) (ts : List Placed) → (t : Noted (kind.Name n.id) n.mark qs ts) → begins (kind.Punct puncts.OpenParen) t.rest ≡ true →
    (b : Back (args (below d)) es (bare (kind.Punct puncts.Semicolon) ∷ ps) t.rest) → Plain (kind.Punct puncts.Semicolon) ps b.rest →
    Back (stmt_by (starts.Name n.id) (inner d)) (tree.StmtTree.Call n es) ps ts
unfolding stmt_by named_stmt
call-back d n es ps qs ts t opens b u =
    let s0 = ap length t.head in
    let s1 = ap length u.head in
    record {
      rest = u.rest;
      read = rw (readers_of-inner d, t.head, opens, b.read, u.head, expect-back (kind.Punct puncts.Semicolon) u.mark u.rest) refl;
      fits = u.fits;
      within = omega (arith, b.within);
    }

condition-back : (c : ℕ) (e : ExprTree) (ps qs : List Symbol) (ts : List Placed) → (t : Plain (kind.Punct puncts.OpenParen) qs ts) →
    (b : Back (expr_on (below c)) e (bare (kind.Punct puncts.CloseParen) ∷ ps) t.rest) → Plain (kind.Punct puncts.CloseParen) ps b.rest → Back (condition (layer (below c))) e ps ts
unfolding condition
condition-back c e ps qs ts t b u =
    let s0 = ap length t.head in
    let s1 = ap length u.head in
    record {
      rest = u.rest;
      read = rw (t.head, expect-back (kind.Punct puncts.OpenParen) t.mark t.rest, b.read, u.head, expect-back (kind.Punct puncts.CloseParen) u.mark u.rest) refl;
      fits = u.fits;
      within = omega (arith, b.within);
    }

pub back-condition : (c : ℕ) {e : ExprTree} (ps : List Symbol) (ts : List Placed) → IsExpr e → expr_depth e ≤ suc c → Fit (spelling.in_parens (spelling.expr e) ps) ts →
    Back (condition (layer (below c))) e ps ts
back-condition c ps ts is h f =
    let t = plain-back f in
    let b = back-expr c is h t.fits (closing _) in
    condition-back c _ ps _ ts t b (plain-back b.fits)

pub if-back : (c : ℕ) (e : ExprTree) (a : StmtTree) (ps p0 p1 : List Symbol) (ts : List Placed) → (t : Plain (kind.Key keys.If) p0 ts) →
    (x : Back (condition (layer (below c))) e p1 t.rest) → (y : Back (stmt_on (inner c)) a ps x.rest) → begins (kind.Key keys.Else) y.rest ≡ false →
    Back (stmt_by starts.If (inner (suc c))) (tree.If e a) ps ts
unfolding stmt_by if_stmt inner
if-back c e a ps p0 p1 ts t x y off =
    let size = ap length t.head in
    record { rest = y.rest; read = rw (t.head, x.read, y.read, off) refl; fits = y.fits; within = omega (arith, x.within, y.within) }

pub if_else-back : (c : ℕ) (e : ExprTree) (a b : StmtTree) (ps p0 p1 p2 p3 : List Symbol) (ts : List Placed) → (t : Plain (kind.Key keys.If) p0 ts) →
    (x : Back (condition (layer (below c))) e p1 t.rest) → (y : Back (stmt_on (inner c)) a p2 x.rest) → (u : Plain (kind.Key keys.Else) p3 y.rest) →
    Back (stmt_on (inner c)) b ps u.rest → Back (stmt_by starts.If (inner (suc c))) (tree.IfElse e a b) ps ts
unfolding stmt_by if_stmt inner
if_else-back c e a b ps p0 p1 p2 p3 ts t x y u z =
    let s0 = ap length t.head in
    let s1 = ap length u.head in
    record { rest = z.rest; read = rw (t.head, x.read, y.read, u.head, z.read) refl; fits = z.fits; within = omega (arith, x.within, y.within, z.within) }

pub while-back : (c : ℕ) (e : ExprTree) (a : StmtTree) (ps p0 p1 : List Symbol) (ts : List Placed) → (t : Plain (kind.Key keys.While) p0 ts) →
    (x : Back (condition (layer (below c))) e p1 t.rest) → Back (stmt_on (inner c)) a ps x.rest → Back (stmt_by starts.While (inner (suc c))) (tree.While e a) ps ts
unfolding stmt_by while_stmt inner
while-back c e a ps p0 p1 ts t x y =
    let size = ap length t.head in
    record { rest = y.rest; read = rw (t.head, x.read, y.read) refl; fits = y.fits; within = omega (arith, x.within, y.within) }

pub for-back : (c : ℕ) (st : StartTree) (e : Option ExprTree) (ch : Option ChangeTree) (a : StmtTree) (ps p0 p1 p2 p3 p4 : List Symbol) (ts : List Placed) →
    (t : Plain (kind.Key keys.For) p0 ts) → (o : Plain (kind.Punct puncts.OpenParen) p1 t.rest) → (x : Back (start (below (suc c))) st p2 o.rest) →
    (y : Back (head_test (layer (below c))) e p3 x.rest) → (z : Back (step (below (suc c))) ch p4 y.rest) → Back (stmt_on (inner c)) a ps z.rest →
    Back (stmt_by starts.For (inner (suc c))) (tree.For st e ch a) ps ts
unfolding stmt_by for_stmt head inner below
for-back c st e ch a ps p0 p1 p2 p3 p4 ts t o x y z w =
    let s0 = ap length t.head in
    let s1 = ap length o.head in
    record {
      rest = w.rest;
      read = rw (t.head, o.head, expect-back (kind.Punct puncts.OpenParen) o.mark o.rest, x.read, y.read, z.read, w.read) refl;
      fits = w.fits;
      within = omega (arith, x.within, y.within, z.within, w.within);
    }

pub break-back : (s : Option Inner) (m : Mark) (ps qs : List Symbol) (ts : List Placed) → (t : Noted (kind.Key keys.Break) m qs ts) → Plain (kind.Punct puncts.Semicolon) ps t.rest →
    Back (stmt_by starts.Break s) (tree.Break m) ps ts
unfolding stmt_by
break-back s m ps qs ts t u =
    let s0 = ap length t.head in
    let s1 = ap length u.head in
    record { rest = u.rest; read = rw (t.head, u.head, expect-back (kind.Punct puncts.Semicolon) u.mark u.rest) refl; fits = u.fits; within = omega arith }

pub continue-back : (s : Option Inner) (m : Mark) (ps qs : List Symbol) (ts : List Placed) → (t : Noted (kind.Key keys.Continue) m qs ts) → Plain (kind.Punct puncts.Semicolon) ps t.rest →
    Back (stmt_by starts.Continue s) (tree.Continue m) ps ts
unfolding stmt_by
continue-back s m ps qs ts t u =
    let s0 = ap length t.head in
    let s1 = ap length u.head in
    record { rest = u.rest; read = rw (t.head, u.head, expect-back (kind.Punct puncts.Semicolon) u.mark u.rest) refl; fits = u.fits; within = omega arith }

pub return-back : (c : ℕ) (m : Mark) (e : ExprTree) (ps qs : List Symbol) (ts : List Placed) → (t : Noted (kind.Key keys.Return) m qs ts) →
    (b : Back (expr_on (below c)) e (bare (kind.Punct puncts.Semicolon) ∷ ps) t.rest) → Plain (kind.Punct puncts.Semicolon) ps b.rest →
    Back (stmt_by starts.Return (inner (suc c))) (tree.Return m e) ps ts
unfolding stmt_by return_stmt below
return-back c m e ps qs ts t b u =
    let s0 = ap length t.head in
    let s1 = ap length u.head in
    record {
      rest = u.rest;
      read = rw (readers_of-inner (suc c), t.head, b.read, u.head, expect-back (kind.Punct puncts.Semicolon) u.mark u.rest) refl;
      fits = u.fits;
      within = omega (arith, b.within);
    }

pub task-back : (c : ℕ) (m : Mark) (cs : List ClauseTree) (a : StmtTree) (ps p0 p1 p2 p3 : List Symbol) (ts : List Placed) → (t : Noted kind.PragmaStart m p0 ts) →
    (o : Plain (kind.Name omp_id) p1 t.rest) → (w : Plain (kind.Name task_id) p2 o.rest) → (x : Back (clauses (below (suc c))) cs (bare kind.PragmaEnd ∷ p3) w.rest) →
    (u : Plain kind.PragmaEnd p3 x.rest) → Back (stmt_on (inner c)) a ps u.rest → Back (stmt_by starts.Pragma (inner (suc c))) (tree.Task m cs a) ps ts
unfolding stmt_by pragma task inner below
task-back c m cs a ps p0 p1 p2 p3 ts t o w x u y =
    let s0 = ap length t.head in
    let s1 = ap length o.head in
    let s2 = ap length w.head in
    let s3 = ap length u.head in
    record {
      rest = y.rest;
      read = rw (t.head, o.head, expect-back (kind.Name omp_id) o.mark o.rest, w.head, x.read, u.head, expect-back kind.PragmaEnd u.mark u.rest, y.read) refl;
      fits = y.fits;
      within = omega (arith, x.within, y.within);
    }

pub tick-back : (c : ℕ) (m : Mark) (g : TargetTree) (a : Mark) (e : ExprTree) (ps p0 p1 p2 p3 p4 p5 p6 : List Symbol) (ts : List Placed) → (t : Noted kind.PragmaStart m p0 ts) →
    (o : Plain (kind.Name omp_id) p1 t.rest) → (w : Plain (kind.Name tick_id) p2 o.rest) → (q : Plain (kind.Punct puncts.OpenParen) p3 w.rest) →
    (x : Back (target (below (suc c))) g p4 q.rest) → (r : Noted (kind.Punct puncts.ShiftRight) a p5 x.rest) → (y : Back (expr_on (below c)) e p6 r.rest) →
    (u : Plain (kind.Punct puncts.CloseParen) (bare kind.PragmaEnd ∷ ps) y.rest) → Plain kind.PragmaEnd ps u.rest →
    Back (stmt_by starts.Pragma (inner (suc c))) (tree.Tick m g a e) ps ts
unfolding stmt_by pragma tick ticked below
tick-back c m g a e ps p0 p1 p2 p3 p4 p5 p6 ts t o w q x r y u v =
    let s0 = ap length t.head in
    let s1 = ap length o.head in
    let s2 = ap length w.head in
    let s3 = ap length q.head in
    let s4 = ap length r.head in
    let s5 = ap length u.head in
    let s6 = ap length v.head in
    record {
      rest = v.rest;
      read = rw (
        readers_of-inner (suc c),
        t.head,
        o.head,
        expect-back (kind.Name omp_id) o.mark o.rest,
        w.head,
        q.head,
        expect-back (kind.Punct puncts.OpenParen) q.mark q.rest,
        x.read,
        r.head,
        expect-back (kind.Punct puncts.ShiftRight) a r.rest,
        y.read,
        u.head,
        expect-back (kind.Punct puncts.CloseParen) u.mark u.rest,
        v.head,
        expect-back kind.PragmaEnd v.mark v.rest,
      ) refl;
      fits = v.fits;
      within = omega (arith, x.within, y.within);
    }

pub taskwait-back : (s : Option Inner) (m : Mark) (ps p0 p1 p2 : List Symbol) (ts : List Placed) → (t : Noted kind.PragmaStart m p0 ts) →
    (o : Plain (kind.Name omp_id) p1 t.rest) → (w : Plain (kind.Name taskwait_id) p2 o.rest) → Plain kind.PragmaEnd ps w.rest → Back (stmt_by starts.Pragma s) (tree.Taskwait m) ps ts
unfolding stmt_by pragma taskwait
taskwait-back s m ps p0 p1 p2 ts t o w u =
    let s0 = ap length t.head in
    let s1 = ap length o.head in
    let s2 = ap length w.head in
    let s3 = ap length u.head in
    record {
      rest = u.rest;
      read = rw (t.head, o.head, expect-back (kind.Name omp_id) o.mark o.rest, w.head, u.head, expect-back kind.PragmaEnd u.mark u.rest) refl;
      fits = u.fits;
      within = omega arith;
    }
