-- What is spelled as a program is read back.
use Rattle.std.proofs.Common.{◌≡◌, ℕ, zero, suc, ◌≤◌, ◌<◌, true, false, List, [], ◌∷◌, Option, refl, ap, length, arith}
use Rattle.os_ast.specs.Beginnings as can
use Rattle.os_ast.specs.Beginnings.{BeginsWith, CanBeginStmt}
use Rattle.os_ast.specs.Depth.{change_depth, stmt_depth, stmts_depth}
use Rattle.os_ast.specs.Leveled as leveled
use Rattle.os_ast.specs.Leveled.{IsExpr, IsChange, takes_else, IsStmt, AreStmts, AreAll, IsParams, IsItem}
use Rattle.os_ast.specs.Means.{Placed, Fit}
use Rattle.os_ast.specs.Spelling as spelling
use Rattle.os_ast.specs.Spelling.{Symbol, Printer, bare, marked}
use Rattle.os_ast.specs.Trees as tree
use Rattle.os_ast.specs.Trees.{ExprTree, Args, TargetTree, DeclaratorTree, StartTree, ChangeTree, ClauseTree, StmtTree, Stmts, ItemTree}
use Rattle.os_ast.specs.declared.expr.Name.{Name}
use Rattle.os_ast.specs.declared.ty.Ty.{Ty}
use Rattle.os_ast.proofs.Begins.{stmt-begins}
use Rattle.os_ast.proofs.Prints.{prints_stmt}
use Rattle.os_lexer.specs.declared.token.Key.TheVariants as keys
use Rattle.os_lexer.specs.declared.token.Kind.{Kind}
use Rattle.os_lexer.specs.declared.token.Kind.TheVariants as kind
use Rattle.os_lexer.specs.declared.token.Punct.TheVariants as puncts
use Rattle.os_parser_grammar.specs.Expressions.{args, below}
use Rattle.os_parser_grammar.specs.Kinds.{same}
use Rattle.os_parser_grammar.specs.Reading.{Reader, begins}
use Rattle.os_parser_grammar.specs.Statements.{Inner, inner, inner_item, type_words, begins_type, declared, before, block_item, stmts, block, stmt_on}
use Rattle.os_parser_grammar.specs.declared.stmt_start.StmtStart.TheVariants as starts
use Rattle.os_parser_grammar.proofs.BackExprs.{Back, Plain, plain-back, Noted, noted-back, depth-some, name_of, back-target, back-args, back-expr, closing}
use Rattle.os_parser_grammar.proofs.BackParts.{begins-not, back-whole, back-declared, back-type, type-begun, type-begins, listed-names}
use Rattle.os_parser_grammar.proofs.BackChanges.{step-starts, Targeted, back-set, back-after, back-before, ended-back, ending, back-start, back-test, back-step}
use Rattle.os_parser_grammar.proofs.BackClauses.{back-clauses}
use Rattle.os_parser_grammar.proofs.BackStmts.{stmt-some, print-less, lift, not-other, empty-back, block-back, named-change, stepped-back, call-back, back-condition, if-back, if_else-back, while-back, for-back, break-back, continue-back, return-back, task-back, tick-back, taskwait-back}

-- no `else` follows
abbrev pub Free : List Symbol → Type 0
Free ps = (us : List Placed) → Fit ps us → begins (kind.Key keys.Else) us ≡ false

stmt-else : (l : Kind) → CanBeginStmt l → same l (kind.Key keys.Else) ≡ false
stmt-else l can.CanBeginStmt.semicolon = refl
stmt-else l can.CanBeginStmt.brace = refl
stmt-else l can.CanBeginStmt.name = refl
stmt-else l can.CanBeginStmt.up = refl
stmt-else l can.CanBeginStmt.down = refl
stmt-else l can.CanBeginStmt.int = refl
stmt-else l can.CanBeginStmt.unsigned = refl
stmt-else l can.CanBeginStmt.if = refl
stmt-else l can.CanBeginStmt.while = refl
stmt-else l can.CanBeginStmt.for = refl
stmt-else l can.CanBeginStmt.break = refl
stmt-else l can.CanBeginStmt.continue = refl
stmt-else l can.CanBeginStmt.return = refl
stmt-else l can.CanBeginStmt.pragma = refl

stmt-close : (l : Kind) → CanBeginStmt l → same l (kind.Punct puncts.CloseBrace) ≡ false
stmt-close l can.CanBeginStmt.semicolon = refl
stmt-close l can.CanBeginStmt.brace = refl
stmt-close l can.CanBeginStmt.name = refl
stmt-close l can.CanBeginStmt.up = refl
stmt-close l can.CanBeginStmt.down = refl
stmt-close l can.CanBeginStmt.int = refl
stmt-close l can.CanBeginStmt.unsigned = refl
stmt-close l can.CanBeginStmt.if = refl
stmt-close l can.CanBeginStmt.while = refl
stmt-close l can.CanBeginStmt.for = refl
stmt-close l can.CanBeginStmt.break = refl
stmt-close l can.CanBeginStmt.continue = refl
stmt-close l can.CanBeginStmt.return = refl
stmt-close l can.CanBeginStmt.pragma = refl

-- what stands in a block, from some place on
data Inside : Kind → Type 0 where
  part : {k : Kind} → CanBeginStmt k → Inside k
  close : Inside (kind.Punct puncts.CloseBrace)

inside-else : (l : Kind) → Inside l → same l (kind.Key keys.Else) ≡ false
inside-else l (part p) = stmt-else l p
inside-else l close = refl

as-inside : (ps : List Symbol) → BeginsWith CanBeginStmt ps → BeginsWith Inside ps
as-inside (p ∷ ps) (can.begins b) = can.begins (part b)
as-inside [] b = elim b [ ]

stmts-inside : (ss : Stmts) (ps : List Symbol) → BeginsWith Inside (spelling.stmts ss (bare (kind.Punct puncts.CloseBrace) ∷ ps))
stmts-inside tree.no_stmts ps = can.begins close
stmts-inside (tree.stmt s ss) ps = as-inside _ (stmt-begins s _)

stmts-free : (ss : Stmts) (ps : List Symbol) → Free (spelling.stmts ss (bare (kind.Punct puncts.CloseBrace) ∷ ps))
stmts-free ss ps us f = begins-not (kind.Key keys.Else) _ us (stmts-inside ss ps) inside-else f

-- blocks
stmts-none : (f : ℕ) (r : Reader StmtTree) (ps : List Symbol) (ts : List Placed) → Plain (kind.Punct puncts.CloseBrace) ps ts → Back (stmts (suc f) r) tree.no_stmts ps ts
unfolding stmts
stmts-none f r ps ts t =
    let size = ap length t.head in
    record { rest = t.rest; read = rw t.head refl; fits = t.fits; within = omega arith }

stmts-more : (f : ℕ) (r : Reader StmtTree) (s : StmtTree) (ss : Stmts) (ps p0 : List Symbol) (ts : List Placed) → begins (kind.Punct puncts.CloseBrace) ts ≡ false →
    (a : Back r s p0 ts) → Back (stmts f r) ss ps a.rest → Back (stmts (suc f) r) (tree.stmt s ss) ps ts
unfolding stmts
stmts-more f r s ss ps p0 ts off a b = record { rest = b.rest; read = rw (off, a.read, b.read) refl; fits = b.fits; within = omega (arith, a.within, b.within) }

pub block-read : (s : Option Inner) (ss : Stmts) (ps : List Symbol) (ts : List Placed) → Back (stmts (suc (length ts)) (inner_item s)) ss ps ts → Back (block s) ss ps ts
unfolding block
block-read s ss ps ts b = record { rest = b.rest; read = b.read; fits = b.fits; within = b.within }

declare-item : (c : ℕ) (t : Ty) (ds : List DeclaratorTree) (ps p0 : List Symbol) (ts : List Placed) → begins_type ts ≡ true → (a : Back type_words t p0 ts) →
    Back (declared (below c)) ds ps a.rest → Back (inner_item (inner (suc c))) (tree.StmtTree.Declare t ds) ps ts
unfolding inner_item block_item inner
declare-item c t ds ps p0 ts on a b =
    record { rest = b.rest; read = rw (on, a.read, b.read) refl; fits = b.fits; within = omega (arith, a.within, b.within) }

stmt-item : (c : ℕ) (s : StmtTree) (ps : List Symbol) (ts : List Placed) → begins (kind.Key keys.Int) ts ≡ false → begins (kind.Key keys.Unsigned) ts ≡ false →
    Back (stmt_on (inner c)) s ps ts → Back (inner_item (inner (suc c))) s ps ts
unfolding inner_item block_item inner
stmt-item c s ps ts off out b = record { rest = b.rest; read = rw (off, out) b.read; fits = b.fits; within = b.within }

-- a change and its semicolon
targeted-stmt : (d : ℕ) (c : ChangeTree) (ps : List Symbol) (ts : List Placed) → Targeted d c (bare (kind.Punct puncts.Semicolon) ∷ ps) ts → Back (stmt_on (inner d)) (tree.StmtTree.Change c) ps ts
targeted-stmt d c ps ts g =
    lift {st = starts.Name (name_of g.target).id} (inner d) _ ps ts (rw g.begun.head refl) (named-change d c ps ts g (plain-back g.back.fits))

change-stmt : (d : ℕ) {c : ChangeTree} (ps : List Symbol) (ts : List Placed) → IsChange c → change_depth c ≤ d →
    Fit (spelling.stmt (tree.StmtTree.Change c) ps) ts → Back (stmt_on (inner d)) (tree.StmtTree.Change c) ps ts
change-stmt d ps ts (leveled.IsChange.set it ia ie) h f = targeted-stmt d _ ps ts (back-set d _ ts it ia ie h (ending ps) f)
change-stmt d ps ts (leveled.IsChange.after it) h f = targeted-stmt d _ ps ts (back-after d _ ts it h f)
change-stmt d ps ts (leveled.IsChange.before {t} {s} {m} it) h f =
    let g = back-before d _ ts it h (ending ps) f in
    lift {st = starts.Step s} (inner d) _ ps ts (rw g.head (step-starts s)) (stepped-back d s _ ps ts (ended-back (before s (below d)) tree.StmtTree.Change (tree.Before t s m) ps ts g.back))

call-stmt : (d : ℕ) (n : Name) (es : Args) (ps : List Symbol) (ts : List Placed) → (t : Noted (kind.Name n.id) n.mark (spelling.in_parens (spelling.args es) (bare (kind.Punct puncts.Semicolon) ∷ ps)) ts) →
    Back (args (below d)) es (bare (kind.Punct puncts.Semicolon) ∷ ps) t.rest → Back (stmt_on (inner d)) (tree.StmtTree.Call n es) ps ts
call-stmt d n es ps ts t b =
    let u = plain-back t.fits in
    let opens : begins (kind.Punct puncts.OpenParen) t.rest ≡ true = rw u.head refl in
    lift {st = starts.Name n.id} (inner d) _ ps ts (rw t.head refl) (call-back d n es ps _ ts t opens b (plain-back b.fits))

mutual
  pub back-stmt : (d : ℕ) {s : StmtTree} {ps : List Symbol} {ts : List Placed} → IsStmt s → stmt_depth s ≤ suc d → (takes_else s ≡ true → Free ps) →
      Fit (spelling.stmt s ps) ts → Back (stmt_on (inner d)) s ps ts
  back-stmt d leveled.IsStmt.empty h e f = let t = plain-back f in lift {st = starts.Semicolon} (inner d) _ _ _ (rw t.head refl) (empty-back (inner d) _ _ t)
  back-stmt d (leveled.IsStmt.block {ss} are) h e f =
      let t = plain-back f in
      let b = back-stmts (suc (length t.rest)) d are (omega (arith, h)) t.fits (omega arith) in
      lift {st = starts.Brace} (inner d) _ _ _ (rw t.head refl) (block-back (inner d) ss _ _ _ t (block-read (inner d) ss _ t.rest b))
  back-stmt d (leveled.IsStmt.change is) h e f = change-stmt d _ _ is (omega (arith, h)) f
  back-stmt d (leveled.IsStmt.call {f = n} {args = es} are) h e f = let t = noted-back f in call-stmt d n es _ _ t (back-args d are (omega (arith, h)) t.fits)
  back-stmt zero (leveled.IsStmt.if_alone {c} {a} ic ia) h e f = let some = depth-some c in absurd (omega (arith, h))
  back-stmt (suc d) (leveled.IsStmt.if_alone {c} {a} ic ia) h e f =
      let t = plain-back f in
      let x = back-condition d _ t.rest ic (omega (arith, h)) t.fits in
      let y = back-stmt d ia (omega (arith, h)) (λ _. e refl) x.fits in
      lift {st = starts.If} (inner (suc d)) _ _ _ (rw t.head refl) (if-back d c a _ _ _ _ t x y (e refl y.rest y.fits))
  back-stmt zero (leveled.IsStmt.if_else {c} {a} {b} ic ia off ib) h e f = let some = depth-some c in absurd (omega (arith, h))
  back-stmt (suc d) (leveled.IsStmt.if_else {c} {a} {b} ic ia off ib) h e f =
      let t = plain-back f in
      let x = back-condition d _ t.rest ic (omega (arith, h)) t.fits in
      let y = back-stmt d ia (omega (arith, h)) (λ on. absurd (cc (off, on))) x.fits in
      let u = plain-back y.fits in
      let z = back-stmt d ib (omega (arith, h)) e u.fits in
      lift {st = starts.If} (inner (suc d)) _ _ _ (rw t.head refl) (if_else-back d c a b _ _ _ _ _ _ t x y u z)
  back-stmt zero (leveled.IsStmt.while {c} {s} ic is) h e f = let some = depth-some c in absurd (omega (arith, h))
  back-stmt (suc d) (leveled.IsStmt.while {c} {s} ic is) h e f =
      let t = plain-back f in
      let x = back-condition d _ t.rest ic (omega (arith, h)) t.fits in
      let y = back-stmt d is (omega (arith, h)) e x.fits in
      lift {st = starts.While} (inner (suc d)) _ _ _ (rw t.head refl) (while-back d c s _ _ _ _ t x y)
  back-stmt zero (leveled.IsStmt.for {s = s} i1 i2 i3 is) h e f = let some = stmt-some s in absurd (omega (arith, h))
  back-stmt (suc d) (leveled.IsStmt.for {start = st} {test = x} {step = c} {s = s} i1 i2 i3 is) h e f =
      let t = plain-back f in
      let o = plain-back t.fits in
      let a = back-start (suc d) _ o.rest i1 (omega (arith, h)) o.fits in
      let b = back-test d _ a.rest i2 (omega (arith, h)) a.fits in
      let g = back-step (suc d) _ b.rest i3 (omega (arith, h)) b.fits in
      let y = back-stmt d is (omega (arith, h)) e g.fits in
      lift {st = starts.For} (inner (suc d)) _ _ _ (rw t.head refl) (for-back d st x c s _ _ _ _ _ _ _ t o a b g y)
  back-stmt d (leveled.IsStmt.break {m}) h e f = let t = noted-back f in lift {st = starts.Break} (inner d) _ _ _ (rw t.head refl) (break-back (inner d) m _ _ _ t (plain-back t.fits))
  back-stmt d (leveled.IsStmt.continue {m}) h e f = let t = noted-back f in lift {st = starts.Continue} (inner d) _ _ _ (rw t.head refl) (continue-back (inner d) m _ _ _ t (plain-back t.fits))
  back-stmt zero (leveled.IsStmt.return {m = m} {e = x} is) h e f = let some = depth-some x in absurd (omega (arith, h))
  back-stmt (suc d) (leveled.IsStmt.return {m = m} {e = x} is) h e f =
      let t = noted-back f in
      let b = back-expr d is (omega (arith, h)) t.fits (ending _) in
      lift {st = starts.Return} (inner (suc d)) _ _ _ (rw t.head refl) (return-back d m x _ _ _ t b (plain-back b.fits))
  back-stmt zero (leveled.IsStmt.task {s = s} ic is) h e f = let some = stmt-some s in absurd (omega (arith, h))
  back-stmt (suc d) (leveled.IsStmt.task {m = m} {cs = cs} {s = s} ic is) h e f =
      let t = noted-back f in
      let o = plain-back t.fits in
      let w = plain-back o.fits in
      let x = back-clauses (suc d) _ w.rest ic (omega (arith, h)) w.fits in
      let u = plain-back x.fits in
      let y = back-stmt d is (omega (arith, h)) e u.fits in
      lift {st = starts.Pragma} (inner (suc d)) _ _ _ (rw t.head refl) (task-back d m cs s _ _ _ _ _ _ t o w x u y)
  back-stmt zero (leveled.IsStmt.tick {e = x} it is) h e f = let some = depth-some x in absurd (omega (arith, h))
  back-stmt (suc d) (leveled.IsStmt.tick {m = m} {t = g} {a = a} {e = x} it is) h e f =
      let t = noted-back f in
      let o = plain-back t.fits in
      let w = plain-back o.fits in
      let q = plain-back w.fits in
      let b = back-whole (suc d) g _ q.rest (back-target (suc d) it (omega (arith, h)) q.fits (record { least = omega arith })) in
      let r = noted-back b.fits in
      let y = back-expr d is (omega (arith, h)) r.fits (closing _) in
      let u = plain-back y.fits in
      lift {st = starts.Pragma} (inner (suc d)) _ _ _ (rw t.head refl) (tick-back d m g a x _ _ _ _ _ _ _ _ _ t o w q b r y u (plain-back u.fits))
  back-stmt d (leveled.IsStmt.taskwait {m}) h e f =
      let t = noted-back f in
      let o = plain-back t.fits in
      let w = plain-back o.fits in
      lift {st = starts.Pragma} (inner d) _ _ _ (rw t.head refl) (taskwait-back (inner d) m _ _ _ _ _ t o w (plain-back w.fits))

  pub back-stmts : (f d : ℕ) {ss : Stmts} {ps : List Symbol} {ts : List Placed} → AreStmts ss → stmts_depth ss ≤ d →
      Fit (spelling.stmts ss (bare (kind.Punct puncts.CloseBrace) ∷ ps)) ts → length ts < f → Back (stmts f (inner_item (inner d))) ss ps ts
  back-stmts zero d are h fit less = absurd (omega arith)
  back-stmts (suc f) d leveled.AreStmts.no_stmts h fit less = stmts-none f (inner_item (inner d)) _ _ (plain-back fit)
  back-stmts (suc f) zero (leveled.AreStmts.declare is rest) h fit less = absurd (omega (arith, h))
  back-stmts (suc f) (suc c) (leveled.AreStmts.declare {t} {ds} {ss} is rest) h fit less =
      let b = back-type t _ _ (listed-names ds _ is) fit in
      let a = declare-item c t ds _ _ _ (type-begins _ _ (type-begun t _) fit) b (back-declared c _ b.rest is (omega (arith, h)) b.fits) in
      let shorter = print-less _ _ a.rest (prints_stmt (tree.StmtTree.Declare t ds)) (stmt-begins (tree.StmtTree.Declare t ds) []) fit a.fits in
      let off = begins-not (kind.Punct puncts.CloseBrace) _ _ (stmt-begins (tree.StmtTree.Declare t ds) _) stmt-close fit in
      stmts-more f (inner_item (inner (suc c))) _ ss _ _ _ off a (back-stmts f (suc c) rest (omega (arith, h)) a.fits (omega (arith, less, shorter)))
  back-stmts (suc f) zero (leveled.AreStmts.stmt {s} {ss} is rest) h fit less = let some = stmt-some s in absurd (omega (arith, h))
  back-stmts (suc f) (suc c) (leveled.AreStmts.stmt {s} {ss} is rest) h fit less =
      let b = back-stmt c is (omega (arith, h)) (λ _. stmts-free ss _) fit in
      let a = stmt-item c s _ _ (not-other (kind.Key keys.Int) (inner c) s _ b.rest refl b.read) (not-other (kind.Key keys.Unsigned) (inner c) s _ b.rest refl b.read) b in
      let shorter = print-less _ _ a.rest (prints_stmt s) (stmt-begins s []) fit a.fits in
      let off = begins-not (kind.Punct puncts.CloseBrace) _ _ (stmt-begins s _) stmt-close fit in
      stmts-more f (inner_item (inner (suc c))) s ss _ _ _ off a (back-stmts f (suc c) rest (omega (arith, h)) a.fits (omega (arith, less, shorter)))
