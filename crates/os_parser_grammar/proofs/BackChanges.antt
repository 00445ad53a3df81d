-- What is spelled as a change or a part of a for's head is read back.
use Rattle.std.proofs.Common.{◌≡◌, ℕ, zero, suc, ◌≤◌, true, false, List, ◌∷◌, Option, Some, None, refl, ap, length, arith}
use Rattle.os_ast.specs.Beginnings as can
use Rattle.os_ast.specs.Depth.{target_depth, value_depth, change_depth, start_depth, step_depth}
use Rattle.os_ast.specs.Leveled as leveled
use Rattle.os_ast.specs.Leveled.{IsExpr, IsTarget, IsOptional, IsChange, IsStart}
use Rattle.os_ast.specs.Means.{Placed, placed, Fit}
use Rattle.os_ast.specs.Operators as operators
use Rattle.os_ast.specs.Operators.{IsAssign, assign_mark, step_mark}
use Rattle.os_ast.specs.Spelling as spelling
use Rattle.os_ast.specs.Spelling.{Symbol, bare}
use Rattle.os_ast.specs.Trees as tree
use Rattle.os_ast.specs.Trees.{ExprTree, TargetTree, DeclaratorTree, ChangeTree, StartTree}
use Rattle.os_ast.specs.declared.expr.Mark.{Mark}
use Rattle.os_ast.specs.declared.stmt.Assign.{Assign}
use Rattle.os_ast.specs.declared.stmt.Step.{Step}
use Rattle.os_ast.specs.declared.ty.Ty.{Ty}
use Rattle.os_ast.specs.declared.stmt.Step.TheVariants as step_of
use Rattle.os_lexer.specs.declared.token.Kind.{Kind}
use Rattle.os_lexer.specs.declared.token.Kind.TheVariants as kind
use Rattle.os_lexer.specs.declared.token.Punct.TheVariants as puncts
use Rattle.os_parser_grammar.specs.Beginners.{change_sign, stmt_start}
use Rattle.os_parser_grammar.specs.Expressions.{Readers, expr_on, layer, below}
use Rattle.os_parser_grammar.specs.Kinds.{same}
use Rattle.os_parser_grammar.specs.Reading.{Reader, got, begins}
use Rattle.os_parser_grammar.specs.Statements.{name, target, type_words, begins_type, head_declared, change_of, before, change, ended, start, head_test, step}
use Rattle.os_parser_grammar.specs.declared.change_sign.ChangeSign.TheVariants as signs
use Rattle.os_parser_grammar.specs.declared.stmt_start.StmtStart.TheVariants as starts
use Rattle.os_parser_grammar.proofs.Follows.{Stops, stops-more, grows}
use Rattle.os_parser_grammar.proofs.BackExprs.{Back, Plain, plain-back, Noted, noted-back, expect-back, depth-some, BackTarget, back-target, back-expr, closing}
use Rattle.os_ast.specs.Beginnings.{CanBeginExpr}
use Rattle.os_ast.proofs.Begins.{expr-begins}
use Rattle.os_parser_grammar.proofs.BackParts.{begins-not, back-whole, back-head_declared, back-type, IsTypeWord, int, unsigned, type-begun, type-begins, listed-names}

step-changes : (s : Step) → change_sign (kind.Punct (step_mark s)) ≡ signs.Step s
step-changes step_of.Up = refl
step-changes step_of.Down = refl

pub step-starts : (s : Step) → stmt_start (kind.Punct (step_mark s)) ≡ starts.Step s
step-starts step_of.Up = refl
step-starts step_of.Down = refl

assign-changes : {a : Assign} → IsAssign a → change_sign (kind.Punct (assign_mark a)) ≡ signs.Assign a
assign-changes operators.IsAssign.plain = refl
assign-changes (operators.IsAssign.with operators.HasAssigningForm.add) = refl
assign-changes (operators.IsAssign.with operators.HasAssigningForm.subtract) = refl
assign-changes (operators.IsAssign.with operators.HasAssigningForm.multiply) = refl
assign-changes (operators.IsAssign.with operators.HasAssigningForm.divide) = refl
assign-changes (operators.IsAssign.with operators.HasAssigningForm.remainder) = refl
assign-changes (operators.IsAssign.with operators.HasAssigningForm.shift_left) = refl
assign-changes (operators.IsAssign.with operators.HasAssigningForm.shift_right) = refl
assign-changes (operators.IsAssign.with operators.HasAssigningForm.bit_and) = refl
assign-changes (operators.IsAssign.with operators.HasAssigningForm.bit_or) = refl
assign-changes (operators.IsAssign.with operators.HasAssigningForm.bit_xor) = refl

assign-least : {a : Assign} → IsAssign a → grows (kind.Punct (assign_mark a)) ≤ 12
assign-least operators.IsAssign.plain = omega arith
assign-least (operators.IsAssign.with operators.HasAssigningForm.add) = omega arith
assign-least (operators.IsAssign.with operators.HasAssigningForm.subtract) = omega arith
assign-least (operators.IsAssign.with operators.HasAssigningForm.multiply) = omega arith
assign-least (operators.IsAssign.with operators.HasAssigningForm.divide) = omega arith
assign-least (operators.IsAssign.with operators.HasAssigningForm.remainder) = omega arith
assign-least (operators.IsAssign.with operators.HasAssigningForm.shift_left) = omega arith
assign-least (operators.IsAssign.with operators.HasAssigningForm.shift_right) = omega arith
assign-least (operators.IsAssign.with operators.HasAssigningForm.bit_and) = omega arith
assign-least (operators.IsAssign.with operators.HasAssigningForm.bit_or) = omega arith
assign-least (operators.IsAssign.with operators.HasAssigningForm.bit_xor) = omega arith

step-least : (s : Step) → grows (kind.Punct (step_mark s)) ≤ 12
step-least step_of.Up = omega arith
step-least step_of.Down = omega arith

set-back : (c : ℕ) (t : TargetTree) (a : Assign) (m : Mark) (e : ExprTree) (ps : List Symbol) (ts : List Placed) → IsAssign a →
    (u : Noted (kind.Punct (assign_mark a)) m (spelling.expr e ps) ts) → Back (expr_on (below c)) e ps u.rest → Back (change_of (below (suc c)) t) (tree.Set t a m e) ps ts
unfolding change_of below
set-back c t a m e ps ts is u b =
    let size = ap length u.head in
    record { rest = b.rest; read = rw (u.head, assign-changes is, b.read) refl; fits = b.fits; within = omega (arith, b.within) }

after-back : (d : ℕ) (t : TargetTree) (s : Step) (m : Mark) (ps : List Symbol) (ts : List Placed) →
    Noted (kind.Punct (step_mark s)) m ps ts → Back (change_of (below d) t) (tree.After t s m) ps ts
unfolding change_of
after-back d t s m ps ts u =
    let size = ap length u.head in
    record { rest = u.rest; read = rw (u.head, step-changes s) refl; fits = u.fits; within = omega arith }

-- a change that begins with its target, and what is read behind the target
pub record Targeted (d : ℕ) (c : ChangeTree) (ps : List Symbol) (ts : List Placed) : Type 0 where
  pub target : TargetTree
  pub symbols : List Symbol
  pub begun : BackTarget d target symbols ts
  pub back : Back (change_of (below d) target) c ps begun.back.rest

pub back-set : (d : ℕ) {t : TargetTree} {a : Assign} {m : Mark} {e : ExprTree} (ps : List Symbol) (ts : List Placed) → IsTarget t → IsAssign a → IsExpr e →
    change_depth (tree.Set t a m e) ≤ d → Stops 0 ps → Fit (spelling.change (tree.Set t a m e) ps) ts → Targeted d (tree.Set t a m e) ps ts
back-set zero {e = e} ps ts it ia ie h s f = let some = depth-some e in absurd (omega (arith, h))
back-set (suc c) {t} {a} {m} {e} ps ts it ia ie h s f =
    let b = back-target (suc c) it (omega (arith, h)) f (record { least = assign-least ia }) in
    let u = noted-back b.back.fits in
    record { target = t; symbols = _; begun = b; back = set-back c t a m e ps b.back.rest ia u (back-expr c ie (omega (arith, h)) u.fits s) }

pub back-after : (d : ℕ) {t : TargetTree} {s : Step} {m : Mark} (ps : List Symbol) (ts : List Placed) → IsTarget t →
    target_depth t ≤ d → Fit (spelling.change (tree.After t s m) ps) ts → Targeted d (tree.After t s m) ps ts
back-after d {t} {s} {m} ps ts it h f =
    let b = back-target d it h f (record { least = step-least s }) in
    record { target = t; symbols = _; begun = b; back = after-back d t s m ps b.back.rest (noted-back b.back.fits) }

pub record Stepped (d : ℕ) (t : TargetTree) (s : Step) (m : Mark) (ps : List Symbol) (ts : List Placed) : Type 0 where
  pub behind : List Placed
  pub head : ts ≡ placed (kind.Punct (step_mark s)) m ∷ behind
  pub back : Back (before s (below d)) (tree.Before t s m) ps ts

before-read : (d : ℕ) (t : TargetTree) (s : Step) (m : Mark) (ts us : List Placed) → target (below d) ts ≡ got t us →
    before s (below d) (placed (kind.Punct (step_mark s)) m ∷ ts) ≡ got (tree.Before t s m) us
unfolding before
before-read d t s m ts us e = rw e refl

before-back : (d : ℕ) (t : TargetTree) (s : Step) (m : Mark) (ps qs : List Symbol) (ts : List Placed) → (u : Noted (kind.Punct (step_mark s)) m qs ts) →
    Back (target (below d)) t ps u.rest → Stepped d t s m ps ts
before-back d t s m ps qs ts u b =
    let size = ap length u.head in
    record {
      behind = u.rest;
      head = u.head;
      back = record { rest = b.rest; read = rw u.head (before-read d t s m u.rest b.rest b.read); fits = b.fits; within = omega (arith, b.within) };
    }

pub back-before : (d : ℕ) {t : TargetTree} {s : Step} {m : Mark} (ps : List Symbol) (ts : List Placed) → IsTarget t →
    target_depth t ≤ d → Stops 12 ps → Fit (spelling.change (tree.Before t s m) ps) ts → Stepped d t s m ps ts
back-before d {t} {s} {m} ps ts it h stop f =
    let u = noted-back f in
    before-back d t s m ps _ ts u (back-whole d t ps u.rest (back-target d it h u.fits stop))

-- a change is read back, and begins with no token that ends it
pub record BackChange (d : ℕ) (c : ChangeTree) (ps : List Symbol) (ts : List Placed) : Type 0 where
  pub back : Back (change (below d)) c ps ts
  pub starts : begins (kind.Punct puncts.Semicolon) ts ≡ false
  pub named : begins_type ts ≡ false
  pub paren : begins (kind.Punct puncts.CloseParen) ts ≡ false

targeted-change : (d : ℕ) (c : ChangeTree) (ps : List Symbol) (ts : List Placed) → Targeted d c ps ts → BackChange d c ps ts
unfolding change target name
targeted-change d c ps ts t =
    let size = ap length t.begun.head in
    record {
      back = record {
        rest = t.back.rest;
        read = rw (t.begun.head, t.begun.back.read, t.back.read) refl;
        fits = t.back.fits;
        within = omega (arith, t.begun.back.within, t.back.within);
      };
      starts = rw t.begun.head refl;
      named = rw t.begun.head refl;
      paren = rw t.begun.head refl;
    }

step-no : (s : Step) → (same (kind.Punct (step_mark s)) (kind.Punct puncts.Semicolon) ≡ false) × (same (kind.Punct (step_mark s)) (kind.Punct puncts.CloseParen) ≡ false)
step-no step_of.Up = (refl, refl)
step-no step_of.Down = (refl, refl)

stepped-change : (d : ℕ) (t : TargetTree) (s : Step) (m : Mark) (ps : List Symbol) (ts : List Placed) → Stepped d t s m ps ts → BackChange d (tree.Before t s m) ps ts
unfolding change
stepped-change d t s m ps ts b =
    let read : before s (below d) (placed (kind.Punct (step_mark s)) m ∷ b.behind) ≡ got (tree.Before t s m) b.back.rest = rw b.head at b.back.read in
    let off = step-no s in
    record {
      back = record { rest = b.back.rest; read = rw (b.head, step-starts s) read; fits = b.back.fits; within = b.back.within };
      starts = rw b.head off.0;
      named = rw b.head refl;
      paren = rw b.head off.1;
    }

pub back-change : (d : ℕ) {c : ChangeTree} (ps : List Symbol) (ts : List Placed) → IsChange c → change_depth c ≤ d → Stops 0 ps →
    Fit (spelling.change c ps) ts → BackChange d c ps ts
back-change d ps ts (leveled.IsChange.set it ia ie) h s f = targeted-change d _ ps ts (back-set d ps ts it ia ie h s f)
back-change d ps ts (leveled.IsChange.after it) h s f = targeted-change d _ ps ts (back-after d ps ts it h f)
back-change d ps ts (leveled.IsChange.before it) h s f = stepped-change d _ _ _ ps ts (back-before d ps ts it h (stops-more 0 12 ps (omega arith) s) f)

-- a part before a semicolon
ended-read : {A B : Type 0} (part : Reader A) (f : A → B) (x : A) (ps : List Symbol) (ts : List Placed) → (b : Back part x (bare (kind.Punct puncts.Semicolon) ∷ ps) ts) →
    Plain (kind.Punct puncts.Semicolon) ps b.rest → Back (λ us. ended (part us) f) (f x) ps ts
ended-read part f x ps ts b t =
    let size = ap length t.head in
    record { rest = t.rest; read = rw (b.read, t.head, expect-back (kind.Punct puncts.Semicolon) t.mark t.rest) refl; fits = t.fits; within = omega (arith, b.within) }

pub ended-back : {A B : Type 0} (part : Reader A) (f : A → B) (x : A) (ps : List Symbol) (ts : List Placed) → Back part x (bare (kind.Punct puncts.Semicolon) ∷ ps) ts →
    Back (λ us. ended (part us) f) (f x) ps ts
ended-back part f x ps ts b = ended-read part f x ps ts b (plain-back b.fits)

pub ending : {n : ℕ} (ps : List Symbol) → Stops n (bare (kind.Punct puncts.Semicolon) ∷ ps)
ending ps = record { least = omega arith }

start-empty : (d : ℕ) (ps : List Symbol) (ts : List Placed) → Plain (kind.Punct puncts.Semicolon) ps ts → Back (start (below d)) tree.StartTree.Empty ps ts
unfolding start
start-empty d ps ts t =
    let size = ap length t.head in
    record { rest = t.rest; read = rw t.head refl; fits = t.fits; within = omega arith }

word-semicolon : (l : Kind) → IsTypeWord l → same l (kind.Punct puncts.Semicolon) ≡ false
word-semicolon l int = refl
word-semicolon l unsigned = refl

start-declare : (d : ℕ) (t : Ty) (ds : List DeclaratorTree) (ps qs : List Symbol) (ts : List Placed) → begins (kind.Punct puncts.Semicolon) ts ≡ false → begins_type ts ≡ true →
    (a : Back type_words t qs ts) → Back (head_declared (below d)) ds ps a.rest → Back (start (below d)) (tree.StartTree.Declare t ds) ps ts
unfolding start
start-declare d t ds ps qs ts off on a b =
    record { rest = b.rest; read = rw (off, on, a.read, b.read) refl; fits = b.fits; within = omega (arith, a.within, b.within) }

start-change : (d : ℕ) (c : ChangeTree) (ps : List Symbol) (ts : List Placed) → (b : BackChange d c (bare (kind.Punct puncts.Semicolon) ∷ ps) ts) →
    Back (λ us. ended (change (below d) us) tree.StartTree.Change) (tree.StartTree.Change c) ps ts → Back (start (below d)) (tree.StartTree.Change c) ps ts
unfolding start
start-change d c ps ts b e =
    record { rest = e.rest; read = rw (b.starts, b.named) e.read; fits = e.fits; within = e.within }

pub back-start : (d : ℕ) {st : StartTree} (ps : List Symbol) (ts : List Placed) → IsStart st → start_depth st ≤ d → Fit (spelling.start st ps) ts →
    Back (start (below d)) st ps ts
back-start d ps ts leveled.IsStart.empty h f = start-empty d ps ts (plain-back f)
back-start d ps ts (leveled.IsStart.declare {t} {ds} is) h f =
    let off = begins-not (kind.Punct puncts.Semicolon) _ ts (type-begun t _) word-semicolon f in
    let a = back-type t _ ts (listed-names ds ps is) f in
    start-declare d t ds ps _ ts off (type-begins _ ts (type-begun t _) f) a (back-head_declared d ps a.rest is h a.fits)
back-start d ps ts (leveled.IsStart.change is) h f =
    let b = back-change d _ ts is h (ending ps) f in
    start-change d _ ps ts b (ended-back (change (below d)) tree.StartTree.Change _ ps ts b.back)

can-end : (l : Kind) → CanBeginExpr l → same l (kind.Punct puncts.Semicolon) ≡ false
can-end l can.CanBeginExpr.number = refl
can-end l can.CanBeginExpr.wide = refl
can-end l can.CanBeginExpr.name = refl
can-end l can.CanBeginExpr.paren = refl
can-end l can.CanBeginExpr.minus = refl
can-end l can.CanBeginExpr.plus = refl
can-end l can.CanBeginExpr.not = refl
can-end l can.CanBeginExpr.invert = refl

test-none : (r : Readers) (ps : List Symbol) (ts : List Placed) → Plain (kind.Punct puncts.Semicolon) ps ts → Back (head_test r) None ps ts
unfolding head_test
test-none r ps ts t =
    let size = ap length t.head in
    record { rest = t.rest; read = rw t.head refl; fits = t.fits; within = omega arith }

test-some : (c : ℕ) (e : ExprTree) (ps : List Symbol) (ts : List Placed) → begins (kind.Punct puncts.Semicolon) ts ≡ false →
    Back (λ us. ended (expr_on (below c) us) Some) (Some e) ps ts → Back (head_test (layer (below c))) (Some e) ps ts
unfolding head_test
test-some c e ps ts off b = record { rest = b.rest; read = rw off b.read; fits = b.fits; within = b.within }

pub back-test : (c : ℕ) {e : Option ExprTree} (ps : List Symbol) (ts : List Placed) → IsOptional IsExpr e → value_depth e ≤ suc c →
    Fit (spelling.optional spelling.expr e (bare (kind.Punct puncts.Semicolon) ∷ ps)) ts → Back (head_test (layer (below c))) e ps ts
back-test c ps ts leveled.IsOptional.absent h f = test-none (layer (below c)) ps ts (plain-back f)
back-test c ps ts (leveled.IsOptional.present {x} is) h f =
    test-some c x ps ts (begins-not (kind.Punct puncts.Semicolon) _ ts (expr-begins x _) can-end f)
    (ended-back (expr_on (below c)) Some x ps ts (back-expr c is h f (ending ps)))

step-none : (d : ℕ) (ps : List Symbol) (ts : List Placed) → Plain (kind.Punct puncts.CloseParen) ps ts → Back (step (below d)) None ps ts
unfolding step
step-none d ps ts t =
    let size = ap length t.head in
    record { rest = t.rest; read = rw t.head refl; fits = t.fits; within = omega arith }

step-some : (d : ℕ) (c : ChangeTree) (ps : List Symbol) (ts : List Placed) → (b : BackChange d c (bare (kind.Punct puncts.CloseParen) ∷ ps) ts) →
    Plain (kind.Punct puncts.CloseParen) ps b.back.rest → Back (step (below d)) (Some c) ps ts
unfolding step
step-some d c ps ts b t =
    let size = ap length t.head in
    record { rest = t.rest; read = rw (b.paren, b.back.read, t.head, expect-back (kind.Punct puncts.CloseParen) t.mark t.rest) refl; fits = t.fits; within = omega (arith, b.back.within) }

pub back-step : (d : ℕ) {c : Option ChangeTree} (ps : List Symbol) (ts : List Placed) → IsOptional IsChange c → step_depth c ≤ d →
    Fit (spelling.optional spelling.change c (bare (kind.Punct puncts.CloseParen) ∷ ps)) ts → Back (step (below d)) c ps ts
back-step d ps ts leveled.IsOptional.absent h f = step-none d ps ts (plain-back f)
back-step d ps ts (leveled.IsOptional.present is) h f =
    let b = back-change d _ ts is h (closing ps) f in
    step-some d _ ps ts b (plain-back b.back.fits)
