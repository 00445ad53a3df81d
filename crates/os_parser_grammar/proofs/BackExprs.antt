-- What is spelled as an expression, with what does not go on behind it, is read back.
use Rattle.std.proofs.Common.{◌≡◌, ℕ, zero, suc, ◌+◌, ◌-◌, ◌≤◌, ◌<◌, ◌^◌, Bool, true, false, List, [], ◌∷◌, Some, None, nat_lt, eq-eqb, refl, sym, ap, ◌∙◌, length, arith}
use Rattle.std.proofs.lemmas.Bool.{lt-ltb, ltb-true, ltb-false}
use Rattle.os_ast.specs.Depth.{expr_depth, target_depth, args_depth, links_depth}
use Rattle.os_ast.specs.Leveled as leveled
use Rattle.os_ast.specs.Leveled.{IsExpr, AreLinks, AreArgs, IsTarget, level}
use Rattle.os_ast.specs.Means as means
use Rattle.os_ast.specs.Means.{Placed, placed, Fit}
use Rattle.os_ast.specs.Operators.{level_of, precedence, binary_mark, unary_mark}
use Rattle.os_ast.specs.Spelling as spelling
use Rattle.os_ast.specs.Spelling.{Symbol, Printer, bare, marked}
use Rattle.os_ast.specs.Trees as tree
use Rattle.os_ast.specs.Trees.{ExprTree, TargetTree, IndexTree, Args, Links}
use Rattle.os_ast.specs.declared.expr.Binary.{Binary}
use Rattle.os_ast.specs.declared.expr.Level.{Level}
use Rattle.os_ast.specs.declared.expr.Level.TheVariants as levels
use Rattle.os_ast.specs.declared.expr.Mark.{Mark}
use Rattle.os_ast.specs.declared.expr.Name.{Name}
use Rattle.os_ast.specs.declared.expr.Unary.{Unary}
use Rattle.os_ast.specs.declared.expr.Unary.TheVariants as unary
use Rattle.os_lexer.specs.declared.token.Kind.{Kind}
use Rattle.os_lexer.specs.declared.token.Kind.TheVariants as kind
use Rattle.os_lexer.specs.declared.token.Punct.TheVariants as puncts
use Rattle.os_parser_grammar.specs.Expressions.{Readers, index, target_of, more_args, some_args, args, named, paren, sign, operand_by, operand, links, linked, chains, branches, expr_on, layer, below}
use Rattle.os_parser_grammar.specs.Kinds.{same}
use Rattle.os_parser_grammar.specs.Operands.{operand_start, binary_of, of_precedence, op_precedence, operator_at, level_at}
use Rattle.os_parser_grammar.specs.Reading.{Reader, got, begins, expect}
use Rattle.os_parser_grammar.specs.declared.operand_start.OperandStart.TheVariants as starts
use Rattle.os_parser_grammar.proofs.Chaining.{chains-next}
use Rattle.os_parser_grammar.proofs.Follows.{Stops, stops-more, grows-operator, binary_of-mark, no-operator, no-token}
use Rattle.os_parser_grammar.proofs.SoundExprs.{level_at-precedence}
use Rattle.os_parser_grammar.proofs.SameKinds.{same-self}
use Rattle.os_ast.specs.Beginnings as can
use Rattle.os_ast.specs.Beginnings.{BeginsWith, CanBeginExpr}
use Rattle.os_ast.proofs.Begins.{expr-begins}

-- a part is read back, up to what follows it
pub record Back {A : Type 0} (r : Reader A) (x : A) (ps : List Symbol) (ts : List Placed) : Type 0 where
  pub rest : List Placed
  pub read : r ts ≡ got x rest
  pub fits : Fit ps rest
  pub within : length rest ≤ length ts

-- the reader of expressions of at least a level
abbrev pub at : ℕ → ℕ → Reader ExprTree
at d zero = expr_on (below d)
at d (suc n) = chains (10 - n) (operand (below d))

links-none : (f r : ℕ) (u : Reader ExprTree) (ts : List Placed) → operator_at r ts ≡ None → links (suc f) r u ts ≡ got tree.no_links ts
unfolding links
links-none f r u ts none = rw none refl

linked-none : (r : ℕ) (u : Reader ExprTree) (e : ExprTree) (ts : List Placed) → operator_at r ts ≡ None →
    linked r u e ts ≡ got e ts
unfolding linked
linked-none r u e ts none = rw (links-none (length ts) r u ts none) refl

down-chain : (d m : ℕ) (e : ExprTree) (ps : List Symbol) (ts : List Placed) (b : Bool) → nat_lt m 10 ≡ b → suc m ≤ 11 → Stops (suc m) ps →
    Back (at d (suc (suc m))) e ps ts → Back (at d (suc m)) e ps ts
down-chain d m e ps ts true t h s b =
    let less : m < 10 = ltb-true m 10 t in
    let up : 10 - suc m + 1 ≡ 10 - m = omega arith in
    let none = no-operator (suc m) ps b.rest s b.fits in
    record {
      rest = b.rest;
      read = rw up at (chains-next (10 - suc m) (10 - suc m) (suc m) (operand (below d)) ts b.rest e _ b.read refl (omega arith)
          (linked-none (suc m) _ e b.rest none));
      fits = b.fits;
      within = b.within;
    }
down-chain d m e ps ts false t h s b =
    let more : 10 ≤ m = ltb-false m 10 t in
    let same : 10 - suc m ≡ 10 - m = omega arith in
    record { rest = b.rest; read = rw same at b.read; fits = b.fits; within = b.within }

-- one level down, where no operator of that level follows
down : (d m : ℕ) (e : ExprTree) (ps : List Symbol) (ts : List Placed) → m ≤ 11 → Stops m ps → Back (at d (suc m)) e ps ts → Back (at d m) e ps ts
unfolding expr_on
down d zero e ps ts h s b =
    let none = no-token 0 (kind.Punct puncts.Question) ps b.rest s (omega arith) b.fits in
    record { rest = b.rest; read = rw (b.read, none) refl; fits = b.fits; within = b.within }
down d (suc m) e ps ts h s b = down-chain d m e ps ts (nat_lt m 10) refl h s b

-- a part with a greater level is read at each lower one
lower : (k d n : ℕ) (e : ExprTree) (ps : List Symbol) (ts : List Placed) → n + k ≤ 12 → Stops n ps → Back (at d (n + k)) e ps ts → Back (at d n) e ps ts
lower zero d n e ps ts h s b = let same : n + 0 ≡ n = omega arith in rw same at b
lower (suc k) d n e ps ts h s b =
    let same : n + suc k ≡ suc (n + k) = omega arith in
    lower k d n e ps ts (omega arith) s (down d (n + k) e ps ts (omega arith) (stops-more n (n + k) ps (omega arith) s) (rw same at b))

pub depth-some : (e : ExprTree) → 1 ≤ expr_depth e
depth-some (tree.Number n) = omega arith
depth-some (tree.Wide n) = omega arith
depth-some (tree.Place t) = omega arith
depth-some (tree.ExprTree.Call f es) = omega arith
depth-some (tree.Paren e) = omega arith
depth-some (tree.Unary op m e) = omega arith
depth-some (tree.Chain l first rest) = let h = depth-some first in omega arith
depth-some (tree.Choice c a b) = let h = depth-some c in omega arith

-- a token that the tree keeps no mark of
pub record Plain (k : Kind) (ps : List Symbol) (ts : List Placed) : Type 0 where
  pub mark : Mark
  pub rest : List Placed
  pub head : ts ≡ placed k mark ∷ rest
  pub fits : Fit ps rest

pub plain-back : {k : Kind} {ps : List Symbol} {ts : List Placed} → Fit (bare k ∷ ps) ts → Plain k ps ts
plain-back (means.bare f) = record { mark = _; rest = _; head = refl; fits = f }

-- a token that the tree keeps the mark of
pub record Noted (k : Kind) (m : Mark) (ps : List Symbol) (ts : List Placed) : Type 0 where
  pub rest : List Placed
  pub head : ts ≡ placed k m ∷ rest
  pub fits : Fit ps rest

pub noted-back : {k : Kind} {m : Mark} {ps : List Symbol} {ts : List Placed} → Fit (marked k m ∷ ps) ts → Noted k m ps ts
noted-back (means.marked f) = record { rest = _; head = refl; fits = f }

pub expect-back : (k : Kind) (m : Mark) (ts : List Placed) → expect k (placed k m ∷ ts) ≡ got m ts
unfolding expect
expect-back k m ts = rw (same-self k) refl

precedence-most : (l : Level) → precedence l ≤ 10
precedence-most levels.Or = omega arith
precedence-most levels.And = omega arith
precedence-most levels.BitOr = omega arith
precedence-most levels.BitXor = omega arith
precedence-most levels.BitAnd = omega arith
precedence-most levels.Equal = omega arith
precedence-most levels.Order = omega arith
precedence-most levels.Shift = omega arith
precedence-most levels.Sum = omega arith
precedence-most levels.Product = omega arith

level-least : (e : ExprTree) → level e ≤ 12
level-least (tree.Choice c a b) = omega arith
level-least (tree.Chain l first rest) = let h = precedence-most l in omega arith
level-least (tree.Unary op m e) = omega arith
level-least (tree.Number n) = omega arith
level-least (tree.Wide n) = omega arith
level-least (tree.Place t) = omega arith
level-least (tree.ExprTree.Call f es) = omega arith
level-least (tree.Paren e) = omega arith

raise : (d n : ℕ) (e : ExprTree) (ps : List Symbol) (ts : List Placed) → n ≤ level e → Stops n ps →
    Back (at d (level e)) e ps ts → Back (at d n) e ps ts
raise d n e ps ts above s b =
    let same : level e ≡ n + (level e - n) = omega arith in
    let most = level-least e in
    lower (level e - n) d n e ps ts (omega arith) s (rw same at b)

standing : (d : ℕ) {e : ExprTree} {ps : List Symbol} {ts : List Placed} → Back (operand (below d)) e ps ts → Back (at d 12) e ps ts
unfolding chains
standing d b = record { rest = b.rest; read = b.read; fits = b.fits; within = b.within }

back-number : (d n : ℕ) (ps : List Symbol) (ts : List Placed) → n < 2 ^ 31 → Plain (kind.Number n) ps ts → Back (operand (below d)) (tree.Number n) ps ts
unfolding operand operand_by
back-number d n ps ts small t =
    let size = ap length t.head in
    record { rest = t.rest; read = rw (t.head, lt-ltb n (2 ^ 31) small) refl; fits = t.fits; within = omega arith }

back-wide : (d n : ℕ) (ps : List Symbol) (ts : List Placed) → n < 2 ^ 32 → Plain (kind.Wide n) ps ts → Back (operand (below d)) (tree.Wide n) ps ts
unfolding operand operand_by
back-wide d n ps ts fits t =
    let size = ap length t.head in
    record { rest = t.rest; read = rw (t.head, lt-ltb n (2 ^ 32) fits) refl; fits = t.fits; within = omega arith }

back-paren : (c : ℕ) (e : ExprTree) (ps : List Symbol) (ts : List Placed) → (t : Plain (kind.Punct puncts.OpenParen) (spelling.expr e (bare (kind.Punct puncts.CloseParen) ∷ ps)) ts) →
    (b : Back (expr_on (below c)) e (bare (kind.Punct puncts.CloseParen) ∷ ps) t.rest) → Plain (kind.Punct puncts.CloseParen) ps b.rest →
    Back (operand (below (suc c))) (tree.Paren e) ps ts
unfolding operand operand_by paren below
back-paren c e ps ts t b u =
    let size = ap length t.head in
    let left = ap length u.head in
    record { rest = u.rest; read = rw (t.head, b.read, u.head, expect-back (kind.Punct puncts.CloseParen) u.mark u.rest) refl; fits = u.fits; within = omega (arith, b.within) }

sign-start : (op : Unary) → operand_start (kind.Punct (unary_mark op)) ≡ starts.Sign op
sign-start unary.Minus = refl
sign-start unary.Plus = refl
sign-start unary.Not = refl
sign-start unary.Invert = refl

back-sign : (c : ℕ) (op : Unary) (m : Mark) (e : ExprTree) (ps : List Symbol) (ts : List Placed) →
    (t : Noted (kind.Punct (unary_mark op)) m (spelling.expr e ps) ts) →
    Back (at c 11) e ps t.rest → Back (operand (below (suc c))) (tree.Unary op m e) ps ts
unfolding operand operand_by sign below chains
back-sign c op m e ps ts t b =
    let size = ap length t.head in
    record { rest = b.rest; read = rw (t.head, sign-start op, b.read) refl; fits = b.fits; within = omega (arith, b.within) }

pub back-index : (c : ℕ) (m : Mark) (e : ExprTree) (ps : List Symbol) (ts : List Placed) →
    (t : Noted (kind.Punct puncts.OpenBracket) m (spelling.expr e (bare (kind.Punct puncts.CloseBracket) ∷ ps)) ts) →
    (b : Back (expr_on (below c)) e (bare (kind.Punct puncts.CloseBracket) ∷ ps) t.rest) → Plain (kind.Punct puncts.CloseBracket) ps b.rest →
    Back (index (below (suc c))) (record { mark = m; value = e }) ps ts
unfolding index below
back-index c m e ps ts t b u =
    let size = ap length t.head in
    let left = ap length u.head in
    record { rest = u.rest; read = rw (t.head, b.read, u.head, expect-back (kind.Punct puncts.CloseBracket) u.mark u.rest) refl; fits = u.fits; within = omega (arith, b.within) }

-- a target's name, and what is read behind it
abbrev pub name_of : TargetTree → Name
name_of (tree.Variable n) = n
name_of (tree.Element n m e) = n

pub record BackTarget (d : ℕ) (t : TargetTree) (ps : List Symbol) (ts : List Placed) : Type 0 where
  pub rest : List Placed
  pub head : ts ≡ placed (kind.Name (name_of t).id) (name_of t).mark ∷ rest
  pub open_paren : begins (kind.Punct puncts.OpenParen) rest ≡ false
  pub back : Back (target_of (below d) (name_of t)) t ps rest

back-variable : (d : ℕ) (n : Name) (ps : List Symbol) (ts : List Placed) → Fit (spelling.name n ps) ts → Stops 12 ps → BackTarget d (tree.Variable n) ps ts
unfolding target_of
back-variable d n ps ts f s =
    let t = noted-back f in
    record {
      rest = t.rest;
      head = t.head;
      open_paren = no-token 12 (kind.Punct puncts.OpenParen) ps t.rest s (omega arith) t.fits;
      back = record {
        rest = t.rest;
        read = rw (no-token 12 (kind.Punct puncts.OpenBracket) ps t.rest s (omega arith) t.fits) refl;
        fits = t.fits;
        within = omega arith;
      };
    }

back-element : (d : ℕ) (n : Name) (m : Mark) (e : ExprTree) (ps : List Symbol) (ts : List Placed) →
    (t : Noted (kind.Name n.id) n.mark (spelling.index (record { mark = m; value = e }) ps) ts) →
    Back (index (below d)) (record { mark = m; value = e }) ps t.rest → BackTarget d (tree.Element n m e) ps ts
unfolding target_of
back-element d n m e ps ts t b =
    let u = noted-back t.fits in
    record {
      rest = t.rest;
      head = t.head;
      open_paren = rw u.head refl;
      back = record {
        rest = b.rest;
        read = let opens : begins (kind.Punct puncts.OpenBracket) t.rest ≡ true = rw u.head refl in rw (opens, b.read) refl;
        fits = b.fits;
        within = b.within;
      };
    }

back-place : (d : ℕ) (t : TargetTree) (ps : List Symbol) (ts : List Placed) → BackTarget d t ps ts → Back (operand (below d)) (tree.Place t) ps ts
unfolding operand operand_by named
back-place d t ps ts b =
    let size = ap length b.head in
    record { rest = b.back.rest; read = rw (b.head, b.open_paren, b.back.read) refl; fits = b.back.fits; within = omega (arith, b.back.within) }

back-call : (d : ℕ) (n : Name) (es : Args) (ps : List Symbol) (ts : List Placed) →
    (t : Noted (kind.Name n.id) n.mark (spelling.in_parens (spelling.args es) ps) ts) →
    Back (args (below d)) es ps t.rest → Back (operand (below d)) (tree.ExprTree.Call n es) ps ts
unfolding operand operand_by named
back-call d n es ps ts t b =
    let u = plain-back t.fits in
    let size = ap length t.head in
    let opens : begins (kind.Punct puncts.OpenParen) t.rest ≡ true = rw u.head refl in
    record { rest = b.rest; read = rw (t.head, opens, b.read) refl; fits = b.fits; within = omega (arith, b.within) }

can-not : {k : Kind} → CanBeginExpr k → same k (kind.Punct puncts.CloseParen) ≡ false
can-not can.CanBeginExpr.number = refl
can-not can.CanBeginExpr.wide = refl
can-not can.CanBeginExpr.name = refl
can-not can.CanBeginExpr.paren = refl
can-not can.CanBeginExpr.minus = refl
can-not can.CanBeginExpr.plus = refl
can-not can.CanBeginExpr.not = refl
can-not can.CanBeginExpr.invert = refl

not-closed : (ps : List Symbol) (ts : List Placed) → BeginsWith CanBeginExpr ps → Fit ps ts → begins (kind.Punct puncts.CloseParen) ts ≡ false
not-closed (bare k ∷ ps) (placed l m ∷ ts) (can.begins h) (means.bare f) = can-not h
not-closed (marked k n ∷ ps) (placed l m ∷ ts) (can.begins h) (means.marked f) = can-not h
not-closed [] ts h f = elim h [ ]
not-closed (bare k ∷ ps) [] h f = elim f [ ]
not-closed (marked k n ∷ ps) [] h f = elim f [ ]

back-no_args : (d : ℕ) (ps : List Symbol) (ts : List Placed) →
    (t : Plain (kind.Punct puncts.OpenParen) (bare (kind.Punct puncts.CloseParen) ∷ ps) ts) → Plain (kind.Punct puncts.CloseParen) ps t.rest →
    Back (args (below d)) tree.no_args ps ts
unfolding args
back-no_args d ps ts t u =
    let size = ap length t.head in
    let left = ap length u.head in
    record { rest = u.rest; read = rw (t.head, u.head) refl; fits = u.fits; within = omega arith }

back-some_args : (c : ℕ) (e : ExprTree) (es : Args) (ps : List Symbol) (ts : List Placed) →
    (t : Plain (kind.Punct puncts.OpenParen) (spelling.args (tree.arg e es) (bare (kind.Punct puncts.CloseParen) ∷ ps)) ts) →
    (a : Back (expr_on (below c)) e (spelling.more_args es (bare (kind.Punct puncts.CloseParen) ∷ ps)) t.rest) →
    (b : Back (more_args (suc (length a.rest)) (layer (below c))) es (bare (kind.Punct puncts.CloseParen) ∷ ps) a.rest) → Plain (kind.Punct puncts.CloseParen) ps b.rest →
    Back (args (below (suc c))) (tree.arg e es) ps ts
unfolding args some_args below
back-some_args c e es ps ts t a b u =
    let size = ap length t.head in
    let left = ap length u.head in
    let opened : begins (kind.Punct puncts.CloseParen) t.rest ≡ false = not-closed _ t.rest (expr-begins e _) t.fits in
    record {
      rest = u.rest;
      read = rw (t.head, opened, a.read, b.read, u.head, expect-back (kind.Punct puncts.CloseParen) u.mark u.rest) refl;
      fits = u.fits;
      within = omega (arith, a.within, b.within);
    }

back-more_none : (f : ℕ) (r : Readers) (ps : List Symbol) (ts : List Placed) → Fit (bare (kind.Punct puncts.CloseParen) ∷ ps) ts →
    Back (more_args (suc f) r) tree.no_args (bare (kind.Punct puncts.CloseParen) ∷ ps) ts
unfolding more_args
back-more_none f r ps ts fit =
    let t = plain-back fit in
    record { rest = ts; read = rw t.head refl; fits = fit; within = omega arith }

back-more : (f c : ℕ) (e : ExprTree) (es : Args) (ps : List Symbol) (ts : List Placed) →
    (t : Plain (kind.Punct puncts.Comma) (spelling.expr e (spelling.more_args es ps)) ts) →
    (a : Back (expr_on (below c)) e (spelling.more_args es ps) t.rest) →
    Back (more_args f (layer (below c))) es ps a.rest → Back (more_args (suc f) (layer (below c))) (tree.arg e es) ps ts
unfolding more_args
back-more f c e es ps ts t a b =
    let size = ap length t.head in
    record { rest = b.rest; read = rw (t.head, a.read, b.read) refl; fits = b.fits; within = omega (arith, a.within, b.within) }

back-links_none : (f r : ℕ) (u : Reader ExprTree) (ps : List Symbol) (ts : List Placed) → Stops r ps → Fit ps ts → Back (links (suc f) r u) tree.no_links ps ts
back-links_none f r u ps ts s fit =
    record { rest = ts; read = links-none f r u ts (no-operator r ps ts s fit); fits = fit; within = omega arith }

operator-of_precedence : (r : ℕ) (op : Binary) → op_precedence op ≡ r → of_precedence r (binary_of (kind.Punct (binary_mark op))) ≡ Some op
operator-of_precedence r op e = rw (binary_of-mark op, eq-eqb _ _ e) refl

back-link : (f r : ℕ) (u : Reader ExprTree) (op : Binary) (m : Mark) (e : ExprTree) (ls : Links) (ps : List Symbol) (ts : List Placed) → op_precedence op ≡ r →
    (t : Noted (kind.Punct (binary_mark op)) m (spelling.expr e (spelling.links ls ps)) ts) →
    (a : Back u e (spelling.links ls ps) t.rest) → Back (links f r u) ls ps a.rest →
    Back (links (suc f) r u) (tree.link op m e ls) ps ts
unfolding links
back-link f r u op m e ls ps ts precedence t a b =
    let size = ap length t.head in
    record { rest = b.rest; read = rw (t.head, operator-of_precedence r op precedence, a.read, b.read) refl; fits = b.fits; within = omega (arith, a.within, b.within) }

back-chain : (d r : ℕ) (l : Level) (first e : ExprTree) (op : Binary) (m : Mark) (rest : Links) (ps : List Symbol) (ts : List Placed) → precedence l ≡ r → 1 ≤ r →
    (a : Back (at d (suc r)) first (spelling.links (tree.link op m e rest) ps) ts) →
    Back (links (suc (length a.rest)) r (at d (suc r))) (tree.link op m e rest) ps a.rest → Back (at d r) (tree.Chain l first (tree.link op m e rest)) ps ts
unfolding linked
back-chain d zero l first e op m rest ps ts is some a b = absurd (omega arith)
back-chain d (suc n) l first e op m rest ps ts is some a b =
    let most = precedence-most l in
    let level : level_at (suc n) ≡ l = ap level_at (sym is) ∙ level_at-precedence l in
    let up : 10 - suc n + 1 ≡ 10 - n = omega arith in
    let next : linked (suc n) (chains (10 - suc n) (operand (below d))) first a.rest ≡ got (tree.Chain l first (tree.link op m e rest)) b.rest =
    rw (b.read, level) refl in
    record {
      rest = b.rest;
      read = rw up at (chains-next (10 - suc n) (10 - suc n) (suc n) (operand (below d)) ts a.rest first _ a.read refl (omega arith) next);
      fits = b.fits;
      within = omega (arith, a.within, b.within);
    }

back-choice : (c : ℕ) (e x y : ExprTree) (ps : List Symbol) (ts : List Placed) →
    (a : Back (at (suc c) 1) e (spelling.token (kind.Punct puncts.Question) (spelling.expr x (bare (kind.Punct puncts.Colon) ∷ spelling.expr y ps))) ts) →
    (t : Plain (kind.Punct puncts.Question) (spelling.expr x (bare (kind.Punct puncts.Colon) ∷ spelling.expr y ps)) a.rest) →
    (b : Back (at c 0) x (bare (kind.Punct puncts.Colon) ∷ spelling.expr y ps) t.rest) →
    (u : Plain (kind.Punct puncts.Colon) (spelling.expr y ps) b.rest) →
    Back (at c 0) y ps u.rest → Back (at (suc c) 0) (tree.Choice e x y) ps ts
unfolding expr_on branches below
back-choice c e x y ps ts a t b u z =
    let size = ap length t.head in
    let left = ap length u.head in
    record {
      rest = z.rest;
      read = rw (a.read, t.head, b.read, u.head, expect-back (kind.Punct puncts.Colon) u.mark u.rest, z.read) refl;
      fits = z.fits;
      within = omega (arith, a.within, b.within, z.within);
    }

operator-stops : (l : Level) (op : Binary) (m : Mark) (ps : List Symbol) → level_of op ≡ l → Stops (suc (precedence l)) (marked (kind.Punct (binary_mark op)) m ∷ ps)
operator-stops l op m ps is = let h = grows-operator op in let same = ap precedence is in record { least = omega (arith, h, same) }

pub closing : {n : ℕ} (ps : List Symbol) → Stops n (bare (kind.Punct puncts.CloseParen) ∷ ps)
closing ps = record { least = omega arith }

links-stop : (r : ℕ) (l : Level) (ls : Links) (ps : List Symbol) → precedence l ≡ r → AreLinks l ls → Stops r ps → Stops (suc r) (spelling.links ls ps)
links-stop r l tree.no_links ps is none s = stops-more r (suc r) ps (omega arith) s
links-stop r l (tree.link op m e rest) ps is (leveled.link level w x y) s =
    stops-more (suc (precedence l)) (suc r) _ (omega arith) (operator-stops l op m _ level)

asks : {n : ℕ} (ps : List Symbol) → Stops (suc n) (bare (kind.Punct puncts.Question) ∷ ps)
asks ps = record { least = omega arith }

pub colon : {n : ℕ} (ps : List Symbol) → Stops n (bare (kind.Punct puncts.Colon) ∷ ps)
colon ps = record { least = omega arith }

pub bracket : {n : ℕ} (ps : List Symbol) → Stops n (bare (kind.Punct puncts.CloseBracket) ∷ ps)
bracket ps = record { least = omega arith }

precedence-least : (l : Level) → 1 ≤ precedence l
precedence-least levels.Or = omega arith
precedence-least levels.And = omega arith
precedence-least levels.BitOr = omega arith
precedence-least levels.BitXor = omega arith
precedence-least levels.BitAnd = omega arith
precedence-least levels.Equal = omega arith
precedence-least levels.Order = omega arith
precedence-least levels.Shift = omega arith
precedence-least levels.Sum = omega arith
precedence-least levels.Product = omega arith

signed : (d : ℕ) {e : ExprTree} {ps : List Symbol} {ts : List Placed} → Back (operand (below d)) e ps ts → Back (at d 11) e ps ts
unfolding chains
signed d b = record { rest = b.rest; read = b.read; fits = b.fits; within = b.within }

more-stop : (es : Args) (ps : List Symbol) → Stops 0 (spelling.more_args es (bare (kind.Punct puncts.CloseParen) ∷ ps))
more-stop tree.no_args ps = record { least = omega arith }
more-stop (tree.arg e es) ps = record { least = omega arith }

mutual
  base : (d : ℕ) {e : ExprTree} {ps : List Symbol} {ts : List Placed} → IsExpr e → expr_depth e ≤ suc d →
      Fit (spelling.expr e ps) ts → Stops (level e) ps → Back (at d (level e)) e ps ts
  base d (leveled.number small) h f s = standing d (back-number d _ _ _ small (plain-back f))
  base d (leveled.wide fits) h f s = standing d (back-wide d _ _ _ fits (plain-back f))
  base d (leveled.place target) h f s = standing d (back-place d _ _ _ (back-target d target (omega arith) f s))
  base d (leveled.IsExpr.call are) h f s =
      let t = noted-back f in
      standing d (back-call d _ _ _ _ t (back-args d are (omega arith) t.fits))
  base zero (leveled.paren {e} inner) h f s = let some = depth-some e in absurd (omega arith)
  base (suc c) (leveled.paren {e} inner) h f s =
      let t = plain-back f in
      let b = raise c 0 e _ _ (omega arith) (closing _) (base c inner (omega arith) t.fits (closing _)) in
      standing (suc c) (back-paren c _ _ _ t b (plain-back b.fits))
  base zero (leveled.unary {op} {m} {e} right above) h f s = let some = depth-some e in absurd (omega arith)
  base (suc c) (leveled.unary {op} {m} {e} right above) h f s =
      let t = noted-back f in
      let b = raise c 11 e _ _ above s (base c right (omega arith) t.fits (stops-more 11 (level e) _ above s)) in
      signed (suc c) (back-sign c op m e _ _ t b)
  base zero (leveled.choice {c} {a} {b} condition higher first second) h f s = let some = depth-some a in absurd (omega arith)
  base (suc d) (leveled.choice {c} {a} {b} condition higher first second) h f s =
      let x = raise (suc d) 1 c _ _ higher (asks _) (base (suc d) condition (omega arith) f (stops-more 1 (level c) _ higher (asks _))) in
      let t = plain-back x.fits in
      let y = raise d 0 a _ _ (omega arith) (colon _) (base d first (omega arith) t.fits (colon _)) in
      let u = plain-back y.fits in
      let z = raise d 0 b _ _ (omega arith) s (base d second (omega arith) u.fits (stops-more 0 (level b) _ (omega arith) s)) in
      back-choice d c a b _ _ x t y u z
  base d (leveled.chain {l} {first} {e} {op} {m} {rest} one higher (leveled.link lv is above more)) h f s =
      let stop = operator-stops l op m (spelling.expr e (spelling.links rest _)) lv in
      let x = raise d (suc (precedence l)) first _ _ higher stop (base d one (omega arith) f (stops-more (suc (precedence l)) (level first) _ higher stop)) in
      let y = back-links (suc (length x.rest)) d (precedence l) {ls = tree.link op m e rest} refl (leveled.link lv is above more) (omega arith) x.fits s (omega arith) in
      back-chain d (precedence l) l first e op m rest _ _ refl (precedence-least l) x y

  pub back-target : (d : ℕ) {t : TargetTree} {ps : List Symbol} {ts : List Placed} → IsTarget t → target_depth t ≤ d →
      Fit (spelling.target t ps) ts → Stops 12 ps → BackTarget d t ps ts
  back-target d leveled.variable h f s = back-variable d _ _ _ f s
  back-target zero (leveled.element {n} {m} {e} is) h f s = let some = depth-some e in absurd (omega arith)
  back-target (suc c) (leveled.element {n} {m} {e} is) h f s =
      let t = noted-back f in
      let u = noted-back t.fits in
      let b = raise c 0 e _ _ (omega arith) (bracket _) (base c is (omega arith) u.fits (bracket _)) in
      back-element (suc c) n m e _ _ t (back-index c m e _ _ u b (plain-back b.fits))

  pub back-args : (d : ℕ) {es : Args} {ps : List Symbol} {ts : List Placed} → AreArgs es → args_depth es ≤ d →
      Fit (spelling.in_parens (spelling.args es) ps) ts → Back (args (below d)) es ps ts
  back-args d leveled.no_args h f = let t = plain-back f in back-no_args d _ _ t (plain-back t.fits)
  back-args zero (leveled.arg {e} {es} first rest) h f = let some = depth-some e in absurd (omega arith)
  back-args (suc c) (leveled.arg {e} {es} first rest) h f =
      let t = plain-back f in
      let a = raise c 0 e _ _ (omega arith) (more-stop es _) (base c first (omega arith) t.fits (stops-more 0 _ _ (omega arith) (more-stop es _))) in
      let b = back-more_args (suc (length a.rest)) c rest (omega arith) a.fits (omega arith) in
      back-some_args c e es _ _ t a b (plain-back b.fits)

  back-more_args : (f c : ℕ) {es : Args} {ps : List Symbol} {ts : List Placed} → AreArgs es → args_depth es ≤ suc c →
      Fit (spelling.more_args es (bare (kind.Punct puncts.CloseParen) ∷ ps)) ts → length ts < f →
      Back (more_args f (layer (below c))) es (bare (kind.Punct puncts.CloseParen) ∷ ps) ts
  back-more_args zero c are h fit less = absurd (omega arith)
  back-more_args (suc f) c leveled.no_args h fit less = back-more_none f (layer (below c)) _ _ fit
  back-more_args (suc f) c (leveled.arg {e} {es} first rest) h fit less =
      let t = plain-back fit in
      let a = raise c 0 e _ _ (omega arith) (more-stop es _) (base c first (omega arith) t.fits (stops-more 0 _ _ (omega arith) (more-stop es _))) in
      back-more f c e es _ _ t a (back-more_args f c rest (omega arith) a.fits (omega (arith, a.within, ap length t.head)))

  back-links : (f d r : ℕ) {l : Level} {ls : Links} {ps : List Symbol} {ts : List Placed} → precedence l ≡ r → AreLinks l ls → links_depth ls ≤ suc d →
      Fit (spelling.links ls ps) ts → Stops r ps → length ts < f → Back (links f r (at d (suc r))) ls ps ts
  back-links zero d r is are h fit s less = absurd (omega arith)
  back-links (suc f) d r is leveled.no_links h fit s less = back-links_none f r (at d (suc r)) _ _ s fit
  back-links (suc f) d r {l} is (leveled.link {op = op} {m = m} {e = e} {rest = rest} lv right above more) h fit s less =
      let t = noted-back fit in
      let high : suc r ≤ leveled.level e = omega (arith, above, is) in
      let stop = links-stop r l rest _ is more s in
      let a = raise d (suc r) e _ _ high stop (base d right (omega arith) t.fits (stops-more (suc r) _ _ high stop)) in
      back-link f r (at d (suc r)) op m e rest _ _ (ap precedence lv ∙ is) t a
      (back-links f d r is more (omega arith) a.fits s (omega (arith, a.within, ap length t.head)))

-- what is spelled as an expression is read back, where what follows doesn't go on
pub back-expr : (d : ℕ) {e : ExprTree} {ps : List Symbol} {ts : List Placed} → IsExpr e → expr_depth e ≤ suc d →
    Fit (spelling.expr e ps) ts → Stops 0 ps → Back (expr_on (below d)) e ps ts
back-expr d {e} is h f s = raise d 0 e _ _ (omega arith) s (base d is h f (stops-more 0 (level e) _ (omega arith) s))
