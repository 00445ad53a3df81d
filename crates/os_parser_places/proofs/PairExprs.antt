-- A reader of expressions is refused at the same token whatever follows it.
use Rattle.std.proofs.Common.{◌≡◌, ℕ, zero, suc, ◌-◌, ◌≤◌, ◌<◌, List, Option, Some, None, cond, length, refl, subst, arith}
use Rattle.os_ast.specs.Means.{Placed}
use Rattle.os_ast.specs.Trees as tree
use Rattle.os_ast.specs.Trees.{ExprTree, TargetTree, Args, Links}
use Rattle.os_ast.specs.declared.expr.Binary.{Binary}
use Rattle.os_ast.specs.declared.expr.Name.{Name}
use Rattle.os_ast.specs.declared.expr.Unary.{Unary}
use Rattle.os_lexer.specs.declared.token.Kind.TheVariants as kind
use Rattle.os_lexer.specs.declared.token.Punct.TheVariants as puncts
use Rattle.os_parser_grammar.specs.Expressions.{Readers, deeper, index, target_of, more_args, some_args, args, named, paren, sign, operand_by, operand, at_operator, links, linked, chains, branches, expr_on, below}
use Rattle.os_parser_grammar.specs.Operands.{operator_at, start_at}
use Rattle.os_parser_grammar.specs.Reading.{Read, Reader, got, ◌>>=◌, after, mark_at, begins, expect}
use Rattle.os_parser_grammar.specs.declared.operand_start.OperandStart.{OperandStart}
use Rattle.os_parser_grammar.specs.declared.operand_start.OperandStart.TheVariants as starts
use Rattle.os_parser_places.proofs.Alike.{Alike, left, Shrinks, flat, left-then, left-if, begins-alike, operator-alike, length-alike}
use Rattle.os_parser_places.proofs.Pairs.{Pair, PairReaders, PairBelow, Goes, both, neither, past, goes-if, pair-gives, pair-fails, pair-expect, pair-next, pair-then, pair-if, pair-deeper, pair-got, pair-any, pair-by, start-says}

pub pair-expr : (r : Readers) → PairReaders r → Pair flat 0 r.expr r.expr
pair-expr r g = g.expr

-- an expression behind the next token
pub pair-then_expr : (r : Readers) → PairReaders r → Pair flat 1 (λ ts. r.expr (after ts)) (λ us. r.expr (after us))
pair-then_expr r g = pair-next (λ ts. r.expr) (λ us. r.expr) (λ ts us. g.expr)

pub pair-index : (b : Option Readers) → PairBelow b → Pair flat 0 (index b) (index b)
unfolding index
pair-index b h =
    pair-deeper b h (λ r g. pair-then 1 0 (omega arith) (pair-then_expr r g) (λ ts us x y e.
    pair-then 0 0 (omega arith) (pair-expect _) (λ ts us m n q. pair-gives (λ vs ws. refl))))

abbrev pub target_shape : TargetTree → ℕ
target_shape (tree.Variable n) = 0
target_shape (tree.Element n m e) = 1

pub pair-target_of : (b : Option Readers) (n p : Name) → PairBelow b → Pair target_shape 0 (target_of b n) (target_of b p)
unfolding target_of
pair-target_of b n p h =
    pair-if (kind.Punct puncts.OpenBracket) (pair-then 0 0 (omega arith) (pair-index b h) (λ ts us x y e. pair-gives (λ vs ws. refl)))
    (pair-gives (λ vs ws. refl))

small-more : (f : ℕ) (r : Readers) → PairReaders r → Shrinks (more_args f r)
unfolding more_args
small-more zero r g ts = omega arith
small-more (suc f) r g ts =
    left-if (begins (kind.Punct puncts.Comma) ts) _ _ (length ts)
    (left-then (r.expr (after ts)) _ (length ts) ((pair-then_expr r g).small ts) (λ e us. left-then (more_args f r us) _ (length us) (small-more f r g us) (λ es vs. omega arith)))
    (omega arith)

goes-arg : (x y : ExprTree) {xs ys : List Placed} {e d : ℕ} {r s : Read Args} → Goes flat xs ys 0 e r s → e ≤ d →
    Goes flat xs ys 0 d (r >>= λ zs ws. got (tree.arg x zs) ws) (s >>= λ zs ws. got (tree.arg y zs) ws)
goes-arg x y (both q a l) h = both refl a (omega (arith, l, h))
goes-arg x y (neither a) h = neither a
goes-arg x y (past {r} {s} l) h = past (left-then r _ _ l (λ zs ws. omega arith))

goes-more : (f g : ℕ) (r : Readers) → PairReaders r → {xs ys : List Placed} {d : ℕ} {p q : Read ExprTree} → Goes flat xs ys 1 d p q →
    ((e : ℕ) (vs ws : List Placed) → Alike xs ys e vs ws → e < d → Goes flat xs ys 0 e (more_args f r vs) (more_args g r ws)) →
    Goes flat xs ys 0 d (p >>= λ x vs. more_args f r vs >>= λ zs ws. got (tree.arg x zs) ws) (q >>= λ x vs. more_args g r vs >>= λ zs ws. got (tree.arg x zs) ws)
goes-more f g r h (neither a) k = neither a
goes-more f g r h (past {r = p} l) k = past (left-then p _ _ l (λ x us. left-then (more_args f r us) _ (length us) (small-more f r h us) (λ xs vs. omega arith)))
goes-more f g r h (both {x} {y} e a l) k = goes-arg x y (k _ _ _ a (omega (arith, l))) (omega (arith, l))

goes-args : (f g : ℕ) (r : Readers) → PairReaders r → {xs ys : List Placed} {d : ℕ} {ts us : List Placed} → Alike xs ys d ts us →
    d < f → d < g → Goes flat xs ys 0 d (more_args f r ts) (more_args g r us)
unfolding more_args
goes-args zero g r h a l k = absurd (omega arith)
goes-args (suc f) zero r h a l k = absurd (omega arith)
goes-args (suc f) (suc g) r h {ts = ts} {us = us} a l k =
    goes-if (begins (kind.Punct puncts.Comma) ts) (begins (kind.Punct puncts.Comma) us) (begins-alike _ a)
    (goes-more f g r h ((pair-then_expr r h).goes a) (λ e vs ws b lt. goes-args f g r h b (omega (arith, l, lt)) (omega (arith, k, lt))))
    (both refl a (omega arith))

pair-more_args : (r : Readers) → PairReaders r → Pair flat 0 (λ ts. more_args (suc (length ts)) r ts) (λ us. more_args (suc (length us)) r us)
pair-more_args r h = record {
  small = λ ts. small-more (suc (length ts)) r h ts;
  goes = λ {xs} {ys} {d} {ts} {us} a. goes-args (suc (length ts)) (suc (length us)) r h a (omega (arith, (length-alike a).0)) (omega (arith, (length-alike a).1));
}

pair-some_args : (r : Readers) → PairReaders r → Pair flat 0 (some_args r) (some_args r)
unfolding some_args
pair-some_args r g =
    pair-then 0 0 (omega arith) (pair-expr r g) (λ ts us x y e. pair-then 0 0 (omega arith) (pair-more_args r g) (λ ts us x y e. pair-gives (λ vs ws. refl)))

-- behind the parenthesis
pair-listed : (b : Option Readers) → PairBelow b →
    Pair flat 0 (λ ts. cond (begins (kind.Punct puncts.CloseParen) ts) (got tree.no_args (after ts))
    (deeper b ts (λ r. some_args r ts >>= λ es us. expect (kind.Punct puncts.CloseParen) us >>= λ m vs. got es vs)))
    (λ ts. cond (begins (kind.Punct puncts.CloseParen) ts) (got tree.no_args (after ts))
    (deeper b ts (λ r. some_args r ts >>= λ es us. expect (kind.Punct puncts.CloseParen) us >>= λ m vs. got es vs)))
pair-listed b h =
    pair-if (kind.Punct puncts.CloseParen) (pair-any (pair-next (λ ts. got tree.no_args) (λ us. got tree.no_args) (λ ts us. pair-got refl)))
    (pair-deeper b h (λ r g. pair-then 0 0 (omega arith) (pair-some_args r g) (λ ts us x y e.
    pair-then 0 0 (omega arith) (pair-expect _) (λ ts us m n q. pair-gives (λ vs ws. refl)))))

pub pair-args : (b : Option Readers) → PairBelow b → Pair flat 0 (args b) (args b)
unfolding args
pair-args b h = pair-any (pair-next (λ ts vs. cond (begins (kind.Punct puncts.CloseParen) vs) (got tree.no_args (after vs))
    (deeper b vs (λ r. some_args r vs >>= λ es us. expect (kind.Punct puncts.CloseParen) us >>= λ m vs. got es vs))) _ (λ ts us. pair-listed b h))

pub pair-named : (b : Option Readers) (n p : Name) → PairBelow b → Pair flat 0 (named b n) (named b p)
unfolding named
pair-named b n p h =
    pair-if (kind.Punct puncts.OpenParen) (pair-then 0 0 (omega arith) (pair-args b h) (λ ts us x y e. pair-gives (λ vs ws. refl)))
    (pair-then 0 0 (omega arith) (pair-target_of b n p h) (λ ts us t u e. pair-gives (λ vs ws. refl)))

pair-paren : (b : Option Readers) → PairBelow b → Pair flat 0 (paren b) (paren b)
unfolding paren
pair-paren b h =
    pair-deeper b h (λ r g. pair-then 1 0 (omega arith) (pair-then_expr r g) (λ ts us x y e.
    pair-then 0 0 (omega arith) (pair-expect _) (λ ts us m n q. pair-gives (λ vs ws. refl))))

pair-sign : (op : Unary) (b : Option Readers) → PairBelow b → Pair flat 0 (sign op b) (sign op b)
unfolding sign
pair-sign op b h =
    pair-deeper b h (λ r g. pair-then 1 0 (omega arith) (pair-next (λ ts. r.operand) (λ us. r.operand) (λ ts us. g.operand)) (λ ts us x y e. pair-gives (λ vs ws. refl)))

pair-operand_by : (st : OperandStart) (b : Option Readers) → PairBelow b → Pair flat 0 (operand_by st b) (operand_by st b)
unfolding operand_by
pair-operand_by (starts.Number n) b h = pair-any (pair-next (λ ts. got (tree.Number n)) (λ us. got (tree.Number n)) (λ ts us. pair-got refl))
pair-operand_by (starts.Wide n) b h = pair-any (pair-next (λ ts. got (tree.Wide n)) (λ us. got (tree.Wide n)) (λ ts us. pair-got refl))
pair-operand_by (starts.Name id) b h =
    pair-any (pair-next (λ ts. named b (record { id = id; mark = mark_at ts })) (λ us. named b (record { id = id; mark = mark_at us })) (λ ts us. pair-named b _ _ h))
pair-operand_by starts.Paren b h = pair-paren b h
pair-operand_by (starts.Sign op) b h = pair-sign op b h
pair-operand_by starts.Other b h = pair-fails

pub pair-operand : (b : Option Readers) → PairBelow b → Pair flat 0 (operand b) (operand b)
unfolding operand
pair-operand b h = pair-by start_at (λ st. operand_by st b) (λ st. operand_by st b) start-says (λ st. pair-operand_by st b h)

-- chains
left-operator : {A : Type 0} (o : Option Binary) (f : Binary → Read A) (r : Read A) (n : ℕ) →
    ((op : Binary) → left (f op) ≤ n) → left r ≤ n → left (at_operator o f r) ≤ n
left-operator (Some op) f r n h k = h op
left-operator None f r n h k = k

goes-operator : {A : Type 0} {S : A → ℕ} {xs ys : List Placed} {k d : ℕ} (o p : Option Binary) (f g : Binary → Read A) (r s : Read A) → o ≡ p →
    ((op : Binary) → Goes S xs ys k d (f op) (g op)) → Goes S xs ys k d r s → Goes S xs ys k d (at_operator o f r) (at_operator p g s)
goes-operator {S = S} {xs = xs} {ys = ys} {k = n} {d = d} (Some op) (Some oq) f g r s e h k =
    let same : op ≡ oq = cc e in
    subst (λ q. Goes S xs ys n d (f op) (g q)) same (h op)
goes-operator None None f g r s e h k = k
goes-operator (Some op) None f g r s e h k = absurd (cc e)
goes-operator None (Some op) f g r s e h k = absurd (cc e)

pair-then_right : (u : Reader ExprTree) → Pair flat 0 u u → Pair flat 1 (λ ts. u (after ts)) (λ us. u (after us))
pair-then_right u p = pair-next (λ ts. u) (λ us. u) (λ ts us. p)

small-links : (f p : ℕ) (u : Reader ExprTree) → Pair flat 0 u u → Shrinks (links f p u)
unfolding links
small-links zero p u l ts = omega arith
small-links (suc f) p u l ts =
    left-operator (operator_at p ts) _ _ (length ts)
    (λ op. left-then (u (after ts)) _ (length ts) ((pair-then_right u l).small ts) (λ e us. left-then (links f p u us) _ (length us) (small-links f p u l us) (λ ls vs. omega arith)))
    (omega arith)

goes-link : (c o : Links → Links) {xs ys : List Placed} {e d : ℕ} {r s : Read Links} → Goes flat xs ys 0 e r s → e ≤ d →
    Goes flat xs ys 0 d (r >>= λ zs ws. got (c zs) ws) (s >>= λ zs ws. got (o zs) ws)
goes-link c o (both q a l) h = both refl a (omega (arith, l, h))
goes-link c o (neither a) h = neither a
goes-link c o (past {r} {s} l) h = past (left-then r _ _ l (λ zs ws. omega arith))

goes-right : (f g p : ℕ) (u : Reader ExprTree) → Pair flat 0 u u → (c o : ExprTree → Links → Links) {xs ys : List Placed} {d : ℕ} {r s : Read ExprTree} → Goes flat xs ys 1 d r s →
    ((e : ℕ) (vs ws : List Placed) → Alike xs ys e vs ws → e < d → Goes flat xs ys 0 e (links f p u vs) (links g p u ws)) →
    Goes flat xs ys 0 d (r >>= λ x vs. links f p u vs >>= λ zs ws. got (c x zs) ws) (s >>= λ x vs. links g p u vs >>= λ zs ws. got (o x zs) ws)
goes-right f g p u l c o (neither a) k = neither a
goes-right f g p u l c o (past {r} {s} h) k = past (left-then r _ _ h (λ x us. left-then (links f p u us) _ (length us) (small-links f p u l us) (λ xs vs. omega arith)))
goes-right f g p u l c o (both {x} {y} e a h) k = goes-link (c x) (o y) (k _ _ _ a (omega (arith, h))) (omega (arith, h))

goes-links : (f g p : ℕ) (u : Reader ExprTree) → Pair flat 0 u u → {xs ys : List Placed} {d : ℕ} {ts us : List Placed} → Alike xs ys d ts us →
    d < f → d < g → Goes flat xs ys 0 d (links f p u ts) (links g p u us)
unfolding links
goes-links zero g p u l a h k = absurd (omega arith)
goes-links (suc f) zero p u l a h k = absurd (omega arith)
goes-links (suc f) (suc g) p u l {ts = ts} {us = us} a h k =
    goes-operator (operator_at p ts) (operator_at p us) _ _ _ _ (operator-alike p a)
    (λ op. goes-right f g p u l (λ x zs. tree.link op (mark_at ts) x zs) (λ x zs. tree.link op (mark_at us) x zs) ((pair-then_right u l).goes a)
    (λ e vs ws b lt. goes-links f g p u l b (omega (arith, h, lt)) (omega (arith, k, lt))))
    (both refl a (omega arith))

pair-links : (p : ℕ) (u : Reader ExprTree) → Pair flat 0 u u → Pair flat 0 (λ ts. links (suc (length ts)) p u ts) (λ us. links (suc (length us)) p u us)
pair-links p u l = record {
  small = λ ts. small-links (suc (length ts)) p u l ts;
  goes = λ {xs} {ys} {d} {ts} {us} a. goes-links (suc (length ts)) (suc (length us)) p u l a (omega (arith, (length-alike a).0)) (omega (arith, (length-alike a).1));
}

pair-linked : (p : ℕ) (u : Reader ExprTree) → Pair flat 0 u u → (x y : ExprTree) → Pair flat 0 (linked p u x) (linked p u y)
unfolding linked
pair-linked p u l x y = pair-then 0 0 (omega arith) (pair-links p u l) (λ ts us ls ms e. pair-gives (λ vs ws. refl))

pair-chains : (n : ℕ) (u : Reader ExprTree) → Pair flat 0 u u → Pair flat 0 (chains n u) (chains n u)
unfolding chains
pair-chains zero u l = l
pair-chains (suc n) u l =
    let c = pair-chains n u l in
    pair-then 0 0 (omega arith) c (λ ts us x y e. pair-linked (10 - n) (chains n u) c x y)

pair-branches : (b : Option Readers) (c o : ExprTree) → PairBelow b → Pair flat 0 (branches b c) (branches b o)
unfolding branches
pair-branches b c o h =
    pair-deeper b h (λ r g. pair-then 1 0 (omega arith) (pair-then_expr r g) (λ ts us x y e. pair-then 0 0 (omega arith) (pair-expect _) (λ ts us m n q.
    pair-then 0 0 (omega arith) (pair-expr r g) (λ ts us v w e. pair-gives (λ vs ws. refl)))))

-- expressions
pub pair-expr_on : (b : Option Readers) → PairBelow b → Pair flat 0 (expr_on b) (expr_on b)
unfolding expr_on
pair-expr_on b h =
    pair-then 0 0 (omega arith) (pair-chains 10 (operand b) (pair-operand b h)) (λ ts us c o e.
    pair-if (kind.Punct puncts.Question) (pair-branches b c o h) (pair-gives (λ vs ws. refl)))

pub below-pair : (d : ℕ) → PairBelow (below d)
unfolding below
below-pair zero = tt
below-pair (suc d) = record { expr = pair-expr_on (below d) (below-pair d); operand = pair-operand (below d) (below-pair d) }
