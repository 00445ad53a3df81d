-- Chains and lists, read one part at a time.
use Rattle.std.proofs.Common.{◌≡◌, ℕ, zero, suc, ◌+◌, ◌-◌, ◌<◌, List, [], ◌∷◌, ◌++◌, length, Some, None, true, false, refl, sym, ap, ◌∙◌, arith}
use Rattle.std.proofs.lemmas.List.{length_push}
use Rattle.os_parser_grammar.proofs.Lists.{fuel-left}
use Rattle.os_ast.specs.Means.{Placed}
use Rattle.os_ast.specs.Trees as tree
use Rattle.os_ast.specs.Trees.{ExprTree, Links, Args}
use Rattle.os_ast.specs.Views.{expr_tree, args_tree, links_tree}
use Rattle.os_ast.specs.declared.expr.Binary.{Binary}
use Rattle.os_ast.specs.declared.expr.Expr.{Expr}
use Rattle.os_ast.specs.declared.expr.Link.{Link}
use Rattle.os_lexer.specs.declared.token.Kind.TheVariants as kind
use Rattle.os_lexer.specs.declared.token.Punct.TheVariants as puncts
use Rattle.os_parser_grammar.specs.Operands.{operator_at, level_at}
use Rattle.os_parser_grammar.specs.Expressions.{Readers, links, chains, linked, chained, more_args, some_args}
use Rattle.os_parser_grammar.specs.Reading.{Read, Reader, got, fails, ◌>>=◌, after, mark_at, begins}

-- the readers of chains, from one precedence to the next
pub chains-none : (n : ℕ) (u : Reader ExprTree) (ts : List Placed) → n ≡ 0 → chains n u ts ≡ u ts
unfolding chains
chains-none zero u ts e = refl
chains-none (suc n) u ts e = absurd (omega arith)

pub chains-more : (n m r : ℕ) (u : Reader ExprTree) (ts : List Placed) → n ≡ m + 1 → r ≡ 10 - m →
    chains n u ts ≡ chains m u ts >>= linked r (chains m u)
unfolding chains
chains-more zero m r u ts e h = absurd (omega arith)
chains-more (suc n) m r u ts e h =
    let same : n ≡ m = omega arith in
    let precedence : 10 - n ≡ r = omega arith in
    rw (← precedence, ← same) refl

-- where a reader of chains fails, so does each for further precedences
chains-up : (k n : ℕ) (u : Reader ExprTree) (ts us : List Placed) → chains n u ts ≡ fails us → chains (n + k) u ts ≡ fails us
chains-up zero n u ts us e = let m : n + 0 ≡ n = omega arith in rw m e
chains-up (suc k) n u ts us e =
    let f = chains-up k n u ts us e in
    rw (chains-more (n + suc k) (n + k) (10 - (n + k)) u ts (omega arith) refl, f) refl

pub chains-fails : (n : ℕ) (u : Reader ExprTree) (ts us : List Placed) → u ts ≡ fails us → chains n u ts ≡ fails us
chains-fails n u ts us e =
    let z = chains-none 0 u ts refl in
    let m : 0 + n ≡ n = omega arith in
    rw m at (chains-up n 0 u ts us (z ∙ e))

pub chains-next : (n k r : ℕ) (u : Reader ExprTree) (ts us : List Placed) (first : ExprTree) (next : Read ExprTree) →
    chains n u ts ≡ got first us → k ≡ n → r ≡ 10 - n → linked r (chains k u) first us ≡ next → chains (n + 1) u ts ≡ next
chains-next n k r u ts us first next e same precedence is =
    rw (chains-more (n + 1) n r u ts refl precedence, e, ← same) is

pub chains-stop : (n m k r : ℕ) (u : Reader ExprTree) (ts us vs : List Placed) (first : ExprTree) → n < m →
    chains n u ts ≡ got first us → k ≡ n → r ≡ 10 - n → linked r (chains k u) first us ≡ fails vs → chains m u ts ≡ fails vs
chains-stop n m k r u ts us vs first lt e same precedence is =
    let next = chains-next n k r u ts us first (fails vs) e same precedence is in
    let sum : n + 1 + (m - (n + 1)) ≡ m = omega arith in
    rw sum at (chains-up (m - (n + 1)) (n + 1) u ts vs next)

-- links before further links
unfoldable pub links_onto : List Link → Links → Links
links_onto [] rest = rest
links_onto (l ∷ ls) rest = tree.link l.op l.mark (expr_tree l.right) (links_onto ls rest)

pub links_onto-push : (ls : List Link) (l : Link) (rest : Links) →
    links_onto (ls ++ l ∷ []) rest ≡ links_onto ls (tree.link l.op l.mark (expr_tree l.right) rest)
unfolding links_onto
links_onto-push [] l rest = refl
links_onto-push (k ∷ ls) l rest = ap (tree.link k.op k.mark (expr_tree k.right)) (links_onto-push ls l rest)

pub links_onto-none : (ls : List Link) → links_onto ls tree.no_links ≡ links_tree ls
unfolding links_onto
links_onto-none [] = refl
links_onto-none (l ∷ ls) = ap (tree.link l.op l.mark (expr_tree l.right)) (links_onto-none ls)

-- arguments before further arguments
unfoldable pub args_onto : List Expr → Args → Args
args_onto [] rest = rest
args_onto (e ∷ es) rest = tree.arg (expr_tree e) (args_onto es rest)

pub args_onto-push : (es : List Expr) (e : Expr) (rest : Args) → args_onto (es ++ e ∷ []) rest ≡ args_onto es (tree.arg (expr_tree e) rest)
unfolding args_onto
args_onto-push [] e rest = refl
args_onto-push (k ∷ es) e rest = ap (tree.arg (expr_tree k)) (args_onto-push es e rest)

pub args_onto-none : (es : List Expr) → args_onto es tree.no_args ≡ args_tree es
unfolding args_onto
args_onto-none [] = refl
args_onto-none (e ∷ es) = ap (tree.arg (expr_tree e)) (args_onto-none es)

-- links that were read, before those that a reader gives
unfoldable pub with_links : List Link → Read Links → Read Links
with_links ls r = r >>= λ rest us. got (links_onto ls rest) us

with_links-push : (ls : List Link) (l : Link) (r : Read Links) →
    with_links ls (r >>= λ rest us. got (tree.link l.op l.mark (expr_tree l.right) rest) us) ≡ with_links (ls ++ l ∷ []) r
unfolding with_links
with_links-push ls l (got rest us) = ap (λ x. got x us) (sym (links_onto-push ls l rest))
with_links-push ls l (fails us) = refl

pub with_links-start : (r : Read Links) → with_links [] r ≡ r
unfolding with_links links_onto
with_links-start (got rest us) = refl
with_links-start (fails us) = refl

pub with_links-more : (F : ℕ) (ls : List Link) (precedence : ℕ) (right : Reader ExprTree) (ts us : List Placed) (l : Link) →
    length ls < F → operator_at precedence ts ≡ Some l.op → mark_at ts ≡ l.mark → right (after ts) ≡ got (expr_tree l.right) us →
    with_links ls (links (F - length ls) precedence right ts) ≡ with_links (ls ++ l ∷ []) (links (F - length (ls ++ l ∷ [])) precedence right us)
unfolding links
with_links-more F ls precedence right ts us l h op mark read =
    let f = fuel-left F (length ls) h in
    let n : length (ls ++ l ∷ []) ≡ length ls + 1 = length_push ls l in
    rw (n, f.1, f.2, op, mark, read) (with_links-push ls l (links f.0 precedence right us))

pub with_links-fails : (F : ℕ) (ls : List Link) (precedence : ℕ) (right : Reader ExprTree) (ts us : List Placed) (op : Binary) →
    length ls < F → operator_at precedence ts ≡ Some op → right (after ts) ≡ fails us →
    with_links ls (links (F - length ls) precedence right ts) ≡ fails us
unfolding links with_links
with_links-fails F ls precedence right ts us op h is read =
    let f = fuel-left F (length ls) h in
    rw (f.1, is, read) refl

pub with_links-end : (F : ℕ) (ls : List Link) (precedence : ℕ) (right : Reader ExprTree) (ts : List Placed) →
    length ls < F → operator_at precedence ts ≡ None →
    with_links ls (links (F - length ls) precedence right ts) ≡ got (links_tree ls) ts
unfolding links with_links
with_links-end F ls precedence right ts h is =
    let f = fuel-left F (length ls) h in
    rw (f.1, is, links_onto-none ls) refl

-- arguments that were read, before those that a reader gives
unfoldable pub with_args : List Expr → Read Args → Read Args
with_args es r = r >>= λ rest us. got (args_onto es rest) us

with_args-push : (es : List Expr) (e : Expr) (r : Read Args) →
    with_args es (r >>= λ rest us. got (tree.arg (expr_tree e) rest) us) ≡ with_args (es ++ e ∷ []) r
unfolding with_args
with_args-push es e (got rest us) = ap (λ x. got x us) (sym (args_onto-push es e rest))
with_args-push es e (fails us) = refl

with_args_one : (e : Expr) (r : Read Args) →
    r >>= (λ rest us. got (tree.arg (expr_tree e) rest) us) ≡ with_args (e ∷ []) r
unfolding with_args args_onto
with_args_one e (got rest us) = refl
with_args_one e (fails us) = refl

pub with_args-start : (r : Readers) (ts us : List Placed) (e : Expr) → r.expr ts ≡ got (expr_tree e) us →
    some_args r ts ≡ with_args ([] ++ e ∷ []) (more_args (length us + 2 - length ([] ++ e ∷ [])) r us)
unfolding some_args
with_args-start r ts us e read =
    let n : length us + 2 - 1 ≡ suc (length us) = omega arith in
    rw (read, n) (with_args_one e (more_args (suc (length us)) r us))

pub with_args-more : (F : ℕ) (es : List Expr) (r : Readers) (ts us : List Placed) (e : Expr) →
    length es < F → begins (kind.Punct puncts.Comma) ts ≡ true → r.expr (after ts) ≡ got (expr_tree e) us →
    with_args es (more_args (F - length es) r ts) ≡ with_args (es ++ e ∷ []) (more_args (F - length (es ++ e ∷ [])) r us)
unfolding more_args
with_args-more F es r ts us e h comma read =
    let f = fuel-left F (length es) h in
    let n : length (es ++ e ∷ []) ≡ length es + 1 = length_push es e in
    rw (n, f.1, f.2, comma, read) (with_args-push es e (more_args f.0 r us))

pub with_args-fails : (F : ℕ) (es : List Expr) (r : Readers) (ts us : List Placed) →
    length es < F → begins (kind.Punct puncts.Comma) ts ≡ true → r.expr (after ts) ≡ fails us →
    with_args es (more_args (F - length es) r ts) ≡ fails us
unfolding more_args with_args
with_args-fails F es r ts us h comma read =
    let f = fuel-left F (length es) h in
    rw (f.1, comma, read) refl

pub with_args-end : (F : ℕ) (es : List Expr) (r : Readers) (ts : List Placed) →
    length es < F → begins (kind.Punct puncts.Comma) ts ≡ false →
    with_args es (more_args (F - length es) r ts) ≡ got (args_tree es) ts
unfolding more_args with_args
with_args-end F es r ts h comma =
    let f = fuel-left F (length es) h in
    rw (f.1, comma, args_onto-none es) refl

pub linked-fails : (precedence : ℕ) (right : Reader ExprTree) (first : ExprTree) (ts us vs : List Placed) (ls : List Link) (op : Binary) →
    links (suc (length ts)) precedence right ts ≡ with_links ls (links (suc (length ts) - length ls) precedence right us) →
    length ls < suc (length ts) → operator_at precedence us ≡ Some op → right (after us) ≡ fails vs →
    linked precedence right first ts ≡ fails vs
unfolding linked
linked-fails precedence right first ts us vs ls op so_far h is read =
    rw (so_far, with_links-fails (suc (length ts)) ls precedence right us vs op h is read) refl

pub linked-end : (precedence : ℕ) (right : Reader ExprTree) (first : ExprTree) (ts us : List Placed) (ls : List Link) →
    links (suc (length ts)) precedence right ts ≡ with_links ls (links (suc (length ts) - length ls) precedence right us) →
    length ls < suc (length ts) → operator_at precedence us ≡ None →
    linked precedence right first ts ≡ got (chained precedence first (links_tree ls)) us
unfolding linked
linked-end precedence right first ts us ls so_far h is =
    rw (so_far, with_links-end (suc (length ts)) ls precedence right us h is) refl

pub chained-not_none : (precedence : ℕ) (first : ExprTree) (ls : List Link) → 0 < length ls →
    chained precedence first (links_tree ls) ≡ tree.Chain (level_at precedence) first (links_tree ls)
chained-not_none precedence first [] h = absurd (omega arith)
chained-not_none precedence first (l ∷ ls) h = refl

pub ruleset chaining = (chains-none, chains-more, with_links-start, with_links-more, with_links-fails, with_links-end)

pub ruleset listing = (with_args-start, with_args-more, with_args-fails, with_args-end)
