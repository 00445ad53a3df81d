-- A reader of statements or of a program is refused at the same token whatever follows it.
use Rattle.std.proofs.Common.{◌≡◌, ℕ, zero, suc, ◌≤◌, ◌<◌, Bool, true, false, not, List, Option, Some, None, cond, length, refl, ap, arith}
use Rattle.os_ast.specs.Means.{Placed}
use Rattle.os_ast.specs.Trees as tree
use Rattle.os_ast.specs.Trees.{ExprTree, TargetTree, IndexTree, Args, DeclaratorTree, ChangeTree, StartTree, JoinTree, ClauseItemTree, ClauseKindTree, ClauseTree, StmtTree, Stmts, ItemTree}
use Rattle.os_ast.specs.declared.expr.Mark.{Mark}
use Rattle.os_ast.specs.declared.expr.Name.{Name}
use Rattle.os_ast.specs.declared.program.Params.TheVariants as params_of
use Rattle.os_ast.specs.declared.stmt.Step.{Step}
use Rattle.os_ast.specs.declared.ty.Ty.TheVariants as ty_of
use Rattle.os_lexer.specs.Names.{task_id, tick_id, taskwait_id, input_id, output_id, firstprivate_id}
use Rattle.os_lexer.specs.declared.token.Key.TheVariants as keys
use Rattle.os_lexer.specs.declared.token.Kind.{Kind}
use Rattle.os_lexer.specs.declared.token.Kind.TheVariants as kind
use Rattle.os_lexer.specs.declared.token.Punct.{Punct}
use Rattle.os_lexer.specs.declared.token.Punct.TheVariants as puncts
use Rattle.os_parser_grammar.specs.Beginners.{stmt_at, change_at, name_at, number_at}
use Rattle.os_parser_grammar.specs.Expressions.{Readers, below}
use Rattle.os_parser_grammar.specs.Reading.{Read, Reader, got, ◌>>=◌, after, mark_at, begins, expect}
use Rattle.os_parser_grammar.specs.Statements.{name_by, name, target, size, value, attribute, scalar, declarator_by, declarator, head_declarator, type_words, begins_type, declared, head_declared, change_by, change_of, before, change_begun, change, ended, named_stmt, Inner, deep, readers_of, block_item, stmts, inner_item, block, condition, if_stmt, while_stmt, start, head_test, step, head, for_stmt, return_stmt, join, alone, clause_item, in_parens, clause_kind, clause, line_goes_on, first_clause, some_clauses, clauses, task, ticked, tick, taskwait, pragma, stmt_by, stmt_on, inner, param, params, function, number_by, number, minus, constant, item, is_more, program}
use Rattle.os_parser_grammar.specs.declared.change_sign.ChangeSign.{ChangeSign}
use Rattle.os_parser_grammar.specs.declared.change_sign.ChangeSign.TheVariants as signs
use Rattle.os_parser_grammar.specs.declared.numeral.Numeral.{Numeral}
use Rattle.os_parser_grammar.specs.declared.stmt_start.StmtStart.{StmtStart}
use Rattle.os_parser_grammar.specs.declared.stmt_start.StmtStart.TheVariants as starts
use Rattle.os_parser_places.proofs.Alike.{Alike, last, more, Shrinks, flat, left-then, left-if, length-alike, begins-alike}
use Rattle.os_parser_places.proofs.PairExprs.{target_shape, pair-index, pair-target_of, pair-expr, pair-then_expr, pair-args, pair-expr_on, pair-operand, below-pair}
use Rattle.os_parser_places.proofs.Pairs.{Pair, PairReaders, PairBelow, Goes, both, neither, past, goes-if, pair-gives, pair-fails, pair-expect, pair-next, pair-then, pair-if, pair-cond, SaysAlike, pair-deeper, pair-many, pair-list, pair-got, pair-any, pair-by, name-says, number-says, stmt-says, change-says}

-- a token of a kind, behind the next one
pair-skip : (k : Kind) → Pair flat 1 (λ ts. expect k (after ts)) (λ us. expect k (after us))
pair-skip k = pair-next (λ ts. expect k) (λ us. expect k) (λ ts us. pair-expect k)

-- names and targets
pair-name_by : (o : Option ℕ) → Pair flat 1 (name_by o) (name_by o)
pair-name_by None = pair-fails
pair-name_by (Some id) = pair-next (λ ts. got (record { id = id; mark = mark_at ts })) (λ us. got (record { id = id; mark = mark_at us })) (λ ts us. pair-got refl)

pub pair-name : Pair flat 1 name name
unfolding name
pair-name = pair-by name_at name_by name_by name-says pair-name_by

pair-target : (b : Option Readers) → PairBelow b → Pair target_shape 1 (target b) (target b)
unfolding target
pair-target b h = pair-then 1 0 (omega arith) pair-name (λ ts us n p e. pair-target_of b n p h)

-- declarators
abbrev size_shape : Option IndexTree → ℕ
size_shape None = 0
size_shape (Some i) = 1

abbrev bool_shape : Bool → ℕ
bool_shape false = 0
bool_shape true = 1

pair-size : (b : Option Readers) → PairBelow b → Pair size_shape 0 (size b) (size b)
unfolding size
pair-size b h =
    pair-if (kind.Punct puncts.OpenBracket) (pair-then 0 0 (omega arith) (pair-index b h) (λ ts us x y e. pair-gives (λ vs ws. refl)))
    (pair-gives (λ vs ws. refl))

pair-value : (b : Option Readers) → PairBelow b → Pair flat 0 (value b) (value b)
unfolding value
pair-value b h =
    pair-if (kind.Punct puncts.Set) (pair-deeper b h (λ r g. pair-then 1 0 (omega arith) (pair-then_expr r g) (λ ts us x y e. pair-gives (λ vs ws. refl))))
    (pair-gives (λ vs ws. refl))

pair-attribute : Pair bool_shape 0 attribute attribute
unfolding attribute
pair-attribute =
    pair-if (kind.Key keys.Attribute)
    (pair-then 1 0 (omega arith) (pair-skip _) (λ ts us x y e. pair-then 0 0 (omega arith) (pair-expect _) (λ ts us x y e.
    pair-then 0 0 (omega arith) (pair-expect _) (λ ts us x y e. pair-then 0 0 (omega arith) (pair-expect _) (λ ts us x y e.
    pair-then 0 0 (omega arith) (pair-expect _) (λ ts us x y e. pair-gives (λ vs ws. refl)))))))
    (pair-gives (λ vs ws. refl))

pair-scalar : (b : Option Readers) (n p : Name) (a : Bool) → PairBelow b → Pair flat 0 (scalar b n a) (scalar b p a)
pair-scalar b n p true h = pair-got refl
pair-scalar b n p false h = pair-then 0 0 (omega arith) (pair-value b h) (λ ts us x y e. pair-gives (λ vs ws. refl))

pair-declarator_by : (b : Option Readers) (n p : Name) (s t : Option IndexTree) (a c : Bool) → PairBelow b → size_shape s ≡ size_shape t → bool_shape a ≡ bool_shape c →
    Pair flat 0 (declarator_by b n s a) (declarator_by b p t c)
pair-declarator_by b n p (Some s) (Some t) a c h e f = pair-got refl
pair-declarator_by b n p (Some s) None a c h e f = absurd (omega (arith, e))
pair-declarator_by b n p None (Some t) a c h e f = absurd (omega (arith, e))
pair-declarator_by b n p None None true true h e f = pair-scalar b n p true h
pair-declarator_by b n p None None false false h e f = pair-scalar b n p false h
pair-declarator_by b n p None None true false h e f = absurd (omega (arith, f))
pair-declarator_by b n p None None false true h e f = absurd (omega (arith, f))

pair-declarator : (b : Option Readers) → PairBelow b → Pair flat 1 (declarator b) (declarator b)
unfolding declarator
pair-declarator b h =
    pair-then 1 0 (omega arith) pair-name (λ ts us n p e. pair-then 0 0 (omega arith) (pair-size b h) (λ ts us s t f.
    pair-then 0 0 (omega arith) pair-attribute (λ ts us a c g. pair-declarator_by b n p s t a c h f g)))

pair-head_declarator : (b : Option Readers) → PairBelow b → Pair flat 1 (head_declarator b) (head_declarator b)
unfolding head_declarator
pair-head_declarator b h = pair-then 1 0 (omega arith) pair-name (λ ts us n p e. pair-scalar b n p false h)

-- types
pair-type : Pair flat 1 type_words type_words
unfolding type_words
pair-type =
    pair-if (kind.Key keys.Int) (pair-next (λ ts. got ty_of.Int) (λ us. got ty_of.Int) (λ ts us. pair-got refl))
    (pair-if (kind.Key keys.Unsigned)
    (pair-next
    (λ ts vs. cond (begins (kind.Key keys.Int) vs) (got ty_of.UnsignedInt (after vs)) (got ty_of.Unsigned vs))
    (λ us vs. cond (begins (kind.Key keys.Int) vs) (got ty_of.UnsignedInt (after vs)) (got ty_of.Unsigned vs))
    (λ ts us. pair-if (kind.Key keys.Int) (pair-any (pair-next (λ ts. got ty_of.UnsignedInt) (λ us. got ty_of.UnsignedInt) (λ ts us. pair-got refl))) (pair-got refl)))
    pair-fails)

type-alike : {xs ys : List Placed} {d : ℕ} {ts us : List Placed} → Alike xs ys d ts us → begins_type ts ≡ begins_type us
type-alike last = refl
type-alike (more a) = refl

type-says : SaysAlike begins_type
type-says = record { alike = λ a. type-alike a }

pair-declared : (b : Option Readers) → PairBelow b → Pair flat 0 (declared b) (declared b)
unfolding declared
pair-declared b h =
    pair-then 0 0 (omega arith) (pair-list (declarator b) (pair-any (pair-declarator b h))) (λ ts us x y e.
    pair-then 0 0 (omega arith) (pair-expect _) (λ ts us m n f. pair-gives (λ vs ws. refl)))

pair-head_declared : (b : Option Readers) → PairBelow b → Pair flat 0 (head_declared b) (head_declared b)
unfolding head_declared
pair-head_declared b h =
    pair-then 0 0 (omega arith) (pair-list (head_declarator b) (pair-any (pair-head_declarator b h))) (λ ts us x y e.
    pair-then 0 0 (omega arith) (pair-expect _) (λ ts us m n f. pair-gives (λ vs ws. refl)))

-- changes
pair-change_by : (c : ChangeSign) (b : Option Readers) (t u : TargetTree) → PairBelow b → Pair flat 1 (change_by c b t) (change_by c b u)
pair-change_by (signs.Assign a) b t u h = pair-deeper b h (λ r g. pair-then 1 0 (omega arith) (pair-then_expr r g) (λ ts us x y e. pair-gives (λ vs ws. refl)))
pair-change_by (signs.Step s) b t u h = pair-next (λ ts. got (tree.After t s (mark_at ts))) (λ us. got (tree.After u s (mark_at us))) (λ ts us. pair-got refl)
pair-change_by signs.Other b t u h = pair-fails

pair-change_of : (b : Option Readers) (t u : TargetTree) → PairBelow b → Pair flat 1 (change_of b t) (change_of b u)
unfolding change_of
pair-change_of b t u h = pair-by change_at (λ c. change_by c b t) (λ c. change_by c b u) change-says (λ c. pair-change_by c b t u h)

pair-before : (s : Step) (b : Option Readers) → PairBelow b → Pair flat 1 (before s b) (before s b)
unfolding before
pair-before s b h =
    pair-then 2 0 (omega arith) (pair-next (λ ts. target b) (λ us. target b) (λ ts us. pair-target b h)) (λ ts us x y e. pair-gives (λ vs ws. refl))

pair-change_begun : (st : StmtStart) (b : Option Readers) → PairBelow b → Pair flat 1 (change_begun st b) (change_begun st b)
pair-change_begun (starts.Name id) b h = pair-then 1 0 (omega arith) (pair-target b h) (λ ts us t u e. pair-any (pair-change_of b t u h))
pair-change_begun (starts.Step s) b h = pair-before s b h
pair-change_begun starts.Semicolon b h = pair-fails
pair-change_begun starts.Brace b h = pair-fails
pair-change_begun starts.If b h = pair-fails
pair-change_begun starts.While b h = pair-fails
pair-change_begun starts.For b h = pair-fails
pair-change_begun starts.Break b h = pair-fails
pair-change_begun starts.Continue b h = pair-fails
pair-change_begun starts.Return b h = pair-fails
pair-change_begun starts.Pragma b h = pair-fails
pair-change_begun starts.Other b h = pair-fails

pair-change : (b : Option Readers) → PairBelow b → Pair flat 1 (change b) (change b)
unfolding change
pair-change b h = pair-by stmt_at (λ st. change_begun st b) (λ st. change_begun st b) stmt-says (λ st. pair-change_begun st b h)

-- a part before a semicolon
pair-ended : {A B : Type 0} {S : A → ℕ} (k : ℕ) {r s : Reader A} (f g : A → B) → Pair S k r s → Pair flat k (λ ts. ended (r ts) f) (λ us. ended (s us) g)
pair-ended k f g p = pair-then k 0 (omega arith) p (λ ts us x y e. pair-then 0 0 (omega arith) (pair-expect _) (λ ts us m n f. pair-gives (λ vs ws. refl)))

pair-named_stmt : (b : Option Readers) (n p : Name) → PairBelow b → Pair flat 0 (named_stmt b n) (named_stmt b p)
unfolding named_stmt
pair-named_stmt b n p h =
    pair-if (kind.Punct puncts.OpenParen) (pair-ended 0 _ _ (pair-args b h))
    (pair-then 0 0 (omega arith) (pair-target_of b n p h) (λ ts us t u e. pair-ended 0 _ _ (pair-any (pair-change_of b t u h))))

-- the readers of what stands one deeper than a statement
pub record PairInner (r : Inner) : Type 0 where
  pub readers : PairReaders r.readers
  pub stmt : Pair flat 1 r.stmt r.stmt
  pub item : Pair flat 1 r.item r.item

abbrev pub PairDeep : Option Inner → Type 0
PairDeep None = Unit {0}
PairDeep (Some r) = PairInner r

pair-deep : {A : Type 0} {S : A → ℕ} {k : ℕ} (s : Option Inner) {f g : List Placed → Inner → Read A} → PairDeep s →
    ((r : Inner) → PairInner r → Pair S k (λ ts. f ts r) (λ us. g us r)) → Pair S k (λ ts. deep s ts (f ts)) (λ us. deep s us (g us))
pair-deep None h c = record { small = λ ts. omega arith; goes = λ a. neither a }
pair-deep (Some r) h c = record { small = (c r h).small; goes = λ a. (c r h).goes a }

readers_of-local : (s : Option Inner) → PairDeep s → PairBelow (readers_of s)
readers_of-local None h = tt
readers_of-local (Some r) h = h.readers

-- blocks
pair-block_item : (b : Option Readers) (stmt : Reader StmtTree) → PairBelow b → Pair flat 1 stmt stmt → Pair flat 1 (block_item b stmt) (block_item b stmt)
unfolding block_item
pair-block_item b stmt h p =
    pair-cond begins_type type-says
    (pair-then 1 0 (omega arith) pair-type (λ ts us t u e. pair-then 0 0 (omega arith) (pair-declared b h) (λ ts us x y e. pair-gives (λ vs ws. refl)))) p

pair-closed : Pair flat 1 (λ ts. got tree.no_stmts (after ts)) (λ us. got tree.no_stmts (after us))
pair-closed = pair-next (λ ts. got tree.no_stmts) (λ us. got tree.no_stmts) (λ ts us. pair-got refl)

small-stmts : (f : ℕ) (item : Reader StmtTree) → Shrinks item → Shrinks (stmts f item)
unfolding stmts
small-stmts zero item h ts = omega arith
small-stmts (suc f) item h ts =
    left-if (begins (kind.Punct puncts.CloseBrace) ts) _ _ (length ts) ((pair-closed).small ts)
    (left-then (item ts) _ (length ts) (h ts) (λ x us. left-then (stmts f item us) _ (length us) (small-stmts f item h us) (λ xs vs. omega arith)))

goes-stmt : (x y : StmtTree) {xs ys : List Placed} {e d : ℕ} {r s : Read Stmts} → Goes flat xs ys 0 e r s → e ≤ d →
    Goes flat xs ys 0 d (r >>= λ zs ws. got (tree.stmt x zs) ws) (s >>= λ zs ws. got (tree.stmt y zs) ws)
goes-stmt x y (both q a l) h = both refl a (omega (arith, l, h))
goes-stmt x y (neither a) h = neither a
goes-stmt x y (past {r} {s} l) h = past (left-then r _ _ l (λ zs ws. omega arith))

goes-more_stmts : (f g : ℕ) (item : Reader StmtTree) → Shrinks item → {xs ys : List Placed} {d : ℕ} {r s : Read StmtTree} → Goes flat xs ys 1 d r s →
    ((e : ℕ) (vs ws : List Placed) → Alike xs ys e vs ws → e < d → Goes flat xs ys 0 e (stmts f item vs) (stmts g item ws)) →
    Goes flat xs ys 0 d (r >>= λ x vs. stmts f item vs >>= λ zs ws. got (tree.stmt x zs) ws) (s >>= λ x vs. stmts g item vs >>= λ zs ws. got (tree.stmt x zs) ws)
goes-more_stmts f g item h (neither a) k = neither a
goes-more_stmts f g item h (past {r} {s} l) k =
    past (left-then r _ _ l (λ x us. left-then (stmts f item us) _ (length us) (small-stmts f item h us) (λ xs vs. omega arith)))
goes-more_stmts f g item h (both {x} {y} e a l) k = goes-stmt x y (k _ _ _ a (omega (arith, l))) (omega (arith, l))

goes-stmts : (f g : ℕ) (item : Reader StmtTree) → Pair flat 1 item item →
    {xs ys : List Placed} {d : ℕ} {ts us : List Placed} → Alike xs ys d ts us → d < f → d < g → Goes flat xs ys 0 d (stmts f item ts) (stmts g item us)
unfolding stmts
goes-stmts zero g item p a h k = absurd (omega arith)
goes-stmts (suc f) zero item p a h k = absurd (omega arith)
goes-stmts (suc f) (suc g) item p {ts = ts} {us = us} a h k =
    goes-if (begins (kind.Punct puncts.CloseBrace) ts) (begins (kind.Punct puncts.CloseBrace) us) (begins-alike _ a)
    ((pair-any pair-closed).goes a)
    (goes-more_stmts f g item p.small (p.goes a) (λ e vs ws b lt. goes-stmts f g item p b (omega (arith, h, lt)) (omega (arith, k, lt))))

pair-inner_item : (s : Option Inner) → PairDeep s → Pair flat 1 (inner_item s) (inner_item s)
unfolding inner_item
pair-inner_item s h = pair-deep s h (λ r i. i.item)

pair-block : (s : Option Inner) → PairDeep s → Pair flat 0 (block s) (block s)
unfolding block
pair-block s h =
    let p = pair-inner_item s h in
    record {
      small = λ ts. small-stmts (suc (length ts)) (inner_item s) p.small ts;
      goes = λ {xs} {ys} {d} {ts} {us} a. goes-stmts (suc (length ts)) (suc (length us)) (inner_item s) p a (omega (arith, (length-alike a).0)) (omega (arith, (length-alike a).1));
    }

pair-condition : (r : Readers) → PairReaders r → Pair flat 0 (condition r) (condition r)
unfolding condition
pair-condition r g =
    pair-then 0 0 (omega arith) (pair-expect _) (λ ts us m n e. pair-then 0 0 (omega arith) (pair-expr r g) (λ ts us x y f.
    pair-then 0 0 (omega arith) (pair-expect _) (λ ts us m n q. pair-gives (λ vs ws. refl))))

-- a condition behind the next token
pair-then_condition : (r : Readers) → PairReaders r → Pair flat 1 (λ ts. condition r (after ts)) (λ us. condition r (after us))
pair-then_condition r g = pair-next (λ ts. condition r) (λ us. condition r) (λ ts us. pair-condition r g)

pair-if_stmt : (s : Option Inner) → PairDeep s → Pair flat 1 (if_stmt s) (if_stmt s)
unfolding if_stmt
pair-if_stmt s h =
    pair-deep s h (λ r i. pair-then 1 0 (omega arith) (pair-then_condition r.readers i.readers) (λ ts us c e q.
    pair-then 1 0 (omega arith) i.stmt (λ ts us x y q. pair-if (kind.Key keys.Else)
    (pair-then 2 0 (omega arith) (pair-next (λ ts. r.stmt) (λ us. r.stmt) (λ ts us. i.stmt)) (λ ts us v w q. pair-gives (λ vs ws. refl)))
    (pair-gives (λ vs ws. refl)))))

pair-while_stmt : (s : Option Inner) → PairDeep s → Pair flat 1 (while_stmt s) (while_stmt s)
unfolding while_stmt
pair-while_stmt s h =
    pair-deep s h (λ r i. pair-then 1 0 (omega arith) (pair-then_condition r.readers i.readers) (λ ts us c e q.
    pair-then 1 0 (omega arith) i.stmt (λ ts us x y q. pair-gives (λ vs ws. refl))))

-- heads of for
pair-start : (b : Option Readers) → PairBelow b → Pair flat 0 (start b) (start b)
unfolding start
pair-start b h =
    pair-if (kind.Punct puncts.Semicolon) (pair-any (pair-next (λ ts. got tree.StartTree.Empty) (λ us. got tree.StartTree.Empty) (λ ts us. pair-got refl)))
    (pair-cond begins_type type-says
    (pair-then 1 0 (omega arith) pair-type (λ ts us t u e. pair-then 0 0 (omega arith) (pair-head_declared b h) (λ ts us x y e. pair-gives (λ vs ws. refl))))
    (pair-ended 0 _ _ (pair-any (pair-change b h))))

pair-head_test : (r : Readers) → PairReaders r → Pair flat 0 (head_test r) (head_test r)
unfolding head_test
pair-head_test r g =
    pair-if (kind.Punct puncts.Semicolon) (pair-any (pair-next (λ ts. got None) (λ us. got None) (λ ts us. pair-got refl)))
    (pair-ended 0 _ _ (pair-expr r g))

pair-step : (b : Option Readers) → PairBelow b → Pair flat 0 (step b) (step b)
unfolding step
pair-step b h =
    pair-if (kind.Punct puncts.CloseParen) (pair-any (pair-next (λ ts. got None) (λ us. got None) (λ ts us. pair-got refl)))
    (pair-then 1 0 (omega arith) (pair-change b h) (λ ts us x y e. pair-then 0 0 (omega arith) (pair-expect _) (λ ts us m n f. pair-gives (λ vs ws. refl))))

pair-head : (b : Option Readers) → PairBelow b → Pair flat 0 (head b) (head b)
unfolding head
pair-head b h =
    pair-deeper b h (λ r g. pair-then 0 0 (omega arith) (pair-expect _) (λ ts us m n e. pair-then 0 0 (omega arith) (pair-start b h) (λ ts us st su f.
    pair-then 0 0 (omega arith) (pair-head_test r g) (λ ts us x y p. pair-then 0 0 (omega arith) (pair-step b h) (λ ts us c q i. pair-gives (λ vs ws. refl))))))

pair-for_stmt : (s : Option Inner) → PairDeep s → Pair flat 1 (for_stmt s) (for_stmt s)
unfolding for_stmt
pair-for_stmt s h =
    pair-deep s h (λ r i. pair-then 1 0 (omega arith) (pair-next (λ ts. head (Some r.readers)) (λ us. head (Some r.readers)) (λ ts us. pair-head (Some r.readers) i.readers)) (λ ts us c e q.
    pair-then 1 0 (omega arith) i.stmt (λ ts us x y q. pair-gives (λ vs ws. refl))))

pair-return_stmt : (b : Option Readers) → PairBelow b → Pair flat 1 (return_stmt b) (return_stmt b)
unfolding return_stmt
pair-return_stmt b h =
    pair-deeper b h (λ r g. pair-then 1 0 (omega arith) (pair-then_expr r g) (λ ts us x y e. pair-then 0 0 (omega arith) (pair-expect _) (λ ts us m n f. pair-gives (λ vs ws. refl))))

-- clauses
pair-join : (b : Option Readers) → PairBelow b → Pair flat 0 (join b) (join b)
unfolding join
pair-join b h =
    pair-then 2 0 (omega arith) (pair-next (λ ts. name) (λ us. name) (λ ts us. pair-name)) (λ ts us n p e.
    pair-then 0 0 (omega arith) (pair-size b h) (λ ts us i j f. pair-gives (λ vs ws. refl)))

pair-alone : (t u : TargetTree) → target_shape t ≡ target_shape u → Pair flat 0 (alone t) (alone u)
pair-alone (tree.Variable n) (tree.Variable p) e = pair-got refl
pair-alone (tree.Element n m x) (tree.Element p o y) e = pair-fails
pair-alone (tree.Variable n) (tree.Element p o y) e = absurd (omega (arith, e))
pair-alone (tree.Element n m x) (tree.Variable p) e = absurd (omega (arith, e))

pair-clause_item : (arrow : Punct) (b : Option Readers) → PairBelow b → Pair flat 0 (clause_item arrow b) (clause_item arrow b)
unfolding clause_item
pair-clause_item arrow b h =
    pair-then 1 0 (omega arith) (pair-target b h) (λ ts us t u e. pair-if (kind.Punct arrow)
    (pair-then 0 0 (omega arith) (pair-join b h) (λ ts us x y f. pair-gives (λ vs ws. refl))) (pair-alone t u e))

pair-in_parens : {A : Type 0} {S : A → ℕ} (part : Reader A) → Pair S 0 part part → Pair flat 0 (in_parens part) (in_parens part)
unfolding in_parens
pair-in_parens part p =
    pair-then 0 0 (omega arith) (pair-expect _) (λ ts us m n e. pair-then 0 0 (omega arith) (pair-list part p) (λ ts us x y f.
    pair-then 0 0 (omega arith) (pair-expect _) (λ ts us m n q. pair-gives (λ vs ws. refl))))

pair-then_parens : {A : Type 0} {S : A → ℕ} (part : Reader A) → Pair S 0 part part → Pair flat 1 (λ ts. in_parens part (after ts)) (λ us. in_parens part (after us))
pair-then_parens part p = pair-next (λ ts. in_parens part) (λ us. in_parens part) (λ ts us. pair-in_parens part p)

pair-clause_kind : (b : Option Readers) → PairBelow b → Pair flat 1 (clause_kind b) (clause_kind b)
unfolding clause_kind
pair-clause_kind b h =
    pair-if (kind.Name input_id) (pair-then 1 0 (omega arith) (pair-then_parens _ (pair-clause_item puncts.ShiftRight b h)) (λ ts us x y e. pair-gives (λ vs ws. refl)))
    (pair-if (kind.Name output_id) (pair-then 1 0 (omega arith) (pair-then_parens _ (pair-clause_item puncts.ShiftLeft b h)) (λ ts us x y e. pair-gives (λ vs ws. refl)))
    (pair-if (kind.Name firstprivate_id) (pair-then 1 0 (omega arith) (pair-then_parens _ (pair-any pair-name)) (λ ts us x y e. pair-gives (λ vs ws. refl)))
    pair-fails))

pair-clause : (b : Option Readers) → PairBelow b → Pair flat 1 (clause b) (clause b)
unfolding clause
pair-clause b h =
    pair-if (kind.Punct puncts.Comma)
    (pair-then 2 0 (omega arith) (pair-next (λ ts. clause_kind b) (λ us. clause_kind b) (λ ts us. pair-clause_kind b h)) (λ ts us x y e. pair-gives (λ vs ws. refl)))
    (pair-then 1 0 (omega arith) (pair-clause_kind b h) (λ ts us x y e. pair-gives (λ vs ws. refl)))

pair-first_clause : (b : Option Readers) → PairBelow b → Pair flat 1 (first_clause b) (first_clause b)
unfolding first_clause
pair-first_clause b h = pair-then 1 0 (omega arith) (pair-clause_kind b h) (λ ts us x y e. pair-gives (λ vs ws. refl))

goes_on-says : SaysAlike line_goes_on
goes_on-says = record { alike = λ a. ap not (begins-alike kind.PragmaEnd a) }

pair-clauses : (b : Option Readers) → PairBelow b → Pair flat 0 (clauses b) (clauses b)
unfolding clauses some_clauses
pair-clauses b h =
    pair-if kind.PragmaEnd (pair-gives (λ vs ws. refl))
    (pair-then 1 0 (omega arith) (pair-first_clause b h) (λ ts us x y e.
    pair-then 0 0 (omega arith) (pair-many line_goes_on (clause b) goes_on-says (pair-clause b h)) (λ ts us x y e. pair-gives (λ vs ws. refl))))

-- pragmas
pair-task : (m n : Mark) (s : Option Inner) → PairDeep s → Pair flat 0 (task m s) (task n s)
unfolding task
pair-task m n s h =
    pair-deep s h (λ r i. pair-then 1 0 (omega arith) (pair-next (λ ts. clauses (Some r.readers)) (λ us. clauses (Some r.readers)) (λ ts us. pair-clauses (Some r.readers) i.readers)) (λ ts us c e q.
    pair-then 0 0 (omega arith) (pair-expect _) (λ ts us m n q. pair-then 1 0 (omega arith) i.stmt (λ ts us x y q. pair-gives (λ vs ws. refl)))))

pair-ticked : (m n : Mark) (b : Option Readers) → PairBelow b → Pair flat 0 (ticked m b) (ticked n b)
unfolding ticked
pair-ticked m n b h =
    pair-deeper b h (λ r g. pair-then 1 0 (omega arith) (pair-skip _) (λ ts us m n q. pair-then 1 0 (omega arith) (pair-target b h) (λ ts us t u e.
    pair-then 0 0 (omega arith) (pair-expect _) (λ ts us m n q. pair-then 0 0 (omega arith) (pair-expr r g) (λ ts us x y f.
    pair-then 0 0 (omega arith) (pair-expect _) (λ ts us m n q. pair-gives (λ vs ws. refl)))))))

pair-tick : (m n : Mark) (b : Option Readers) → PairBelow b → Pair flat 0 (tick m b) (tick n b)
unfolding tick
pair-tick m n b h = pair-then 0 0 (omega arith) (pair-ticked m n b h) (λ ts us x y e. pair-then 0 0 (omega arith) (pair-expect _) (λ ts us m n q. pair-gives (λ vs ws. refl)))

pair-taskwait : (m n : Mark) → Pair flat 0 (taskwait m) (taskwait n)
unfolding taskwait
pair-taskwait m n = pair-then 0 0 (omega arith) (pair-expect _) (λ ts us m n q. pair-gives (λ vs ws. refl))

pair-pragma : (s : Option Inner) → PairDeep s → Pair flat 1 (pragma s) (pragma s)
unfolding pragma
pair-pragma s h =
    pair-then 1 0 (omega arith) (pair-skip _) (λ ts us m n q.
    pair-if (kind.Name task_id) (pair-task (mark_at ts) (mark_at us) s h)
    (pair-if (kind.Name tick_id) (pair-tick (mark_at ts) (mark_at us) (readers_of s) (readers_of-local s h))
    (pair-if (kind.Name taskwait_id) (pair-any (pair-next (λ vs. taskwait (mark_at ts)) (λ ws. taskwait (mark_at us)) (λ vs ws. pair-taskwait (mark_at ts) (mark_at us))))
    pair-fails)))

-- statements
pair-stmt_by : (st : StmtStart) (s : Option Inner) → PairDeep s → Pair flat 1 (stmt_by st s) (stmt_by st s)
unfolding stmt_by
pair-stmt_by starts.Semicolon s h = pair-next (λ ts. got tree.StmtTree.Empty) (λ us. got tree.StmtTree.Empty) (λ ts us. pair-got refl)
pair-stmt_by starts.Brace s h = pair-then 1 0 (omega arith) (pair-next (λ ts. block s) (λ us. block s) (λ ts us. pair-block s h)) (λ ts us x y e. pair-gives (λ vs ws. refl))
pair-stmt_by (starts.Name id) s h =
    pair-next (λ ts. named_stmt (readers_of s) (record { id = id; mark = mark_at ts })) (λ us. named_stmt (readers_of s) (record { id = id; mark = mark_at us }))
    (λ ts us. pair-named_stmt (readers_of s) _ _ (readers_of-local s h))
pair-stmt_by (starts.Step st) s h = pair-ended 1 _ _ (pair-before st (readers_of s) (readers_of-local s h))
pair-stmt_by starts.If s h = pair-if_stmt s h
pair-stmt_by starts.While s h = pair-while_stmt s h
pair-stmt_by starts.For s h = pair-for_stmt s h
pair-stmt_by starts.Break s h = pair-ended 1 tree.Break tree.Break (pair-next {S = flat} (λ ts. got (mark_at ts)) (λ us. got (mark_at us)) (λ ts us. pair-got refl))
pair-stmt_by starts.Continue s h = pair-ended 1 tree.Continue tree.Continue (pair-next {S = flat} (λ ts. got (mark_at ts)) (λ us. got (mark_at us)) (λ ts us. pair-got refl))
pair-stmt_by starts.Return s h = pair-return_stmt (readers_of s) (readers_of-local s h)
pair-stmt_by starts.Pragma s h = pair-pragma s h
pair-stmt_by starts.Other s h = pair-fails

pair-stmt_on : (s : Option Inner) → PairDeep s → Pair flat 1 (stmt_on s) (stmt_on s)
unfolding stmt_on
pair-stmt_on s h = pair-by stmt_at (λ st. stmt_by st s) (λ st. stmt_by st s) stmt-says (λ st. pair-stmt_by st s h)

pub inner-pair : (d : ℕ) → PairDeep (inner d)
unfolding inner
inner-pair zero = tt
inner-pair (suc d) = record {
  readers = record { expr = pair-expr_on (below d) (below-pair d); operand = pair-operand (below d) (below-pair d) };
  stmt = pair-stmt_on (inner d) (inner-pair d);
  item = pair-block_item (below d) (stmt_on (inner d)) (below-pair d) (pair-stmt_on (inner d) (inner-pair d));
}

-- functions and constants
pair-param : Pair flat 0 param param
unfolding param
pair-param = pair-then 1 1 (omega arith) pair-type (λ ts us t u e. pair-then 1 0 (omega arith) pair-name (λ ts us n p e. pair-gives (λ vs ws. refl)))

pair-params : Pair flat 0 params params
unfolding params
pair-params =
    pair-if (kind.Punct puncts.CloseParen) (pair-gives (λ vs ws. refl))
    (pair-if (kind.Key keys.Void) (pair-any (pair-next (λ ts. got params_of.Void) (λ us. got params_of.Void) (λ ts us. pair-got refl)))
    (pair-then 0 0 (omega arith) (pair-list param pair-param) (λ ts us x y e. pair-gives (λ vs ws. refl))))

pair-function : (s : Option Inner) → PairDeep s → Pair flat 1 (function s) (function s)
unfolding function
pair-function s h =
    pair-then 1 0 (omega arith) pair-type (λ ts us t u e. pair-then 1 0 (omega arith) pair-name (λ ts us n p e.
    pair-then 0 0 (omega arith) (pair-expect _) (λ ts us m n q. pair-then 0 0 (omega arith) pair-params (λ ts us v w f.
    pair-then 0 0 (omega arith) (pair-expect _) (λ ts us m n q. pair-then 0 0 (omega arith) (pair-expect _) (λ ts us m n q.
    pair-then 0 0 (omega arith) (pair-block s h) (λ ts us x y g. pair-gives (λ vs ws. refl))))))))

pair-number_by : (o : Option Numeral) → Pair flat 1 (number_by o) (number_by o)
pair-number_by None = pair-fails
pair-number_by (Some n) = pair-next (λ ts. got n) (λ us. got n) (λ ts us. pair-got refl)

pair-number : Pair flat 1 number number
unfolding number
pair-number = pair-by number_at number_by number_by number-says pair-number_by

pair-minus : Pair flat 0 minus minus
unfolding minus
pair-minus = pair-if (kind.Punct puncts.Minus) (pair-any (pair-next (λ ts. got true) (λ us. got true) (λ ts us. pair-got refl))) (pair-gives (λ vs ws. refl))

pair-constant : Pair flat 1 constant constant
unfolding constant
pair-constant =
    pair-then 2 0 (omega arith) (pair-next (λ ts. type_words) (λ us. type_words) (λ ts us. pair-type)) (λ ts us t u q. pair-then 1 0 (omega arith) pair-name (λ ts us n p e.
    pair-then 0 0 (omega arith) (pair-expect _) (λ ts us m n q. pair-then 0 0 (omega arith) pair-minus (λ ts us v w f.
    pair-then 1 0 (omega arith) pair-number (λ ts us x y g. pair-then 0 0 (omega arith) (pair-expect _) (λ ts us m n q. pair-gives (λ vs ws. refl)))))))

pair-item : (s : Option Inner) → PairDeep s → Pair flat 1 (item s) (item s)
unfolding item
pair-item s h = pair-if (kind.Key keys.Const) pair-constant (pair-function s h)

more-alike : {xs ys : List Placed} {d : ℕ} {ts us : List Placed} → Alike xs ys d ts us → is_more ts ≡ is_more us
more-alike last = refl
more-alike (more a) = refl

-- a program is refused at the same token whatever follows it
pub pair-program : (d : ℕ) → Pair flat 0 (program (inner d)) (program (inner d))
unfolding program
pair-program d = pair-many is_more (item (inner d)) (record { alike = λ a. more-alike a }) (pair-item (inner d) (inner-pair d))
