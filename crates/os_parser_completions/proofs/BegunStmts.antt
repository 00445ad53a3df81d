-- Where a statement or a program is refused, one begins with all tokens before.
use Rattle.std.proofs.Common.{◌≡◌, ℕ, zero, suc, ◌≤◌, ◌^◌, Bool, true, false, cond, nat_lt, List, [], ◌∷◌, Option, Some, None, length, refl, sym, subst, arith}
use Rattle.os_ast.specs.Depth.{expr_depth, value_depth, start_depth, step_depth, stmt_depth, stmts_depth, item_depth, program_depth}
use Rattle.os_ast.specs.Leveled as leveled
use Rattle.os_ast.specs.Leveled.{IsExpr, AreAll, AreListed, IsOptional, IsDeclarator, IsHeadDeclarator, IsChange, IsStart, takes_else, IsStmt, AreStmts, IsParams, IsItem}
use Rattle.os_ast.specs.Means as means
use Rattle.os_ast.specs.Means.{Placed, placed, Fit}
use Rattle.os_ast.specs.Operators.{step_mark}
use Rattle.os_ast.specs.Spelling as spelling
use Rattle.os_ast.specs.Trees as tree
use Rattle.os_ast.specs.Trees.{ExprTree, StartTree, ChangeTree, StmtTree, Stmts, ItemTree}
use Rattle.os_ast.specs.declared.expr.Mark.{Mark}
use Rattle.os_ast.specs.declared.expr.Name.{Name}
use Rattle.os_ast.specs.declared.ty.Ty.TheVariants as ty_of
use Rattle.os_ast.specs.declared.program.Params.{Params}
use Rattle.os_ast.specs.declared.program.Params.TheVariants as params_of
use Rattle.os_ast.specs.declared.stmt.Step.TheVariants as step_of
use Rattle.os_lexer.specs.declared.token.Key.TheVariants as keys
use Rattle.os_lexer.specs.declared.token.Kind.{Kind}
use Rattle.os_lexer.specs.declared.token.Kind.TheVariants as kind
use Rattle.os_lexer.specs.declared.token.Punct.TheVariants as puncts
use Rattle.os_parser_grammar.specs.Expressions.{Readers, args, target_of, below}
use Rattle.os_parser_grammar.specs.Reading.{Read, Reader, got, fails, after, mark_at, begins, expect}
use Rattle.os_parser_grammar.specs.Statements.{Inner, deep, readers_of, inner, inner_item, list_of, name, target, type_words, begins_type, declared, head_declared, change, change_begun, change_of, before, named_stmt, block_item, stmts, block, condition, if_stmt, while_stmt, start, head_test, step, head, HeadTree, for_stmt, return_stmt, clauses, task, ticked, tick, taskwait, pragma, stmt_by, stmt_on, param, params, function, number, minus, constant, item, is_more, program, number_by}
use Rattle.os_parser_grammar.specs.declared.stmt_start.StmtStart.{StmtStart}
use Rattle.os_lexer.specs.Names.{omp_id, task_id, tick_id, taskwait_id}
use Rattle.os_ast.specs.Depth.{deepest, declarator_depth, clause_depth}
use Rattle.os_ast.specs.Leveled.{AreClauses}
use Rattle.os_ast.specs.Spelling.{Symbol, Printer, ◌⨾◌}
use Rattle.os_ast.proofs.Prints.{Prints, prints_expr, prints_stmt, prints_item}
use Rattle.os_parser_grammar.proofs.SameKinds.{same-self}
use Rattle.os_parser_grammar.proofs.Sound.{Takes, Sound, sound-then, expect-sound, begins-bare, begins-marked}
use Rattle.os_parser_grammar.proofs.SoundExprs.{ReadExpr, ReadTarget, ReadArgs, SoundReaders, SoundBelow, sound-deeper, args-sound, target_of-sound}
use Rattle.os_parser_grammar.proofs.SoundExprs as exprs
use Rattle.os_parser_grammar.proofs.SoundParts.{ReadPart, Spelled, list_of-sound, name-sound, target-sound, type-sound, declared-sound, head_declared-sound, Changes, change_of-sound, before-sound, clauses-sound}
use Rattle.os_parser_grammar.proofs.SoundStmts.{ReadStmt, IsInner, a_declare, a_stmt, ReadInner, SoundInner, SoundDeep, readers_of-sound, are-more, closed, stmts-sound, block-sound, condition-sound, none-left, Starts, a_semicolon, a_brace, a_name, a_step, an_if, a_while, a_for, a_break, a_continue, a_return, a_pragma, another, kind-starts, change-sound, start-sound, test-sound, step-sound, head_spelling, ReadHead, head-sound, opened, inner-sound, IsParam, any_param, no_depth, param-sound, names-are, constant-is, ReadParams, params-sound, ReadNumber, number-sound, minus-sound, item-sound}
use Rattle.os_parser_completions.proofs.Opens.{OpensAll, here, plain, noted, takes-opens, prints_token, prints_mark, opens-bare, opens-marked, Refused, refused-then, refused-if, refused-expect}
use Rattle.os_parser_completions.proofs.BegunExprs.{BegunExpr, BegunTarget, BegunArgs, BegunReaders, BegunBelow, sound-below, refused-deeper, args-refused, target_of-refused, below-begun, expr-refused, operand-refused}
use Rattle.os_parser_completions.proofs.BegunParts.{no_mark, no_name, BegunPart, BegunSpelled, many-refused, list_of-refused, name-refused, target-refused, type-refused, declared-refused, head_declared-refused, BegunChange, stepped, change_of-refused, before-refused, ended-refused, clauses-refused, BegunClauses}
use Rattle.os_ast.proofs.Prints as prints

abbrev pub BegunStmt : ℕ → List Placed → List Placed → Type 0
BegunStmt d = BegunPart IsStmt stmt_depth spelling.stmt d

abbrev pub BegunInner : ℕ → List Placed → List Placed → Type 0
BegunInner d = BegunPart IsInner stmt_depth spelling.stmt d

-- readers of what stands one deeper, which is at most so deep
pub record BegunInside (d : ℕ) (r : Inner) : Type 0 where
  pub one : 1 ≤ d
  pub sound : SoundInner d r
  pub readers : BegunReaders d r.readers
  pub stmt : (ts : List Placed) → Refused (BegunStmt d ts) (r.stmt ts)
  pub item : (ts : List Placed) → Refused (BegunInner d ts) (r.item ts)

abbrev pub BegunDeep : ℕ → Option Inner → Type 0
BegunDeep d None = Unit {0}
BegunDeep d (Some r) = BegunInside d r

pub sound-inside : (d : ℕ) (s : Option Inner) → BegunDeep d s → SoundDeep d s
sound-inside d None h = tt
sound-inside d (Some r) h = h.sound

readers_of-begun : (d : ℕ) (s : Option Inner) → BegunDeep d s → BegunBelow d (readers_of s)
readers_of-begun d None h = tt
readers_of-begun d (Some r) h = h.readers

refused-deep : {A : Type 0} (G : List Placed → Type 0) (d : ℕ) (s : Option Inner) (ts : List Placed) (f : Inner → Read A) →
    BegunDeep d s → G ts → ((r : Inner) → BegunInside d r → Refused G (f r)) → Refused G (deep s ts f)
refused-deep G d None ts f h g k = g
refused-deep G d (Some r) ts f h g k = k r h

pub refused-map : {A : Type 0} (F G : List Placed → Type 0) (r : Read A) → Refused F r → ((rest : List Placed) → F rest → G rest) → Refused G r
refused-map F G (got x rest) h k = tt
refused-map F G (fails rest) h k = k rest h

-- an empty statement, where nothing of the statement stands yet
pub no-stmt : (d : ℕ) (ts : List Placed) → 1 ≤ d → BegunStmt d ts ts
no-stmt d ts h = record { whole = tree.StmtTree.Empty; leveled = leveled.IsStmt.empty; shallow = h; opens = λ ps. here }

-- blocks
abbrev pub BegunStmts : ℕ → List Placed → List Placed → Type 0
BegunStmts d = BegunPart AreStmts stmts_depth closed d

no-stmts : (d : ℕ) (ts : List Placed) → BegunStmts d ts ts
no-stmts d ts = record { whole = tree.no_stmts; leveled = leveled.AreStmts.no_stmts; shallow = omega arith; opens = λ ps. here }

stmts-refused : (f d : ℕ) (item : Reader StmtTree) (ts : List Placed) → ((us : List Placed) → Sound (ReadInner d us) (item us)) →
    ((us : List Placed) → Refused (BegunStmts d us) (item us)) → Refused (BegunStmts d ts) (stmts f item ts)
unfolding stmts
stmts-refused zero d item ts s h = no-stmts d ts
stmts-refused (suc f) d item ts s h =
    refused-if _ (begins (kind.Punct puncts.CloseBrace) ts) _ _
    (λ brace. tt)
    (λ _. refused-then (ReadInner d ts) (BegunStmts d ts) _ (item ts) _ (s ts) (h ts)
    (λ rest x. x)
    (λ x us rx. refused-then (ReadPart AreStmts stmts_depth closed d us) (BegunStmts d us) _ (stmts f item us) _ (stmts-sound f d item us s) (stmts-refused f d item us s h)
    (λ rest y. record {
      whole = tree.stmt x y.whole;
      leveled = are-more rx.leveled y.leveled;
      shallow = omega (arith, rx.shallow, y.shallow);
      opens = λ ps. takes-opens (spelling.stmt x) (prints_stmt x) rx.takes (y.opens ps);
    })
    (λ ss vs rss. tt)))

one-item : (d : ℕ) (ts rest : List Placed) → BegunInner d ts rest → BegunStmts d ts rest
one-item d ts rest x = record {
  whole = tree.stmt x.whole tree.no_stmts;
  leveled = are-more x.leveled leveled.AreStmts.no_stmts;
  shallow = omega (arith, x.shallow);
  opens = λ ps. x.opens _;
}

inner_item-refused : (d : ℕ) (s : Option Inner) (us : List Placed) → BegunDeep d s → Refused (BegunStmts d us) (inner_item s us)
unfolding inner_item
inner_item-refused d s us h = refused-deep _ d s us _ h (no-stmts d us) (λ r i. refused-map (BegunInner d us) (BegunStmts d us) (r.item us) (i.item us) (one-item d us))

inner_item-read : (d : ℕ) (s : Option Inner) (us : List Placed) → SoundDeep d s → Sound (ReadInner d us) (inner_item s us)
unfolding inner_item
inner_item-read d None us h = tt
inner_item-read d (Some r) us h = h.item us

block-refused : (d : ℕ) (s : Option Inner) (ts : List Placed) → BegunDeep d s → Refused (BegunStmts d ts) (block s ts)
unfolding block
block-refused d s ts h =
    stmts-refused (suc (length ts)) d (inner_item s) ts (λ us. inner_item-read d s us (sound-inside d s h)) (λ us. inner_item-refused d s us h)

block_item-refused : (d : ℕ) (b : Option Readers) (stmt : Reader StmtTree) (ts : List Placed) → BegunBelow d b →
    Refused (BegunStmt (suc d) ts) (stmt ts) → Refused (BegunInner (suc d) ts) (block_item b stmt ts)
unfolding block_item
block_item-refused d b stmt ts h s =
    refused-if _ (begins_type ts) _ _
    (λ _. refused-then (Spelled spelling.type_words ts) (λ rest. rest ≡ ts) _ (type_words ts) _ (type-sound ts) (type-refused ts)
    (λ rest is. subst (BegunInner (suc d) ts) (sym is) (record { whole = tree.StmtTree.Empty; leveled = a_stmt leveled.IsStmt.empty; shallow = omega arith; opens = λ ps. here }))
    (λ t us rt. refused-then (ReadPart (AreListed IsDeclarator) (deepest declarator_depth) spelling.declared d us)
    (BegunPart (AreListed IsDeclarator) (deepest declarator_depth) spelling.declared d us) _ (declared b us) _ (declared-sound d b us (sound-below d b h)) (declared-refused d b us h)
    (λ rest x. record {
      whole = tree.StmtTree.Declare t x.whole;
      leveled = a_declare x.leveled;
      shallow = omega (arith, x.shallow);
      opens = λ ps. takes-opens (spelling.type_words t) (prints.type_words t) rt (x.opens ps);
    })
    (λ ds vs rd. tt)))
    (λ _. refused-map (BegunStmt (suc d) ts) _ (stmt ts) s (λ rest x. record { whole = x.whole; leveled = a_stmt x.leveled; shallow = x.shallow; opens = x.opens }))

-- conditions
abbrev BegunCondition : ℕ → List Placed → List Placed → Type 0
BegunCondition d = BegunPart IsExpr expr_depth (λ e. spelling.in_parens (spelling.expr e)) d

abbrev ReadCondition : ℕ → List Placed → ExprTree → List Placed → Type 0
ReadCondition d = ReadPart IsExpr expr_depth (λ e. spelling.in_parens (spelling.expr e)) d

condition-refused : (d : ℕ) (r : Readers) (ts : List Placed) → BegunReaders d r → Refused (BegunCondition d ts) (condition r ts)
unfolding condition
condition-refused d r ts g =
    refused-expect (kind.Punct puncts.OpenParen) _ ts _
    (record { whole = tree.Number 0; leveled = leveled.number (omega arith); shallow = g.one; opens = λ ps. here })
    (λ _ us opens. refused-then (ReadExpr 0 d us) (BegunExpr 0 d us) _ (r.expr us) _ (g.sound.expr us) (g.expr us)
    (λ rest x. record { whole = x.whole; leveled = x.leveled; shallow = x.shallow; opens = λ ps. takes-opens _ prints_token opens.plain (x.opens _) })
    (λ e vs re. refused-expect (kind.Punct puncts.CloseParen) _ vs _
    (record {
      whole = e;
      leveled = re.leveled;
      shallow = re.shallow;
      opens = λ ps. takes-opens _ prints_token opens.plain (takes-opens (spelling.expr e) (prints_expr e) re.takes here);
    })
    (λ _ ws closes. tt)))

prints_condition : (e : ExprTree) → Prints (spelling.in_parens (spelling.expr e))
prints_condition e = prints.in_parens (prints_expr e)

if-refused : (d : ℕ) (s : Option Inner) (ts : List Placed) → BegunDeep d s → begins (kind.Key keys.If) ts ≡ true →
    Refused (BegunStmt (suc d) ts) (if_stmt s ts)
unfolding if_stmt
if-refused d s ts h word =
    refused-deep _ d s ts _ h (no-stmt (suc d) ts (omega arith))
    (λ r i. refused-then (ReadCondition d (after ts)) (BegunCondition d (after ts)) _ (condition r.readers (after ts)) _
    (condition-sound d r.readers (after ts) i.sound.readers) (condition-refused d r.readers (after ts) i.readers)
    (λ rest c. record {
      whole = tree.If c.whole tree.StmtTree.Empty;
      leveled = leveled.IsStmt.if_alone c.leveled leveled.IsStmt.empty;
      shallow = omega (arith, c.shallow, i.one);
      opens = λ ps. opens-bare (kind.Key keys.If) ts word (c.opens _);
    })
    (λ c us rc. refused-then (ReadStmt d us) (BegunStmt d us) _ (r.stmt us) _ (i.sound.stmt us) (i.stmt us)
    (λ rest x. record {
      whole = tree.If c x.whole;
      leveled = leveled.IsStmt.if_alone rc.leveled x.leveled;
      shallow = omega (arith, rc.shallow, x.shallow);
      opens = λ ps. opens-bare (kind.Key keys.If) ts word (takes-opens (spelling.in_parens (spelling.expr c)) (prints_condition c) rc.takes (x.opens ps));
    })
    (λ x vs rx. refused-if _ (begins (kind.Key keys.Else) vs) _ _
    (λ other. refused-then (ReadStmt d (after vs)) (BegunStmt d (after vs)) _ (r.stmt (after vs)) _ (i.sound.stmt (after vs)) (i.stmt (after vs))
    (λ rest y. record {
      whole = tree.IfElse c x y.whole;
      leveled = leveled.IsStmt.if_else rc.leveled rx.leveled (none-left x vs (takes_else x) refl rx.settled other) y.leveled;
      shallow = omega (arith, rc.shallow, rx.shallow, y.shallow);
      opens = λ ps. opens-bare (kind.Key keys.If) ts word (takes-opens (spelling.in_parens (spelling.expr c)) (prints_condition c) rc.takes
          (takes-opens (spelling.stmt x) (prints_stmt x) rx.takes (opens-bare (kind.Key keys.Else) vs other (y.opens ps))));
    })
    (λ y ws ry. tt))
    (λ _. tt))))

while-refused : (d : ℕ) (s : Option Inner) (ts : List Placed) → BegunDeep d s → begins (kind.Key keys.While) ts ≡ true →
    Refused (BegunStmt (suc d) ts) (while_stmt s ts)
unfolding while_stmt
while-refused d s ts h word =
    refused-deep _ d s ts _ h (no-stmt (suc d) ts (omega arith))
    (λ r i. refused-then (ReadCondition d (after ts)) (BegunCondition d (after ts)) _ (condition r.readers (after ts)) _
    (condition-sound d r.readers (after ts) i.sound.readers) (condition-refused d r.readers (after ts) i.readers)
    (λ rest c. record {
      whole = tree.While c.whole tree.StmtTree.Empty;
      leveled = leveled.IsStmt.while c.leveled leveled.IsStmt.empty;
      shallow = omega (arith, c.shallow, i.one);
      opens = λ ps. opens-bare (kind.Key keys.While) ts word (c.opens _);
    })
    (λ c us rc. refused-then (ReadStmt d us) (BegunStmt d us) _ (r.stmt us) _ (i.sound.stmt us) (i.stmt us)
    (λ rest x. record {
      whole = tree.While c x.whole;
      leveled = leveled.IsStmt.while rc.leveled x.leveled;
      shallow = omega (arith, rc.shallow, x.shallow);
      opens = λ ps. opens-bare (kind.Key keys.While) ts word (takes-opens (spelling.in_parens (spelling.expr c)) (prints_condition c) rc.takes (x.opens ps));
    })
    (λ x vs rx. tt)))

-- heads of for
no-change : (d : ℕ) (ts : List Placed) → BegunChange d ts ts
no-change d ts = record {
  whole = tree.After (tree.Variable no_name) step_of.Up no_mark;
  leveled = leveled.IsChange.after leveled.variable;
  shallow = omega arith;
  opens = λ ps. here;
}

change-starts : {k : Kind} {st : StmtStart} (d : ℕ) (b : Option Readers) (m : Mark) (ts : List Placed) → BegunBelow d b → Starts k st →
    Refused (BegunChange d (placed k m ∷ ts)) (change_begun st b (placed k m ∷ ts))
change-starts d b m ts h (a_name n) =
    refused-then (ReadTarget d (placed (kind.Name n) m ∷ ts)) (BegunTarget d (placed (kind.Name n) m ∷ ts)) _ (target b (placed (kind.Name n) m ∷ ts)) _
    (target-sound d b _ (sound-below d b h)) (target-refused d b _ h)
    (λ rest t. stepped d _ rest t)
    (λ t us rt. change_of-refused d b t _ us h rt)
change-starts d b m ts h (a_step s) = before-refused d b s _ h (same-self (kind.Punct (step_mark s)))
change-starts d b m ts h a_semicolon = no-change d _
change-starts d b m ts h a_brace = no-change d _
change-starts d b m ts h an_if = no-change d _
change-starts d b m ts h a_while = no-change d _
change-starts d b m ts h a_for = no-change d _
change-starts d b m ts h a_break = no-change d _
change-starts d b m ts h a_continue = no-change d _
change-starts d b m ts h a_return = no-change d _
change-starts d b m ts h a_pragma = no-change d _
change-starts d b m ts h another = no-change d _

change-refused : (d : ℕ) (b : Option Readers) (ts : List Placed) → BegunBelow d b → Refused (BegunChange d ts) (change b ts)
unfolding change
change-refused d b [] h = no-change d []
change-refused d b (placed k m ∷ ts) h = change-starts d b m ts h (kind-starts k)

abbrev BegunStart : ℕ → List Placed → List Placed → Type 0
BegunStart d = BegunPart IsStart start_depth spelling.start d

start-refused : (d : ℕ) (b : Option Readers) (ts : List Placed) → BegunBelow d b → Refused (BegunStart d ts) (start b ts)
unfolding start
start-refused d b ts h =
    refused-if _ (begins (kind.Punct puncts.Semicolon) ts) _ _
    (λ semicolon. tt)
    (λ _. refused-if _ (begins_type ts) _ _
    (λ _. refused-then (Spelled spelling.type_words ts) (λ rest. rest ≡ ts) _ (type_words ts) _ (type-sound ts) (type-refused ts)
    (λ rest is. subst (BegunStart d ts) (sym is) (record { whole = tree.StartTree.Empty; leveled = leveled.IsStart.empty; shallow = omega arith; opens = λ ps. here }))
    (λ t us rt. refused-then (ReadPart (AreListed IsHeadDeclarator) (deepest declarator_depth) spelling.declared d us)
    (BegunPart (AreListed IsHeadDeclarator) (deepest declarator_depth) spelling.declared d us) _ (head_declared b us) _ (head_declared-sound d b us (sound-below d b h)) (head_declared-refused d b us h)
    (λ rest x. record {
      whole = tree.StartTree.Declare t x.whole;
      leveled = leveled.IsStart.declare x.leveled;
      shallow = x.shallow;
      opens = λ ps. takes-opens (spelling.type_words t) (prints.type_words t) rt (x.opens ps);
    })
    (λ ds vs rd. tt)))
    (λ _. ended-refused (Changes d ts) (BegunChange d ts) _ (change b ts) tree.StartTree.Change (change-sound d b ts (sound-below d b h)) (change-refused d b ts h)
    (λ rest x. record { whole = tree.StartTree.Change x.whole; leveled = leveled.IsStart.change x.leveled; shallow = x.shallow; opens = λ ps. x.opens _ })
    (λ c us rc. record {
      whole = tree.StartTree.Change c;
      leveled = leveled.IsStart.change rc.leveled;
      shallow = rc.shallow;
      opens = λ ps. takes-opens (spelling.change c) (prints.change c) rc.takes here;
    })))

abbrev test_spelling : Option ExprTree → Printer
test_spelling e = spelling.optional spelling.expr e ⨾ spelling.punct puncts.Semicolon

abbrev BegunTest : ℕ → List Placed → List Placed → Type 0
BegunTest d = BegunPart (IsOptional IsExpr) value_depth test_spelling d

test-refused : (d : ℕ) (r : Readers) (ts : List Placed) → BegunReaders d r → Refused (BegunTest d ts) (head_test r ts)
unfolding head_test
test-refused d r ts g =
    refused-if _ (begins (kind.Punct puncts.Semicolon) ts) _ _
    (λ semicolon. tt)
    (λ _. ended-refused (ReadExpr 0 d ts) (BegunExpr 0 d ts) _ (r.expr ts) Some (g.sound.expr ts) (g.expr ts)
    (λ rest x. record { whole = Some x.whole; leveled = leveled.IsOptional.present x.leveled; shallow = x.shallow; opens = λ ps. x.opens _ })
    (λ e us re. record {
      whole = Some e;
      leveled = leveled.IsOptional.present re.leveled;
      shallow = re.shallow;
      opens = λ ps. takes-opens (spelling.expr e) (prints_expr e) re.takes here;
    }))

abbrev step_spelling : Option ChangeTree → Printer
step_spelling c = spelling.optional spelling.change c ⨾ spelling.punct puncts.CloseParen

abbrev BegunStep : ℕ → List Placed → List Placed → Type 0
BegunStep d = BegunPart (IsOptional IsChange) step_depth step_spelling d

step-refused : (d : ℕ) (b : Option Readers) (ts : List Placed) → BegunBelow d b → Refused (BegunStep d ts) (step b ts)
unfolding step
step-refused d b ts h =
    refused-if _ (begins (kind.Punct puncts.CloseParen) ts) _ _
    (λ closes. tt)
    (λ _. refused-then (Changes d ts) (BegunChange d ts) _ (change b ts) _ (change-sound d b ts (sound-below d b h)) (change-refused d b ts h)
    (λ rest x. record { whole = Some x.whole; leveled = leveled.IsOptional.present x.leveled; shallow = x.shallow; opens = λ ps. x.opens _ })
    (λ c us rc. refused-expect (kind.Punct puncts.CloseParen) _ us _
    (record {
      whole = Some c;
      leveled = leveled.IsOptional.present rc.leveled;
      shallow = rc.shallow;
      opens = λ ps. takes-opens (spelling.change c) (prints.change c) rc.takes here;
    })
    (λ _ vs closes. tt)))

record BegunHead (d : ℕ) (ts rest : List Placed) : Type 0 where
  whole : HeadTree
  start : IsStart whole.start
  start_shallow : start_depth whole.start ≤ d
  test : IsOptional IsExpr whole.test
  test_shallow : value_depth whole.test ≤ d
  step : IsOptional IsChange whole.step
  step_shallow : step_depth whole.step ≤ d
  opens : OpensAll (head_spelling whole) ts rest

head-refused : (d : ℕ) (r : Readers) (ts : List Placed) → BegunReaders d r → Refused (BegunHead d ts) (head (Some r) ts)
unfolding head
head-refused d r ts g =
    refused-expect (kind.Punct puncts.OpenParen) _ ts _
    (record {
      whole = record { start = tree.StartTree.Empty; test = None; step = None };
      start = leveled.IsStart.empty;
      start_shallow = omega arith;
      test = leveled.IsOptional.absent;
      test_shallow = omega arith;
      step = leveled.IsOptional.absent;
      step_shallow = omega arith;
      opens = λ ps. here;
    })
    (λ _ t1 opens. refused-then (ReadPart IsStart start_depth spelling.start d t1) (BegunStart d t1) _ (start (Some r) t1) _ (start-sound d (Some r) t1 g.sound) (start-refused d (Some r) t1 g)
    (λ rest x. record {
      whole = record { start = x.whole; test = None; step = None };
      start = x.leveled;
      start_shallow = x.shallow;
      test = leveled.IsOptional.absent;
      test_shallow = omega arith;
      step = leveled.IsOptional.absent;
      step_shallow = omega arith;
      opens = λ ps. takes-opens _ prints_token opens.plain (x.opens _);
    })
    (λ st t2 rs. refused-then (ReadPart (IsOptional IsExpr) value_depth test_spelling d t2) (BegunTest d t2) _ (head_test r t2) _ (test-sound d r t2 g.sound) (test-refused d r t2 g)
    (λ rest x. record {
      whole = record { start = st; test = x.whole; step = None };
      start = rs.leveled;
      start_shallow = rs.shallow;
      test = x.leveled;
      test_shallow = x.shallow;
      step = leveled.IsOptional.absent;
      step_shallow = omega arith;
      opens = λ ps. takes-opens _ prints_token opens.plain (takes-opens (spelling.start st) (prints.start st) rs.takes (x.opens _));
    })
    (λ e t3 re. refused-then (ReadPart (IsOptional IsChange) step_depth step_spelling d t3) (BegunStep d t3) _ (step (Some r) t3) _ (step-sound d (Some r) t3 g.sound) (step-refused d (Some r) t3 g)
    (λ rest x. record {
      whole = record { start = st; test = e; step = x.whole };
      start = rs.leveled;
      start_shallow = rs.shallow;
      test = re.leveled;
      test_shallow = re.shallow;
      step = x.leveled;
      step_shallow = x.shallow;
      opens = λ ps. takes-opens _ prints_token opens.plain (takes-opens (spelling.start st) (prints.start st) rs.takes
          (takes-opens (test_spelling e) (prints.◌then◌ (prints.optional spelling.expr prints_expr e) prints.token) re.takes (x.opens ps)));
    })
    (λ c t4 rc. tt))))

prints_head : (h : HeadTree) → Prints (head_spelling h)
prints_head h = prints.in_parens (prints.◌then◌ (prints.start h.start) (prints.◌then◌ (prints.optional spelling.expr prints_expr h.test)
    (prints.◌then◌ prints.token (prints.optional spelling.change prints.change h.step))))

for-refused : (d : ℕ) (s : Option Inner) (ts : List Placed) → BegunDeep d s → begins (kind.Key keys.For) ts ≡ true →
    Refused (BegunStmt (suc d) ts) (for_stmt s ts)
unfolding for_stmt
for-refused d s ts h word =
    refused-deep _ d s ts _ h (no-stmt (suc d) ts (omega arith))
    (λ r i. refused-then (ReadHead d (after ts)) (BegunHead d (after ts)) _ (head (Some r.readers) (after ts)) _
    (head-sound d r.readers (after ts) i.sound.readers) (head-refused d r.readers (after ts) i.readers)
    (λ rest f. record {
      whole = tree.For f.whole.start f.whole.test f.whole.step tree.StmtTree.Empty;
      leveled = leveled.IsStmt.for f.start f.test f.step leveled.IsStmt.empty;
      shallow = omega (arith, f.start_shallow, f.test_shallow, f.step_shallow, i.one);
      opens = λ ps. opens-bare (kind.Key keys.For) ts word (f.opens _);
    })
    (λ f us rf. refused-then (ReadStmt d us) (BegunStmt d us) _ (r.stmt us) _ (i.sound.stmt us) (i.stmt us)
    (λ rest x. record {
      whole = tree.For f.start f.test f.step x.whole;
      leveled = leveled.IsStmt.for rf.start rf.test rf.step x.leveled;
      shallow = omega (arith, rf.start_shallow, rf.test_shallow, rf.step_shallow, x.shallow);
      opens = λ ps. opens-bare (kind.Key keys.For) ts word (takes-opens (head_spelling f) (prints_head f) rf.takes (x.opens ps));
    })
    (λ x vs rx. tt)))

return-refused : (d : ℕ) (b : Option Readers) (ts : List Placed) → BegunBelow d b → begins (kind.Key keys.Return) ts ≡ true →
    Refused (BegunStmt (suc d) ts) (return_stmt b ts)
unfolding return_stmt
return-refused d b ts h word =
    refused-deeper _ d b ts _ h (no-stmt (suc d) ts (omega arith))
    (λ r g. ended-refused (ReadExpr 0 d (after ts)) (BegunExpr 0 d (after ts)) _ (r.expr (after ts)) (tree.Return (mark_at ts)) (g.sound.expr (after ts)) (g.expr (after ts))
    (λ rest x. record {
      whole = tree.Return (mark_at ts) x.whole;
      leveled = leveled.IsStmt.return x.leveled;
      shallow = omega (arith, x.shallow);
      opens = λ ps. opens-marked (kind.Key keys.Return) ts word (x.opens _);
    })
    (λ e us re. record {
      whole = tree.Return (mark_at ts) e;
      leveled = leveled.IsStmt.return re.leveled;
      shallow = omega (arith, re.shallow);
      opens = λ ps. opens-marked (kind.Key keys.Return) ts word (takes-opens (spelling.expr e) (prints_expr e) re.takes here);
    }))

change-stmt : (d : ℕ) (us rest : List Placed) → BegunChange d us rest → BegunStmt (suc d) us rest
change-stmt d us rest x = record {
  whole = tree.StmtTree.Change x.whole;
  leveled = leveled.IsStmt.change x.leveled;
  shallow = omega (arith, x.shallow);
  opens = λ ps. x.opens _;
}

whole-change : (d : ℕ) (us : List Placed) (c : ChangeTree) (ws : List Placed) → Changes d us c ws → BegunStmt (suc d) us ws
whole-change d us c ws rc = record {
  whole = tree.StmtTree.Change c;
  leveled = leveled.IsStmt.change rc.leveled;
  shallow = omega (arith, rc.shallow);
  opens = λ ps. takes-opens (spelling.change c) (prints.change c) rc.takes here;
}

-- the name stands before the tokens
named-refused : (d : ℕ) (b : Option Readers) (n : Name) (us ts : List Placed) → BegunBelow d b → Takes (spelling.name n) us ts →
    Refused (BegunStmt (suc d) us) (named_stmt b n ts)
unfolding named_stmt
named-refused d b n us ts h name =
    refused-if _ (begins (kind.Punct puncts.OpenParen) ts) _ _
    (λ opens. ended-refused (ReadArgs exprs.in_parens d ts) (BegunArgs exprs.in_parens d ts) _ (args b ts) (tree.StmtTree.Call n)
    (args-sound d b ts (sound-below d b h) opens) (args-refused d b ts h opens)
    (λ rest x. record {
      whole = tree.StmtTree.Call n x.whole;
      leveled = leveled.IsStmt.call x.leveled;
      shallow = omega (arith, x.shallow);
      opens = λ ps. takes-opens (spelling.name n) prints_mark name (x.opens _);
    })
    (λ es vs res. record {
      whole = tree.StmtTree.Call n es;
      leveled = leveled.IsStmt.call res.leveled;
      shallow = omega (arith, res.shallow);
      opens = λ ps. takes-opens (spelling.name n) prints_mark name (takes-opens (exprs.in_parens es) (prints.in_parens (prints.args es)) res.takes here);
    }))
    (λ _. refused-then (ReadTarget d us) (BegunTarget d us) _ (target_of b n ts) _ (target_of-sound d b n ts us (sound-below d b h) name) (target_of-refused d b n ts us h name)
    (λ rest t. change-stmt d us rest (stepped d us rest t))
    (λ t vs rt. ended-refused (Changes d us) (BegunChange d us) _ (change_of b t vs) tree.StmtTree.Change
    (change_of-sound d b t us vs (sound-below d b h) rt) (change_of-refused d b t us vs h rt)
    (change-stmt d us)
    (λ c ws rc. whole-change d us c ws rc)))

-- pragmas
abbrev begun_pragma : Mark → Printer
begun_pragma m = spelling.pragma m ⨾ spelling.omp

prints_pragma : (m : Mark) → Prints (begun_pragma m)
prints_pragma m = record { in_front = λ rest. refl }

prints_opened : (m : Mark) (word : ℕ) → Prints (opened m word)
prints_opened m word = record { in_front = λ rest. refl }

-- a taskwait, where its word may stand
waiting : (d : ℕ) (m : Mark) (us ts : List Placed) → Takes (begun_pragma m) us ts → BegunStmt (suc d) us ts
waiting d m us ts front = record {
  whole = tree.Taskwait m;
  leveled = leveled.IsStmt.taskwait;
  shallow = omega arith;
  opens = λ ps. takes-opens (begun_pragma m) (prints_pragma m) front here;
}

task-refused : (d : ℕ) (m : Mark) (s : Option Inner) (us ts : List Placed) → BegunDeep d s → Takes (begun_pragma m) us ts → Takes (opened m task_id) us (after ts) →
    Refused (BegunStmt (suc d) us) (task m s ts)
unfolding task
task-refused d m s us ts h front opens =
    refused-deep _ d s ts _ h (waiting d m us ts front)
    (λ r i. refused-then (ReadPart AreClauses (deepest clause_depth) (spelling.each spelling.clause) d (after ts)) (BegunClauses d (after ts)) _ (clauses (Some r.readers) (after ts)) _
    (clauses-sound d (Some r.readers) (after ts) i.sound.readers) (clauses-refused d (Some r.readers) (after ts) i.readers)
    (λ rest cs. record {
      whole = tree.Task m cs.whole tree.StmtTree.Empty;
      leveled = leveled.IsStmt.task cs.leveled leveled.IsStmt.empty;
      shallow = omega (arith, cs.shallow, i.one);
      opens = λ ps. takes-opens (opened m task_id) (prints_opened m task_id) opens (cs.opens _);
    })
    (λ cs t1 rcs. refused-expect kind.PragmaEnd _ t1 _
    (record {
      whole = tree.Task m cs tree.StmtTree.Empty;
      leveled = leveled.IsStmt.task rcs.leveled leveled.IsStmt.empty;
      shallow = omega (arith, rcs.shallow, i.one);
      opens = λ ps. takes-opens (opened m task_id) (prints_opened m task_id) opens (takes-opens (spelling.each spelling.clause cs) (prints.each spelling.clause prints.clause cs) rcs.takes here);
    })
    (λ _ t2 ends. refused-then (ReadStmt d t2) (BegunStmt d t2) _ (r.stmt t2) _ (i.sound.stmt t2) (i.stmt t2)
    (λ rest x. record {
      whole = tree.Task m cs x.whole;
      leveled = leveled.IsStmt.task rcs.leveled x.leveled;
      shallow = omega (arith, rcs.shallow, x.shallow);
      opens = λ ps. takes-opens (opened m task_id) (prints_opened m task_id) opens (takes-opens (spelling.each spelling.clause cs) (prints.each spelling.clause prints.clause cs) rcs.takes
          (takes-opens _ prints_token ends.plain (x.opens ps)));
    })
    (λ x t3 rx. tt))))

-- what holds of a tick whose line may end
abbrev Ending : ℕ → List Placed → StmtTree → List Placed → Type 0
Ending d us x rest = BegunStmt (suc d) us rest

ticked-sound : (d : ℕ) (m : Mark) (b : Option Readers) (us ts : List Placed) → BegunBelow d b → Takes (opened m tick_id) us (after ts) →
    Sound (Ending d us) (ticked m b ts)
unfolding ticked
ticked-sound d m b us ts h opens =
    sound-deeper _ d b ts _ (sound-below d b h) (λ r i. sound-then _ _ (expect (kind.Punct puncts.OpenParen) (after ts)) _ (expect-sound _ (after ts)) (λ _ t1 e1.
    sound-then _ _ (target b t1) _ (target-sound d b t1 (sound-below d b h)) (λ t t2 rt.
    sound-then _ _ (expect (kind.Punct puncts.ShiftRight) t2) _ (expect-sound _ t2) (λ a t3 arrow.
    sound-then _ _ (r.expr t3) _ (i.expr t3) (λ e t4 re.
    sound-then _ _ (expect (kind.Punct puncts.CloseParen) t4) _ (expect-sound _ t4) (λ _ t5 e5.
    record {
      whole = tree.Tick m t a e;
      leveled = leveled.IsStmt.tick rt.leveled re.leveled;
      shallow = omega (arith, rt.shallow, re.shallow);
      opens = λ ps. takes-opens (opened m tick_id) (prints_opened m tick_id) opens (takes-opens _ prints_token e1.plain (takes-opens (spelling.target t) (prints.target t) rt.takes
          (takes-opens _ prints_mark arrow.noted (takes-opens (spelling.expr e) (prints_expr e) re.takes (takes-opens _ prints_token e5.plain here)))));
    }))))))

ticked-refused : (d : ℕ) (m : Mark) (b : Option Readers) (us ts : List Placed) → BegunBelow d b → Takes (begun_pragma m) us ts → Takes (opened m tick_id) us (after ts) →
    Refused (BegunStmt (suc d) us) (ticked m b ts)
unfolding ticked
ticked-refused d m b us ts h front opens =
    refused-deeper _ d b ts _ h (waiting d m us ts front)
    (λ r g. refused-expect (kind.Punct puncts.OpenParen) _ (after ts) _
    (record {
      whole = tree.Tick m (tree.Variable no_name) no_mark (tree.Number 0);
      leveled = leveled.IsStmt.tick leveled.variable (leveled.number (omega arith));
      shallow = omega (arith, g.one);
      opens = λ ps. takes-opens (opened m tick_id) (prints_opened m tick_id) opens here;
    })
    (λ _ t1 e1. refused-then (ReadTarget d t1) (BegunTarget d t1) _ (target b t1) _ (target-sound d b t1 (sound-below d b h)) (target-refused d b t1 h)
    (λ rest t. record {
      whole = tree.Tick m t.whole no_mark (tree.Number 0);
      leveled = leveled.IsStmt.tick t.leveled (leveled.number (omega arith));
      shallow = omega (arith, t.shallow, g.one);
      opens = λ ps. takes-opens (opened m tick_id) (prints_opened m tick_id) opens (takes-opens _ prints_token e1.plain (t.opens _));
    })
    (λ t t2 rt. refused-expect (kind.Punct puncts.ShiftRight) _ t2 _
    (record {
      whole = tree.Tick m t no_mark (tree.Number 0);
      leveled = leveled.IsStmt.tick rt.leveled (leveled.number (omega arith));
      shallow = omega (arith, rt.shallow, g.one);
      opens = λ ps. takes-opens (opened m tick_id) (prints_opened m tick_id) opens (takes-opens _ prints_token e1.plain (takes-opens (spelling.target t) (prints.target t) rt.takes here));
    })
    (λ a t3 arrow. refused-then (ReadExpr 0 d t3) (BegunExpr 0 d t3) _ (r.expr t3) _ (g.sound.expr t3) (g.expr t3)
    (λ rest x. record {
      whole = tree.Tick m t a x.whole;
      leveled = leveled.IsStmt.tick rt.leveled x.leveled;
      shallow = omega (arith, rt.shallow, x.shallow);
      opens = λ ps. takes-opens (opened m tick_id) (prints_opened m tick_id) opens (takes-opens _ prints_token e1.plain (takes-opens (spelling.target t) (prints.target t) rt.takes
          (takes-opens _ prints_mark arrow.noted (x.opens _))));
    })
    (λ e t4 re. refused-expect (kind.Punct puncts.CloseParen) _ t4 _
    (record {
      whole = tree.Tick m t a e;
      leveled = leveled.IsStmt.tick rt.leveled re.leveled;
      shallow = omega (arith, rt.shallow, re.shallow);
      opens = λ ps. takes-opens (opened m tick_id) (prints_opened m tick_id) opens (takes-opens _ prints_token e1.plain (takes-opens (spelling.target t) (prints.target t) rt.takes
          (takes-opens _ prints_mark arrow.noted (takes-opens (spelling.expr e) (prints_expr e) re.takes here))));
    })
    (λ _ t5 e5. tt))))))

tick-refused : (d : ℕ) (m : Mark) (b : Option Readers) (us ts : List Placed) → BegunBelow d b → Takes (begun_pragma m) us ts → Takes (opened m tick_id) us (after ts) →
    Refused (BegunStmt (suc d) us) (tick m b ts)
unfolding tick
tick-refused d m b us ts h front opens =
    refused-then (Ending d us) (BegunStmt (suc d) us) _ (ticked m b ts) _ (ticked-sound d m b us ts h opens) (ticked-refused d m b us ts h front opens)
    (λ rest x. x)
    (λ x rest begun. refused-expect kind.PragmaEnd _ rest _ begun (λ _ vs ends. tt))

taskwait-refused : (d : ℕ) (m : Mark) (us ts : List Placed) → Takes (opened m taskwait_id) us ts → Refused (BegunStmt (suc d) us) (taskwait m ts)
unfolding taskwait
taskwait-refused d m us ts opens =
    refused-expect kind.PragmaEnd _ ts _
    (record {
      whole = tree.Taskwait m;
      leveled = leveled.IsStmt.taskwait;
      shallow = omega arith;
      opens = λ ps. takes-opens (opened m taskwait_id) (prints_opened m taskwait_id) opens here;
    })
    (λ _ vs ends. tt)

pragma-refused : (d : ℕ) (s : Option Inner) (ts : List Placed) → BegunDeep d s → begins kind.PragmaStart ts ≡ true →
    Refused (BegunStmt (suc d) ts) (pragma s ts)
unfolding pragma
pragma-refused d s ts h is =
    refused-expect (kind.Name omp_id) _ (after ts) _
    (record { whole = tree.Taskwait (mark_at ts); leveled = leveled.IsStmt.taskwait; shallow = omega arith; opens = λ ps. opens-marked kind.PragmaStart ts is here })
    (λ _ us omp. let front : Takes (begun_pragma (mark_at ts)) ts us = λ ps g. begins-marked kind.PragmaStart ts is _ (omp.plain ps g) in
    refused-if _ (begins (kind.Name task_id) us) _ _
    (λ word. task-refused d (mark_at ts) s ts us h front (λ ps g. front _ (begins-bare (kind.Name task_id) us word ps g)))
    (λ _. refused-if _ (begins (kind.Name tick_id) us) _ _
    (λ word. tick-refused d (mark_at ts) (readers_of s) ts us (readers_of-begun d s h) front (λ ps g. front _ (begins-bare (kind.Name tick_id) us word ps g)))
    (λ _. refused-if _ (begins (kind.Name taskwait_id) us) _ _
    (λ word. taskwait-refused d (mark_at ts) ts (after us) (λ ps g. front _ (begins-bare (kind.Name taskwait_id) us word ps g)))
    (λ _. waiting d (mark_at ts) ts us front))))

-- statements
stmt-begun : {k : Kind} {st : StmtStart} (d : ℕ) (s : Option Inner) (m : Mark) (ts : List Placed) → BegunDeep d s → Starts k st →
    Refused (BegunStmt (suc d) (placed k m ∷ ts)) (stmt_by st s (placed k m ∷ ts))
unfolding stmt_by
stmt-begun d s m ts h a_semicolon = tt
stmt-begun d s m ts h a_brace =
    refused-then (ReadPart AreStmts stmts_depth closed d ts) (BegunStmts d ts) _ (block s ts) _ (block-sound d s ts (sound-inside d s h)) (block-refused d s ts h)
    (λ rest x. record { whole = tree.Block x.whole; leveled = leveled.IsStmt.block x.leveled; shallow = omega (arith, x.shallow); opens = λ ps. plain (x.opens ps) })
    (λ ss us rss. tt)
stmt-begun d s m ts h (a_name n) = named-refused d (readers_of s) (record { id = n; mark = m }) _ ts (readers_of-begun d s h) (λ ps g. means.marked g)
stmt-begun d s m ts h (a_step st) =
    ended-refused (Changes d _) (BegunChange d _) _ (before st (readers_of s) _) tree.StmtTree.Change
    (before-sound d (readers_of s) st _ (readers_of-sound d s (sound-inside d s h)) (same-self (kind.Punct (step_mark st))))
    (before-refused d (readers_of s) st _ (readers_of-begun d s h) (same-self (kind.Punct (step_mark st))))
    (change-stmt d _) (λ c us rc. whole-change d _ c us rc)
stmt-begun d s m ts h an_if = if-refused d s _ h (same-self (kind.Key keys.If))
stmt-begun d s m ts h a_while = while-refused d s _ h (same-self (kind.Key keys.While))
stmt-begun d s m ts h a_for = for-refused d s _ h (same-self (kind.Key keys.For))
stmt-begun d s m ts h a_break =
    refused-expect (kind.Punct puncts.Semicolon) _ ts _
    (record { whole = tree.Break m; leveled = leveled.IsStmt.break; shallow = omega arith; opens = λ ps. noted here }) (λ _ vs semicolon. tt)
stmt-begun d s m ts h a_continue =
    refused-expect (kind.Punct puncts.Semicolon) _ ts _
    (record { whole = tree.Continue m; leveled = leveled.IsStmt.continue; shallow = omega arith; opens = λ ps. noted here }) (λ _ vs semicolon. tt)
stmt-begun d s m ts h a_return = return-refused d (readers_of s) _ (readers_of-begun d s h) (same-self (kind.Key keys.Return))
stmt-begun d s m ts h a_pragma = pragma-refused d s _ h (same-self kind.PragmaStart)
stmt-begun d s m ts h another = no-stmt (suc d) _ (omega arith)

stmt-refused : (d : ℕ) (s : Option Inner) (ts : List Placed) → BegunDeep d s → Refused (BegunStmt (suc d) ts) (stmt_on s ts)
unfolding stmt_on stmt_by
stmt-refused d s [] h = no-stmt (suc d) [] (omega arith)
stmt-refused d s (placed k m ∷ ts) h = stmt-begun d s m ts h (kind-starts k)

pub inner-begun : (d : ℕ) → BegunDeep d (inner d)
unfolding inner below
inner-begun zero = tt
inner-begun (suc d) = record {
  one = omega arith;
  sound = inner-sound (suc d);
  readers = record {
    one = omega arith;
    sound = exprs.below-sound (suc d);
    expr = λ ts. expr-refused d (below d) ts (below-begun d);
    operand = λ ts. operand-refused d (below d) ts (below-begun d);
  };
  stmt = λ ts. stmt-refused d (inner d) ts (inner-begun d);
  item = λ ts. block_item-refused d (below d) (stmt_on (inner d)) ts (below-begun d) (stmt-refused d (inner d) ts (inner-begun d));
}

-- functions and constants
param-refused : (ts : List Placed) → Refused (BegunPart IsParam no_depth spelling.param 0 ts) (param ts)
unfolding param no_depth
param-refused ts =
    refused-then (Spelled spelling.type_words ts) (λ rest. rest ≡ ts) _ (type_words ts) _ (type-sound ts) (type-refused ts)
    (λ rest is. subst (BegunPart IsParam no_depth spelling.param 0 ts) (sym is)
    (record { whole = record { ty = ty_of.Int; name = no_name }; leveled = any_param; shallow = omega arith; opens = λ ps. here }))
    (λ t us rt. refused-then (Spelled spelling.name us) (BegunSpelled spelling.name us) _ (name us) _ (name-sound us) (name-refused us)
    (λ rest x. record {
      whole = record { ty = t; name = x.whole };
      leveled = any_param;
      shallow = omega arith;
      opens = λ ps. takes-opens (spelling.type_words t) (prints.type_words t) rt (x.opens ps);
    })
    (λ n vs rn. tt))

record BegunParams (ts rest : List Placed) : Type 0 where
  whole : Params
  leveled : IsParams whole
  opens : OpensAll (spelling.params whole) ts rest

params-refused : (ts : List Placed) → Refused (BegunParams ts) (params ts)
unfolding params
params-refused ts =
    refused-if _ (begins (kind.Punct puncts.CloseParen) ts) _ _
    (λ _. tt)
    (λ _. refused-if _ (begins (kind.Key keys.Void) ts) _ _
    (λ word. tt)
    (λ _. refused-then (ReadPart (AreListed IsParam) (deepest no_depth) (spelling.listed spelling.param) 0 ts) (BegunPart (AreListed IsParam) (deepest no_depth) (spelling.listed spelling.param) 0 ts) _ (list_of param ts) _
    (list_of-sound IsParam no_depth spelling.param 0 param ts param-sound)
    (list_of-refused IsParam no_depth spelling.param 0 param ts (λ p. prints.◌then◌ (prints.type_words p.ty) prints_mark) param-sound param-refused)
    (λ rest x. record { whole = params_of.Names x.whole; leveled = names-are x.leveled; opens = x.opens })
    (λ ns us rns. tt)))

abbrev pub BegunTop : ℕ → List Placed → List Placed → Type 0
BegunTop d = BegunPart IsItem item_depth spelling.item d

no-item : (d : ℕ) (ts : List Placed) → BegunTop d ts ts
no-item d ts = record {
  whole = tree.Constant (record { ty = ty_of.Int; name = no_name; minus = false; size = 0; wide = false });
  leveled = leveled.IsItem.constant (omega arith);
  shallow = omega arith;
  opens = λ ps. here;
}

function-refused : (d : ℕ) (s : Option Inner) (ts : List Placed) → BegunDeep d s →
    Refused (BegunTop (suc d) ts) (function s ts)
unfolding function
function-refused d s ts h =
    refused-then (Spelled spelling.type_words ts) (λ rest. rest ≡ ts) _ (type_words ts) _ (type-sound ts) (type-refused ts)
    (λ rest is. subst (BegunTop (suc d) ts) (sym is) (no-item (suc d) ts))
    (λ t t0 rt. refused-then (Spelled spelling.name t0) (BegunSpelled spelling.name t0) _ (name t0) _ (name-sound t0) (name-refused t0)
    (λ rest x. record {
      whole = tree.Function (record { ty = t; name = x.whole; params = params_of.Empty; body = tree.no_stmts });
      leveled = leveled.IsItem.function leveled.IsParams.empty leveled.AreStmts.no_stmts;
      shallow = omega arith;
      opens = λ ps. takes-opens (spelling.type_words t) (prints.type_words t) rt (x.opens _);
    })
    (λ n t1 rn. refused-expect (kind.Punct puncts.OpenParen) _ t1 _
    (record {
      whole = tree.Function (record { ty = t; name = n; params = params_of.Empty; body = tree.no_stmts });
      leveled = leveled.IsItem.function leveled.IsParams.empty leveled.AreStmts.no_stmts;
      shallow = omega arith;
      opens = λ ps. takes-opens (spelling.type_words t) (prints.type_words t) rt (takes-opens (spelling.name n) prints_mark rn here);
    })
    (λ _ t2 e2. refused-then (ReadParams t2) (BegunParams t2) _ (params t2) _ (params-sound t2) (params-refused t2)
    (λ rest x. record {
      whole = tree.Function (record { ty = t; name = n; params = x.whole; body = tree.no_stmts });
      leveled = leveled.IsItem.function x.leveled leveled.AreStmts.no_stmts;
      shallow = omega arith;
      opens = λ ps. takes-opens (spelling.type_words t) (prints.type_words t) rt (takes-opens (spelling.name n) prints_mark rn (takes-opens _ prints_token e2.plain (x.opens _)));
    })
    (λ p t3 rps. refused-expect (kind.Punct puncts.CloseParen) _ t3 _
    (record {
      whole = tree.Function (record { ty = t; name = n; params = p; body = tree.no_stmts });
      leveled = leveled.IsItem.function rps.leveled leveled.AreStmts.no_stmts;
      shallow = omega arith;
      opens = λ ps. takes-opens (spelling.type_words t) (prints.type_words t) rt (takes-opens (spelling.name n) prints_mark rn (takes-opens _ prints_token e2.plain
          (takes-opens (spelling.params p) (prints.params p) rps.takes here)));
    })
    (λ _ t4 e4. refused-expect (kind.Punct puncts.OpenBrace) _ t4 _
    (record {
      whole = tree.Function (record { ty = t; name = n; params = p; body = tree.no_stmts });
      leveled = leveled.IsItem.function rps.leveled leveled.AreStmts.no_stmts;
      shallow = omega arith;
      opens = λ ps. takes-opens (spelling.type_words t) (prints.type_words t) rt (takes-opens (spelling.name n) prints_mark rn (takes-opens _ prints_token e2.plain
          (takes-opens (spelling.params p) (prints.params p) rps.takes (takes-opens _ prints_token e4.plain here))));
    })
    (λ _ t5 e5. refused-then (ReadPart AreStmts stmts_depth closed d t5) (BegunStmts d t5) _ (block s t5) _ (block-sound d s t5 (sound-inside d s h)) (block-refused d s t5 h)
    (λ rest x. record {
      whole = tree.Function (record { ty = t; name = n; params = p; body = x.whole });
      leveled = leveled.IsItem.function rps.leveled x.leveled;
      shallow = omega (arith, x.shallow);
      opens = λ ps. takes-opens (spelling.type_words t) (prints.type_words t) rt (takes-opens (spelling.name n) prints_mark rn (takes-opens _ prints_token e2.plain
          (takes-opens (spelling.params p) (prints.params p) rps.takes (takes-opens _ prints_token e4.plain (takes-opens _ prints_token e5.plain (x.opens ps))))));
    })
    (λ ss t6 rss. tt)))))))

number-case : (n : ℕ) (m : Mark) (ts : List Placed) (b : Bool) →
    Refused (λ rest. rest ≡ placed (kind.Number n) m ∷ ts) (number_by (cond b (Some (record { size = n; wide = false })) None) (placed (kind.Number n) m ∷ ts))
number-case n m ts true = tt
number-case n m ts false = refl

wide-case : (n : ℕ) (m : Mark) (ts : List Placed) (b : Bool) →
    Refused (λ rest. rest ≡ placed (kind.Wide n) m ∷ ts) (number_by (cond b (Some (record { size = n; wide = true })) None) (placed (kind.Wide n) m ∷ ts))
wide-case n m ts true = tt
wide-case n m ts false = refl

number-refused : (ts : List Placed) → Refused (λ rest. rest ≡ ts) (number ts)
unfolding number
number-refused [] = refl
number-refused (placed (kind.Number n) m ∷ ts) = number-case n m ts (nat_lt n (2 ^ 31))
number-refused (placed (kind.Wide n) m ∷ ts) = wide-case n m ts (nat_lt n (2 ^ 32))
number-refused (placed (kind.Name n) m ∷ ts) = refl
number-refused (placed (kind.Punct p) m ∷ ts) = refl
number-refused (placed (kind.Key k) m ∷ ts) = refl
number-refused (placed kind.PragmaStart m ∷ ts) = refl
number-refused (placed kind.PragmaEnd m ∷ ts) = refl

never-refused : (ts : List Placed) → Refused (λ rest. ⊥) (minus ts)
unfolding minus
never-refused ts = refused-if _ (begins (kind.Punct puncts.Minus) ts) _ _ (λ e. tt) (λ e. tt)

constant-refused : (d : ℕ) (ts : List Placed) → begins (kind.Key keys.Const) ts ≡ true → Refused (BegunTop d ts) (constant ts)
unfolding constant
constant-refused d ts word =
    refused-then (Spelled spelling.type_words (after ts)) (λ rest. rest ≡ after ts) _ (type_words (after ts)) _ (type-sound (after ts)) (type-refused (after ts))
    (λ rest is. subst (BegunTop d ts) (sym is) (record {
      whole = tree.Constant (record { ty = ty_of.Int; name = no_name; minus = false; size = 0; wide = false });
      leveled = leveled.IsItem.constant (omega arith);
      shallow = omega arith;
      opens = λ ps. opens-bare (kind.Key keys.Const) ts word here;
    }))
    (λ t t1 rt. refused-then (Spelled spelling.name t1) (BegunSpelled spelling.name t1) _ (name t1) _ (name-sound t1) (name-refused t1)
    (λ rest x. record {
      whole = tree.Constant (record { ty = t; name = x.whole; minus = false; size = 0; wide = false });
      leveled = leveled.IsItem.constant (omega arith);
      shallow = omega arith;
      opens = λ ps. opens-bare (kind.Key keys.Const) ts word (takes-opens (spelling.type_words t) (prints.type_words t) rt (x.opens _));
    })
    (λ n t2 rn. refused-expect (kind.Punct puncts.Set) _ t2 _
    (record {
      whole = tree.Constant (record { ty = t; name = n; minus = false; size = 0; wide = false });
      leveled = leveled.IsItem.constant (omega arith);
      shallow = omega arith;
      opens = λ ps. opens-bare (kind.Key keys.Const) ts word (takes-opens (spelling.type_words t) (prints.type_words t) rt (takes-opens (spelling.name n) prints_mark rn here));
    })
    (λ _ t3 e3. refused-then (Spelled spelling.sign t3) (λ rest. ⊥) _ (minus t3) _ (minus-sound t3) (never-refused t3)
    (λ rest x. absurd x)
    (λ m t4 rm. refused-then (ReadNumber t4) (λ rest. rest ≡ t4) _ (number t4) _ (number-sound t4) (number-refused t4)
    (λ rest is. subst (BegunTop d ts) (sym is) (record {
      whole = tree.Constant (record { ty = t; name = n; minus = m; size = 0; wide = false });
      leveled = leveled.IsItem.constant (omega arith);
      shallow = omega arith;
      opens = λ ps. opens-bare (kind.Key keys.Const) ts word (takes-opens (spelling.type_words t) (prints.type_words t) rt (takes-opens (spelling.name n) prints_mark rn
          (takes-opens _ prints_token e3.plain (takes-opens (spelling.sign m) (prints.sign m) rm here))));
    }))
    (λ v t5 rv. refused-expect (kind.Punct puncts.Semicolon) _ t5 _
    (record {
      whole = tree.Constant (record { ty = t; name = n; minus = m; size = v.size; wide = v.wide });
      leveled = constant-is rv.is;
      shallow = omega arith;
      opens = λ ps. opens-bare (kind.Key keys.Const) ts word (takes-opens (spelling.type_words t) (prints.type_words t) rt (takes-opens (spelling.name n) prints_mark rn
          (takes-opens _ prints_token e3.plain (takes-opens (spelling.sign m) (prints.sign m) rm (takes-opens (spelling.numeral v.wide v.size) (prints.numeral v.wide v.size) rv.takes here)))));
    })
    (λ _ t6 e6. tt))))))

item-refused : (d : ℕ) (s : Option Inner) (ts : List Placed) → BegunDeep d s → Refused (BegunTop (suc d) ts) (item s ts)
unfolding item
item-refused d s ts h =
    refused-if _ (begins (kind.Key keys.Const) ts) _ _
    (λ word. constant-refused (suc d) ts word)
    (λ _. function-refused d s ts h)

-- where a program is refused, one begins with all tokens before
pub program-refused : (d : ℕ) (ts : List Placed) →
    Refused (BegunPart (AreAll IsItem) program_depth spelling.program (suc d) ts) (program (inner d) ts)
unfolding program
program-refused d ts =
    many-refused (suc (length ts)) IsItem item_depth spelling.item (suc d) is_more (item (inner d)) ts prints_item
    (λ us _. item-sound d (inner d) us (inner-sound d)) (λ us _. item-refused d (inner d) us (inner-begun d))
