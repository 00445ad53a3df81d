-- What is read as a statement or a program is one, as deep as it may be, and spelled by the tokens that were taken.
use Rattle.std.proofs.Common.{◌≡◌, ℕ, zero, suc, ◌≤◌, ◌<◌, ◌^◌, Bool, true, false, cond, nat_lt, List, [], ◌∷◌, Option, Some, None, length, refl, arith}
use borrow.Author.Tests.{ltb-true}
use Rattle.os_ast.specs.Depth.{expr_depth, value_depth, start_depth, step_depth, stmt_depth, stmts_depth, item_depth, program_depth}
use Rattle.os_ast.specs.Leveled as leveled
use Rattle.os_ast.specs.Leveled.{IsExpr, AreAll, AreListed, IsOptional, IsDeclarator, IsHeadDeclarator, IsChange, IsStart, takes_else, IsStmt, AreStmts, IsParams, IsItem}
use Rattle.os_ast.specs.Means as means
use Rattle.os_ast.specs.Means.{Placed, placed, Fit}
use Rattle.os_ast.specs.Operators.{step_mark}
use Rattle.os_ast.specs.Spelling as spelling
use Rattle.os_ast.specs.Spelling.{Printer, ◌⨾◌}
use Rattle.os_ast.specs.Trees as tree
use Rattle.os_ast.specs.Trees.{ExprTree, StartTree, ChangeTree, StmtTree, Stmts, ItemTree}
use Rattle.os_ast.specs.declared.expr.Mark.{Mark}
use Rattle.os_ast.specs.declared.expr.Name.{Name}
use Rattle.os_ast.specs.declared.program.Param.{Param}
use Rattle.os_ast.specs.declared.ty.Ty.{Ty}
use Rattle.os_parser_grammar.specs.declared.numeral.Numeral.{Numeral}
use Rattle.os_ast.specs.declared.program.Params.{Params}
use Rattle.os_ast.specs.declared.program.Params.TheVariants as params_of
use Rattle.os_ast.specs.declared.stmt.Step.{Step}
use Rattle.os_ast.specs.declared.stmt.Step.TheVariants as step_of
use Rattle.os_lexer.specs.declared.token.Key.{Key}
use Rattle.os_lexer.specs.Names.{omp_id, task_id, tick_id, taskwait_id}
use Rattle.os_lexer.specs.declared.token.Key.TheVariants as keys
use Rattle.os_lexer.specs.declared.token.Kind.{Kind}
use Rattle.os_lexer.specs.declared.token.Kind.TheVariants as kind
use Rattle.os_lexer.specs.declared.token.Punct.{Punct}
use Rattle.os_lexer.specs.declared.token.Punct.TheVariants as puncts
use Rattle.os_parser_grammar.specs.Beginners.{stmt_start, punct_stmt, key_stmt}
use Rattle.os_parser_grammar.specs.Expressions.{Readers, args, target_of, below}
use Rattle.os_parser_grammar.specs.Reading.{Read, Reader, got, fails, after, mark_at, begins, expect}
use Rattle.os_parser_grammar.specs.Statements.{Inner, deep, readers_of, inner, inner_item, list_of, name, target, type_words, begins_type, declared, head_declared, change, change_begun, change_of, before, named_stmt, block_item, stmts, block, condition, if_stmt, while_stmt, start, head_test, step, head, HeadTree, for_stmt, return_stmt, clauses, task, ticked, tick, taskwait, pragma, stmt_by, stmt_on, param, params, function, number, minus, constant, item, is_more, program, number_by}
use Rattle.os_parser_grammar.specs.declared.stmt_start.StmtStart.{StmtStart}
use Rattle.os_parser_grammar.specs.declared.stmt_start.StmtStart.TheVariants as starts
use Rattle.os_parser_grammar.proofs.SameKinds.{same-self}
use Rattle.os_parser_grammar.proofs.Sound.{Takes, Sound, sound-then, sound-if, begins-bare, begins-marked, expect-sound}
use Rattle.os_parser_grammar.proofs.SoundExprs.{SoundReaders, SoundBelow, sound-deeper, args-sound, target_of-sound, expr-sound, operand-sound, below-sound}
use Rattle.os_parser_grammar.proofs.SoundParts.{ReadPart, Spelled, many-sound, list_of-sound, name-sound, target-sound, type-sound, declared-sound, head_declared-sound, Changes, change_of-sound, before-sound, ended-sound, clauses-sound}

-- a statement that the tokens spell; no `else` that would be its own is left
pub record ReadStmt (d : ℕ) (ts : List Placed) (s : StmtTree) (rest : List Placed) : Type 0 where
  pub leveled : IsStmt s
  pub shallow : stmt_depth s ≤ d
  pub takes : Takes (spelling.stmt s) ts rest
  pub settled : takes_else s ≡ true → begins (kind.Key keys.Else) rest ≡ false

-- a statement or a declaration
pub data IsInner : StmtTree → Type 0 where
  a_declare : {t : Ty} {ds : List tree.DeclaratorTree} → AreListed IsDeclarator ds → IsInner (tree.StmtTree.Declare t ds)
  a_stmt : {s : StmtTree} → IsStmt s → IsInner s

abbrev pub ReadInner : ℕ → List Placed → StmtTree → List Placed → Type 0
ReadInner d = ReadPart IsInner stmt_depth spelling.stmt d

pub record SoundInner (d : ℕ) (r : Inner) : Type 0 where
  pub readers : SoundReaders d r.readers
  pub stmt : (ts : List Placed) → Sound (ReadStmt d ts) (r.stmt ts)
  pub item : (ts : List Placed) → Sound (ReadInner d ts) (r.item ts)

abbrev pub SoundDeep : ℕ → Option Inner → Type 0
SoundDeep d None = Unit {0}
SoundDeep d (Some r) = SoundInner d r

pub sound-deep : {A : Type 0} (P : A → List Placed → Type 0) (d : ℕ) (s : Option Inner) (ts : List Placed) (f : Inner → Read A) →
    SoundDeep d s → ((r : Inner) → SoundInner d r → Sound P (f r)) → Sound P (deep s ts f)
sound-deep P d None ts f h k = tt
sound-deep P d (Some r) ts f h k = k r h

pub readers_of-sound : (d : ℕ) (s : Option Inner) → SoundDeep d s → SoundBelow d (readers_of s)
readers_of-sound d None h = tt
readers_of-sound d (Some r) h = h.readers

-- blocks
pub are-more : {s : StmtTree} {ss : Stmts} → IsInner s → AreStmts ss → AreStmts (tree.stmt s ss)
are-more (a_declare ds) rest = leveled.AreStmts.declare ds rest
are-more (a_stmt s) rest = leveled.AreStmts.stmt s rest

abbrev pub closed : Stmts → Printer
closed ss = spelling.stmts ss ⨾ spelling.punct puncts.CloseBrace

pub stmts-sound : (f d : ℕ) (item : Reader StmtTree) (ts : List Placed) → ((us : List Placed) → Sound (ReadInner d us) (item us)) →
    Sound (ReadPart AreStmts stmts_depth closed d ts) (stmts f item ts)
unfolding stmts
stmts-sound zero d item ts h = tt
stmts-sound (suc f) d item ts h =
    sound-if _ (begins (kind.Punct puncts.CloseBrace) ts) _ _
    (λ brace. record { leveled = leveled.AreStmts.no_stmts; shallow = omega arith; takes = λ ps g. begins-bare (kind.Punct puncts.CloseBrace) ts brace ps g })
    (λ _. sound-then _ _ (item ts) _ (h ts) (λ s us rs.
    sound-then _ _ (stmts f item us) _ (stmts-sound f d item us h) (λ ss vs rss.
    record {
      leveled = are-more rs.leveled rss.leveled;
      shallow = omega (arith, rs.shallow, rss.shallow);
      takes = λ ps g. rs.takes _ (rss.takes ps g);
    })))

pub block-sound : (d : ℕ) (s : Option Inner) (ts : List Placed) → SoundDeep d s → Sound (ReadPart AreStmts stmts_depth closed d ts) (block s ts)
unfolding block inner_item
block-sound d s ts h = stmts-sound (suc (length ts)) d (inner_item s) ts (λ us. sound-deep _ d s us _ h (λ r i. i.item us))

pub as-inner : (d : ℕ) (ts : List Placed) (r : Read StmtTree) → Sound (ReadStmt d ts) r → Sound (ReadInner d ts) r
as-inner d ts (got s rest) h = record { leveled = a_stmt h.leveled; shallow = h.shallow; takes = h.takes }
as-inner d ts (fails rest) h = tt

pub block_item-sound : (d : ℕ) (b : Option Readers) (stmt : Reader StmtTree) (ts : List Placed) → SoundBelow d b →
    Sound (ReadStmt (suc d) ts) (stmt ts) → Sound (ReadInner (suc d) ts) (block_item b stmt ts)
unfolding block_item
block_item-sound d b stmt ts h s =
    sound-if _ (begins_type ts) _ _
    (λ _. sound-then _ _ (type_words ts) _ (type-sound ts) (λ t us rt.
    sound-then _ _ (declared b us) _ (declared-sound d b us h) (λ ds vs rd.
    record { leveled = a_declare rd.leveled; shallow = omega (arith, rd.shallow); takes = λ ps g. rt _ (rd.takes ps g) })))
    (λ _. as-inner (suc d) ts (stmt ts) s)

-- conditions
pub condition-sound : (d : ℕ) (r : Readers) (ts : List Placed) → SoundReaders d r →
    Sound (ReadPart IsExpr expr_depth (λ e. spelling.in_parens (spelling.expr e)) d ts) (condition r ts)
unfolding condition
condition-sound d r ts s =
    sound-then _ _ (expect (kind.Punct puncts.OpenParen) ts) _ (expect-sound _ ts) (λ _ us opens.
    sound-then _ _ (r.expr us) _ (s.expr us) (λ e vs re.
    sound-then _ _ (expect (kind.Punct puncts.CloseParen) vs) _ (expect-sound _ vs) (λ _ ws closes.
    record { leveled = re.leveled; shallow = re.shallow; takes = λ ps g. opens.plain _ (re.takes _ (closes.plain ps g)) })))

pub clash : (b : Bool) → b ≡ true → (b ≡ true → ⊥) → b ≡ false
clash true e h = absurd (h e)
clash false e h = refl

pub none-left : (s : StmtTree) (rest : List Placed) (b : Bool) → takes_else s ≡ b → (takes_else s ≡ true → begins (kind.Key keys.Else) rest ≡ false) →
    begins (kind.Key keys.Else) rest ≡ true → takes_else s ≡ false
none-left s rest true is settled e = absurd (cc (settled is, e))
none-left s rest false is settled e = is

pub if-sound : (d : ℕ) (s : Option Inner) (ts : List Placed) → SoundDeep d s → begins (kind.Key keys.If) ts ≡ true →
    Sound (ReadStmt (suc d) ts) (if_stmt s ts)
unfolding if_stmt
if-sound d s ts h word =
    sound-deep _ d s ts _ h (λ r i. sound-then _ _ (condition r.readers (after ts)) _ (condition-sound d r.readers (after ts) i.readers) (λ c us rc.
    sound-then _ _ (r.stmt us) _ (i.stmt us) (λ x vs rx.
    sound-if _ (begins (kind.Key keys.Else) vs) _ _
    (λ other. sound-then _ _ (r.stmt (after vs)) _ (i.stmt (after vs)) (λ y ws ry.
    record {
      leveled = leveled.IsStmt.if_else rc.leveled rx.leveled (none-left x vs (takes_else x) refl rx.settled other) ry.leveled;
      shallow = omega (arith, rc.shallow, rx.shallow, ry.shallow);
      takes = λ ps g. begins-bare (kind.Key keys.If) ts word _ (rc.takes _ (rx.takes _ (begins-bare (kind.Key keys.Else) vs other _ (ry.takes ps g))));
      settled = ry.settled;
    }))
    (λ none. record {
      leveled = leveled.IsStmt.if_alone rc.leveled rx.leveled;
      shallow = omega (arith, rc.shallow, rx.shallow);
      takes = λ ps g. begins-bare (kind.Key keys.If) ts word _ (rc.takes _ (rx.takes ps g));
      settled = λ _. none;
    }))))

pub while-sound : (d : ℕ) (s : Option Inner) (ts : List Placed) → SoundDeep d s → begins (kind.Key keys.While) ts ≡ true →
    Sound (ReadStmt (suc d) ts) (while_stmt s ts)
unfolding while_stmt
while-sound d s ts h word =
    sound-deep _ d s ts _ h (λ r i. sound-then _ _ (condition r.readers (after ts)) _ (condition-sound d r.readers (after ts) i.readers) (λ c us rc.
    sound-then _ _ (r.stmt us) _ (i.stmt us) (λ x vs rx.
    record {
      leveled = leveled.IsStmt.while rc.leveled rx.leveled;
      shallow = omega (arith, rc.shallow, rx.shallow);
      takes = λ ps g. begins-bare (kind.Key keys.While) ts word _ (rc.takes _ (rx.takes ps g));
      settled = rx.settled;
    })))

-- how tokens begin a statement
pub data Starts : Kind → StmtStart → Type 0 where
  a_semicolon : Starts (kind.Punct puncts.Semicolon) starts.Semicolon
  a_brace : Starts (kind.Punct puncts.OpenBrace) starts.Brace
  a_name : (n : ℕ) → Starts (kind.Name n) (starts.Name n)
  a_step : (s : Step) → Starts (kind.Punct (step_mark s)) (starts.Step s)
  an_if : Starts (kind.Key keys.If) starts.If
  a_while : Starts (kind.Key keys.While) starts.While
  a_for : Starts (kind.Key keys.For) starts.For
  a_break : Starts (kind.Key keys.Break) starts.Break
  a_continue : Starts (kind.Key keys.Continue) starts.Continue
  a_return : Starts (kind.Key keys.Return) starts.Return
  a_pragma : Starts kind.PragmaStart starts.Pragma
  another : {k : Kind} → Starts k starts.Other

pub punct-starts : (p : Punct) → Starts (kind.Punct p) (punct_stmt p)
punct-starts puncts.Semicolon = a_semicolon
punct-starts puncts.OpenBrace = a_brace
punct-starts puncts.Up = a_step step_of.Up
punct-starts puncts.Down = a_step step_of.Down
punct-starts _ = another

pub key-starts : (k : Key) → Starts (kind.Key k) (key_stmt k)
key-starts keys.If = an_if
key-starts keys.While = a_while
key-starts keys.For = a_for
key-starts keys.Break = a_break
key-starts keys.Continue = a_continue
key-starts keys.Return = a_return
key-starts _ = another

pub kind-starts : (k : Kind) → Starts k (stmt_start k)
kind-starts (kind.Name n) = a_name n
kind-starts (kind.Punct p) = punct-starts p
kind-starts (kind.Key k) = key-starts k
kind-starts (kind.Number n) = another
kind-starts (kind.Wide n) = another
kind-starts kind.PragmaStart = a_pragma
kind-starts kind.PragmaEnd = another

-- heads of for
pub change-begun : {k : Kind} {st : StmtStart} (d : ℕ) (b : Option Readers) (m : Mark) (ts : List Placed) → SoundBelow d b → Starts k st →
    Sound (Changes d (placed k m ∷ ts)) (change_begun st b (placed k m ∷ ts))
change-begun d b m ts h (a_name n) =
    sound-then _ _ (target b (placed (kind.Name n) m ∷ ts)) _ (target-sound d b _ h) (λ t us rt. change_of-sound d b t _ us h rt)
change-begun d b m ts h (a_step s) = before-sound d b s _ h (same-self (kind.Punct (step_mark s)))
change-begun d b m ts h a_semicolon = tt
change-begun d b m ts h a_brace = tt
change-begun d b m ts h an_if = tt
change-begun d b m ts h a_while = tt
change-begun d b m ts h a_for = tt
change-begun d b m ts h a_break = tt
change-begun d b m ts h a_continue = tt
change-begun d b m ts h a_return = tt
change-begun d b m ts h a_pragma = tt
change-begun d b m ts h another = tt

pub change-sound : (d : ℕ) (b : Option Readers) (ts : List Placed) → SoundBelow d b → Sound (Changes d ts) (change b ts)
unfolding change
change-sound d b [] h = tt
change-sound d b (placed k m ∷ ts) h = change-begun d b m ts h (kind-starts k)

pub start-sound : (d : ℕ) (b : Option Readers) (ts : List Placed) → SoundBelow d b →
    Sound (ReadPart IsStart start_depth spelling.start d ts) (start b ts)
unfolding start
start-sound d b ts h =
    sound-if _ (begins (kind.Punct puncts.Semicolon) ts) _ _
    (λ semicolon. record { leveled = leveled.IsStart.empty; shallow = omega arith; takes = λ ps g. begins-bare (kind.Punct puncts.Semicolon) ts semicolon ps g })
    (λ _. sound-if _ (begins_type ts) _ _
    (λ _. sound-then _ _ (type_words ts) _ (type-sound ts) (λ t us rt.
    sound-then _ _ (head_declared b us) _ (head_declared-sound d b us h) (λ ds vs rd.
    record { leveled = leveled.IsStart.declare rd.leveled; shallow = rd.shallow; takes = λ ps g. rt _ (rd.takes ps g) })))
    (λ _. ended-sound (Changes d ts) _ (change b ts) tree.StartTree.Change (change-sound d b ts h) (λ c us vs rc semicolon.
    record { leveled = leveled.IsStart.change rc.leveled; shallow = rc.shallow; takes = λ ps g. rc.takes _ (semicolon ps g) })))

pub test-sound : (d : ℕ) (r : Readers) (ts : List Placed) → SoundReaders d r →
    Sound (ReadPart (IsOptional IsExpr) value_depth (λ e. spelling.optional spelling.expr e ⨾ spelling.punct puncts.Semicolon) d ts) (head_test r ts)
unfolding head_test
test-sound d r ts s =
    sound-if _ (begins (kind.Punct puncts.Semicolon) ts) _ _
    (λ semicolon. record { leveled = leveled.IsOptional.absent; shallow = omega arith; takes = λ ps g. begins-bare (kind.Punct puncts.Semicolon) ts semicolon ps g })
    (λ _. ended-sound _ _ (r.expr ts) Some (s.expr ts) (λ e us vs re semicolon.
    record { leveled = leveled.IsOptional.present re.leveled; shallow = re.shallow; takes = λ ps g. re.takes _ (semicolon ps g) }))

pub step-sound : (d : ℕ) (b : Option Readers) (ts : List Placed) → SoundBelow d b →
    Sound (ReadPart (IsOptional IsChange) step_depth (λ c. spelling.optional spelling.change c ⨾ spelling.punct puncts.CloseParen) d ts) (step b ts)
unfolding step
step-sound d b ts h =
    sound-if _ (begins (kind.Punct puncts.CloseParen) ts) _ _
    (λ closes. record { leveled = leveled.IsOptional.absent; shallow = omega arith; takes = λ ps g. begins-bare (kind.Punct puncts.CloseParen) ts closes ps g })
    (λ _. sound-then _ _ (change b ts) _ (change-sound d b ts h) (λ c us rc.
    sound-then _ _ (expect (kind.Punct puncts.CloseParen) us) _ (expect-sound _ us) (λ _ vs closes.
    record { leveled = leveled.IsOptional.present rc.leveled; shallow = rc.shallow; takes = λ ps g. rc.takes _ (closes.plain ps g) })))

-- the head of a for
abbrev pub head_spelling : HeadTree → Printer
head_spelling h =
    spelling.in_parens (spelling.start h.start ⨾ spelling.optional spelling.expr h.test ⨾ spelling.punct puncts.Semicolon ⨾ spelling.optional spelling.change h.step)

pub record ReadHead (d : ℕ) (ts : List Placed) (h : HeadTree) (rest : List Placed) : Type 0 where
  pub start : IsStart h.start
  pub start_shallow : start_depth h.start ≤ d
  pub test : IsOptional IsExpr h.test
  pub test_shallow : value_depth h.test ≤ d
  pub step : IsOptional IsChange h.step
  pub step_shallow : step_depth h.step ≤ d
  pub takes : Takes (head_spelling h) ts rest

pub head-sound : (d : ℕ) (r : Readers) (ts : List Placed) → SoundReaders d r → Sound (ReadHead d ts) (head (Some r) ts)
unfolding head
head-sound d r ts i =
    sound-then _ _ (expect (kind.Punct puncts.OpenParen) ts) _ (expect-sound _ ts) (λ _ t1 opens.
    sound-then _ _ (start (Some r) t1) _ (start-sound d (Some r) t1 i) (λ st t2 rs.
    sound-then _ _ (head_test r t2) _ (test-sound d r t2 i) (λ e t3 re.
    sound-then _ _ (step (Some r) t3) _ (step-sound d (Some r) t3 i) (λ c t4 rc.
    record {
      start = rs.leveled;
      start_shallow = rs.shallow;
      test = re.leveled;
      test_shallow = re.shallow;
      step = rc.leveled;
      step_shallow = rc.shallow;
      takes = λ ps g. opens.plain _ (rs.takes _ (re.takes _ (rc.takes ps g)));
    }))))

pub for-sound : (d : ℕ) (s : Option Inner) (ts : List Placed) → SoundDeep d s → begins (kind.Key keys.For) ts ≡ true →
    Sound (ReadStmt (suc d) ts) (for_stmt s ts)
unfolding for_stmt
for-sound d s ts h word =
    sound-deep _ d s ts _ h (λ r i. sound-then _ _ (head (Some r.readers) (after ts)) _ (head-sound d r.readers (after ts) i.readers) (λ f us rf.
    sound-then _ _ (r.stmt us) _ (i.stmt us) (λ x vs rx.
    record {
      leveled = leveled.IsStmt.for rf.start rf.test rf.step rx.leveled;
      shallow = omega (arith, rf.start_shallow, rf.test_shallow, rf.step_shallow, rx.shallow);
      takes = λ ps g. begins-bare (kind.Key keys.For) ts word _ (rf.takes _ (rx.takes ps g));
      settled = rx.settled;
    })))

-- a statement after which no `else` would be its own
pub return-sound : (d : ℕ) (b : Option Readers) (ts : List Placed) → SoundBelow d b → begins (kind.Key keys.Return) ts ≡ true →
    Sound (ReadStmt (suc d) ts) (return_stmt b ts)
unfolding return_stmt
return-sound d b ts h word =
    sound-deeper _ d b ts _ h (λ r i. ended-sound _ _ (r.expr (after ts)) (tree.Return (mark_at ts)) (i.expr (after ts)) (λ e us vs re semicolon.
    record {
      leveled = leveled.IsStmt.return re.leveled;
      shallow = omega (arith, re.shallow);
      takes = λ ps g. begins-marked (kind.Key keys.Return) ts word _ (re.takes _ (semicolon ps g));
      settled = λ e. absurd (cc e);
    }))

pub changed : (d : ℕ) (us : List Placed) (c : ChangeTree) (ws xs : List Placed) → Changes d us c ws → Takes (spelling.punct puncts.Semicolon) ws xs →
    ReadStmt (suc d) us (tree.StmtTree.Change c) xs
changed d us c ws xs rc semicolon = record {
  leveled = leveled.IsStmt.change rc.leveled;
  shallow = omega (arith, rc.shallow);
  takes = λ ps g. rc.takes _ (semicolon ps g);
  settled = λ e. absurd (cc e);
}

-- the name stands before the tokens
pub named-sound : (d : ℕ) (b : Option Readers) (n : Name) (us ts : List Placed) → SoundBelow d b → Takes (spelling.name n) us ts →
    Sound (ReadStmt (suc d) us) (named_stmt b n ts)
unfolding named_stmt
named-sound d b n us ts h name =
    sound-if _ (begins (kind.Punct puncts.OpenParen) ts) _ _
    (λ opens. ended-sound _ _ (args b ts) (tree.StmtTree.Call n) (args-sound d b ts h opens) (λ es vs ws res semicolon.
    record {
      leveled = leveled.IsStmt.call res.leveled;
      shallow = omega (arith, res.shallow);
      takes = λ ps g. name _ (res.takes _ (semicolon ps g));
      settled = λ e. absurd (cc e);
    }))
    (λ _. sound-then _ _ (target_of b n ts) _ (target_of-sound d b n ts us h name) (λ t vs rt.
    ended-sound (Changes d us) _ (change_of b t vs) tree.StmtTree.Change (change_of-sound d b t us vs h rt) (λ c ws xs rc semicolon.
    changed d us c ws xs rc semicolon)))

-- pragmas
abbrev pub opened : Mark → ℕ → Printer
opened m word = spelling.pragma m ⨾ spelling.omp ⨾ spelling.word word

pub task-sound : (d : ℕ) (m : Mark) (s : Option Inner) (us ts : List Placed) → SoundDeep d s → Takes (opened m task_id) us (after ts) →
    Sound (ReadStmt (suc d) us) (task m s ts)
unfolding task
task-sound d m s us ts h opens =
    sound-deep _ d s ts _ h (λ r i. sound-then _ _ (clauses (Some r.readers) (after ts)) _ (clauses-sound d (Some r.readers) (after ts) i.readers) (λ cs t1 rcs.
    sound-then _ _ (expect kind.PragmaEnd t1) _ (expect-sound _ t1) (λ _ t2 ends.
    sound-then _ _ (r.stmt t2) _ (i.stmt t2) (λ x t3 rx.
    record {
      leveled = leveled.IsStmt.task rcs.leveled rx.leveled;
      shallow = omega (arith, rcs.shallow, rx.shallow);
      takes = λ ps g. opens _ (rcs.takes _ (ends.plain _ (rx.takes ps g)));
      settled = rx.settled;
    }))))

pub tick-sound : (d : ℕ) (m : Mark) (b : Option Readers) (us ts : List Placed) → SoundBelow d b → Takes (opened m tick_id) us (after ts) →
    Sound (ReadStmt (suc d) us) (tick m b ts)
unfolding tick ticked
tick-sound d m b us ts h opens =
    sound-then (λ x rest. (vs : List Placed) → Takes (spelling.token kind.PragmaEnd) rest vs → ReadStmt (suc d) us x vs) _ (ticked m b ts) _
    (sound-deeper _ d b ts _ h (λ r i. sound-then _ _ (expect (kind.Punct puncts.OpenParen) (after ts)) _ (expect-sound _ (after ts)) (λ _ t1 e1.
    sound-then _ _ (target b t1) _ (target-sound d b t1 h) (λ t t2 rt.
    sound-then _ _ (expect (kind.Punct puncts.ShiftRight) t2) _ (expect-sound _ t2) (λ a t3 arrow.
    sound-then _ _ (r.expr t3) _ (i.expr t3) (λ e t4 re.
    sound-then _ _ (expect (kind.Punct puncts.CloseParen) t4) _ (expect-sound _ t4) (λ _ t5 e5.
    λ vs ends.
    record {
      leveled = leveled.IsStmt.tick rt.leveled re.leveled;
      shallow = omega (arith, rt.shallow, re.shallow);
      takes = λ ps g. opens _ (e1.plain _ (rt.takes _ (arrow.noted _ (re.takes _ (e5.plain _ (ends ps g))))));
      settled = λ e. absurd (cc e);
    }))))))) (λ x rest f. sound-then _ _ (expect kind.PragmaEnd rest) _ (expect-sound _ rest) (λ _ vs ends. f vs ends.plain))

pub taskwait-sound : (d : ℕ) (m : Mark) (us ts : List Placed) → Takes (opened m taskwait_id) us ts → Sound (ReadStmt (suc d) us) (taskwait m ts)
unfolding taskwait
taskwait-sound d m us ts opens =
    sound-then _ _ (expect kind.PragmaEnd ts) _ (expect-sound _ ts) (λ _ vs ends.
    record {
      leveled = leveled.IsStmt.taskwait;
      shallow = omega arith;
      takes = λ ps g. opens _ (ends.plain ps g);
      settled = λ e. absurd (cc e);
    })

pub pragma-sound : (d : ℕ) (s : Option Inner) (ts : List Placed) → SoundDeep d s → begins kind.PragmaStart ts ≡ true →
    Sound (ReadStmt (suc d) ts) (pragma s ts)
unfolding pragma
pragma-sound d s ts h is =
    sound-then _ _ (expect (kind.Name omp_id) (after ts)) _ (expect-sound _ (after ts)) (λ _ us omp.
    sound-if _ (begins (kind.Name task_id) us) _ _
    (λ word. task-sound d (mark_at ts) s ts us h (λ ps g. begins-marked kind.PragmaStart ts is _ (omp.plain _ (begins-bare (kind.Name task_id) us word ps g))))
    (λ _. sound-if _ (begins (kind.Name tick_id) us) _ _
    (λ word. tick-sound d (mark_at ts) (readers_of s) ts us (readers_of-sound d s h) (λ ps g. begins-marked kind.PragmaStart ts is _ (omp.plain _ (begins-bare (kind.Name tick_id) us word ps g))))
    (λ _. sound-if _ (begins (kind.Name taskwait_id) us) _ _
    (λ word. taskwait-sound d (mark_at ts) ts (after us) (λ ps g. begins-marked kind.PragmaStart ts is _ (omp.plain _ (begins-bare (kind.Name taskwait_id) us word ps g))))
    (λ _. tt))))

-- statements
pub stmt-starts : {k : Kind} {st : StmtStart} (d : ℕ) (s : Option Inner) (m : Mark) (ts : List Placed) → SoundDeep d s → Starts k st →
    Sound (ReadStmt (suc d) (placed k m ∷ ts)) (stmt_by st s (placed k m ∷ ts))
unfolding stmt_by
stmt-starts d s m ts h a_semicolon =
    record { leveled = leveled.IsStmt.empty; shallow = omega arith; takes = λ ps g. means.bare g; settled = λ e. absurd (cc e) }
stmt-starts d s m ts h a_brace =
    sound-then _ _ (block s ts) _ (block-sound d s ts h) (λ ss us rss.
    record {
      leveled = leveled.IsStmt.block rss.leveled;
      shallow = omega (arith, rss.shallow);
      takes = λ ps g. means.bare (rss.takes ps g);
      settled = λ e. absurd (cc e);
    })
stmt-starts d s m ts h (a_name n) = named-sound d (readers_of s) (record { id = n; mark = m }) _ ts (readers_of-sound d s h) (λ ps g. means.marked g)
stmt-starts d s m ts h (a_step st) =
    ended-sound (Changes d _) _ (before st (readers_of s) _) tree.StmtTree.Change
    (before-sound d (readers_of s) st _ (readers_of-sound d s h) (same-self (kind.Punct (step_mark st)))) (λ c us vs rc semicolon.
    changed d _ c us vs rc semicolon)
stmt-starts d s m ts h an_if = if-sound d s _ h (same-self (kind.Key keys.If))
stmt-starts d s m ts h a_while = while-sound d s _ h (same-self (kind.Key keys.While))
stmt-starts d s m ts h a_for = for-sound d s _ h (same-self (kind.Key keys.For))
stmt-starts d s m ts h a_break =
    sound-then _ _ (expect (kind.Punct puncts.Semicolon) ts) _ (expect-sound _ ts) (λ _ vs semicolon.
    record { leveled = leveled.IsStmt.break; shallow = omega arith; takes = λ ps g. means.marked (semicolon.plain ps g); settled = λ e. absurd (cc e) })
stmt-starts d s m ts h a_continue =
    sound-then _ _ (expect (kind.Punct puncts.Semicolon) ts) _ (expect-sound _ ts) (λ _ vs semicolon.
    record { leveled = leveled.IsStmt.continue; shallow = omega arith; takes = λ ps g. means.marked (semicolon.plain ps g); settled = λ e. absurd (cc e) })
stmt-starts d s m ts h a_return = return-sound d (readers_of s) _ (readers_of-sound d s h) (same-self (kind.Key keys.Return))
stmt-starts d s m ts h a_pragma = pragma-sound d s _ h (same-self kind.PragmaStart)
stmt-starts d s m ts h another = tt

pub stmt-sound : (d : ℕ) (s : Option Inner) (ts : List Placed) → SoundDeep d s → Sound (ReadStmt (suc d) ts) (stmt_on s ts)
unfolding stmt_on stmt_by
stmt-sound d s [] h = tt
stmt-sound d s (placed k m ∷ ts) h = stmt-starts d s m ts h (kind-starts k)

pub inner-sound : (d : ℕ) → SoundDeep d (inner d)
unfolding inner
inner-sound zero = tt
inner-sound (suc d) = record {
  readers = record {
    expr = λ ts. expr-sound d (below d) ts (below-sound d);
    operand = λ ts. operand-sound d (below d) ts (below-sound d);
  };
  stmt = λ ts. stmt-sound d (inner d) ts (inner-sound d);
  item = λ ts. block_item-sound d (below d) (stmt_on (inner d)) ts (below-sound d) (stmt-sound d (inner d) ts (inner-sound d));
}

-- functions and constants
pub data IsParam : Param → Type 0 where
  any_param : {p : Param} → IsParam p

unfoldable pub no_depth : Param → ℕ
no_depth p = 0

pub param-sound : (ts : List Placed) → Sound (ReadPart IsParam no_depth spelling.param 0 ts) (param ts)
unfolding param no_depth
param-sound ts =
    sound-then _ _ (type_words ts) _ (type-sound ts) (λ t us rt.
    sound-then _ _ (name us) _ (name-sound us) (λ n vs rn.
    record { leveled = any_param; shallow = omega arith; takes = λ ps g. rt _ (rn ps g) }))

pub names-are : {ps : List Param} → AreListed IsParam ps → IsParams (params_of.Names ps)
names-are (leveled.AreListed.listed x xs) = leveled.IsParams.names

pub record ReadParams (ts : List Placed) (p : Params) (rest : List Placed) : Type 0 where
  pub leveled : IsParams p
  pub takes : Takes (spelling.params p) ts rest

pub params-sound : (ts : List Placed) → Sound (ReadParams ts) (params ts)
unfolding params
params-sound ts =
    sound-if _ (begins (kind.Punct puncts.CloseParen) ts) _ _
    (λ _. record { leveled = leveled.IsParams.empty; takes = λ ps g. g })
    (λ _. sound-if _ (begins (kind.Key keys.Void) ts) _ _
    (λ word. record { leveled = leveled.IsParams.void; takes = λ ps g. begins-bare (kind.Key keys.Void) ts word ps g })
    (λ _. sound-then _ _ (list_of param ts) _ (list_of-sound IsParam no_depth spelling.param 0 param ts param-sound) (λ ns us rns.
    record { leveled = names-are rns.leveled; takes = rns.takes })))

abbrev pub ReadItem : ℕ → List Placed → ItemTree → List Placed → Type 0
ReadItem d = ReadPart IsItem item_depth spelling.item d

pub function-sound : (d : ℕ) (s : Option Inner) (ts : List Placed) → SoundDeep d s →
    Sound (ReadItem (suc d) ts) (function s ts)
unfolding function
function-sound d s ts h =
    sound-then _ _ (type_words ts) _ (type-sound ts) (λ t t0 rt.
    sound-then _ _ (name t0) _ (name-sound t0) (λ n t1 rn.
    sound-then _ _ (expect (kind.Punct puncts.OpenParen) t1) _ (expect-sound _ t1) (λ _ t2 e2.
    sound-then _ _ (params t2) _ (params-sound t2) (λ ps t3 rps.
    sound-then _ _ (expect (kind.Punct puncts.CloseParen) t3) _ (expect-sound _ t3) (λ _ t4 e4.
    sound-then _ _ (expect (kind.Punct puncts.OpenBrace) t4) _ (expect-sound _ t4) (λ _ t5 e5.
    sound-then _ _ (block s t5) _ (block-sound d s t5 h) (λ ss t6 rss.
    record {
      leveled = leveled.IsItem.function rps.leveled rss.leveled;
      shallow = omega (arith, rss.shallow);
      takes = λ qs g. rt _ (rn _ (e2.plain _ (rps.takes _ (e4.plain _ (e5.plain _ (rss.takes qs g))))));
    })))))))

pub data IsNumeral : Numeral → Type 0 where
  small : {n : ℕ} → n < 2 ^ 31 → IsNumeral (record { size = n; wide = false })
  wide : {n : ℕ} → n < 2 ^ 32 → IsNumeral (record { size = n; wide = true })

pub record ReadNumber (ts : List Placed) (v : Numeral) (rest : List Placed) : Type 0 where
  pub is : IsNumeral v
  pub takes : Takes (spelling.numeral v.wide v.size) ts rest

pub constant-is : {t : Ty} {n : Name} {m : Bool} {v : Numeral} → IsNumeral v → IsItem (tree.Constant (record { ty = t; name = n; minus = m; size = v.size; wide = v.wide }))
constant-is (small h) = leveled.IsItem.constant h
constant-is (wide h) = leveled.IsItem.wide_constant h

pub number-cases : (n : ℕ) (m : Mark) (ts : List Placed) (b : Bool) → nat_lt n (2 ^ 31) ≡ b →
    Sound (ReadNumber (placed (kind.Number n) m ∷ ts)) (number_by (cond b (Some (record { size = n; wide = false })) None) (placed (kind.Number n) m ∷ ts))
number-cases n m ts true e = record { is = small (ltb-true n _ e); takes = λ ps g. means.bare g }
number-cases n m ts false e = tt

pub wide-cases : (n : ℕ) (m : Mark) (ts : List Placed) (b : Bool) → nat_lt n (2 ^ 32) ≡ b →
    Sound (ReadNumber (placed (kind.Wide n) m ∷ ts)) (number_by (cond b (Some (record { size = n; wide = true })) None) (placed (kind.Wide n) m ∷ ts))
wide-cases n m ts true e = record { is = wide (ltb-true n _ e); takes = λ ps g. means.bare g }
wide-cases n m ts false e = tt

pub number-sound : (ts : List Placed) → Sound (ReadNumber ts) (number ts)
unfolding number
number-sound [] = tt
number-sound (placed (kind.Number n) m ∷ ts) = number-cases n m ts (nat_lt n (2 ^ 31)) refl
number-sound (placed (kind.Wide n) m ∷ ts) = wide-cases n m ts (nat_lt n (2 ^ 32)) refl
number-sound (placed (kind.Name n) m ∷ ts) = tt
number-sound (placed (kind.Punct p) m ∷ ts) = tt
number-sound (placed (kind.Key k) m ∷ ts) = tt
number-sound (placed kind.PragmaStart m ∷ ts) = tt
number-sound (placed kind.PragmaEnd m ∷ ts) = tt

pub minus-sound : (ts : List Placed) → Sound (Spelled spelling.sign ts) (minus ts)
unfolding minus
minus-sound ts =
    sound-if _ (begins (kind.Punct puncts.Minus) ts) _ _
    (λ is ps g. begins-bare (kind.Punct puncts.Minus) ts is ps g)
    (λ _ ps g. g)

pub constant-sound : (d : ℕ) (ts : List Placed) → begins (kind.Key keys.Const) ts ≡ true → Sound (ReadItem d ts) (constant ts)
unfolding constant
constant-sound d ts word =
    sound-then _ _ (type_words (after ts)) _ (type-sound (after ts)) (λ t t1 rt.
    sound-then _ _ (name t1) _ (name-sound t1) (λ n t2 rn.
    sound-then _ _ (expect (kind.Punct puncts.Set) t2) _ (expect-sound _ t2) (λ _ t3 e3.
    sound-then _ _ (minus t3) _ (minus-sound t3) (λ m t4 rm.
    sound-then _ _ (number t4) _ (number-sound t4) (λ v t5 rv.
    sound-then _ _ (expect (kind.Punct puncts.Semicolon) t5) _ (expect-sound _ t5) (λ _ t6 e6.
    record {
      leveled = constant-is rv.is;
      shallow = omega arith;
      takes = λ ps g. begins-bare (kind.Key keys.Const) ts word _ (rt _ (rn _ (e3.plain _ (rm _ (rv.takes _ (e6.plain ps g))))));
    }))))))

pub item-sound : (d : ℕ) (s : Option Inner) (ts : List Placed) → SoundDeep d s → Sound (ReadItem (suc d) ts) (item s ts)
unfolding item
item-sound d s ts h =
    sound-if _ (begins (kind.Key keys.Const) ts) _ _
    (λ word. constant-sound (suc d) ts word)
    (λ _. function-sound d s ts h)

-- what is read as a program is one
pub program-sound : (d : ℕ) (ts : List Placed) →
    Sound (ReadPart (AreAll IsItem) program_depth spelling.program (suc d) ts) (program (inner d) ts)
unfolding program
program-sound d ts =
    many-sound (suc (length ts)) IsItem item_depth spelling.item (suc d) is_more (item (inner d)) ts (λ us _. item-sound d (inner d) us (inner-sound d))
