-- What reading statements and programs gives: one definition for each production.
use Rattle.std.specs.Prelude.{ℕ, zero, suc, ◌-◌, ◌||◌, Bool, true, false, not, List, [], ◌∷◌, length, Option, Some, None, option_map, if◌then◌else◌}
use Rattle.os_ast.specs.Limits.{depth_limit}
use Rattle.os_ast.specs.Means.{Placed}
use Rattle.os_ast.specs.Trees as tree
use Rattle.os_ast.specs.Trees.{ExprTree, TargetTree, IndexTree, Args, DeclaratorTree, ChangeTree, StartTree, JoinTree}
use Rattle.os_ast.specs.Trees.{ClauseItemTree, ClauseKindTree, ClauseTree, StmtTree, Stmts, ItemTree, ProgramTree}
use Rattle.os_ast.specs.declared.expr.Mark.{Mark}
use Rattle.os_ast.specs.declared.expr.Name.{Name}
use Rattle.os_ast.specs.declared.program.Param.{Param}
use Rattle.os_ast.specs.declared.program.Params.{Params}
use Rattle.os_ast.specs.declared.program.Params.TheVariants as params_of
use Rattle.os_ast.specs.Views.{expr_tree, target_tree, start_tree, change_tree}
use Rattle.os_ast.specs.declared.pragma.TickSite.{TickSite}
use Rattle.os_ast.specs.declared.stmt.Head.{Head}
use Rattle.os_ast.specs.declared.stmt.Step.{Step}
use Rattle.os_ast.specs.declared.ty.Ty.{Ty}
use Rattle.os_ast.specs.declared.ty.Ty.TheVariants as ty_of
use Rattle.os_lexer.specs.Names.{omp_id, task_id, tick_id, taskwait_id, input_id, output_id, firstprivate_id, stream_id}
use Rattle.os_lexer.specs.declared.token.Key.TheVariants as keys
use Rattle.os_lexer.specs.declared.token.Kind.TheVariants as kind
use Rattle.os_lexer.specs.declared.token.Punct.{Punct}
use Rattle.os_lexer.specs.declared.token.Punct.TheVariants as puncts
use Rattle.os_parser_grammar.specs.Beginners.{stmt_at, change_at, name_at, number_at}
use Rattle.os_parser_grammar.specs.Expressions.{Readers, deeper, index, target_of, args, below, layer}
use Rattle.os_parser_grammar.specs.Reading.{Read, Reader, got, fails, ◌>>=◌, after, mark_at, begins, expect}
use Rattle.os_parser_grammar.specs.declared.change_sign.ChangeSign.{ChangeSign}
use Rattle.os_parser_grammar.specs.declared.change_sign.ChangeSign.TheVariants as signs
use Rattle.os_parser_grammar.specs.declared.numeral.Numeral.{Numeral}
use Rattle.os_parser_grammar.specs.declared.stmt_start.StmtStart.{StmtStart}
use Rattle.os_parser_grammar.specs.declared.stmt_start.StmtStart.TheVariants as starts

-- { part }, as long as the tokens go on
unfoldable pub many : {A : Type 0} → ℕ → (List Placed → Bool) → Reader A → Reader (List A)
many zero goes part ts = fails ts
many (suc n) goes part ts =
    if goes ts then (part ts >>= λ x us. many n goes part us >>= λ xs vs. got (x ∷ xs) vs) else got [] ts

-- { "," part }
abbrev pub commas : {A : Type 0} → ℕ → Reader A → Reader (List A)
commas n part = many n (begins (kind.Punct puncts.Comma)) (λ ts. part (after ts))

-- part { "," part }
unfoldable pub list_of : {A : Type 0} → Reader A → Reader (List A)
list_of part ts = part ts >>= λ x us. commas (suc (length us)) part us >>= λ xs vs. got (x ∷ xs) vs

abbrev pub name_by : Option ℕ → Reader Name
name_by None ts = fails ts
name_by (Some id) ts = got (record { id = id; mark = mark_at ts }) (after ts)

-- name
unfoldable pub name : Reader Name
name ts = name_by (name_at ts) ts

-- target
unfoldable pub target : Option Readers → Reader TargetTree
target b ts = name ts >>= λ n us. target_of b n us

-- [ "[" expr "]" ]
unfoldable pub size : Option Readers → Reader (Option IndexTree)
size b ts = if begins (kind.Punct puncts.OpenBracket) ts then (index b ts >>= λ i us. got (Some i) us) else got None ts

-- what follows the `=` of a declarator, from that on
unfoldable pub value : Option Readers → Reader (Option ExprTree)
value b ts =
    if begins (kind.Punct puncts.Set) ts
    then deeper b ts (λ r. r.expr (after ts) >>= λ e us. got (Some e) us)
    else got None ts

-- [ "__attribute__" "(" "(" "stream" ")" ")" ]
unfoldable pub attribute : Reader Bool
attribute ts =
    if begins (kind.Key keys.Attribute) ts
    then (expect (kind.Punct puncts.OpenParen) (after ts) >>= λ _ t1. expect (kind.Punct puncts.OpenParen) t1 >>= λ _ t2.
    expect (kind.Name stream_id) t2 >>= λ _ t3. expect (kind.Punct puncts.CloseParen) t3 >>= λ _ t4.
    expect (kind.Punct puncts.CloseParen) t4 >>= λ _ t5. got true t5)
    else got false ts

-- what follows the attribute of a declarator without a size
abbrev pub scalar : Option Readers → Name → Bool → Reader DeclaratorTree
scalar b n true ts = got (record { name = n; size = None; stream = true; first = None }) ts
scalar b n false ts = value b ts >>= λ v us. got (record { name = n; size = None; stream = false; first = v }) us

abbrev pub declarator_by : Option Readers → Name → Option IndexTree → Bool → Reader DeclaratorTree
declarator_by b n (Some s) a ts = got (record { name = n; size = Some s; stream = a; first = None }) ts
declarator_by b n None a ts = scalar b n a ts

-- declr
unfoldable pub declarator : Option Readers → Reader DeclaratorTree
declarator b ts = name ts >>= λ n t1. size b t1 >>= λ s t2. attribute t2 >>= λ a t3. declarator_by b n s a t3

-- name [ "=" expr ]
unfoldable pub head_declarator : Option Readers → Reader DeclaratorTree
head_declarator b ts = name ts >>= λ n us. scalar b n false us

-- whether a type begins
abbrev pub begins_type : List Placed → Bool
begins_type ts = begins (kind.Key keys.Int) ts || begins (kind.Key keys.Unsigned) ts

-- type
unfoldable pub type_words : Reader Ty
type_words ts =
    if begins (kind.Key keys.Int) ts then got ty_of.Int (after ts) else
    if begins (kind.Key keys.Unsigned) ts
    then (if begins (kind.Key keys.Int) (after ts) then got ty_of.UnsignedInt (after (after ts)) else got ty_of.Unsigned (after ts))
    else fails ts

-- declare, behind its type
unfoldable pub declared : Option Readers → Reader (List DeclaratorTree)
declared b ts = list_of (declarator b) ts >>= λ ds us. expect (kind.Punct puncts.Semicolon) us >>= λ _ vs. got ds vs

-- declare1, behind its type
unfoldable pub head_declared : Option Readers → Reader (List DeclaratorTree)
head_declared b ts = list_of (head_declarator b) ts >>= λ ds us. expect (kind.Punct puncts.Semicolon) us >>= λ _ vs. got ds vs

abbrev pub change_by : ChangeSign → Option Readers → TargetTree → Reader ChangeTree
change_by (signs.Assign a) b t ts = deeper b ts (λ r. r.expr (after ts) >>= λ e us. got (tree.Set t a (mark_at ts) e) us)
change_by (signs.Step s) b t ts = got (tree.After t s (mark_at ts)) (after ts)
change_by signs.Other b t ts = fails ts

-- what follows the target of a change
unfoldable pub change_of : Option Readers → TargetTree → Reader ChangeTree
change_of b t ts = change_by (change_at ts) b t ts

-- a change that begins with its operator
unfoldable pub before : Step → Option Readers → Reader ChangeTree
before s b ts = target b (after ts) >>= λ t us. got (tree.Before t s (mark_at ts)) us

abbrev pub change_begun : StmtStart → Option Readers → Reader ChangeTree
change_begun (starts.Name id) b ts = target b ts >>= λ t us. change_of b t us
change_begun (starts.Step s) b ts = before s b ts
change_begun _ b ts = fails ts

-- change
unfoldable pub change : Option Readers → Reader ChangeTree
change b ts = change_begun (stmt_at ts) b ts

-- part ";"
abbrev pub ended : {A B : Type 0} → Read A → (A → B) → Read B
ended r f = r >>= λ x us. expect (kind.Punct puncts.Semicolon) us >>= λ _ vs. got (f x) vs

-- a statement that begins with a name, from what follows it
unfoldable pub named_stmt : Option Readers → Name → Reader StmtTree
named_stmt b n ts =
    if begins (kind.Punct puncts.OpenParen) ts
    then ended (args b ts) (tree.StmtTree.Call n)
    else (target_of b n ts >>= λ t us. ended (change_of b t us) tree.StmtTree.Change)

-- the readers of what stands one deeper than a statement
pub record Inner : Type 0 where
  pub readers : Readers
  pub stmt : Reader StmtTree
  pub item : Reader StmtTree

abbrev pub deep : {A : Type 0} → Option Inner → List Placed → (Inner → Read A) → Read A
deep None ts f = fails ts
deep (Some r) ts f = f r

-- the readers of expressions among them
abbrev pub readers_of : Option Inner → Option Readers
readers_of None = None
readers_of (Some r) = Some r.readers

-- a declaration or a statement in a block
unfoldable pub block_item : Option Readers → Reader StmtTree → Reader StmtTree
block_item b stmt ts =
    if begins_type ts then (type_words ts >>= λ t us. declared b us >>= λ ds vs. got (tree.StmtTree.Declare t ds) vs) else stmt ts

-- { declare | stmt } "}"
unfoldable pub stmts : ℕ → Reader StmtTree → Reader Stmts
stmts zero item ts = fails ts
stmts (suc n) item ts =
    if begins (kind.Punct puncts.CloseBrace) ts
    then got tree.no_stmts (after ts)
    else (item ts >>= λ s us. stmts n item us >>= λ ss vs. got (tree.stmt s ss) vs)

-- what stands in a block
unfoldable pub inner_item : Option Inner → Reader StmtTree
inner_item s ts = deep s ts (λ r. r.item ts)

-- what follows the `{` of a block
unfoldable pub block : Option Inner → Reader Stmts
block s ts = stmts (suc (length ts)) (inner_item s) ts

-- "(" expr ")"
unfoldable pub condition : Readers → Reader ExprTree
condition r ts =
    expect (kind.Punct puncts.OpenParen) ts >>= λ _ us. r.expr us >>= λ e vs. expect (kind.Punct puncts.CloseParen) vs >>= λ _ ws. got e ws

-- an if
unfoldable pub if_stmt : Option Inner → Reader StmtTree
if_stmt s ts =
    deep s ts (λ r. condition r.readers (after ts) >>= λ c us. r.stmt us >>= λ x vs.
    if begins (kind.Key keys.Else) vs
    then (r.stmt (after vs) >>= λ y ws. got (tree.IfElse c x y) ws)
    else got (tree.If c x) vs)

-- a while
unfoldable pub while_stmt : Option Inner → Reader StmtTree
while_stmt s ts = deep s ts (λ r. condition r.readers (after ts) >>= λ c us. r.stmt us >>= λ x vs. got (tree.While c x) vs)

-- declare1 | [ change ] ";"
unfoldable pub start : Option Readers → Reader StartTree
start b ts =
    if begins (kind.Punct puncts.Semicolon) ts then got tree.StartTree.Empty (after ts) else
    if begins_type ts then (type_words ts >>= λ t us. head_declared b us >>= λ ds vs. got (tree.StartTree.Declare t ds) vs)
    else ended (change b ts) tree.StartTree.Change

-- [ expr ] ";"
unfoldable pub head_test : Readers → Reader (Option ExprTree)
head_test r ts = if begins (kind.Punct puncts.Semicolon) ts then got None (after ts) else ended (r.expr ts) Some

-- [ change ] ")"
unfoldable pub step : Option Readers → Reader (Option ChangeTree)
step b ts =
    if begins (kind.Punct puncts.CloseParen) ts then got None (after ts) else
    (change b ts >>= λ c us. expect (kind.Punct puncts.CloseParen) us >>= λ _ vs. got (Some c) vs)

-- what stands in the head of a for
pub record HeadTree : Type 0 where
  pub start : StartTree
  pub test : Option ExprTree
  pub step : Option ChangeTree

abbrev pub head_tree : Head → HeadTree
head_tree h = record { start = start_tree h.start; test = option_map expr_tree h.test; step = option_map change_tree h.step }

-- the head of a for, from its parenthesis on
unfoldable pub head : Option Readers → Reader HeadTree
head b ts =
    deeper b ts (λ r. expect (kind.Punct puncts.OpenParen) ts >>= λ _ t1. start b t1 >>= λ st t2.
    head_test r t2 >>= λ e t3. step b t3 >>= λ c t4. got (record { start = st; test = e; step = c }) t4)

-- a for
unfoldable pub for_stmt : Option Inner → Reader StmtTree
for_stmt s ts =
    deep s ts (λ r. head (Some r.readers) (after ts) >>= λ h us. r.stmt us >>= λ x vs. got (tree.For h.start h.test h.step x) vs)

-- "return" expr ";"
unfoldable pub return_stmt : Option Readers → Reader StmtTree
return_stmt b ts = deeper b ts (λ r. ended (r.expr (after ts)) (tree.Return (mark_at ts)))

-- the arrow of an item, and what follows it
unfoldable pub join : Option Readers → Reader JoinTree
join b ts = name (after ts) >>= λ n us. size b us >>= λ i vs. got (record { mark = mark_at ts; name = n; burst = i }) vs

abbrev pub alone : TargetTree → Reader ClauseItemTree
alone (tree.Variable n) ts = got (record { stream = tree.Variable n; window = None }) ts
alone (tree.Element n m e) ts = fails ts

-- in, or out, by its arrow
unfoldable pub clause_item : Punct → Option Readers → Reader ClauseItemTree
clause_item arrow b ts =
    target b ts >>= λ t us.
    if begins (kind.Punct arrow) us
    then (join b us >>= λ j vs. got (record { stream = t; window = Some j }) vs)
    else alone t us

-- "(" part { "," part } ")"
unfoldable pub in_parens : {A : Type 0} → Reader A → Reader (List A)
in_parens part ts =
    expect (kind.Punct puncts.OpenParen) ts >>= λ _ us. list_of part us >>= λ xs vs. expect (kind.Punct puncts.CloseParen) vs >>= λ _ ws. got xs ws

-- what a clause lists, from its word on
unfoldable pub clause_kind : Option Readers → Reader ClauseKindTree
clause_kind b ts =
    if begins (kind.Name input_id) ts then (in_parens (clause_item puncts.ShiftRight b) (after ts) >>= λ xs us. got (tree.Input xs) us) else
    if begins (kind.Name output_id) ts then (in_parens (clause_item puncts.ShiftLeft b) (after ts) >>= λ xs us. got (tree.Output xs) us) else
    if begins (kind.Name firstprivate_id) ts then (in_parens name (after ts) >>= λ ns us. got (tree.Firstprivate ns) us) else fails ts

-- [ "," ] clause
unfoldable pub clause : Option Readers → Reader ClauseTree
clause b ts =
    if begins (kind.Punct puncts.Comma) ts
    then (clause_kind b (after ts) >>= λ k us. got (record { comma = true; kind = k }) us)
    else (clause_kind b ts >>= λ k us. got (record { comma = false; kind = k }) us)

-- the pragma's line goes on
abbrev pub line_goes_on : List Placed → Bool
line_goes_on ts = not (begins kind.PragmaEnd ts)

-- the first clause of a task, before which no comma stands
unfoldable pub first_clause : Option Readers → Reader ClauseTree
first_clause b ts = clause_kind b ts >>= λ k us. got (record { comma = false; kind = k }) us

-- the clauses of a task that has some
unfoldable pub some_clauses : Option Readers → Reader (List ClauseTree)
some_clauses b ts =
    first_clause b ts >>= λ c us. many (suc (length us)) line_goes_on (clause b) us >>= λ cs vs. got (c ∷ cs) vs

-- the clauses of a task
unfoldable pub clauses : Option Readers → Reader (List ClauseTree)
clauses b ts = if begins kind.PragmaEnd ts then got [] ts else some_clauses b ts

-- a task, from its word on
unfoldable pub task : Mark → Option Inner → Reader StmtTree
task m s ts =
    deep s ts (λ r. clauses (Some r.readers) (after ts) >>= λ cs us. expect kind.PragmaEnd us >>= λ _ vs. r.stmt vs >>= λ x ws.
    got (tree.Task m cs x) ws)

-- what a tick holds, from its word on
unfoldable pub ticked : Mark → Option Readers → Reader StmtTree
ticked m b ts =
    deeper b ts (λ r. expect (kind.Punct puncts.OpenParen) (after ts) >>= λ _ t1. target b t1 >>= λ t t2.
    expect (kind.Punct puncts.ShiftRight) t2 >>= λ a t3. r.expr t3 >>= λ e t4. expect (kind.Punct puncts.CloseParen) t4 >>= λ _ t5.
    got (tree.Tick m t a e) t5)

abbrev pub tick_tree : TickSite → StmtTree
tick_tree t = tree.Tick t.mark (target_tree t.stream) t.arrow (expr_tree t.amount)

-- a tick, from its word on
unfoldable pub tick : Mark → Option Readers → Reader StmtTree
tick m b ts = ticked m b ts >>= λ t us. expect kind.PragmaEnd us >>= λ _ vs. got t vs

-- a taskwait, behind its word
unfoldable pub taskwait : Mark → Reader StmtTree
taskwait m ts = expect kind.PragmaEnd ts >>= λ _ us. got (tree.Taskwait m) us

-- a pragma that is a statement
unfoldable pub pragma : Option Inner → Reader StmtTree
pragma s ts =
    expect (kind.Name omp_id) (after ts) >>= λ _ us.
    if begins (kind.Name task_id) us then task (mark_at ts) s us else
    if begins (kind.Name tick_id) us then tick (mark_at ts) (readers_of s) us else
    if begins (kind.Name taskwait_id) us then taskwait (mark_at ts) (after us) else fails us

-- stmt
unfoldable pub stmt_by : StmtStart → Option Inner → Reader StmtTree
stmt_by starts.Semicolon s ts = got tree.StmtTree.Empty (after ts)
stmt_by starts.Brace s ts = block s (after ts) >>= λ ss us. got (tree.Block ss) us
stmt_by (starts.Name id) s ts = named_stmt (readers_of s) (record { id = id; mark = mark_at ts }) (after ts)
stmt_by (starts.Step st) s ts = ended (before st (readers_of s) ts) tree.StmtTree.Change
stmt_by starts.If s ts = if_stmt s ts
stmt_by starts.While s ts = while_stmt s ts
stmt_by starts.For s ts = for_stmt s ts
stmt_by starts.Break s ts = ended (got (mark_at ts) (after ts)) tree.Break
stmt_by starts.Continue s ts = ended (got (mark_at ts) (after ts)) tree.Continue
stmt_by starts.Return s ts = return_stmt (readers_of s) ts
stmt_by starts.Pragma s ts = pragma s ts
stmt_by starts.Other s ts = fails ts

unfoldable pub stmt_on : Option Inner → Reader StmtTree
stmt_on s ts = stmt_by (stmt_at ts) s ts

-- the readers of parts of statements that stand one level deeper, where so many levels are left; none where none is left
unfoldable pub inner : ℕ → Option Inner
inner zero = None
inner (suc d) = Some (record {
  readers = layer (below d);
  stmt = stmt_on (inner d);
  item = block_item (below d) (stmt_on (inner d));
})

-- What is read in a program: a construct that stands in no other one is the first of at most `depth_limit`, and so one less may stand in it.
abbrev pub outermost : Option Inner
outermost = inner (depth_limit - 1)

-- type name
unfoldable pub param : Reader Param
param ts = type_words ts >>= λ t us. name us >>= λ n vs. got (record { ty = t; name = n }) vs

-- [ params ]
unfoldable pub params : Reader Params
params ts =
    if begins (kind.Punct puncts.CloseParen) ts then got params_of.Empty ts else
    if begins (kind.Key keys.Void) ts then got params_of.Void (after ts) else
    (list_of param ts >>= λ ps us. got (params_of.Names ps) us)

-- function; its statements are at most a depth deep
unfoldable pub function : Option Inner → Reader ItemTree
function s ts =
    type_words ts >>= λ t t0. name t0 >>= λ n t1. expect (kind.Punct puncts.OpenParen) t1 >>= λ _ t2. params t2 >>= λ ps t3.
    expect (kind.Punct puncts.CloseParen) t3 >>= λ _ t4. expect (kind.Punct puncts.OpenBrace) t4 >>= λ _ t5.
    block s t5 >>= λ ss t6. got (tree.Function (record { ty = t; name = n; params = ps; body = ss })) t6

abbrev pub number_by : Option Numeral → Reader Numeral
number_by None ts = fails ts
number_by (Some n) ts = got n (after ts)

-- number
unfoldable pub number : Reader Numeral
number ts = number_by (number_at ts) ts

-- [ "-" ]
unfoldable pub minus : Reader Bool
minus ts = if begins (kind.Punct puncts.Minus) ts then got true (after ts) else got false ts

-- constant, from its `const` on
unfoldable pub constant : Reader ItemTree
constant ts =
    type_words (after ts) >>= λ t t1. name t1 >>= λ n t2. expect (kind.Punct puncts.Set) t2 >>= λ _ t3.
    minus t3 >>= λ m t4. number t4 >>= λ v t5. expect (kind.Punct puncts.Semicolon) t5 >>= λ _ t6.
    got (tree.Constant (record { ty = t; name = n; minus = m; size = v.size; wide = v.wide })) t6

-- constant | function
unfoldable pub item : Option Inner → Reader ItemTree
item s ts =
    if begins (kind.Key keys.Const) ts then constant ts else function s ts

abbrev pub is_more : List Placed → Bool
is_more [] = false
is_more (t ∷ ts) = true

-- program
unfoldable pub program : Option Inner → Reader ProgramTree
program s ts = many (suc (length ts)) is_more (item s) ts
