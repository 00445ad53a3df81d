-- The tokens that spell a program, production by production. The smallest parts come first, since each
-- definition stands on those above it; the alternatives of a production keep its order.
use Rattle.std.specs.Prelude.{ℕ, Bool, if◌then◌else◌, List, [], ◌∷◌, Option, map, codes}
use Rattle.std.specs.Option.{option_map_or}
use Rattle.os_ast.specs.Operators.{unary_mark, binary_mark, assign_mark, step_mark}
use Rattle.os_ast.specs.Trees as tree
use Rattle.os_ast.specs.declared.expr.Mark.{Mark}
use Rattle.os_ast.specs.declared.expr.Name.{Name}
use Rattle.os_ast.specs.declared.program.Constant.{Constant}
use Rattle.os_ast.specs.declared.program.Param.{Param}
use Rattle.os_ast.specs.declared.program.Params.{Params}
use Rattle.os_ast.specs.declared.program.Params.TheVariants as params_of
use Rattle.os_ast.specs.declared.ty.Ty.{Ty}
use Rattle.os_ast.specs.declared.ty.Ty.TheVariants as ty_of
use Rattle.os_lexer.specs.Names.{fixed_id}
use Rattle.os_lexer.specs.declared.token.Key.{Key}
use Rattle.os_lexer.specs.declared.token.Key.TheVariants as keys
use Rattle.os_lexer.specs.declared.token.Kind.{Kind}
use Rattle.os_lexer.specs.declared.token.Kind.TheVariants as kind
use Rattle.os_lexer.specs.declared.token.Punct.{Punct}
use Rattle.os_lexer.specs.declared.token.Punct.TheVariants as puncts

-- A symbol of a spelling: the kind of a token, or the kind with the mark that the tree keeps of the token.
pub data Symbol : Type 0 where
  bare : Kind → Symbol
  marked : Kind → Mark → Symbol

-- the kind of a symbol
abbrev pub kind_of : Symbol → Kind
kind_of (bare k) = k
kind_of (marked k m) = k

-- A printer puts the symbols of a part in front of what follows.
abbrev pub Printer : Type 0
Printer = List Symbol → List Symbol

-- one printer after the other, as parts stand side by side in a production
infixr 20 ◌⨾◌
abbrev pub ◌⨾◌ : Printer → Printer → Printer
(p ⨾ q) rest = p (q rest)

-- no token
abbrev pub nothing : Printer
nothing rest = rest

-- one token, without a mark or with one
abbrev pub token : Kind → Printer
token k rest = bare k ∷ rest

abbrev pub token_at : Kind → Mark → Printer
token_at k m rest = marked k m ∷ rest

abbrev pub key : Key → Printer
key k = token (kind.Key k)

abbrev pub key_at : Key → Mark → Printer
key_at k = token_at (kind.Key k)

abbrev pub punct : Punct → Printer
punct p = token (kind.Punct p)

abbrev pub punct_at : Punct → Mark → Printer
punct_at p = token_at (kind.Punct p)

-- a name, with its mark
abbrev pub name : Name → Printer
name n = token_at (kind.Name n.id) n.mark

-- a number of either kind
abbrev pub number : ℕ → Printer
number n = token (kind.Number n)

abbrev pub wide : ℕ → Printer
wide n = token (kind.Wide n)

-- type = "int" | "unsigned" [ "int" ]
abbrev pub type_words : Ty → Printer
type_words ty_of.Int = key keys.Int
type_words ty_of.Unsigned = key keys.Unsigned
type_words ty_of.UnsignedInt = key keys.Unsigned ⨾ key keys.Int

-- a name by its number, and a word of pragmas, which is a name with a fixed number
abbrev pub word : ℕ → Printer
word n = token (kind.Name n)

abbrev pub word_of : List ℕ → Printer
word_of name = word (fixed_id name)

abbrev pub omp : Printer
omp = word_of (codes "omp")

-- "(" part ")"
abbrev pub in_parens : Printer → Printer
in_parens p = punct puncts.OpenParen ⨾ p ⨾ punct puncts.CloseParen

-- [ part ]
abbrev pub optional : {A : Type 0} → (A → Printer) → Option A → Printer
optional part x = option_map_or part x nothing

-- { part }
abbrev pub each : {A : Type 0} → (A → Printer) → List A → Printer
each part [] = nothing
each part (x ∷ xs) = part x ⨾ each part xs

-- part { "," part }
abbrev pub listed : {A : Type 0} → (A → Printer) → List A → Printer
listed part [] = nothing
listed part (x ∷ xs) = part x ⨾ each (λ y. punct puncts.Comma ⨾ part y) xs

-- Expressions, as in C11, 6.5. A chain of any level is one node, and parentheses are nodes.
-- expr    = or [ "?" expr ":" expr ]
-- or      = and { "||" and }          and   = bor { "&&" bor }
-- bor     = bxor { "|" bxor }         bxor  = band { "^" band }
-- band    = equal { "&" equal }       equal = order { ( "==" | "!=" ) order }
-- order   = shift { ( "<" | "<=" | ">" | ">=" ) shift }
-- shift   = sum { ( "<<" | ">>" ) sum }
-- sum     = prod { ( "+" | "-" ) prod }
-- prod    = unary { ( "*" | "/" | "%" ) unary }
-- unary   = ( "-" | "+" | "!" | "~" ) unary | primary
-- primary = number | target | call | "(" expr ")"
abbrev mutual
  pub expr : tree.ExprTree → Printer
  expr (tree.Choice c a b) = expr c ⨾ punct puncts.Question ⨾ expr a ⨾ punct puncts.Colon ⨾ expr b
  expr (tree.Chain level first rest) = expr first ⨾ links rest
  expr (tree.Unary op m e) = punct_at (unary_mark op) m ⨾ expr e
  expr (tree.Number n) = number n
  expr (tree.Wide n) = wide n
  expr (tree.Place t) = target t
  expr (tree.ExprTree.Call f es) = name f ⨾ in_parens (args es)
  expr (tree.Paren e) = in_parens (expr e)

  -- { operator operand }
  pub links : tree.Links → Printer
  links tree.no_links = nothing
  links (tree.link op m e rest) = punct_at (binary_mark op) m ⨾ expr e ⨾ links rest

  -- target = name [ "[" expr "]" ]
  pub target : tree.TargetTree → Printer
  target (tree.Variable n) = name n
  target (tree.Element n m e) = name n ⨾ punct_at puncts.OpenBracket m ⨾ expr e ⨾ punct puncts.CloseBracket

  -- [ expr { "," expr } ]
  pub args : tree.Args → Printer
  args tree.no_args = nothing
  args (tree.arg e es) = expr e ⨾ more_args es

  -- { "," expr }
  pub more_args : tree.Args → Printer
  more_args tree.no_args = nothing
  more_args (tree.arg e es) = punct puncts.Comma ⨾ expr e ⨾ more_args es

-- call = name "(" [ expr { "," expr } ] ")"
abbrev pub call : Name → tree.Args → Printer
call f es = name f ⨾ in_parens (args es)

-- "[" expr "]"
abbrev pub index : tree.IndexTree → Printer
index i = punct_at puncts.OpenBracket i.mark ⨾ expr i.value ⨾ punct puncts.CloseBracket

-- "=" expr
abbrev pub first_value : tree.ExprTree → Printer
first_value e = punct puncts.Set ⨾ expr e

-- "__attribute__" "(" "(" "stream" ")" ")"
abbrev pub attribute : Bool → Printer
attribute is_stream = if is_stream then key keys.Attribute ⨾ in_parens (in_parens (word_of (codes "stream"))) else nothing

-- declr = name [ "=" expr ] | name "[" expr "]"
--       | name [ "[" expr "]" ] "__attribute__" "(" "(" "stream" ")" ")"
abbrev pub declarator : tree.DeclaratorTree → Printer
declarator d = name d.name ⨾ optional index d.size ⨾ attribute d.stream ⨾ optional first_value d.first

-- declr { "," declr } ";"
abbrev pub declared : List tree.DeclaratorTree → Printer
declared ds = listed declarator ds ⨾ punct puncts.Semicolon

-- declare  = type declr { "," declr } ";"
-- declare1 = type name [ "=" expr ] { "," name [ "=" expr ] } ";"
abbrev pub declare : Ty → List tree.DeclaratorTree → Printer
declare t ds = type_words t ⨾ declared ds

-- change = target assign expr | target ( "++" | "--" ) | ( "++" | "--" ) target
-- assign = "=" | "+=" | "-=" | "*=" | "/=" | "%=" | "<<=" | ">>=" | "&=" | "^=" | "|="
abbrev pub change : tree.ChangeTree → Printer
change (tree.Set t a m e) = target t ⨾ punct_at (assign_mark a) m ⨾ expr e
change (tree.After t s m) = target t ⨾ punct_at (step_mark s) m
change (tree.Before t s m) = punct_at (step_mark s) m ⨾ target t

-- declare1 | [ change ] ";"
abbrev pub start : tree.StartTree → Printer
start tree.StartTree.Empty = punct puncts.Semicolon
start (tree.StartTree.Declare t ds) = declare t ds
start (tree.StartTree.Change c) = change c ⨾ punct puncts.Semicolon

-- arrow name [ "[" expr "]" ]
abbrev pub join : Punct → tree.JoinTree → Printer
join arrow j = punct_at arrow j.mark ⨾ name j.name ⨾ optional index j.burst

-- in  = stream ">>" name [ "[" expr "]" ] | name
-- out = stream "<<" name [ "[" expr "]" ] | name
abbrev pub clause_item : Punct → tree.ClauseItemTree → Printer
clause_item arrow i = target i.stream ⨾ optional (join arrow) i.window

-- clause = "input" "(" in { "," in } ")" | "output" "(" out { "," out } ")"
--        | "firstprivate" "(" name { "," name } ")"
abbrev pub clause_kind : tree.ClauseKindTree → Printer
clause_kind (tree.Input items) = word_of (codes "input") ⨾ in_parens (listed (clause_item puncts.ShiftRight) items)
clause_kind (tree.Output items) = word_of (codes "output") ⨾ in_parens (listed (clause_item puncts.ShiftLeft) items)
clause_kind (tree.Firstprivate names) = word_of (codes "firstprivate") ⨾ in_parens (listed name names)

-- [ "," ]
abbrev pub comma : Bool → Printer
comma is_there = if is_there then punct puncts.Comma else nothing

-- [ "," ] clause
abbrev pub clause : tree.ClauseTree → Printer
clause c = comma c.comma ⨾ clause_kind c.kind

-- the start of a pragma's line
abbrev pub pragma : Mark → Printer
pragma = token_at kind.PragmaStart

-- Statements, as in C11, 6.8, and declarations:
-- stmt = ";" | block | change ";" | call ";"
--      | "if" "(" expr ")" stmt [ "else" stmt ]
--      | "while" "(" expr ")" stmt
--      | "for" "(" ( declare1 | [ change ] ";" ) [ expr ] ";" [ change ] ")" stmt
--      | "break" ";" | "continue" ";" | "return" expr ";"
--      | PragmaStart "omp" "task" { [ "," ] clause } PragmaEnd stmt
--      | PragmaStart "omp" "tick" "(" stream ">>" expr ")" PragmaEnd
--      | PragmaStart "omp" "taskwait" PragmaEnd
-- declare, above
abbrev mutual
  pub stmt : tree.StmtTree → Printer
  stmt tree.StmtTree.Empty = punct puncts.Semicolon
  stmt (tree.Block ss) = punct puncts.OpenBrace ⨾ stmts ss ⨾ punct puncts.CloseBrace
  stmt (tree.StmtTree.Change c) = change c ⨾ punct puncts.Semicolon
  stmt (tree.StmtTree.Call f es) = call f es ⨾ punct puncts.Semicolon
  stmt (tree.If c a) = key keys.If ⨾ in_parens (expr c) ⨾ stmt a
  stmt (tree.IfElse c a b) = key keys.If ⨾ in_parens (expr c) ⨾ stmt a ⨾ key keys.Else ⨾ stmt b
  stmt (tree.While c s) = key keys.While ⨾ in_parens (expr c) ⨾ stmt s
  stmt (tree.For st test step s) = key keys.For ⨾ in_parens (start st ⨾ optional expr test ⨾ punct puncts.Semicolon ⨾ optional change step) ⨾ stmt s
  stmt (tree.Break m) = key_at keys.Break m ⨾ punct puncts.Semicolon
  stmt (tree.Continue m) = key_at keys.Continue m ⨾ punct puncts.Semicolon
  stmt (tree.Return m e) = key_at keys.Return m ⨾ expr e ⨾ punct puncts.Semicolon
  stmt (tree.Task m clauses s) = pragma m ⨾ omp ⨾ word_of (codes "task") ⨾ each clause clauses ⨾ token kind.PragmaEnd ⨾ stmt s
  stmt (tree.Tick m t arrow e) =
      pragma m ⨾ omp ⨾ word_of (codes "tick") ⨾ in_parens (target t ⨾ punct_at puncts.ShiftRight arrow ⨾ expr e) ⨾ token kind.PragmaEnd
  stmt (tree.Taskwait m) = pragma m ⨾ omp ⨾ word_of (codes "taskwait") ⨾ token kind.PragmaEnd
  stmt (tree.StmtTree.Declare t ds) = declare t ds

  -- { declare | stmt }
  pub stmts : tree.Stmts → Printer
  stmts tree.no_stmts = nothing
  stmts (tree.stmt s ss) = stmt s ⨾ stmts ss

-- [ "-" ]
abbrev pub sign : Bool → Printer
sign minus = if minus then punct puncts.Minus else nothing

-- the number of a constant, which is wide or isn't
abbrev pub numeral : Bool → ℕ → Printer
numeral is_wide n = if is_wide then wide n else number n

-- constant = "const" type name "=" [ "-" ] number ";"
abbrev pub constant : Constant → Printer
constant c = key keys.Const ⨾ type_words c.ty ⨾ name c.name ⨾ punct puncts.Set ⨾ sign c.minus ⨾ numeral c.wide c.size ⨾ punct puncts.Semicolon

-- type name
abbrev pub param : Param → Printer
param p = type_words p.ty ⨾ name p.name

-- params = "void" | type name { "," type name }
abbrev pub params : Params → Printer
params params_of.Empty = nothing
params params_of.Void = key keys.Void
params (params_of.Names ps) = listed param ps

-- function = type name "(" [ params ] ")" block
-- block    = "{" { declare | stmt } "}"
abbrev pub function : tree.FunctionTree → Printer
function f = type_words f.ty ⨾ name f.name ⨾ in_parens (params f.params) ⨾ punct puncts.OpenBrace ⨾ stmts f.body ⨾ punct puncts.CloseBrace

-- constant | function
abbrev pub item : tree.ItemTree → Printer
item (tree.Constant c) = constant c
item (tree.Function f) = function f

-- program = { constant | function }
abbrev pub program : tree.ProgramTree → Printer
program p = each item p

-- the symbols of a whole program
abbrev pub symbols : tree.ProgramTree → List Symbol
symbols p = program p []

-- the kinds of the tokens that print a program
abbrev pub spell : tree.ProgramTree → List Kind
spell p = map kind_of (symbols p)
