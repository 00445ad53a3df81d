-- A printer puts the same symbols in front of whatever follows.
use Rattle.std.proofs.Common.{◌≡◌, ℕ, Bool, true, false, List, [], ◌∷◌, ◌++◌, Option, Some, None, refl, sym, append_assoc}
use Rattle.os_ast.specs.Spelling as s
use Rattle.os_ast.specs.Spelling.{Symbol, Printer, ◌⨾◌}
use Rattle.os_ast.specs.Trees as tree
use Rattle.os_ast.specs.declared.expr.Mark.{Mark}
use Rattle.os_ast.specs.declared.program.Params.{Params}
use Rattle.os_ast.specs.declared.program.Params.TheVariants as params_of
use Rattle.os_ast.specs.declared.ty.Ty.{Ty}
use Rattle.os_ast.specs.declared.ty.Ty.TheVariants as ty_of
use Rattle.os_lexer.specs.declared.token.Kind.{Kind}
use Rattle.os_lexer.specs.declared.token.Punct.{Punct}
use Rattle.os_lexer.specs.declared.token.Punct.TheVariants as puncts

pub record Prints (p : Printer) : Type 0 where
  pub in_front : (rest : List Symbol) → p rest ≡ p [] ++ rest

pub nothing : Prints s.nothing
nothing = record { in_front = λ rest. refl }

pub token : {k : Kind} → Prints (s.token k)
token = record { in_front = λ rest. refl }

pub token_at : {k : Kind} {m : Mark} → Prints (s.token_at k m)
token_at = record { in_front = λ rest. refl }

infixr 20 ◌then◌
pub ◌then◌ : {p q : Printer} → Prints p → Prints q → Prints (p ⨾ q)
◌then◌ {p} {q} a b = record {
  in_front = λ rest.
      rw (a.in_front (q rest), a.in_front (q []), b.in_front rest) (sym (append_assoc (p []) (q []) rest));
}

pub in_parens : {p : Printer} → Prints p → Prints (s.in_parens p)
in_parens a = token then a then token

pub optional : {A : Type 0} (part : A → Printer) → ((x : A) → Prints (part x)) → (o : Option A) → Prints (s.optional part o)
optional part a None = nothing
optional part a (Some x) = a x

pub each : {A : Type 0} (part : A → Printer) → ((x : A) → Prints (part x)) → (xs : List A) → Prints (s.each part xs)
each part a [] = nothing
each part a (x ∷ xs) = a x then each part a xs

pub listed : {A : Type 0} (part : A → Printer) → ((x : A) → Prints (part x)) → (xs : List A) → Prints (s.listed part xs)
listed part a [] = nothing
listed part a (x ∷ xs) = a x then each (λ y. s.punct puncts.Comma ⨾ part y) (λ y. token then a y) xs

mutual
  pub prints_expr : (e : tree.ExprTree) → Prints (s.expr e)
  prints_expr (tree.Choice c a b) = prints_expr c then token then prints_expr a then token then prints_expr b
  prints_expr (tree.Chain level first rest) = prints_expr first then links rest
  prints_expr (tree.Unary op m e) = token_at then prints_expr e
  prints_expr (tree.Number n) = token
  prints_expr (tree.Wide n) = token
  prints_expr (tree.Place t) = target t
  prints_expr (tree.ExprTree.Call f es) = token_at then in_parens (args es)
  prints_expr (tree.Paren e) = in_parens (prints_expr e)

  pub links : (ls : tree.Links) → Prints (s.links ls)
  links tree.no_links = nothing
  links (tree.link op m e rest) = token_at then prints_expr e then links rest

  pub target : (t : tree.TargetTree) → Prints (s.target t)
  target (tree.Variable n) = token_at
  target (tree.Element n m e) = token_at then token_at then prints_expr e then token

  pub args : (es : tree.Args) → Prints (s.args es)
  args tree.no_args = nothing
  args (tree.arg e es) = prints_expr e then more_args es

  pub more_args : (es : tree.Args) → Prints (s.more_args es)
  more_args tree.no_args = nothing
  more_args (tree.arg e es) = token then prints_expr e then more_args es

pub index : (i : tree.IndexTree) → Prints (s.index i)
index i = token_at then prints_expr i.value then token

pub first_value : (e : tree.ExprTree) → Prints (s.first_value e)
first_value e = token then prints_expr e

pub attribute : (b : Bool) → Prints (s.attribute b)
attribute false = nothing
attribute true = token then in_parens (in_parens token)

pub declarator : (d : tree.DeclaratorTree) → Prints (s.declarator d)
declarator d = token_at then optional s.index index d.size then attribute d.stream then optional s.first_value first_value d.first

pub type_words : (t : Ty) → Prints (s.type_words t)
type_words ty_of.Int = token
type_words ty_of.Unsigned = token
type_words ty_of.UnsignedInt = token then token

pub declare : (t : Ty) (ds : List tree.DeclaratorTree) → Prints (s.declare t ds)
declare t ds = type_words t then listed s.declarator declarator ds then token

pub change : (c : tree.ChangeTree) → Prints (s.change c)
change (tree.Set t a m e) = target t then token_at then prints_expr e
change (tree.After t step m) = target t then token_at
change (tree.Before t step m) = token_at then target t

pub start : (st : tree.StartTree) → Prints (s.start st)
start tree.StartTree.Empty = token
start (tree.StartTree.Declare t ds) = declare t ds
start (tree.StartTree.Change c) = change c then token

pub join : (arrow : Punct) (j : tree.JoinTree) → Prints (s.join arrow j)
join arrow j = token_at then token_at then optional s.index index j.burst

pub clause_item : (arrow : Punct) (i : tree.ClauseItemTree) → Prints (s.clause_item arrow i)
clause_item arrow i = target i.stream then optional (s.join arrow) (join arrow) i.window

pub clause_kind : (k : tree.ClauseKindTree) → Prints (s.clause_kind k)
clause_kind (tree.Input items) = token then in_parens (listed (s.clause_item puncts.ShiftRight) (clause_item puncts.ShiftRight) items)
clause_kind (tree.Output items) = token then in_parens (listed (s.clause_item puncts.ShiftLeft) (clause_item puncts.ShiftLeft) items)
clause_kind (tree.Firstprivate names) = token then in_parens (listed s.name (λ n. token_at) names)

pub comma : (b : Bool) → Prints (s.comma b)
comma false = nothing
comma true = token

pub clause : (c : tree.ClauseTree) → Prints (s.clause c)
clause c = comma c.comma then clause_kind c.kind

mutual
  pub prints_stmt : (st : tree.StmtTree) → Prints (s.stmt st)
  prints_stmt tree.StmtTree.Empty = token
  prints_stmt (tree.Block ss) = token then stmts ss then token
  prints_stmt (tree.StmtTree.Change c) = change c then token
  prints_stmt (tree.StmtTree.Call f es) = (token_at then in_parens (args es)) then token
  prints_stmt (tree.If c a) = token then in_parens (prints_expr c) then prints_stmt a
  prints_stmt (tree.IfElse c a b) = token then in_parens (prints_expr c) then prints_stmt a then token then prints_stmt b
  prints_stmt (tree.While c body) = token then in_parens (prints_expr c) then prints_stmt body
  prints_stmt (tree.For st test step body) =
      token
      then in_parens (start st then optional s.expr prints_expr test then token then optional s.change change step)
      then prints_stmt body
  prints_stmt (tree.Break m) = token_at then token
  prints_stmt (tree.Continue m) = token_at then token
  prints_stmt (tree.Return m e) = token_at then prints_expr e then token
  prints_stmt (tree.Task m cs body) = token_at then token then token then each s.clause clause cs then token then prints_stmt body
  prints_stmt (tree.Tick m t a e) = token_at then token then token then in_parens (target t then token_at then prints_expr e) then token
  prints_stmt (tree.Taskwait m) = token_at then token then token then token
  prints_stmt (tree.StmtTree.Declare t ds) = declare t ds

  pub stmts : (ss : tree.Stmts) → Prints (s.stmts ss)
  stmts tree.no_stmts = nothing
  stmts (tree.stmt st rest) = prints_stmt st then stmts rest

pub sign : (b : Bool) → Prints (s.sign b)
sign false = nothing
sign true = token

pub params : (ps : Params) → Prints (s.params ps)
params params_of.Empty = nothing
params params_of.Void = token
params (params_of.Names ps) = listed s.param (λ p. type_words p.ty then token_at) ps

pub numeral : (wide : Bool) (n : ℕ) → Prints (s.numeral wide n)
numeral false n = token
numeral true n = token

pub prints_item : (i : tree.ItemTree) → Prints (s.item i)
prints_item (tree.Constant c) = token then type_words c.ty then token_at then token then sign c.minus then numeral c.wide c.size then token
prints_item (tree.Function f) = type_words f.ty then token_at then in_parens (params f.params) then token then stmts f.body then token
