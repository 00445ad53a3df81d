-- The trees of programs as plain data: what the trees of the code hold, without boxes.
use Rattle.std.specs.Prelude.{ℕ, Bool, List, Option}
use Rattle.os_ast.specs.declared.expr.Binary.{Binary}
use Rattle.os_ast.specs.declared.expr.Level.{Level}
use Rattle.os_ast.specs.declared.expr.Mark.{Mark}
use Rattle.os_ast.specs.declared.expr.Name.{Name}
use Rattle.os_ast.specs.declared.expr.Unary as operator
use Rattle.os_ast.specs.declared.program.Constant as constant
use Rattle.os_ast.specs.declared.program.Params.{Params}
use Rattle.os_ast.specs.declared.stmt.Assign.{Assign}
use Rattle.os_ast.specs.declared.stmt.Step.{Step}
use Rattle.os_ast.specs.declared.ty.Ty.{Ty}

mutual
  -- an expression
  pub data ExprTree : Type 0 where
    Number : ℕ → ExprTree
    Wide : ℕ → ExprTree
    Place : TargetTree → ExprTree
    Call : Name → Args → ExprTree
    Paren : ExprTree → ExprTree
    Unary : operator.Unary → Mark → ExprTree → ExprTree
    Chain : Level → ExprTree → Links → ExprTree
    Choice : ExprTree → ExprTree → ExprTree → ExprTree

  -- a name without an index, or with one
  pub data TargetTree : Type 0 where
    Variable : Name → TargetTree
    Element : Name → Mark → ExprTree → TargetTree

  -- the arguments of a call
  pub data Args : Type 0 where
    no_args : Args
    arg : ExprTree → Args → Args

  -- the links of a chain
  pub data Links : Type 0 where
    no_links : Links
    link : Binary → Mark → ExprTree → Links → Links

-- an index or a size
pub record IndexTree : Type 0 where
  pub mark : Mark
  pub value : ExprTree

-- a declarator
pub record DeclaratorTree : Type 0 where
  pub name : Name
  pub size : Option IndexTree
  pub stream : Bool
  pub first : Option ExprTree

-- a change
pub data ChangeTree : Type 0 where
  Set : TargetTree → Assign → Mark → ExprTree → ChangeTree
  After : TargetTree → Step → Mark → ChangeTree
  Before : TargetTree → Step → Mark → ChangeTree

-- what stands before the first semicolon in the head of a for
pub data StartTree : Type 0 where
  Empty : StartTree
  Declare : Ty → List DeclaratorTree → StartTree
  Change : ChangeTree → StartTree

-- the arrow of an item, and what follows it
pub record JoinTree : Type 0 where
  pub mark : Mark
  pub name : Name
  pub burst : Option IndexTree

-- an item of a clause
pub record ClauseItemTree : Type 0 where
  pub stream : TargetTree
  pub window : Option JoinTree

-- what a clause lists
pub data ClauseKindTree : Type 0 where
  Input : List ClauseItemTree → ClauseKindTree
  Output : List ClauseItemTree → ClauseKindTree
  Firstprivate : List Name → ClauseKindTree

-- a clause, and whether a comma stands before it
pub record ClauseTree : Type 0 where
  pub comma : Bool
  pub kind : ClauseKindTree

mutual
  -- a statement, or a declaration
  pub data StmtTree : Type 0 where
    Empty : StmtTree
    Block : Stmts → StmtTree
    Declare : Ty → List DeclaratorTree → StmtTree
    Change : ChangeTree → StmtTree
    Call : Name → Args → StmtTree
    If : ExprTree → StmtTree → StmtTree
    IfElse : ExprTree → StmtTree → StmtTree → StmtTree
    While : ExprTree → StmtTree → StmtTree
    For : StartTree → Option ExprTree → Option ChangeTree → StmtTree → StmtTree
    Break : Mark → StmtTree
    Continue : Mark → StmtTree
    Return : Mark → ExprTree → StmtTree
    Task : Mark → List ClauseTree → StmtTree → StmtTree
    Tick : Mark → TargetTree → Mark → ExprTree → StmtTree
    Taskwait : Mark → StmtTree

  -- the statements and declarations of a block
  pub data Stmts : Type 0 where
    no_stmts : Stmts
    stmt : StmtTree → Stmts → Stmts

-- a function
pub record FunctionTree : Type 0 where
  pub ty : Ty
  pub name : Name
  pub params : Params
  pub body : Stmts

-- a constant or a function
pub data ItemTree : Type 0 where
  Constant : constant.Constant → ItemTree
  Function : FunctionTree → ItemTree

-- a program
abbrev pub ProgramTree : Type 0
ProgramTree = List ItemTree
