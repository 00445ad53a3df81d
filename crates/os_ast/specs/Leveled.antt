-- Where each part of a program may stand: what the grammar admits of a tree, production by production.
use Rattle.std.specs.Prelude.{◌≡◌, ℕ, ◌<◌, ◌≤◌, ◌^◌, Bool, true, false, List, [], ◌∷◌, Option, Some, None}
use Rattle.os_ast.specs.Depth.{program_depth}
use Rattle.os_ast.specs.Limits.{depth_limit}
use Rattle.os_ast.specs.Operators.{level_of, precedence, IsAssign}
use Rattle.os_ast.specs.Trees as tree
use Rattle.os_ast.specs.declared.expr.Binary.{Binary}
use Rattle.os_ast.specs.declared.expr.Level.{Level}
use Rattle.os_ast.specs.declared.expr.Mark.{Mark}
use Rattle.os_ast.specs.declared.expr.Name.{Name}
use Rattle.os_ast.specs.declared.expr.Unary as operator
use Rattle.os_ast.specs.declared.program.Param.{Param}
use Rattle.os_ast.specs.declared.program.Params.{Params}
use Rattle.os_ast.specs.declared.program.Params.TheVariants as params_of
use Rattle.os_ast.specs.declared.stmt.Assign.{Assign}
use Rattle.os_ast.specs.declared.stmt.Step.{Step}
use Rattle.os_ast.specs.declared.ty.Ty.{Ty}

-- The level of an expression by number: from 0, a choice, to 12, what stands by itself.
abbrev pub level : tree.ExprTree → ℕ
level (tree.Choice c a b) = 0
level (tree.Chain l first links) = precedence l
level (tree.Unary op m e) = 11
level _ = 12

mutual
  -- Expressions (C11, 6.5). The operands of a chain are of higher levels, that of a unary is a unary or
  -- stands by itself, and the condition of a choice is no choice. A chain has at least one link.
  pub data IsExpr : tree.ExprTree → Type 0 where
    choice : {c a b : tree.ExprTree} → IsExpr c → 0 < level c → IsExpr a → IsExpr b → IsExpr (tree.Choice c a b)
    chain : {l : Level} {first e : tree.ExprTree} {op : Binary} {m : Mark} {rest : tree.Links} →
        IsExpr first → precedence l < level first → AreLinks l (tree.link op m e rest) → IsExpr (tree.Chain l first (tree.link op m e rest))
    unary : {op : operator.Unary} {m : Mark} {e : tree.ExprTree} → IsExpr e → 11 ≤ level e → IsExpr (tree.Unary op m e)
    number : {n : ℕ} → n < 2 ^ 31 → IsExpr (tree.Number n)
    wide : {n : ℕ} → n < 2 ^ 32 → IsExpr (tree.Wide n)
    place : {t : tree.TargetTree} → IsTarget t → IsExpr (tree.Place t)
    call : {f : Name} {args : tree.Args} → AreArgs args → IsExpr (tree.ExprTree.Call f args)
    paren : {e : tree.ExprTree} → IsExpr e → IsExpr (tree.Paren e)

  -- the links of a chain of a level: operators of that level, operands of higher levels
  pub data AreLinks : Level → tree.Links → Type 0 where
    no_links : {l : Level} → AreLinks l tree.no_links
    link : {l : Level} {op : Binary} {m : Mark} {e : tree.ExprTree} {rest : tree.Links} →
        level_of op ≡ l → IsExpr e → precedence l < level e → AreLinks l rest → AreLinks l (tree.link op m e rest)

  -- target = name [ "[" expr "]" ]
  pub data IsTarget : tree.TargetTree → Type 0 where
    variable : {n : Name} → IsTarget (tree.Variable n)
    element : {n : Name} {m : Mark} {e : tree.ExprTree} → IsExpr e → IsTarget (tree.Element n m e)

  -- [ expr { "," expr } ]
  pub data AreArgs : tree.Args → Type 0 where
    no_args : AreArgs tree.no_args
    arg : {e : tree.ExprTree} {es : tree.Args} → IsExpr e → AreArgs es → AreArgs (tree.arg e es)

-- { part }
pub data AreAll {A : Type 0} (P : A → Type 0) : List A → Type 0 where
  nil : AreAll P []
  cons : {x : A} {xs : List A} → P x → AreAll P xs → AreAll P (x ∷ xs)

-- part { "," part }
pub data AreListed {A : Type 0} (P : A → Type 0) : List A → Type 0 where
  listed : {x : A} {xs : List A} → P x → AreAll P xs → AreListed P (x ∷ xs)

-- [ part ]
pub data IsOptional {A : Type 0} (P : A → Type 0) : Option A → Type 0 where
  absent : IsOptional P None
  present : {x : A} → P x → IsOptional P (Some x)

-- "[" expr "]"
pub data IsIndex : tree.IndexTree → Type 0 where
  index : {m : Mark} {e : tree.ExprTree} → IsExpr e → IsIndex (record { mark = m; value = e })

-- declr = name [ "=" expr ] | name "[" expr "]"
--       | name [ "[" expr "]" ] "__attribute__" "(" "(" "stream" ")" ")"
-- A size or the attribute excludes a first value.
pub data IsDeclarator : tree.DeclaratorTree → Type 0 where
  scalar : {n : Name} {first : Option tree.ExprTree} → IsOptional IsExpr first →
      IsDeclarator (record { name = n; size = None; stream = false; first = first })
  sized : {n : Name} {size : tree.IndexTree} → IsIndex size → IsDeclarator (record { name = n; size = Some size; stream = false; first = None })
  stream : {n : Name} {size : Option tree.IndexTree} → IsOptional IsIndex size →
      IsDeclarator (record { name = n; size = size; stream = true; first = None })

-- the declarators of a `for`'s head: name [ "=" expr ]
pub data IsHeadDeclarator : tree.DeclaratorTree → Type 0 where
  head : {n : Name} {first : Option tree.ExprTree} → IsOptional IsExpr first →
      IsHeadDeclarator (record { name = n; size = None; stream = false; first = first })

-- change = target assign expr | target ( "++" | "--" ) | ( "++" | "--" ) target
pub data IsChange : tree.ChangeTree → Type 0 where
  set : {t : tree.TargetTree} {a : Assign} {m : Mark} {e : tree.ExprTree} → IsTarget t → IsAssign a → IsExpr e → IsChange (tree.Set t a m e)
  after : {t : tree.TargetTree} {s : Step} {m : Mark} → IsTarget t → IsChange (tree.After t s m)
  before : {t : tree.TargetTree} {s : Step} {m : Mark} → IsTarget t → IsChange (tree.Before t s m)

-- declare1 | [ change ] ";"
pub data IsStart : tree.StartTree → Type 0 where
  empty : IsStart tree.StartTree.Empty
  declare : {t : Ty} {ds : List tree.DeclaratorTree} → AreListed IsHeadDeclarator ds → IsStart (tree.StartTree.Declare t ds)
  change : {c : tree.ChangeTree} → IsChange c → IsStart (tree.StartTree.Change c)

-- in = stream ">>" name [ "[" expr "]" ] | name
-- A name alone has no index.
pub data IsClauseItem : tree.ClauseItemTree → Type 0 where
  joined : {t : tree.TargetTree} {m : Mark} {n : Name} {burst : Option tree.IndexTree} →
      IsTarget t → IsOptional IsIndex burst → IsClauseItem (record { stream = t; window = Some (record { mark = m; name = n; burst = burst }) })
  alone : {n : Name} → IsClauseItem (record { stream = tree.Variable n; window = None })

-- clause = "input" "(" in { "," in } ")" | "output" "(" out { "," out } ")"
--        | "firstprivate" "(" name { "," name } ")"
pub data IsClauseKind : tree.ClauseKindTree → Type 0 where
  input : {items : List tree.ClauseItemTree} → AreListed IsClauseItem items → IsClauseKind (tree.Input items)
  output : {items : List tree.ClauseItemTree} → AreListed IsClauseItem items → IsClauseKind (tree.Output items)
  firstprivate : {n : Name} {ns : List Name} → IsClauseKind (tree.Firstprivate (n ∷ ns))

-- [ "," ] clause
pub data IsClause : tree.ClauseTree → Type 0 where
  clause : {b : Bool} {kind : tree.ClauseKindTree} → IsClauseKind kind → IsClause (record { comma = b; kind = kind })

-- The clauses of a task. No comma stands before the first one.
pub data AreClauses : List tree.ClauseTree → Type 0 where
  no_clauses : AreClauses []
  clauses : {kind : tree.ClauseKindTree} {cs : List tree.ClauseTree} →
      IsClauseKind kind → AreAll IsClause cs → AreClauses (record { comma = false; kind = kind } ∷ cs)

-- Whether an `else` after the statement would belong to an `if` at its end: an `else` belongs to the nearest
-- `if` before it that has none (C11, 6.8.4.1).
abbrev pub takes_else : tree.StmtTree → Bool
takes_else (tree.If c a) = true
takes_else (tree.IfElse c a b) = takes_else b
takes_else (tree.While c s) = takes_else s
takes_else (tree.For start test step s) = takes_else s
takes_else (tree.Task m cs s) = takes_else s
takes_else _ = false

mutual
  -- Statements (C11, 6.8). A declaration is no statement. No `if` without `else` ends the first branch of an
  -- `if` with `else`.
  pub data IsStmt : tree.StmtTree → Type 0 where
    empty : IsStmt tree.StmtTree.Empty
    block : {ss : tree.Stmts} → AreStmts ss → IsStmt (tree.Block ss)
    change : {c : tree.ChangeTree} → IsChange c → IsStmt (tree.StmtTree.Change c)
    call : {f : Name} {args : tree.Args} → AreArgs args → IsStmt (tree.StmtTree.Call f args)
    if_alone : {c : tree.ExprTree} {a : tree.StmtTree} → IsExpr c → IsStmt a → IsStmt (tree.If c a)
    if_else : {c : tree.ExprTree} {a b : tree.StmtTree} → IsExpr c → IsStmt a → takes_else a ≡ false → IsStmt b → IsStmt (tree.IfElse c a b)
    while : {c : tree.ExprTree} {s : tree.StmtTree} → IsExpr c → IsStmt s → IsStmt (tree.While c s)
    for : {start : tree.StartTree} {test : Option tree.ExprTree} {step : Option tree.ChangeTree} {s : tree.StmtTree} →
        IsStart start → IsOptional IsExpr test → IsOptional IsChange step → IsStmt s → IsStmt (tree.For start test step s)
    break : {m : Mark} → IsStmt (tree.Break m)
    continue : {m : Mark} → IsStmt (tree.Continue m)
    return : {m : Mark} {e : tree.ExprTree} → IsExpr e → IsStmt (tree.Return m e)
    task : {m : Mark} {cs : List tree.ClauseTree} {s : tree.StmtTree} → AreClauses cs → IsStmt s → IsStmt (tree.Task m cs s)
    tick : {m : Mark} {t : tree.TargetTree} {a : Mark} {e : tree.ExprTree} → IsTarget t → IsExpr e → IsStmt (tree.Tick m t a e)
    taskwait : {m : Mark} → IsStmt (tree.Taskwait m)

  -- a declaration stands directly in a block
  pub data AreStmts : tree.Stmts → Type 0 where
    no_stmts : AreStmts tree.no_stmts
    declare : {t : Ty} {ds : List tree.DeclaratorTree} {ss : tree.Stmts} →
        AreListed IsDeclarator ds → AreStmts ss → AreStmts (tree.stmt (tree.StmtTree.Declare t ds) ss)
    stmt : {s : tree.StmtTree} {ss : tree.Stmts} → IsStmt s → AreStmts ss → AreStmts (tree.stmt s ss)

-- params = "void" | type name { "," type name }
pub data IsParams : Params → Type 0 where
  empty : IsParams params_of.Empty
  void : IsParams params_of.Void
  names : {p : Param} {ps : List Param} → IsParams (params_of.Names (p ∷ ps))

-- constant | function
pub data IsItem : tree.ItemTree → Type 0 where
  constant : {t : Ty} {n : Name} {minus : Bool} {size : ℕ} → size < 2 ^ 31 →
      IsItem (tree.Constant (record { ty = t; name = n; minus = minus; size = size; wide = false }))
  wide_constant : {t : Ty} {n : Name} {minus : Bool} {size : ℕ} → size < 2 ^ 32 →
      IsItem (tree.Constant (record { ty = t; name = n; minus = minus; size = size; wide = true }))
  function : {t : Ty} {n : Name} {params : Params} {body : tree.Stmts} → IsParams params → AreStmts body →
      IsItem (tree.Function (record { ty = t; name = n; params = params; body = body }))

-- every part stands where the grammar admits it, and the depth is within the limit
pub record IsLeveled (p : tree.ProgramTree) : Type 0 where
  pub items : AreAll IsItem p
  pub depth : program_depth p ≤ depth_limit
