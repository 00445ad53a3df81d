-- What reading an expression gives: one definition for each production.
use Rattle.std.specs.Prelude.{ℕ, zero, suc, ◌-◌, List, length, Option, Some, None, if◌then◌else◌}
use Rattle.os_ast.specs.Means.{Placed}
use Rattle.os_ast.specs.Trees as tree
use Rattle.os_ast.specs.Trees.{ExprTree, TargetTree, IndexTree, Args, Links}
use Rattle.os_ast.specs.declared.expr.Binary.{Binary}
use Rattle.os_ast.specs.declared.expr.Name.{Name}
use Rattle.os_ast.specs.declared.expr.Unary.{Unary}
use Rattle.os_lexer.specs.declared.token.Kind.TheVariants as kind
use Rattle.os_lexer.specs.declared.token.Punct.TheVariants as puncts
use Rattle.os_parser_grammar.specs.Operands.{start_at, operator_at, level_at}
use Rattle.os_parser_grammar.specs.Reading.{Read, Reader, got, fails, ◌>>=◌, after, mark_at, begins, expect}
use Rattle.os_parser_grammar.specs.declared.operand_start.OperandStart.{OperandStart}
use Rattle.os_parser_grammar.specs.declared.operand_start.OperandStart.TheVariants as starts

-- the readers of what stands one deeper
pub record Readers : Type 0 where
  pub expr : Reader ExprTree
  pub operand : Reader ExprTree

-- what reads one deeper, where the depth allows it
abbrev pub deeper : {A : Type 0} → Option Readers → List Placed → (Readers → Read A) → Read A
deeper None ts f = fails ts
deeper (Some r) ts f = f r

-- "[" expr "]"
unfoldable pub index : Option Readers → Reader IndexTree
index below ts =
    deeper below ts (λ r. r.expr (after ts) >>= λ e us.
    expect (kind.Punct puncts.CloseBracket) us >>= λ m vs.
    got (record { mark = mark_at ts; value = e }) vs)

-- what follows the name of a target
unfoldable pub target_of : Option Readers → Name → Reader TargetTree
target_of below n ts =
    if begins (kind.Punct puncts.OpenBracket) ts
    then (index below ts >>= λ i us. got (tree.Element n i.mark i.value) us)
    else got (tree.Variable n) ts

-- { "," expr }
unfoldable pub more_args : ℕ → Readers → Reader Args
more_args zero r ts = fails ts
more_args (suc n) r ts =
    if begins (kind.Punct puncts.Comma) ts
    then (r.expr (after ts) >>= λ e us. more_args n r us >>= λ es vs. got (tree.arg e es) vs)
    else got tree.no_args ts

-- expr { "," expr }
unfoldable pub some_args : Readers → Reader Args
some_args r ts = r.expr ts >>= λ e us. more_args (suc (length us)) r us >>= λ es vs. got (tree.arg e es) vs

-- "(" [ expr { "," expr } ] ")"
unfoldable pub args : Option Readers → Reader Args
args below ts =
    if begins (kind.Punct puncts.CloseParen) (after ts)
    then got tree.no_args (after (after ts))
    else deeper below (after ts) (λ r. some_args r (after ts) >>= λ es us.
    expect (kind.Punct puncts.CloseParen) us >>= λ m vs. got es vs)

-- what follows a name
unfoldable pub named : Option Readers → Name → Reader ExprTree
named below n ts =
    if begins (kind.Punct puncts.OpenParen) ts
    then (args below ts >>= λ es us. got (tree.ExprTree.Call n es) us)
    else (target_of below n ts >>= λ t us. got (tree.Place t) us)

-- "(" expr ")"
unfoldable pub paren : Option Readers → Reader ExprTree
paren below ts =
    deeper below ts (λ r. r.expr (after ts) >>= λ e us.
    expect (kind.Punct puncts.CloseParen) us >>= λ m vs. got (tree.Paren e) vs)

-- an operator with one operand
unfoldable pub sign : Unary → Option Readers → Reader ExprTree
sign op below ts = deeper below ts (λ r. r.operand (after ts) >>= λ e us. got (tree.Unary op (mark_at ts) e) us)

-- unary
unfoldable pub operand_by : OperandStart → Option Readers → Reader ExprTree
operand_by (starts.Number n) below ts = got (tree.Number n) (after ts)
operand_by (starts.Wide n) below ts = got (tree.Wide n) (after ts)
operand_by (starts.Name id) below ts = named below (record { id = id; mark = mark_at ts }) (after ts)
operand_by starts.Paren below ts = paren below ts
operand_by (starts.Sign op) below ts = sign op below ts
operand_by starts.Other below ts = fails ts

unfoldable pub operand : Option Readers → Reader ExprTree
operand below ts = operand_by (start_at ts) below ts

-- one branch where an operator stands, the other where none does
abbrev pub at_operator : {A : Type 0} → Option Binary → (Binary → Read A) → Read A → Read A
at_operator (Some op) f r = f op
at_operator None f r = r

-- { operator operand }, with operators of one precedence
unfoldable pub links : ℕ → ℕ → Reader ExprTree → Reader Links
links zero precedence right ts = fails ts
links (suc n) precedence right ts =
    at_operator (operator_at precedence ts)
    (λ op. right (after ts) >>= λ e us. links n precedence right us >>= λ ls vs. got (tree.link op (mark_at ts) e ls) vs)
    (got tree.no_links ts)

-- a chain of one precedence, or its first operand where it has no links
abbrev pub chained : ℕ → ExprTree → Links → ExprTree
chained precedence first tree.no_links = first
chained precedence first (tree.link op m e rest) = tree.Chain (level_at precedence) first (tree.link op m e rest)

-- what follows the first operand of a chain of one precedence
unfoldable pub linked : ℕ → Reader ExprTree → ExprTree → Reader ExprTree
linked precedence right first ts = links (suc (length ts)) precedence right ts >>= λ ls us. got (chained precedence first ls) us

-- the chains of the n highest precedences
unfoldable pub chains : ℕ → Reader ExprTree → Reader ExprTree
chains zero operand ts = operand ts
chains (suc n) operand ts = chains n operand ts >>= linked (10 - n) (chains n operand)

-- "?" expr ":" expr
unfoldable pub branches : Option Readers → ExprTree → Reader ExprTree
branches below c ts =
    deeper below ts (λ r. r.expr (after ts) >>= λ a us.
    expect (kind.Punct puncts.Colon) us >>= λ m vs.
    r.expr vs >>= λ b ws. got (tree.Choice c a b) ws)

-- expr
unfoldable pub expr_on : Option Readers → Reader ExprTree
expr_on below ts =
    chains 10 (operand below) ts >>= λ c us.
    if begins (kind.Punct puncts.Question) us then branches below c us else got c us

-- the readers over those of what stands one deeper
abbrev pub layer : Option Readers → Readers
layer below = record { expr = expr_on below; operand = operand below }

-- the readers below a depth
unfoldable pub below : ℕ → Option Readers
below zero = None
below (suc d) = Some (layer (below d))
