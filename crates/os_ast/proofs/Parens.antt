-- Parentheses add two tokens.
use Rattle.std.proofs.Common.{◌≡◌, List, [], ◌∷◌, ap, ◌∙◌, length, length-append, arith}
use Rattle.os_ast.specs.Spelling.{Symbol, expr, bare}
use Rattle.os_ast.specs.Trees as tree
use Rattle.os_ast.proofs.Prints.{prints_expr}
use Rattle.os_lexer.specs.declared.token.Kind.TheVariants as kind
use Rattle.os_lexer.specs.declared.token.Punct.TheVariants as puncts

pub paren-differs : (e : tree.ExprTree) → expr (tree.Paren e) [] ≡ expr e [] → ⊥
paren-differs e same =
    let closing : List Symbol = bare (kind.Punct puncts.CloseParen) ∷ [] in
    let longer = ap length ((prints_expr e).in_front closing) ∙ length-append (expr e []) closing in
    let lengths = ap length same in
    omega (arith, longer, lengths)
