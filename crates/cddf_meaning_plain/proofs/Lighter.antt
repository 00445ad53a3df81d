-- A part of a list weighs less than the list.
use Rattle.std.proofs.Common.{◌≡◌, ℕ, zero, suc, ◌+◌, ◌<◌, List, [], ◌∷◌, length, get_or, take, map, slice_get, Some, ap, arith}
use Rattle.cddf_meaning_plain_state.specs.FunctionTrees.{function_of}
use Rattle.cddf_meaning_plain.specs.Weights.{args_weight, expr_weight, file_item_weight, file_weight, links_weight, stmt_weight, stmts_weight, weights}
use Rattle.os_ast.specs.Trees as tree
use Rattle.os_ast.specs.Views.{args_tree, expr_tree, links_tree, stmt_tree, stmts_tree}
use Rattle.os_ast.specs.declared.expr.Expr.{Expr}
use Rattle.os_ast.specs.declared.expr.Link.{Link}
use Rattle.os_ast.specs.declared.stmt.Stmt.{Stmt}

pub arg-lighter : (es : List Expr) (i : ℕ) (e : Expr) → i < length es → e ≡ get_or es i e → expr_weight (expr_tree e) < args_weight (args_tree es)
arg-lighter [] i e inside is = search (inside, arith)
arg-lighter (x ∷ es) zero e inside is = omega (arith, ap (λ y. expr_weight (expr_tree y)) is)
arg-lighter (x ∷ es) (suc i) e inside is = omega (arith, arg-lighter es i e (omega (arith, inside)) is)

pub link-lighter : (ls : List Link) (i : ℕ) (l : Link) → i < length ls → l ≡ get_or ls i l → 1 + expr_weight (expr_tree l.right) < links_weight (links_tree ls)
link-lighter [] i l inside is = search (inside, arith)
link-lighter (x ∷ ls) zero l inside is = omega (arith, ap (λ (y : Link). expr_weight (expr_tree y.right)) is)
link-lighter (x ∷ ls) (suc i) l inside is = omega (arith, link-lighter ls i l (omega (arith, inside)) is)

pub stmt-lighter : (ss : List Stmt) (i : ℕ) (s : Stmt) → i < length ss → s ≡ get_or ss i s → stmt_weight (stmt_tree s) < stmts_weight (stmts_tree ss)
stmt-lighter [] i s inside is = search (inside, arith)
stmt-lighter (x ∷ ss) zero s inside is = omega (arith, ap (λ y. stmt_weight (stmt_tree y)) is)
stmt-lighter (x ∷ ss) (suc i) s inside is = omega (arith, stmt-lighter ss i s (omega (arith, inside)) is)

-- the same of any other list of parts
pub part-lighter : {A B : Type 0} (weight : B → ℕ) (view : A → B) (xs : List A) (i : ℕ) (x : A) → i < length xs → x ≡ get_or xs i x →
    weight (view x) < weights weight (map view xs)
part-lighter weight view [] i x inside is = search (inside, arith)
part-lighter weight view (y ∷ xs) zero x inside is = omega (arith, ap (λ z. weight (view z)) is)
part-lighter weight view (y ∷ xs) (suc i) x inside is = omega (arith, part-lighter weight view xs i x (omega (arith, inside)) is)

some-is : {A : Type 0} {a b : A} → Some a ≡ Some b → a ≡ b
some-is h = cc

item-lighter : (i : tree.ItemTree) (f : tree.FunctionTree) → Some f ≡ function_of (Some i) → 1 + stmts_weight f.body ≡ file_item_weight i
item-lighter (tree.Constant c) f h = cc
item-lighter (tree.Function g) f h = ap (λ (k : tree.FunctionTree). 1 + stmts_weight k.body) (some-is h)

-- the body of a function, and the items before it
pub function-lighter : (items : List tree.ItemTree) (n : ℕ) (f : tree.FunctionTree) → Some f ≡ function_of (slice_get items n) →
    file_weight (take n items) + 1 + stmts_weight f.body < file_weight items
function-lighter [] n f h = cc
function-lighter (x ∷ xs) zero f h = omega (arith, item-lighter x f h)
function-lighter (x ∷ xs) (suc n) f h = omega (arith, function-lighter xs n f h)
