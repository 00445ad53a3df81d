-- The function that a call reaches: it stands before the items behind it.
use Rattle.std.proofs.Common.{◌≡◌, ◌≢◌, ℕ, zero, suc, ◌+◌, ◌<◌, ◌≤◌, List, [], ◌∷◌, take, map, slice_get, Some, None, ap, sym, ◌∙◌, arith, refl, ℤ, add-one, add-zero}
use Rattle.cddf_meaning.specs.Answers.{over}
use Rattle.cddf_meaning.specs.File.{File}
use Rattle.cddf_meaning.specs.Functions.{bind_params, in_function, returned, file_of, with_item, with_items, empty_file, call_function, calls_with}
use Rattle.cddf_meaning.specs.Run.{run_all}
use Rattle.cddf_meaning.specs.BodyState.{BodyState, state_of}
use Rattle.os_ast.specs.Notes.Programs.{param_list}
use Rattle.os_ast.specs.Trees as tree
use Rattle.os_ast.specs.Views.{function_tree, item_tree, stmts_tree}
use Rattle.os_ast.specs.declared.program.Function.{Function}
use Rattle.os_ast.specs.declared.program.Item.{Item}
use Rattle.cddf_meaning_plain.specs.Calls.{called_by}
use Rattle.cddf_meaning_plain_state.proofs.Reached.{map-take-tree}
use Rattle.cddf_meaning_plain_state.specs.FunctionTrees.{function_of}

called-other : (file : File) (f : tree.FunctionTree) (n : ℕ) (args : List ℤ) (turns : ℕ) → n ≢ file.count →
    (calls_with file (tree.Function f)) n args turns ≡ file.calls n args turns
called-other file f n args turns h = grind (arith, h)

called-same : (file : File) (f : tree.FunctionTree) (n : ℕ) (args : List ℤ) (turns : ℕ) → n ≡ file.count →
    (calls_with file (tree.Function f)) n args turns ≡ call_function file f args turns
called-same file f n args turns h = grind (arith, h)

none-with : (file : File) (x : tree.ItemTree) (args : List ℤ) (turns : ℕ) →
    ((n : ℕ) → file.count ≤ n → file.calls n args turns ≡ over) → (n : ℕ) → file.count + 1 ≤ n → (calls_with file x) n args turns ≡ over
none-with file (tree.Constant c) args turns none n high = none n (omega (arith, high))
none-with file (tree.Function f) args turns none n high =
    called-other file f n args turns (omega (arith, high)) ∙ none n (omega (arith, high))

-- Calls of what was declared before.
calls-low : (file : File) (items : List tree.ItemTree) (n : ℕ) (args : List ℤ) (turns : ℕ) → n < file.count →
    (with_items file items).calls n args turns ≡ file.calls n args turns
calls-low file [] n args turns low = refl
calls-low file (tree.Constant c ∷ xs) n args turns low = calls-low (with_item file (tree.Constant c)) xs n args turns (omega (arith, low))
calls-low file (tree.Function f ∷ xs) n args turns low =
    calls-low (with_item file (tree.Function f)) xs n args turns (omega (arith, low))
    ∙ called-other file f n args turns (omega (arith, low))

calls-high : (file : File) (items : List tree.ItemTree) (m : ℕ) (args : List ℤ) (turns : ℕ) →
    ((n : ℕ) → file.count ≤ n → file.calls n args turns ≡ over) →
    (with_items file items).calls (file.count + m) args turns ≡ called_by (with_items file (take m items)) (function_of (slice_get items m)) args turns
calls-high file [] m args turns none = none (file.count + m) (omega arith)
calls-high file (tree.Constant c ∷ xs) zero args turns none =
    ap (λ n. (with_items (with_item file (tree.Constant c)) xs).calls n args turns) (add-zero file.count)
    ∙ calls-low (with_item file (tree.Constant c)) xs file.count args turns (omega arith)
    ∙ none file.count (omega arith)
calls-high file (tree.Function f ∷ xs) zero args turns none =
    ap (λ n. (with_items (with_item file (tree.Function f)) xs).calls n args turns) (add-zero file.count)
    ∙ calls-low (with_item file (tree.Function f)) xs file.count args turns (omega arith)
    ∙ called-same file f file.count args turns refl
calls-high file (x ∷ xs) (suc m) args turns none =
    ap (λ n. (with_items (with_item file x) xs).calls n args turns) (omega arith)
    ∙ calls-high (with_item file x) xs m args turns (none-with file x args turns none)

pub calls-at : (items : List tree.ItemTree) (n : ℕ) (args : List ℤ) (turns : ℕ) →
    (file_of items).calls n args turns ≡ called_by (file_of (take n items)) (function_of (slice_get items n)) args turns
calls-at items n args turns = ap (λ k. (file_of items).calls k args turns) (omega arith) ∙ calls-high empty_file items n args turns (λ n h. refl)

-- a call of what is no function
pub calls-none : (items : List Item) (n : ℕ) (args : List ℤ) (turns : ℕ) → None ≡ function_of (slice_get (map item_tree items) n) →
    (file_of (map item_tree items)).calls n args turns ≡ over
calls-none items n args turns h =
    let trees = map item_tree items in
    calls-at trees n args turns ∙ ap (λ f. called_by (file_of (take n trees)) f args turns) (sym h)

pub calls-some : (items : List Item) (n : ℕ) (f : Function) (args : List ℤ) (turns : ℕ) →
    Some (function_tree f) ≡ function_of (slice_get (map item_tree items) n) →
    (file_of (map item_tree items)).calls n args turns ≡ call_function (file_of (map item_tree (take n items))) (function_tree f) args turns
calls-some items n f args turns h =
    let trees = map item_tree items in
    calls-at trees n args turns ∙ ap (λ f. called_by (file_of (take n trees)) f args turns) (sym h)
    ∙ ap (λ ts. call_function (file_of ts) (function_tree f) args turns) (sym (map-take-tree n items))

-- a call without a turn, and one with one
pub call-zero : (file : File) (f : tree.FunctionTree) (args : List ℤ) (turns : ℕ) → turns ≡ 0 → call_function file f args turns ≡ over
call-zero file f args turns z = ap (call_function file f args) z

pub call-one : (file : File) (f : Function) (args : List ℤ) (turns left : ℕ) (s : BodyState) → turns ≡ left + 1 →
    s ≡ state_of (bind_params (param_list f.params) args []) [] →
    call_function file (function_tree f) args turns ≡ returned (run_all (in_function file) (stmts_tree f.body) s left)
call-one file f args turns left s z e =
    ap (call_function file (function_tree f) args) (z ∙ add-one left)
    ∙ ap (λ s. returned (run_all (in_function file) (stmts_tree f.body) s left)) (sym e)
