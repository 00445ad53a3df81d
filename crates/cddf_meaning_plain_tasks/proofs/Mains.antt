-- The function `main` among the items of a file, an item at a time.
use Rattle.std.proofs.Common.{◌≡◌, ℕ, suc, ◌<◌, List, [], ◌∷◌, ◌++◌, length, get_or, take, drop, map, Some, ap, sym, ◌∙◌, arith}
use Rattle.std.proofs.Math.Seq.{drop-cons}
use Rattle.std.proofs.lemmas.List.{length-map}
use Rattle.std.specs.Prelude.{Option}
use Rattle.cddf_meaning.specs.Program.{Main, main_at, main_behind}
use Rattle.cddf_meaning_plain_state.proofs.Reached.{get_or-tree, take-last}
use Rattle.os_ast.specs.Names.{main_id}
use Rattle.os_ast.specs.Trees as tree
use Rattle.os_ast.specs.Views.{item_tree}
use Rattle.os_ast.specs.declared.program.Item.{Item}

-- `main` among the items from a place on
abbrev pub main-from : List tree.ItemTree → ℕ → Option Main
main-from trees i = main_behind (take i trees) (drop i trees)

open-at : (items : List Item) (i : ℕ) (x : Item) → i < length items → x ≡ get_or items i x →
    drop i (map item_tree items) ≡ item_tree x ∷ drop (suc i) (map item_tree items)
open-at items i x inside is =
    let trees = map item_tree items in
    drop-cons trees i (item_tree x) (omega (arith, inside, length-map items item_tree))
    ∙ ap (λ y. y ∷ drop (suc i) trees) (sym (get_or-tree items i x is))

main-named : (before : List tree.ItemTree) (f : tree.FunctionTree) (rest : List tree.ItemTree) → f.name.id ≡ main_id →
    main_behind before (tree.Function f ∷ rest) ≡ Some (main_at before f)
main-named before f rest h = grind (arith, h)

pub main_here : (items : List Item) (i : ℕ) (x : Item) (f : tree.FunctionTree) → i < length items → x ≡ get_or items i x →
    item_tree x ≡ tree.Function f → f.name.id ≡ main_id →
    main-from (map item_tree items) i ≡ Some (main_at (take i (map item_tree items)) f)
main_here items i x f inside is function named =
    let trees = map item_tree items in
    ap (main_behind (take i trees)) (open-at items i x inside is ∙ ap (λ y. y ∷ drop (suc i) trees) function)
    ∙ main-named (take i trees) f (drop (suc i) trees) named

pub main_past : (items : List Item) (i : ℕ) (x : Item) → i < length items → x ≡ get_or items i x →
    ((before rest : List tree.ItemTree) → main_behind before (item_tree x ∷ rest) ≡ main_behind (before ++ item_tree x ∷ []) rest) →
    main-from (map item_tree items) i ≡ main-from (map item_tree items) (suc i)
main_past items i x inside is past =
    let trees = map item_tree items in
    let next = take-last trees i (item_tree x) (omega (arith, inside, length-map items item_tree)) (get_or-tree items i x is) in
    ap (main_behind (take i trees)) (open-at items i x inside is)
    ∙ past (take i trees) (drop (suc i) trees)
    ∙ ap (λ before. main_behind before (drop (suc i) trees)) (sym next)
