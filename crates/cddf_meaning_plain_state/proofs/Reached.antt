-- What the first items of a file declare, an item at a time.
use Rattle.std.proofs.Common.{◌≡◌, ◌≢◌, Bool, false, ℕ, zero, suc, ◌+◌, ◌<◌, List, [], ◌∷◌, ◌++◌, length, get_or, take, map, Some, refl, ap, sym, ◌∙◌, arith}
use Rattle.std.proofs.Math.ListN.{get_or-map}
use Rattle.std.proofs.lemmas.List.{length-map, length-take}
use Rattle.cddf_meaning.proofs.Scoping.{with_items-last}
use Rattle.cddf_meaning.specs.File.{File}
use Rattle.cddf_meaning.specs.Functions.{file_of, with_item, with_items, empty_file, item_unsigned, item_variable}
use Rattle.cddf_meaning.specs.Variables.{bind, find, flag_or}
use Rattle.cddf_meaning.specs.declared.variable.Binding.{Binding}
use Rattle.cddf_meaning.specs.declared.variable.Variable.{Variable}
use Rattle.os_ast.specs.Notes.Programs.{global_id}
use Rattle.os_ast.specs.Trees as tree
use Rattle.os_ast.specs.Views.{item_tree}
use Rattle.os_ast.specs.declared.program.Item.{Item}

count-with_items : (file : File) (items : List tree.ItemTree) → (with_items file items).count ≡ file.count + length items
count-with_items file [] = omega arith
count-with_items file (x ∷ xs) = count-with_items (with_item file x) xs ∙ omega arith

pub take-last : {A : Type 0} → (xs : List A) (i : ℕ) (x : A) → i < length xs → x ≡ get_or xs i x → take (suc i) xs ≡ take i xs ++ x ∷ []
take-last [] i x inside is = search (inside, arith)
take-last (y ∷ ys) zero x inside is = ap (λ z. z ∷ []) (sym is)
take-last (y ∷ ys) (suc i) x inside is = ap (λ zs. y ∷ zs) (take-last ys i x (omega (arith, inside)) is)

pub get_or-tree : (items : List Item) (i : ℕ) (x : Item) → x ≡ get_or items i x → item_tree x ≡ get_or (map item_tree items) i (item_tree x)
get_or-tree items i x is = ap item_tree is ∙ sym (get_or-map item_tree items i x)

-- the file behind one item more
file-step : (items : List Item) (i : ℕ) (x : Item) → i < length items → x ≡ get_or items i x →
    file_of (take (suc i) (map item_tree items)) ≡ with_item (file_of (take i (map item_tree items))) (item_tree x)
file-step items i x inside is =
    let trees = map item_tree items in
    ap file_of (take-last trees i (item_tree x) (omega (arith, inside, length-map items item_tree)) (get_or-tree items i x is)) ∙ with_items-last empty_file (take i trees) (item_tree x)

count-first : (items : List Item) (i : ℕ) → i < length items → (file_of (take i (map item_tree items))).count ≡ i
count-first items i inside =
    count-with_items empty_file (take i (map item_tree items))
    ∙ omega (arith, inside, length-map items item_tree, length-take i (map item_tree items))

find-named : (a id : ℕ) (u : Bool) (v : Variable) (bound : List Binding) → a ≡ id → find (bind a u v bound) id ≡ Some v
find-named a id u v bound h = grind (arith, h)

find-unnamed : (a id : ℕ) (u : Bool) (v : Variable) (bound : List Binding) → a ≢ id → find (bind a u v bound) id ≡ find bound id
find-unnamed a id u v bound h = grind (arith, h)

pub found-here : (items : List Item) (i id : ℕ) (x : Item) → i < length items → x ≡ get_or items i x → global_id (item_tree x) ≡ id →
    find (file_of (take (suc i) (map item_tree items))).names id ≡ Some (item_variable i (item_tree x))
found-here items i id x inside is named =
    let before = file_of (take i (map item_tree items)) in
    ap (λ f. find f.names id) (file-step items i x inside is)
    ∙ find-named (global_id (item_tree x)) id (item_unsigned (item_tree x)) (item_variable before.count (item_tree x)) before.names named
    ∙ ap (λ n. Some (item_variable n (item_tree x))) (count-first items i inside)

pub found-before : (items : List Item) (i id : ℕ) (x : Item) → i < length items → x ≡ get_or items i x → global_id (item_tree x) ≢ id →
    find (file_of (take (suc i) (map item_tree items))).names id ≡ find (file_of (take i (map item_tree items))).names id
found-before items i id x inside is other =
    let before = file_of (take i (map item_tree items)) in
    ap (λ f. find f.names id) (file-step items i x inside is)
    ∙ find-unnamed (global_id (item_tree x)) id (item_unsigned (item_tree x)) (item_variable before.count (item_tree x)) before.names other

flag-named : (e : Bool) (a id : ℕ) (u : Bool) (v : Variable) (bound : List Binding) → a ≡ id → flag_or e (bind a u v bound) id ≡ u
flag-named e a id u v bound h = grind (arith, h)

flag-unnamed : (e : Bool) (a id : ℕ) (u : Bool) (v : Variable) (bound : List Binding) → a ≢ id →
    flag_or e (bind a u v bound) id ≡ flag_or e bound id
flag-unnamed e a id u v bound h = grind (arith, h)

-- the type of what they declare
pub flag-here : (items : List Item) (i id : ℕ) (x : Item) → i < length items → x ≡ get_or items i x → global_id (item_tree x) ≡ id →
    flag_or false (file_of (take (suc i) (map item_tree items))).names id ≡ item_unsigned (item_tree x)
flag-here items i id x inside is named =
    let before = file_of (take i (map item_tree items)) in
    ap (λ f. flag_or false f.names id) (file-step items i x inside is)
    ∙ flag-named false (global_id (item_tree x)) id (item_unsigned (item_tree x)) (item_variable before.count (item_tree x)) before.names named

pub flag-before : (items : List Item) (i id : ℕ) (x : Item) → i < length items → x ≡ get_or items i x → global_id (item_tree x) ≢ id →
    flag_or false (file_of (take (suc i) (map item_tree items))).names id ≡ flag_or false (file_of (take i (map item_tree items))).names id
flag-before items i id x inside is other =
    let before = file_of (take i (map item_tree items)) in
    ap (λ f. flag_or false f.names id) (file-step items i x inside is)
    ∙ flag-unnamed false (global_id (item_tree x)) id (item_unsigned (item_tree x)) (item_variable before.count (item_tree x)) before.names other

pub map-take-tree : (n : ℕ) (items : List Item) → map item_tree (take n items) ≡ take n (map item_tree items)
map-take-tree zero items = refl
map-take-tree (suc n) [] = refl
map-take-tree (suc n) (x ∷ xs) = ap (λ ts. item_tree x ∷ ts) (map-take-tree n xs)
