-- The least root and the values of a list with one more element.
use Rattle.std.proofs.Common.{◌≡◌, ℕ, ℤ, List, [], ◌∷◌, ◌++◌, Some, None, length, refl, sym, ap, ◌∙◌}
use Rattle.std.specs.Prelude.{min}
use Rattle.std.specs.Option.{option_map_or}
use Rattle.std.specs.List.{filter_map, fold, reduce}
use Rattle.std.proofs.lemmas.List.{length-map}
use Rattle.flow_core_laws.specs.declared.elem.Elem.{Elem}
use Rattle.flow_core_laws.specs.declared.elem.Elem.TheVariants.{Value, Poison}
use Rattle.flow_core_laws.specs.Poisoning.{poison_root, values_of, least_root}
use Rattle.flow_core_laws.proofs.Roots.{others_are_values}

roots-value : (es : List Elem) (v : ℤ) → filter_map poison_root (es ++ Value v ∷ []) ≡ filter_map poison_root es
roots-value [] v = refl
roots-value (Value w ∷ es) v = roots-value es v
roots-value (Poison r ∷ es) v = ap (λ (l : List ℕ). r ∷ l) (roots-value es v)

roots-poison : (es : List Elem) (root : ℕ) → filter_map poison_root (es ++ Poison root ∷ []) ≡ filter_map poison_root es ++ root ∷ []
roots-poison [] root = refl
roots-poison (Value w ∷ es) root = roots-poison es root
roots-poison (Poison r ∷ es) root = ap (λ (l : List ℕ). r ∷ l) (roots-poison es root)

pub values-value : (es : List Elem) (v : ℤ) → values_of (es ++ Value v ∷ []) ≡ values_of es ++ v ∷ []
values-value [] v = refl
values-value (Value w ∷ es) v = ap (λ (l : List ℤ). w ∷ l) (values-value es v)
values-value (Poison r ∷ es) v = values-value es v

pub values-poison : (es : List Elem) (root : ℕ) → values_of (es ++ Poison root ∷ []) ≡ values_of es
values-poison [] root = refl
values-poison (Value w ∷ es) root = ap (λ (l : List ℤ). w ∷ l) (values-poison es root)
values-poison (Poison r ∷ es) root = values-poison es root

fold-push : (a : ℕ) (rs : List ℕ) (root : ℕ) → fold min a (rs ++ root ∷ []) ≡ min (fold min a rs) root
fold-push a [] root = refl
fold-push a (r ∷ rs) root = fold-push (min a r) rs root

reduce-push : (rs : List ℕ) (root : ℕ) → reduce min (rs ++ root ∷ []) ≡ Some (option_map_or (λ (before : ℕ). min before root) (reduce min rs) root)
reduce-push [] root = refl
reduce-push (r ∷ rs) root = ap (λ (n : ℕ). Some n) (fold-push r rs root)

-- a value changes no root, and poison may be the least
pub least_root-value : (es : List Elem) (v : ℤ) → least_root (es ++ Value v ∷ []) ≡ least_root es
least_root-value es v = ap (reduce min) (roots-value es v)

pub least_root-poison : (es : List Elem) (root : ℕ) → least_root (es ++ Poison root ∷ []) ≡ Some (option_map_or (λ (before : ℕ). min before root) (least_root es) root)
least_root-poison es root = ap (reduce min) (roots-poison es root) ∙ reduce-push (filter_map poison_root es) root

-- where no element is poison there are as many values
pub length-values : (es : List Elem) → least_root es ≡ None → length (values_of es) ≡ length es
length-values es none = sym (ap length (others_are_values es none) ∙ length-map (values_of es) Value)
