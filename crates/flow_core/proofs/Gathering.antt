-- Elements that are gathered one by one: their values, and their least root.
use Rattle.std.proofs.Common.{◌≡◌, ℕ, ◌+◌, ◌<◌, ℤ, List, [], ◌∷◌, ◌++◌, Option, Some, None, length, get_or, take, refl, sym, ap, ◌∙◌, subst}
use Rattle.std.specs.Prelude.{min}
use Rattle.std.specs.Option.{option_map_or}
use Rattle.flow_core_laws.proofs.Gathering.{gathered-take_more}
use Rattle.flow_core_laws.specs.declared.elem.Elem.{Elem}
use Rattle.flow_core_laws.specs.declared.elem.Elem.TheVariants.{Value, Poison}
use Rattle.flow_core.specs.Gathered.{AreGathered}
use Rattle.flow_core_laws.proofs.OneMore.{values-value, values-poison, least_root-value, least_root-poison}

pub AreGathered-none : AreGathered [] None []
AreGathered-none = record { elements = []; are_there = refl; least_is = refl; values_are = refl }

pub AreGathered-value : (cells : List (Option Elem)) (i : ℕ) (least : Option ℕ) (values : List ℤ) (v : ℤ) → i < length cells → get_or cells i None ≡ Some (Value v) → AreGathered (take i cells) least values → AreGathered (take (i + 1) cells) least (values ++ v ∷ [])
AreGathered-value cells i least values v lt at g = record {
  elements = g.elements ++ Value v ∷ [];
  are_there = gathered-take_more cells i g.elements (Value v) lt at g.are_there;
  least_is = g.least_is ∙ sym (least_root-value g.elements v);
  values_are = ap (λ (l : List ℤ). l ++ v ∷ []) g.values_are ∙ sym (values-value g.elements v);
}

pub AreGathered-poison : (cells : List (Option Elem)) (i : ℕ) (least : Option ℕ) (values : List ℤ) (root lesser : ℕ) → i < length cells → get_or cells i None ≡ Some (Poison root) → lesser ≡ option_map_or (λ (before : ℕ). min before root) least root → AreGathered (take i cells) least values → AreGathered (take (i + 1) cells) (Some lesser) values
AreGathered-poison cells i least values root lesser lt at is g = record {
  elements = g.elements ++ Poison root ∷ [];
  are_there = gathered-take_more cells i g.elements (Poison root) lt at g.are_there;
  least_is = ap (λ (n : ℕ). Some n) (is ∙ ap (λ (o : Option ℕ). option_map_or (λ (before : ℕ). min before root) o root) g.least_is) ∙ sym (least_root-poison g.elements root);
  values_are = g.values_are ∙ sym (values-poison g.elements root);
}

-- the same, by what was read of the next cell
pub AreGathered-as_value : (cells : List (Option Elem)) (i : ℕ) (least now : Option ℕ) (values after : List ℤ) (v : ℤ) (e : Elem) → i < length cells → get_or cells i None ≡ Some e → e ≡ Value v → now ≡ least → after ≡ values ++ v ∷ [] → AreGathered (take i cells) least values → AreGathered (take (i + 1) cells) now after
AreGathered-as_value cells i least now values after v e lt at is now_is after_is g =
    subst (λ (o : Option ℕ). AreGathered (take (i + 1) cells) o after) (sym now_is) (subst (AreGathered (take (i + 1) cells) least) (sym after_is) (AreGathered-value cells i least values v lt (at ∙ ap (λ (x : Elem). Some x) is) g))

pub AreGathered-as_poison : (cells : List (Option Elem)) (i : ℕ) (least now : Option ℕ) (values after : List ℤ) (root lesser : ℕ) (e : Elem) → i < length cells → get_or cells i None ≡ Some e → e ≡ Poison root → lesser ≡ option_map_or (λ (before : ℕ). min before root) least root → now ≡ Some lesser → after ≡ values → AreGathered (take i cells) least values → AreGathered (take (i + 1) cells) now after
AreGathered-as_poison cells i least now values after root lesser e lt at is lesser_is now_is after_is g =
    subst (λ (o : Option ℕ). AreGathered (take (i + 1) cells) o after) (sym now_is) (subst (AreGathered (take (i + 1) cells) (Some lesser)) (sym after_is) (AreGathered-poison cells i least values root lesser lt (at ∙ ap (λ (x : Elem). Some x) is) lesser_is g))
