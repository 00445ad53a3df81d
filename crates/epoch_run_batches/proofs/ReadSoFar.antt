-- What was read so far, with one more element.
use Rattle.std.proofs.Common.{◌≡◌, ℕ, ◌+◌, ◌<◌, ℤ, List, [], ◌∷◌, ◌++◌, Option, Some, map, length, take, refl, sym, ap, ◌∙◌, subst, append_assoc, arith}
use Rattle.std.specs.List.{range_with_len}
use Rattle.flow_core_laws.proofs.Stretches.{map-range-add}
use Rattle.std.specs.Prelude.{min, slice_set}
use Rattle.std.specs.Option.{option_map_or}
use Rattle.std.proofs.lemmas.List.{append-nil, map-append, take_more_set}
use Rattle.flow_core_laws.specs.Poisoning.{least_root, values_of}
use Rattle.flow_core_laws.specs.Round.{gathered}
use Rattle.flow_core_laws.specs.declared.elem.Elem.{Elem}
use Rattle.flow_core_laws.specs.declared.elem.Elem.TheVariants.{Value, Poison}
use Rattle.flow_core_laws.proofs.Gathering.{gathered-push}
use Rattle.flow_core_laws.proofs.OneMore.{values-value, values-poison, least_root-value, least_root-poison}
use Rattle.epoch_run_batches.specs.declared.inputs.Inputs.{Inputs}
use Rattle.epoch_run_batches.specs.Reads.{ArePut, AreRead, values_in}

AreRead-value : (cells : List (Option Elem)) (was now : Inputs) (v : ℤ) → now.root ≡ was.root → values_in now ≡ values_in was ++ v ∷ [] → AreRead cells was → AreRead (cells ++ Some (Value v) ∷ []) now
AreRead-value cells was now v root values r = record {
  elements = r.elements ++ Value v ∷ [];
  are_there = gathered-push cells r.elements (Value v) r.are_there;
  root_is = root ∙ r.root_is ∙ sym (least_root-value r.elements v);
  values_are = values ∙ ap (λ (l : List ℤ). l ++ v ∷ []) r.values_are ∙ sym (values-value r.elements v);
}

AreRead-poison : (cells : List (Option Elem)) (was now : Inputs) (root lesser : ℕ) → lesser ≡ option_map_or (λ (before : ℕ). min before root) was.root root → now.root ≡ Some lesser → values_in now ≡ values_in was → AreRead cells was → AreRead (cells ++ Some (Poison root) ∷ []) now
AreRead-poison cells was now root lesser is root_is values r = record {
  elements = r.elements ++ Poison root ∷ [];
  are_there = gathered-push cells r.elements (Poison root) r.are_there;
  root_is = root_is ∙ ap (λ (n : ℕ). Some n) (is ∙ ap (λ (o : Option ℕ). option_map_or (λ (before : ℕ). min before root) o root) r.root_is) ∙ sym (least_root-poison r.elements root);
  values_are = values ∙ r.values_are ∙ sym (values-poison r.elements root);
}

-- more values
gathered-values : (cells : List (Option Elem)) (es : List Elem) (vs : List ℤ) → gathered cells ≡ Some es → gathered (cells ++ map (λ (v : ℤ). Some (Value v)) vs) ≡ Some (es ++ map Value vs)
gathered-values cells es [] h = ap gathered (append-nil cells) ∙ h ∙ ap (λ (l : List Elem). Some l) (sym (append-nil es))
gathered-values cells es (v ∷ vs) h =
    ap gathered (sym (append_assoc cells (Some (Value v) ∷ []) (map (λ (v : ℤ). Some (Value v)) vs)))
    ∙ gathered-values (cells ++ Some (Value v) ∷ []) (es ++ Value v ∷ []) vs (gathered-push cells es (Value v) h)
    ∙ ap (λ (l : List Elem). Some l) (append_assoc es (Value v ∷ []) (map Value vs))

least_root-values : (es : List Elem) (vs : List ℤ) → least_root (es ++ map Value vs) ≡ least_root es
least_root-values es [] = ap least_root (append-nil es)
least_root-values es (v ∷ vs) = ap least_root (sym (append_assoc es (Value v ∷ []) (map Value vs))) ∙ least_root-values (es ++ Value v ∷ []) vs ∙ least_root-value es v

values-values : (es : List Elem) (vs : List ℤ) → values_of (es ++ map Value vs) ≡ values_of es ++ vs
values-values es [] = ap values_of (append-nil es) ∙ sym (append-nil (values_of es))
values-values es (v ∷ vs) =
    ap values_of (sym (append_assoc es (Value v ∷ []) (map Value vs)))
    ∙ values-values (es ++ Value v ∷ []) vs
    ∙ ap (λ (l : List ℤ). l ++ vs) (values-value es v)
    ∙ append_assoc (values_of es) (v ∷ []) vs

AreRead-values : (cells : List (Option Elem)) (values : List ℤ) (was now : Inputs) → now.root ≡ was.root → values_in now ≡ values_in was ++ values → AreRead cells was → AreRead (cells ++ map (λ (v : ℤ). Some (Value v)) values) now
AreRead-values cells values was now root are r = record {
  elements = r.elements ++ map Value values;
  are_there = gathered-values cells r.elements values r.are_there;
  root_is = root ∙ r.root_is ∙ sym (least_root-values r.elements values);
  values_are = are ∙ ap (λ (l : List ℤ). l ++ values) r.values_are ∙ sym (values-values r.elements values);
}

-- elements that were put into places behind those that were read
pub AreRead-put : (cells elements : List (Option Elem)) (before after : List ℤ) (was room now : Inputs) → before ≡ room.places.items → now.places.items ≡ after → room.root ≡ was.root → now.root ≡ room.root → values_in room ≡ values_in was
    → ArePut room.count before elements now.count after → AreRead cells was → AreRead (cells ++ elements) now
AreRead-put cells elements before after was room now before_is after_is same_root root same_values put r =
    subst (λ (es : List (Option Elem)). AreRead (cells ++ es) now) (sym put.are_values)
    (AreRead-values cells put.values was now (root ∙ same_root)
    (ap (take now.count) after_is ∙ put.are_put ∙ ap (λ (xs : List ℤ). take room.count xs ++ put.values) before_is ∙ ap (λ (xs : List ℤ). xs ++ put.values) same_values)
    r)

-- one more of them
pub ArePut-more : (first k : ℕ) (before places : List ℤ) (elements : List (Option Elem)) (element : Option Elem) (v x : ℤ) → element ≡ Some (Value v) → x ≡ v → first + k < length places
    → ArePut first before elements (first + k) places → ArePut first before (elements ++ element ∷ []) (first + (k + 1)) (slice_set places (first + k) x)
ArePut-more first k before places elements element v x is same lt put = record {
  values = put.values ++ v ∷ [];
  are_values = ap (λ (o : Option Elem). elements ++ o ∷ []) is
      ∙ ap (λ (es : List (Option Elem)). es ++ Some (Value v) ∷ []) put.are_values
      ∙ sym (map-append (λ (w : ℤ). Some (Value w)) put.values (v ∷ []));
  are_put = ap (λ (n : ℕ). take n (slice_set places (first + k) x)) (let e : first + (k + 1) ≡ first + k + 1 = omega arith in e)
      ∙ take_more_set places (first + k) x lt
      ∙ ap (λ (y : ℤ). take (first + k) places ++ y ∷ []) same
      ∙ ap (λ (xs : List ℤ). xs ++ v ∷ []) put.are_put
      ∙ append_assoc (take first before) put.values (v ∷ []);
}

-- none of them
pub ArePut-none : (first : ℕ) (before : List ℤ) → ArePut first before [] (first + 0) before
ArePut-none first before = record {
  values = [];
  are_values = refl;
  are_put = ap (λ (n : ℕ). take n before) (let e : first + 0 ≡ first = omega arith in e) ∙ sym (append-nil (take first before));
}

-- the same, by what the next element is
pub AreRead-as_value : (cells : List (Option Elem)) (was now : Inputs) (element : Elem) (v : ℤ) → element ≡ Value v → now.root ≡ was.root → values_in now ≡ values_in was ++ v ∷ [] → AreRead cells was → AreRead (cells ++ Some element ∷ []) now
AreRead-as_value cells was now element v is root values r = subst (λ (e : Elem). AreRead (cells ++ Some e ∷ []) now) (sym is) (AreRead-value cells was now v root values r)

pub AreRead-as_poison : (cells : List (Option Elem)) (was now : Inputs) (element : Elem) (root lesser : ℕ) → element ≡ Poison root → lesser ≡ option_map_or (λ (before : ℕ). min before root) was.root root → now.root ≡ Some lesser → values_in now ≡ values_in was → AreRead cells was → AreRead (cells ++ Some element ∷ []) now
AreRead-as_poison cells was now element root lesser is least root_is values r = subst (λ (e : Elem). AreRead (cells ++ Some e ∷ []) now) (sym is) (AreRead-poison cells was now root lesser least root_is values r)

-- one position more of a stretch of positions
pub AreRead-one_more : (f : ℕ → Option Elem) (first k position : ℕ) (cells : List (Option Elem)) (e : Elem) (now : Inputs) → position ≡ first + k → f position ≡ Some e
    → AreRead ((cells ++ map f (range_with_len first k)) ++ Some e ∷ []) now → AreRead (cells ++ map f (range_with_len first (k + 1))) now
AreRead-one_more f first k position cells e now at is r =
    subst (λ (cs : List (Option Elem)). AreRead cs now)
    (ap (λ (o : Option Elem). (cells ++ map f (range_with_len first k)) ++ o ∷ []) (sym is ∙ ap f at)
    ∙ append_assoc cells (map f (range_with_len first k)) (f (first + k) ∷ [])
    ∙ ap (λ ys. cells ++ ys) (sym (map-range-add f first k 1)))
    r
