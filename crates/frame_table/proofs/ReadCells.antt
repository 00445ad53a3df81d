-- What a seat has read of its frame, element by element.
use Rattle.std.proofs.Common.{◌≡◌, ℕ, ℤ, ◌+◌, ◌<◌, ◌≤◌, List, [], ◌∷◌, ◌++◌, Option, Some, None, length, set, take, refl, sym, ap, ◌∙◌, subst, ◌⊎◌, inl, inr, arith}
use Rattle.std.specs.Prelude.{slice_get, min}
use Rattle.std.specs.Option.{option_map_or}
use Rattle.std.proofs.lemmas.Bool.{cases_lt}
use Rattle.std.proofs.lemmas.List.{length-append, take_more_set, take_all}
use Rattle.flow_core_laws.specs.declared.elem.Elem.{Elem}
use Rattle.flow_core_laws.specs.declared.elem.Elem.TheVariants.{Value, Poison}
use Rattle.flow_core_laws.specs.Poisoning.{values_of}
use Rattle.flow_core_laws.specs.Plans.{frame_at, cell_source, plan_element}
use Rattle.flow_core_laws.proofs.OneMore.{values-value, least_root-value, least_root-poison}
use Rattle.flow_core_laws.proofs.Stretches.{slice_get-append_left, slice_get-append_right}
use Rattle.flow_core_concurrent.specs.declared.known.Known.{Known}
use Rattle.flow_core_concurrent.specs.Steps.{meant_at}
use Rattle.frame_table.specs.Seats.{HasRead}
use Rattle.frame_table.specs.Single.{AreKept}
use Rattle.frame_table.proofs.Pieces.{gathered_range}

-- a value at its place
pub kept_value : (es : List Elem) (v : ℤ) (least now : Option ℕ) (into after : List ℤ) (place : ℕ) → place < length into → now ≡ least → after ≡ set into place v → length es ≡ place → AreKept es least into → AreKept (es ++ Value v ∷ []) now after
kept_value es v least now into after place lt now_is after_is long kept = record {
  least_is = now_is ∙ kept.least_is ∙ sym (least_root-value es v);
  values_are = λ none.
      let more : length (es ++ Value v ∷ []) ≡ place + 1 = length-append es (Value v ∷ []) ∙ (let e : length es + 1 ≡ place + 1 = omega (arith, long) in e) in
      let before : take place into ≡ values_of es = ap (λ (n : ℕ). take n into) (sym long) ∙ kept.values_are (sym now_is ∙ none) in
      ap (λ (n : ℕ). take n after) more ∙ ap (take (place + 1)) after_is ∙ take_more_set into place v lt ∙ ap (λ (l : List ℤ). l ++ v ∷ []) before ∙ sym (values-value es v);
}

-- the root of poison
pub kept_poison : (es : List Elem) (root lesser : ℕ) (least now : Option ℕ) (into after : List ℤ) → lesser ≡ option_map_or (λ (before : ℕ). min before root) least root → now ≡ Some lesser → AreKept es least into → AreKept (es ++ Poison root ∷ []) now after
kept_poison es root lesser least now into after is now_is kept = record {
  least_is = now_is ∙ ap (λ (n : ℕ). Some n) (is ∙ ap (λ (o : Option ℕ). option_map_or (λ (before : ℕ). min before root) o root) kept.least_is) ∙ sym (least_root-poison es root);
  values_are = λ none. let z : Some lesser ≡ None = sym now_is ∙ none in absurd (cc);
}

-- the same, by what was read
pub kept_as_value : (es : List Elem) (e : Elem) (v : ℤ) (least now : Option ℕ) (into after : List ℤ) (place : ℕ) → e ≡ Value v → place < length into → now ≡ least → after ≡ set into place v → length es ≡ place → AreKept es least into → AreKept (es ++ e ∷ []) now after
kept_as_value es e v least now into after place is lt now_is after_is long kept = subst (λ (x : Elem). AreKept (es ++ x ∷ []) now after) (sym is) (kept_value es v least now into after place lt now_is after_is long kept)

pub kept_as_poison : (es : List Elem) (e : Elem) (root lesser : ℕ) (least now : Option ℕ) (into after : List ℤ) → e ≡ Poison root → lesser ≡ option_map_or (λ (before : ℕ). min before root) least root → now ≡ Some lesser → after ≡ into → AreKept es least into → AreKept (es ++ e ∷ []) now after
kept_as_poison es e root lesser least now into after is lesser_is now_is after_is kept = subst (λ (x : Elem). AreKept (es ++ x ∷ []) now after) (sym is) (subst (λ (xs : List ℤ). AreKept (es ++ Poison root ∷ []) now xs) (sym after_is) (kept_poison es root lesser least now into into lesser_is now_is kept))

-- the first cells were read
pub record ReadSoFar (known : Known) (first k : ℕ) (least : Option ℕ) (into : List ℤ) : Type 0 where
  pub elements : List Elem
  pub as_many : length elements ≡ k
  pub kept : AreKept elements least into
  pub are_meant : (j : ℕ) → j < k → meant_at known (first + j) ≡ slice_get elements j

pub nothing_read : (known : Known) (first : ℕ) (into : List ℤ) → ReadSoFar known first 0 None into
nothing_read known first into = record { elements = []; as_many = refl; kept = record { least_is = refl; values_are = λ none. refl }; are_meant = λ j lt. absurd (omega arith) }

pub one_more_read : (known : Known) (first k : ℕ) (least now : Option ℕ) (into after : List ℤ) (e : Elem) → meant_at known (first + k) ≡ Some e → ((es : List Elem) → length es ≡ k → AreKept es least into → AreKept (es ++ e ∷ []) now after) → ReadSoFar known first k least into → ReadSoFar known first (k + 1) now after
one_more_read known first k least now into after e meant keeps read = record {
  elements = read.elements ++ e ∷ [];
  as_many = length-append read.elements (e ∷ []) ∙ (let l = read.as_many in let s : length read.elements + 1 ≡ k + 1 = omega (arith, l) in s);
  kept = keeps read.elements read.as_many read.kept;
  are_meant = λ j lt. by j lt (cases_lt j k);
}
  where
    by : (j : ℕ) → j < k + 1 → (j < k) ⊎ (k ≤ j) → meant_at known (first + j) ≡ slice_get (read.elements ++ e ∷ []) j
    by j lt (inl less) = read.are_meant j less ∙ sym (slice_get-append_left read.elements (e ∷ []) j (let l = read.as_many in omega (arith, l, less)))
    by j lt (inr more) =
        let same : j ≡ k = omega arith in
        let l = read.as_many in
        let behind : length read.elements + 0 ≡ j = omega (arith, l, same) in
        ap (λ (n : ℕ). meant_at known (first + n)) same ∙ meant ∙ sym (slice_get-append_right read.elements (e ∷ []) 0) ∙ ap (slice_get (read.elements ++ e ∷ [])) behind

-- all cells of a frame were read
pub all_read : (known : Known) (frame first k : ℕ) (least : Option ℕ) (into : List ℤ) → (frame_at known.plan frame).cell ≡ first → (frame_at known.plan frame).inputs ≡ k → length into ≡ k → ReadSoFar known first k least into → HasRead known frame least into
all_read known frame first k least into cell inputs long read = record {
  elements = read.elements;
  are_there = gathered_range (plan_element known.plan known.meaning) (cell_source known.plan) (frame_at known.plan frame).cell (frame_at known.plan frame).inputs read.elements (read.as_many ∙ sym inputs)
      (λ j lt. ap (λ (n : ℕ). meant_at known (n + j)) cell ∙ read.are_meant j (omega (arith, inputs, lt)));
  root_is = read.kept.least_is;
  values_are = λ none. sym (take_all (length read.elements) into (let l = read.as_many in omega (arith, l, long))) ∙ read.kept.values_are none;
}
