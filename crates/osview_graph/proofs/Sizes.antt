-- The sizes of those that are alike, with one more; and that they are drawn where the first of them stands.
use Rattle.std.proofs.Common.{◌≡◌, ◌∙◌, ◌+◌, ◌++◌, ◌<◌, ℕ, suc, zero, Bool, true, false, cond, ◌||◌, List, [], ◌∷◌, Option, None, Some, ap, append-nil, arith, filter, get_or, length, map, max, min, refl, sym, take}
use Rattle.std.specs.List.{fold, list_any}
use Rattle.std.specs.Option.{option_map_or}
use Rattle.std.proofs.lemmas.Bool.Decides.{nat_tests}
use Rattle.std.proofs.lemmas.List.{map-append}
use Rattle.std.proofs.lemmas.List.Elements.{filter_more}
use Rattle.std.proofs.lemmas.List.Folds.{list_any_more}
use Rattle.std.proofs.lemmas.List.Sums.{fold_push}
use Rattle.std.proofs.lemmas.Option.{slice_get-get_or}
use Rattle.osview_graph.specs.Arrows.{arrow, arrow_at, arrow_of, is_alike}
use Rattle.osview_graph.specs.Tally.{arrow_for, sizes_of, with_use}
use Rattle.osview_graph.specs.declared.tally.Sizes.{Sizes}
use Rattle.osview_graph.specs.declared.uses.Use.{Use}

folded : (f : ℕ → ℕ → ℕ) (h : Use → ℕ) (start : ℕ) (us : List Use) (v : Use) → fold f start (map h (us ++ v ∷ [])) ≡ f (fold f start (map h us)) (h v)
folded f h start us v = ap (fold f start) (map-append h us (v ∷ [])) ∙ fold_push f start (map h us) (h v)

-- with one more at the end
sizes-push : (us : List Use) (v : Use) → sizes_of (us ++ v ∷ []) ≡ Some (with_use (sizes_of us) v)
sizes-push [] v = refl
sizes-push (u ∷ us) v =
    let horizon : Use → ℕ = λ x. x.horizon in
    let burst : Use → ℕ = λ x. x.burst in
    let made : ℕ → ℕ → ℕ → ℕ → Option Sizes = λ a b d e. Some (record { least_horizon = a; greatest_horizon = b; least_burst = d; greatest_burst = e }) in
    ap (λ (n : ℕ). made n (fold max u.horizon (map horizon (us ++ v ∷ []))) (fold min u.burst (map burst (us ++ v ∷ []))) (fold max u.burst (map burst (us ++ v ∷ [])))) (folded min horizon u.horizon us v)
    ∙ ap (λ (n : ℕ). made (min (fold min u.horizon (map horizon us)) v.horizon) n (fold min u.burst (map burst (us ++ v ∷ []))) (fold max u.burst (map burst (us ++ v ∷ [])))) (folded max horizon u.horizon us v)
    ∙ ap (λ (n : ℕ). made (min (fold min u.horizon (map horizon us)) v.horizon) (max (fold max u.horizon (map horizon us)) v.horizon) n (fold max u.burst (map burst (us ++ v ∷ [])))) (folded min burst u.burst us v)
    ∙ ap (λ (n : ℕ). made (min (fold min u.horizon (map horizon us)) v.horizon) (max (fold max u.horizon (map horizon us)) v.horizon) (min (fold min u.burst (map burst us)) v.burst) n) (folded max burst u.burst us v)

pub sizes-more : (p : Use → Bool) (all : List Use) (k : ℕ) (d : Use) → k < length all
    → sizes_of (filter p (take (k + 1) all)) ≡ cond (p (get_or all k d)) (Some (with_use (sizes_of (filter p (take k all))) (get_or all k d))) (sizes_of (filter p (take k all)))
sizes-more p all k d lt = ap sizes_of (filter_more p all k d lt) ∙ by (p (get_or all k d)) where
  by : (b : Bool) → sizes_of (filter p (take k all) ++ cond b (get_or all k d ∷ []) []) ≡ cond b (Some (with_use (sizes_of (filter p (take k all))) (get_or all k d))) (sizes_of (filter p (take k all)))
  by true = sizes-push (filter p (take k all)) (get_or all k d)
  by false = ap sizes_of (append-nil (filter p (take k all)))

pub with_same : (p : Use → Bool) (all : List Use) (k : ℕ) (d : Use) {old new : Option Sizes} → k < length all → old ≡ sizes_of (filter p (take k all))
    → new ≡ cond (p (get_or all k d)) (Some (with_use old (get_or all k d))) old → new ≡ sizes_of (filter p (take (k + 1) all))
with_same p all k d lt before now =
    now ∙ ap (λ (o : Option Sizes). cond (p (get_or all k d)) (Some (with_use o (get_or all k d))) o) before ∙ sym (sizes-more p all k d lt)

-- where one passes, some do
some_of : (p : Use → Bool) (xs : List Use) (i : ℕ) (d : Use) → i < length xs → p (get_or xs i d) ≡ true → (y : Use) × (ys : List Use) × (filter p xs ≡ y ∷ ys)
some_of p [] i d lt passes = absurd (omega (arith, lt))
some_of p (x ∷ xs) zero d lt passes = (x, filter p xs, ap (λ (b : Bool). cond b (x ∷ filter p xs) (filter p xs)) passes)
some_of p (x ∷ xs) (suc i) d lt passes = by (p x) (some_of p xs i d (omega (arith, lt)) passes) where
  by : (b : Bool) → (y : Use) × (ys : List Use) × (filter p xs ≡ y ∷ ys) → (y : Use) × (ys : List Use) × (cond b (x ∷ filter p xs) (filter p xs) ≡ y ∷ ys)
  by true rest = (x, filter p xs, refl)
  by false rest = rest

alike_itself : (u : Use) → is_alike u u ≡ true
alike_itself u = grind (arith, nat_tests)

drawn_so : (u : Use) (same : List Use) → (y : Use) × (ys : List Use) × (same ≡ y ∷ ys) → (b : Bool) → arrow_for u (cond b None (sizes_of same)) ≡ cond b [] (arrow u same)
drawn_so u same some true = refl
drawn_so u same some false = ap (λ (us : List Use). arrow_for u (sizes_of us)) some.2 ∙ sym (ap (arrow u) some.2)

-- what is drawn of one by what is left of those that are like it
pub drawn_here : (all : List Use) (k : ℕ) (d : Use) (sizes : Option Sizes) → k < length all
    → sizes ≡ cond (list_any (is_alike (get_or all k d)) (take k all)) None (sizes_of (filter (is_alike (get_or all k d)) all)) → arrow_for (get_or all k d) sizes ≡ arrow_at all k
drawn_here all k d sizes lt is =
    let u = get_or all k d in
    ap (arrow_for u) is ∙ drawn_so u (filter (is_alike u) all) (some_of (is_alike u) all k d lt (alike_itself u)) (list_any (is_alike u) (take k all))
    ∙ sym (ap (λ (o : Option Use). option_map_or (arrow_of all k) o []) (slice_get-get_or all k d lt))

taken : (some here : Bool) (o : Option Sizes) → cond here None (cond some None o) ≡ cond (some || here) None o
taken true true o = refl
taken true false o = refl
taken false true o = refl
taken false false o = refl

-- what is left behind one more place
pub left_behind : (all : List Use) (k : ℕ) (d u : Use) {old new : Option Sizes} → k < length all
    → old ≡ cond (list_any (is_alike u) (take k all)) None (sizes_of (filter (is_alike u) all)) → new ≡ cond (is_alike u (get_or all k d)) None old
    → new ≡ cond (list_any (is_alike u) (take (k + 1) all)) None (sizes_of (filter (is_alike u) all))
left_behind all k d u lt before now =
    now ∙ ap (cond (is_alike u (get_or all k d)) None) before
    ∙ taken (list_any (is_alike u) (take k all)) (is_alike u (get_or all k d)) (sizes_of (filter (is_alike u) all))
    ∙ ap (λ (b : Bool). cond b None (sizes_of (filter (is_alike u) all))) (sym (list_any_more (is_alike u) all k d lt))
