-- The windows of one more activation, and their claims.
use Rattle.std.proofs.Common.{◌≡◌, ℕ, ◌+◌, ◌<◌, ◌≤◌, Bool, true, false, cond, List, [], ◌∷◌, ◌++◌, length, take, map, get_or, refl, sym, ap, ◌∙◌, arith, zero-add}
use Rattle.std.specs.Prelude.{slice_get, filter, sum_by}
use Rattle.std.specs.Bool.{beq}
use Rattle.std.specs.Option.{option_map_or}
use Rattle.std.specs.List.{flat_map, range_with_len}
use Rattle.std.proofs.lemmas.List.{length-append, length-map, length-take, take-append-le, take_all, get_or-map, get_or-take, same_lists, map-append}
use Rattle.std.proofs.lemmas.List.Elements.{filter-append}
use Rattle.std.proofs.lemmas.List.FromFn.{fill_by_all, map-range_with_len_more}
use Rattle.std.proofs.lemmas.List.Sums.{sum_by-append}
use Rattle.std.proofs.lemmas.Option.{slice_get-get_or, get_or_from_slice_get}
use Rattle.flow_core_laws.specs.declared.claim.Claim.{Claim}
use Rattle.flow_core_laws.specs.declared.activation.Activation.{Activation}
use Rattle.flow_core_laws.specs.Window.{Window, windows, windows_of, windows_behind, window_of, claims_of, claims_at, claim_at, no_claim}
use Rattle.flow_core_laws.proofs.Stretches.{flat_map-range-same, flat_map-range_more, slice_get-append_left, slice_get-append_right}
use Rattle.flow_core_laws.proofs.Windows.{window_at, length-windows}
use Rattle.stream_match_layouts.specs.Layout.{claims_in}

-- what stands for a window where there is none
abbrev pub no_window : Window
no_window = record { activation = 0; claim = no_claim; first = 0; offset = 0 }

-- the claims of the windows are those of the activations
pub claims_in-windows : (activations : List Activation) → claims_in (windows activations) ≡ claims_of activations
claims_in-windows activations = same_lists (claims_in (windows activations)) (claims_of activations) (len ∙ length-windows activations) (λ k d lt. at k d (omega (arith, len)))
  where
    len : length (claims_in (windows activations)) ≡ length (windows activations)
    len = length-map (windows activations) (λ (w : Window). w.claim)

    at : (k : ℕ) (d : Claim) → k < length (windows activations) → get_or (claims_in (windows activations)) k d ≡ get_or (claims_of activations) k d
    at k d lt =
        let w = get_or (windows activations) k no_window in
        get_or-map (λ (v : Window). v.claim) (windows activations) k no_window d lt
        ∙ sym (get_or_from_slice_get (claims_of activations) k w.claim d (window_at activations k w (slice_get-get_or (windows activations) k no_window lt)).is_claim)

-- the windows of earlier activations don't change
windows_of-earlier : (xs : List Activation) (x : Activation) (a : ℕ) → a < length xs → windows_of (xs ++ x ∷ []) a ≡ windows_of xs a
windows_of-earlier xs x a lt =
    ap (λ ys. windows_behind a (claims_of ys) (claims_at (xs ++ x ∷ []) a)) (take-append-le a xs (x ∷ []) (omega arith))
    ∙ ap (λ o. windows_behind a (claims_of (take a xs)) (option_map_or (λ (y : Activation). y.claims) o [])) (slice_get-append_left xs (x ∷ []) a lt)

windows_of-last : (xs : List Activation) (x : Activation) → windows_of (xs ++ x ∷ []) (length xs) ≡ windows_behind (length xs) (claims_of xs) x.claims
windows_of-last xs x =
    ap (λ ys. windows_behind (length xs) (claims_of ys) (claims_at (xs ++ x ∷ []) (length xs))) (take-append-le (length xs) xs (x ∷ []) (omega arith) ∙ take_all (length xs) xs (omega arith))
    ∙ ap (λ o. windows_behind (length xs) (claims_of xs) (option_map_or (λ (y : Activation). y.claims) o [])) (ap (slice_get (xs ++ x ∷ [])) (let e : length xs ≡ length xs + 0 = omega arith in e) ∙ slice_get-append_right xs (x ∷ []) 0)

-- the windows of one more activation stand behind the others
pub windows-push : (xs : List Activation) (x : Activation) → windows (xs ++ x ∷ []) ≡ windows xs ++ windows_behind (length xs) (claims_of xs) x.claims
unfolding windows
windows-push xs x =
    ap (λ n. flat_map (windows_of (xs ++ x ∷ [])) (range_with_len 0 n)) (length-append xs (x ∷ []))
    ∙ flat_map-range_more (windows_of (xs ++ x ∷ [])) 0 (length xs)
    ∙ ap (λ ws. ws ++ windows_of (xs ++ x ∷ []) (0 + length xs)) (flat_map-range-same (windows_of (xs ++ x ∷ [])) (windows_of xs) 0 (length xs) (λ k l u. windows_of-earlier xs x k (omega arith)))
    ∙ ap (λ ws. flat_map (windows_of xs) (range_with_len 0 (length xs)) ++ ws) (ap (windows_of (xs ++ x ∷ [])) (zero-add (length xs)) ∙ windows_of-last xs x)

-- the first windows of an activation, and their claims
abbrev pub first_windows : ℕ → List Claim → List Claim → ℕ → List Window
first_windows a earlier claims k = map (window_of a earlier claims) (range_with_len 0 k)

pub map_map : {A B C : Type 0} (f : A → B) (g : B → C) (xs : List A) → map g (map f xs) ≡ map (λ x. g (f x)) xs
map_map f g [] = refl
map_map f g (x ∷ xs) = ap (λ ys. g (f x) ∷ ys) (map_map f g xs)

pub claims_in-first : (a : ℕ) (earlier claims : List Claim) (k : ℕ) → k ≤ length claims → claims_in (first_windows a earlier claims k) ≡ take k claims
claims_in-first a earlier claims k le =
    map_map (window_of a earlier claims) (λ (w : Window). w.claim) (range_with_len 0 k)
    ∙ sym (fill_by_all (claim_at claims) (take k claims) k no_claim (omega (arith, length-take k claims)) (λ j l. get_or-take k claims j no_claim l))

pub claims_in-append : (ws vs : List Window) → claims_in (ws ++ vs) ≡ claims_in ws ++ claims_in vs
claims_in-append ws vs = map-append (λ (w : Window). w.claim) ws vs

-- one more of them
pub first_windows-more : (a : ℕ) (earlier claims : List Claim) (k : ℕ) → first_windows a earlier claims (k + 1) ≡ first_windows a earlier claims k ++ window_of a earlier claims k ∷ []
first_windows-more a earlier claims k = map-range_with_len_more (window_of a earlier claims) 0 k k (zero-add k)

-- ---- offsets

-- the horizons of the claims that write, or of those that read
abbrev pub alike : Bool → List Claim → ℕ
alike b claims = sum_by (λ (c : Claim). c.horizon) (filter (λ (c : Claim). beq b c.write) claims)

pub alike-push : (b : Bool) (claims : List Claim) (c : Claim) → alike b (claims ++ c ∷ []) ≡ alike b claims + cond (beq b c.write) c.horizon 0
alike-push b claims c =
    ap (sum_by (λ (d : Claim). d.horizon)) (filter-append (λ (d : Claim). beq b d.write) claims (c ∷ []))
    ∙ sum_by-append (λ (d : Claim). d.horizon) (filter (λ (d : Claim). beq b d.write) claims) (filter (λ (d : Claim). beq b d.write) (c ∷ []))
    ∙ ap (λ n. alike b claims + n) (one (beq b c.write))
  where
    one : (t : Bool) → sum_by (λ (d : Claim). d.horizon) (cond t (c ∷ []) []) ≡ cond t c.horizon 0
    one true = zero-add c.horizon
    one false = refl
