-- What one more output adds.
use Rattle.std.proofs.Common.{◌≡◌, ℕ, ◌-◌, List, [], ◌∷◌, ◌++◌, length, map, take, drop, flat_map, refl, ap, ap₂, ◌∙◌, arith, append-nil, length-drop, take_all}
use Rattle.std.proofs.lemmas.Grind.{flat_map-append}
use Rattle.osparts_parts.specs.declared.terms.Terms.{Terms}
use Rattle.osparts_parts.specs.declared.place.PartPlace.TheVariants.{Later}
use Rattle.osparts_parts.specs.Terms.{skip_in}
use Rattle.osparts_parts.specs.Parts.{but_first, place_after}
use Rattle.osparts_parts.specs.Joined.{but_last, last_bytes, joined, state_after}
use Rattle.osparts_parts.proofs.Places.{but_first_one_more}

-- after some outputs
later : (outputs : List (List ℕ)) (output : List ℕ) (terms : Terms) → place_after outputs ≡ Later
    → joined (outputs ++ output ∷ []) terms ≡ joined outputs terms ++ but_last terms.state (drop terms.skip output)
later outputs output terms place =
    ap (flat_map (but_last terms.state)) (but_first_one_more (drop terms.skip) outputs output place)
    ∙ flat_map-append (but_last terms.state) (but_first (drop terms.skip) outputs) (drop terms.skip output ∷ [])
    ∙ ap (λ (x : List ℕ). joined outputs terms ++ x) (append-nil (but_last terms.state (drop terms.skip output)))

pub one_more_joined : (outputs : List (List ℕ)) (output : List ℕ) (terms : Terms)
    → joined (outputs ++ output ∷ []) terms ≡ joined outputs terms ++ but_last terms.state (drop (skip_in (place_after outputs) terms) output)
one_more_joined [] output terms = append-nil (but_last terms.state output)
one_more_joined (first ∷ others) output terms = later (first ∷ others) output terms refl

-- the bytes between skip and state
pub kept_is : (skip state : ℕ) (output : List ℕ)
    → but_last state (drop skip output) ≡ take (length output - state - skip) (drop skip output)
kept_is skip state output =
    let count : length (drop skip output) - state ≡ length output - state - skip = omega (arith, length-drop skip output) in
    ap (λ (k : ℕ). take k (drop skip output)) count

-- the state after an output is its end
pub state_after_one_more : (begin : List ℕ) (outputs : List (List ℕ)) (output : List ℕ) (terms : Terms)
    → state_after begin (outputs ++ output ∷ []) terms ≡ last_bytes terms.state output
state_after_one_more begin [] output terms = refl
state_after_one_more begin (first ∷ others) output terms = state_after_one_more (last_bytes terms.state first) others output terms

-- outputs as they are
no_state : (outputs : List (List ℕ)) → flat_map (but_last 0) outputs ≡ flat_map (λ (output : List ℕ). output) outputs
no_state [] = refl
no_state (output ∷ outputs) = ap₂ (λ (x y : List ℕ). x ++ y) (take_all (length output - 0) output (omega arith)) (no_state outputs)

pub no_skip : (outputs : List (List ℕ)) → map (drop 0) outputs ≡ outputs
no_skip [] = refl
no_skip (output ∷ outputs) = ap (λ (xs : List (List ℕ)). output ∷ xs) (no_skip outputs)

pub none_skipped : (outputs : List (List ℕ)) → but_first (drop 0) outputs ≡ outputs
none_skipped [] = refl
none_skipped (output ∷ outputs) = ap (λ (xs : List (List ℕ)). output ∷ xs) (no_skip outputs)

pub plain_joined : (outputs : List (List ℕ)) (terms : Terms) → terms.skip ≡ 0 → terms.state ≡ 0
    → joined outputs terms ≡ flat_map (λ (output : List ℕ). output) outputs
plain_joined outputs terms skip state =
    ap₂ (λ (m s : ℕ). flat_map (but_last s) (but_first (drop m) outputs)) skip state
    ∙ ap (flat_map (but_last 0)) (none_skipped outputs)
    ∙ no_state outputs
