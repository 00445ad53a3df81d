-- How many inputs an activation has.
use Rattle.std.proofs.Common.{◌≡◌, ℕ, ◌+◌, Bool, true, false, cond, not, List, [], ◌∷◌, Some, length, map, slice_get, take, refl, sym, ap, ◌∙◌}
use Rattle.std.specs.Prelude.{filter, sum_by}
use Rattle.std.specs.List.{flat_map, range_with_len}
use Rattle.std.specs.Option.{option_map_or}
use Rattle.std.proofs.lemmas.List.{length-append, length-map}
use Rattle.std.proofs.lemmas.List.FromFn.{fill_by_all, length-map-range_with_len}
use Rattle.std.proofs.lemmas.List.Sums.{sum_by-cons}
use Rattle.flow_core_laws.specs.Place.{places_of, input_places}
use Rattle.flow_core_laws.specs.Streams.{stream_reads, stream_source}
use Rattle.flow_core_laws.specs.Window.{Window, claim_at, claims_at, claims_of, no_claim, window_of, windows_behind, windows_of}
use Rattle.flow_core_laws.specs.declared.activation.Activation.{Activation}
use Rattle.flow_core_laws.specs.declared.claim.Claim.{Claim}
use Rattle.os_code.specs.Tasks.{input_count}

mapped_twice : (f : ℕ → Window) (g : Window → Claim) (ks : List ℕ) → map g (map f ks) ≡ map (λ k. g (f k)) ks
mapped_twice f g [] = refl
mapped_twice f g (k ∷ ks) = ap (λ cs. g (f k) ∷ cs) (mapped_twice f g ks)

-- the claims of windows are those of which they were made
claims_behind : (a : ℕ) (earlier claims : List Claim) → map (λ (w : Window). w.claim) (windows_behind a earlier claims) ≡ claims
claims_behind a earlier claims =
    mapped_twice (window_of a earlier claims) (λ (w : Window). w.claim) (range_with_len 0 (length claims))
    ∙ sym (fill_by_all (claim_at claims) claims (length claims) no_claim refl (λ k lt. refl))

-- input windows cover as many places as their claims have horizons
places_covered : (ws : List Window) → length (flat_map places_of (filter (λ (w : Window). not w.claim.write) ws))
    ≡ sum_by (λ (c : Claim). c.horizon) (filter (λ (c : Claim). not c.write) (map (λ (w : Window). w.claim) ws))
places_covered [] = refl
places_covered (w ∷ ws) = by w.claim.write (places_covered ws)
  where
    by : (b : Bool) → length (flat_map places_of (filter (λ (v : Window). not v.claim.write) ws)) ≡ sum_by (λ (c : Claim). c.horizon) (filter (λ (c : Claim). not c.write) (map (λ (v : Window). v.claim) ws))
        → length (flat_map places_of (cond (not b) (w ∷ filter (λ (v : Window). not v.claim.write) ws) (filter (λ (v : Window). not v.claim.write) ws)))
        ≡ sum_by (λ (c : Claim). c.horizon) (cond (not b) (w.claim ∷ filter (λ (c : Claim). not c.write) (map (λ (v : Window). v.claim) ws)) (filter (λ (c : Claim). not c.write) (map (λ (v : Window). v.claim) ws)))
    by true h = h
    by false h =
        length-append (places_of w) (flat_map places_of (filter (λ (v : Window). not v.claim.write) ws))
        ∙ ap (λ n. n + length (flat_map places_of (filter (λ (v : Window). not v.claim.write) ws))) (length-map-range_with_len (λ position. record { stream = w.claim.stream; position = position }) w.first w.claim.horizon)
        ∙ ap (λ n. w.claim.horizon + n) h
        ∙ sym (sum_by-cons (λ (c : Claim). c.horizon) w.claim (filter (λ (c : Claim). not c.write) (map (λ (v : Window). v.claim) ws)))

-- an activation reads as many elements as it has inputs
pub length-reads : (activations : List Activation) (input : List ℕ) (a : ℕ) (x : Activation) → slice_get activations a ≡ Some x
    → length (stream_reads activations input a) ≡ input_count x
unfolding input_places
length-reads activations input a x at =
    let claims : claims_at activations a ≡ x.claims = ap (λ o. option_map_or (λ (y : Activation). y.claims) o []) at in
    length-map (input_places activations a) (stream_source activations input)
    ∙ places_covered (windows_of activations a)
    ∙ ap (λ cs. sum_by (λ (c : Claim). c.horizon) (filter (λ (c : Claim). not c.write) cs)) (claims_behind a (claims_of (take a activations)) (claims_at activations a) ∙ claims)
