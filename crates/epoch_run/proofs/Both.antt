-- Stretches of which one goes on from another.
use Rattle.std.proofs.Common.{◌≡◌, ℕ, ◌+◌, ◌++◌, ap, ◌∙◌}
use Rattle.flow_core_laws.proofs.Stretches.{map-range-add}
use Rattle.flow_core_laws.specs.Place.{places_from}

-- the places of both are those from the first one's position on
pub places_of_both : (stream other first next count more : ℕ) → stream ≡ other → first + count ≡ next
    → places_from stream first (count + more) ≡ places_from stream first count ++ places_from other next more
places_of_both stream other first next count more same on =
    map-range-add (λ position. record { stream = stream; position = position }) first count more
    ∙ ap (λ k. places_from stream first count ++ places_from stream k more) on
    ∙ ap (λ s. places_from stream first count ++ places_from s next more) same
