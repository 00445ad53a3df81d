-- Four activations over an input and two declared streams, of which tests make epochs.
use Rattle.std.specs.Prelude.{ℕ, true, false, List, [], ◌∷◌}
use Rattle.flow_core_laws.specs.declared.claim.Claim.{Claim}
use Rattle.flow_core_laws.specs.declared.activation.Activation.{Activation}

-- a claim that reads one element, by its stream and burst, and one that writes `count` elements
abbrev pub reads_one : ℕ → ℕ → Claim
reads_one stream burst = record { stream = stream; write = false; horizon = 1; burst = burst; skip = 0 }

abbrev pub writes_some : ℕ → ℕ → Claim
writes_some stream count = record { stream = stream; write = true; horizon = count; burst = count; skip = 0 }

-- an activation with these claims
abbrev pub claiming : List Claim → Activation
claiming claims = record { site = 0; captured = []; claims = claims }

-- The activations.
abbrev pub worked : List Activation
worked =
    claiming (reads_one 0 1 ∷ writes_some 2 4 ∷ [])
    ∷ claiming (reads_one 2 1 ∷ writes_some 1 2 ∷ [])
    ∷ claiming (writes_some 3 2 ∷ writes_some 1 1 ∷ [])
    ∷ claiming (reads_one 2 1 ∷ reads_one 3 2 ∷ writes_some 1 1 ∷ [])
    ∷ []
