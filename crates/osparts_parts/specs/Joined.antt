-- What the outputs of parts are joined to, and the state that is handed from part to part.
use Rattle.std.specs.Prelude.{ℕ, ◌+◌, ◌-◌, List, [], ◌∷◌, ◌++◌, length, map, take, drop, get_or, zip, flat_map}
use Rattle.osparts_parts.specs.declared.terms.Terms.{Terms}
use Rattle.osparts_parts.specs.declared.place.PartPlace.{PartPlace}
use Rattle.osparts_parts.specs.Terms.{skip_in}
use Rattle.osparts_parts.specs.Parts.{but_first}

-- the last bytes, so many
abbrev pub last_bytes : ℕ → List ℕ → List ℕ
last_bytes n bytes = drop (length bytes - n) bytes

-- all bytes but the last, so many
abbrev pub but_last : ℕ → List ℕ → List ℕ
but_last n bytes = take (length bytes - n) bytes

-- what the outputs of parts are joined to: in order, each but the first without its skip, and each without its state
abbrev pub joined : List (List ℕ) → Terms → List ℕ
joined outputs terms = flat_map (but_last terms.state) (but_first (drop terms.skip) outputs)

-- how many bytes the output of a part in this place has at least, for its skip and its state
abbrev pub needed_in : PartPlace → Terms → ℕ
needed_in place terms = skip_in place terms + terms.state

-- the states in front of the parts: the first one, and then the last bytes that each part writes
abbrev pub states_of : List ℕ → List (List ℕ) → Terms → List (List ℕ)
states_of begin outputs terms = begin ∷ map (last_bytes terms.state) outputs

-- what the programs of the parts are given: each part with the state that was handed to it in front
abbrev pub inputs_of : List ℕ → List (List ℕ) → List (List ℕ) → Terms → List (List ℕ)
inputs_of begin parts outputs terms = map (λ given. given.0 ++ given.1) (zip (states_of begin outputs terms) parts)

-- the state after parts that wrote these outputs: that of the last one
abbrev pub state_after : List ℕ → List (List ℕ) → Terms → List ℕ
state_after begin outputs terms = get_or (states_of begin outputs terms) (length outputs) []
