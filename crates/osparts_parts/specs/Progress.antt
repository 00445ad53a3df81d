-- What a buffer of parts has given so far, and what a joiner has joined.
use Rattle.std.specs.Prelude.{◌≡◌, ℕ, ◌+◌, ◌-◌, ◌*◌, ◌≤◌, List, length, map, drop}
use Rattle.osparts_parts.specs.declared.terms.Terms.{Terms}
use Rattle.osparts_parts.specs.declared.place.PartPlace.{PartPlace}
use Rattle.osparts_parts.specs.declared.buffer.PartBuffer.{PartBuffer}
use Rattle.osparts_parts.specs.declared.joiner.Joiner.{Joiner}
use Rattle.osparts_parts.specs.Terms.{AreLawful}
use Rattle.osparts_parts.specs.Parts.{first_numbers, part_at, place_after}

-- of the bytes that were pushed, these parts were given, and these bytes are held of the part in this place, which comes next
pub record HoldsAfter (terms : Terms) (place : PartPlace) (bytes pushed : List ℕ) (parts : List (List ℕ)) : Type 0 where
  pub lawful : AreLawful terms
  -- the parts are the first ones of what was pushed
  pub given : parts ≡ map (part_at pushed terms) (first_numbers (length parts))
  -- what was pushed ends in the part that comes next, or with the one before it
  pub low : length parts * terms.part ≤ length pushed
  pub high : length pushed ≤ length parts * terms.part + terms.part
  -- of the part that comes next all is held that was pushed, and its overlap
  pub held : bytes ≡ drop (length parts * terms.part - terms.overlap) pushed
  pub next : place ≡ place_after parts

-- of the bytes that were pushed, the buffer has given these parts, and holds the front of the next one
abbrev pub HasGiven : PartBuffer → List ℕ → List (List ℕ) → Type 0
HasGiven buffer pushed parts = HoldsAfter buffer.terms buffer.place buffer.bytes.items pushed parts

-- these outputs were joined
abbrev pub HasJoined : Joiner → List (List ℕ) → Type 0
HasJoined joiner outputs = joiner.place ≡ place_after outputs
