-- The parts of an input.
use Rattle.std.specs.Prelude.{ℕ, zero, suc, ◌+◌, ◌-◌, ◌*◌, ◌/◌, max, List, [], ◌∷◌, ◌++◌, length, map, take, drop}
use Rattle.osparts_parts.specs.declared.terms.Terms.{Terms}
use Rattle.osparts_parts.specs.declared.place.PartPlace.{PartPlace}
use Rattle.osparts_parts.specs.declared.place.PartPlace.TheVariants.{First, Later}

-- the numbers from 0 on, so many
abbrev pub first_numbers : ℕ → List ℕ
first_numbers zero = []
first_numbers (suc n) = first_numbers n ++ n ∷ []

-- how many parts of `size` bytes an input of `long` bytes has. An input without bytes has one part without bytes, since a run over it is a run
-- all the same; no other part is empty.
abbrev pub count_of : (size long : ℕ) → ℕ
count_of size long = max 1 ((long + (size - 1)) / size)

-- the part with a number, from 0 on: the bytes of the input from its own first one on to the next part's, with its overlap in front of them; the
-- first part has nothing in front
abbrev pub part_at : List ℕ → Terms → ℕ → List ℕ
part_at bytes terms n = drop (n * terms.part - terms.overlap) (take (n * terms.part + terms.part) bytes)

-- the parts of an input, in order
abbrev pub parts_of : List ℕ → Terms → List (List ℕ)
parts_of bytes terms = map (part_at bytes terms) (first_numbers (count_of terms.part (length bytes)))

-- lists of which all but the first are changed
abbrev pub but_first : (List ℕ → List ℕ) → List (List ℕ) → List (List ℕ)
but_first change [] = []
but_first change (first ∷ others) = first ∷ map change others

-- parts without what stands in front of them, which is their overlap in all but the first
abbrev pub past_overlaps : Terms → List (List ℕ) → List (List ℕ)
past_overlaps terms parts = but_first (drop terms.overlap) parts

-- the place of the part that comes after these
abbrev pub place_after : List (List ℕ) → PartPlace
place_after [] = First
place_after (part ∷ parts) = Later
