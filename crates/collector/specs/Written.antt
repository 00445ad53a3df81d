-- What is written: the complete prefix of the output stream, as bytes. It stops at poison as at a gap.
use Rattle.std.specs.Prelude.{ℕ, ℤ, List, [], ◌∷◌, Option, Some, None, map, pos, negsuc}
use Rattle.flow_core_laws.specs.declared.elem.Elem.{Elem}
use Rattle.flow_core_laws.specs.declared.elem.Elem.TheVariants.{Value, Poison}
use Rattle.flow_core_laws.specs.Byte.{IsByte}

-- The values before the first element that isn't there or is poison.
abbrev pub complete_prefix : List (Option Elem) → List ℤ
complete_prefix (Some (Value value) ∷ rest) = value ∷ complete_prefix rest
complete_prefix _ = []

-- A value of the output as a byte: it is 0 to 255.
abbrev pub byte_of : ℤ → ℕ
byte_of (pos n) = n
byte_of (negsuc n) = 0

-- The bytes that are written, by the elements of the output: one for each position that is claimed for
-- writing, each where it is there.
abbrev pub written : List (Option Elem) → List ℕ
written output = map byte_of (complete_prefix output)

-- an element that is a byte where it is a value
abbrev pub IsByteIfThere : Option Elem → Type 0
IsByteIfThere None = Unit {0}
IsByteIfThere (Some (Value value)) = IsByte value
IsByteIfThere (Some (Poison root)) = Unit {0}
