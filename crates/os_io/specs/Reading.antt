-- What reading a whole file answers and leaves.
use Rattle.std.specs.Prelude.{◌≡◌, ℕ, List, length, Option, Result, Ok, Err, ⊤}
use Rattle.std.specs.Io.KnownBytes.{prepend_known}
use Rattle.os_io.specs.declared.reading.Loaded.{Loaded}
use Rattle.os_io.specs.declared.reading.Loaded.TheVariants.{Whole, TooLong}

-- a fact about the bytes of a file that was read whole
abbrev pub IfWhole : {E : Type 0} → Result Loaded E → (List ℕ → Type 0) → Type 0
IfWhole (Ok (Whole bytes)) P = P bytes.items
IfWhole (Ok TooLong) P = ⊤
IfWhole (Err e) P = ⊤

-- of what was told, a front of this length was read, and this is left
pub record IsReadUpTo (told : Option (List ℕ)) (given : ℕ) (left : Option (List ℕ)) : Type 0 where
  pub front : List ℕ
  pub front_is_given : length front ≡ given
  pub rest_is_left : told ≡ prepend_known front left
