-- What bytes that spell parts are read as.
use Rattle.std.specs.Prelude.{◌≡◌, Result, Ok, Err}
use Rattle.os_code.specs.declared.code.Code.{Code}
use Rattle.os_code.specs.Codes.{parts_of}
use Rattle.os_code.specs.IsValid.{IsValid}
use Rattle.os_code.specs.declared.parts.Parts.{Parts}
use Rattle.os_object.specs.declared.object_error.ObjectError.{ObjectError}
use Rattle.os_object.specs.declared.object_error.ObjectError.TheVariants.{Format, Invalid, Memory}

-- Valid parts are given as a code and others are refused, unless memory is wanting; they aren't refused as no parts.
abbrev pub IsReadAs : Parts → Result Code ObjectError → Type 0
IsReadAs parts (Ok code) = parts_of code ≡ parts
IsReadAs parts (Err Format) = ⊥
IsReadAs parts (Err Invalid) = IsValid parts → ⊥
IsReadAs parts (Err Memory) = Unit {0}
