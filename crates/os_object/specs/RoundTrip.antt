-- What comes of a code that is written as an object, and of an object that is read as a code.
use Rattle.std.specs.Prelude.{◌≡◌, ℕ, ℤ, List, Result, Ok, Err}
use Rattle.flow_core_laws.specs.declared.activation.Activation.{Activation}
use Rattle.os_code.specs.declared.code.Code.{Code}
use Rattle.os_code.specs.declared.parts.Parts.{Parts}
use Rattle.os_code.specs.Codes.{parts_of}
use Rattle.os_code.specs.Laws.{HasControlEnd, HasTaskEnd}
use Rattle.os_code.specs.Tasks.{Fits}
use Rattle.os_object.specs.Answers.{IsReadAs}
use Rattle.os_object.specs.Object.{Spells}
use Rattle.os_object.specs.declared.object_error.ObjectError.{ObjectError}
use Rattle.os_object.specs.declared.object_error.ObjectError.TheVariants.{Format, Invalid, Memory}

-- The answer is the code of these parts, or that memory was wanting, and no refusal.
abbrev pub IsBack : Parts → Result Code ObjectError → Type 0
IsBack parts (Ok code) = parts_of code ≡ parts
IsBack parts (Err Format) = ⊥
IsBack parts (Err Invalid) = ⊥
IsBack parts (Err Memory) = Unit {0}

-- The bytes that `encode` gives of a code, by its clause, are read by `decode` as that code, by its clause `exact`.
abbrev pub ReadsWhatIsWritten : Type 0
ReadsWhatIsWritten = (code : Code) (bytes : List ℕ) (result : Result Code ObjectError) → Spells bytes (parts_of code)
    → ((parts : Parts) → Spells bytes parts → IsReadAs parts result) → IsBack (parts_of code) result

-- Where `decode` gives a code of bytes, by its clause `spelled`, they are the bytes that `encode` gives of that code, by its clause.
abbrev pub WritesWhatIsRead : Type 0
WritesWhatIsRead = (bytes written : List ℕ) (code : Code) → Spells bytes (parts_of code) → Spells written (parts_of code) → written ≡ bytes

-- A code runs: its `main` ends, over each length of the input and with each budget, and so does the task of each activation that fits
-- it, over all inputs. Nothing is stuck.
pub record RunsToEnds (code : Parts) : Type 0 where
  pub main : (length budget : ℕ) → HasControlEnd code length budget
  pub tasks : (activation : Activation) (inputs : List ℤ) (budget : ℕ) → Fits code activation → HasTaskEnd code activation inputs budget

-- Each code runs, whatever bytes it was read from.
abbrev pub CodesRun : Type 0
CodesRun = (code : Code) → RunsToEnds (parts_of code)
