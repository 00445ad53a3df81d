-- Codes that are written and read back.
use Rattle.std.proofs.Common.{Ok, Err, sym, ◌∙◌}
use Rattle.std.specs.Prelude.{Result}
use Rattle.os_code.proofs.Halting.{tasks_end, main_ends}
use Rattle.os_code.specs.declared.code.Code.{Code}
use Rattle.os_code.specs.declared.parts.Parts.{Parts}
use Rattle.os_code.specs.Codes.{parts_of}
use Rattle.os_code.specs.IsValid.{IsValid}
use Rattle.os_object.specs.Answers.{IsReadAs}
use Rattle.os_object.specs.RoundTrip.{IsBack, ReadsWhatIsWritten, WritesWhatIsRead, CodesRun}
use Rattle.os_object.specs.declared.object_error.ObjectError.{ObjectError}
use Rattle.os_object.specs.declared.object_error.ObjectError.TheVariants.{Format, Invalid, Memory}

-- what valid parts are read as
valid_back : (parts : Parts) (result : Result Code ObjectError) → IsValid parts → IsReadAs parts result → IsBack parts result
valid_back parts (Ok code) valid same = same
valid_back parts (Err Format) valid none = absurd none
valid_back parts (Err Invalid) valid invalid = invalid valid
valid_back parts (Err Memory) valid wanting = tt

pub back : ReadsWhatIsWritten
back code bytes result spells exact = valid_back (parts_of code) result code.valid (exact (parts_of code) spells)

pub same : WritesWhatIsRead
same bytes written code spells also = also.are_object ∙ sym spells.are_object

pub codes_run : CodesRun
codes_run code = record {
  main = λ length budget. main_ends (parts_of code) length budget code.valid;
  tasks = λ activation inputs budget fits. tasks_end (parts_of code) activation inputs budget code.valid fits;
}
