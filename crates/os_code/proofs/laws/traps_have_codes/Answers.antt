use Rattle.std.proofs.Common.{refl}
use Rattle.os_code.proofs.Keeping.{first_code, last_code}
use Rattle.os_code.proofs.laws.traps_have_codes.Goals as goal

pub returns : goal.returns
returns c = record { each = λ trap. (first_code trap, last_code trap); last = refl }
