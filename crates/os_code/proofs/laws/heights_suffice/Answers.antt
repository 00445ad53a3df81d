use Rattle.os_code.proofs.HeightTables.{heights_suffice}
use Rattle.os_code.proofs.laws.heights_suffice.Goals as goal

pub returns : goal.returns
returns c = heights_suffice
