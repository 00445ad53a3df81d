use Rattle.os_code.proofs.Checked.{valid_from}
use Rattle.os_code.proofs.laws.tests_suffice.Goals as goal

pub returns : goal.returns
returns c = valid_from
