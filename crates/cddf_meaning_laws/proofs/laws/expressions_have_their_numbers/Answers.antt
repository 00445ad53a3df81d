use Rattle.cddf_meaning_laws.proofs.Numbers.{numbered}
use Rattle.cddf_meaning_laws.proofs.laws.expressions_have_their_numbers.Goals as goal

pub returns : goal.returns
returns c = numbered
