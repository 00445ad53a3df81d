use Rattle.c_int.proofs.TypedOperators.{one_operand, two_operands}
use Rattle.c_int.proofs.laws.works_on_bits.Goals as goal

pub returns : goal.returns
returns c = record { one_operand = one_operand; two_operands = two_operands }
