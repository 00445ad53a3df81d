use Rattle.std.proofs.Common.{◌≡◌, take, min}
use Rattle.os_lexer.specs.Numbers.{value_in}
use Rattle.os_lexer.proofs.numbers.value_in.Given as goal

abbrev pub invariant-loop-digit : goal.invariant-loop-digit
invariant-loop-digit l = l.value ≡ min (value_in l.base (take l.digit-index l.digits)) 4294967296
