use Rattle.std.proofs.Common.{arith}
use Rattle.osparts_parts.proofs.Held.{first_is_last, later_is_last, none_is_left}
use Rattle.osparts_parts.proofs.buffer.PartBuffer.last_part.Goals as goal

pub returns-in-First : goal.returns-in-First
returns-in-First c = λ pushed parts h. first_is_last c.args.self.terms c.args.self.place c.args.self.bytes.items pushed parts h c.in-First.is

pub returns-then-len-self : goal.returns-then-len-self
returns-then-len-self c = λ pushed parts h.
    later_is_last c.args.self.terms c.args.self.place c.args.self.bytes.items pushed parts h c.in-Later.is (omega (arith, c.len.ensures, c.if-len-self.true))

pub returns-else-len-self : goal.returns-else-len-self
returns-else-len-self c = λ pushed parts h.
    none_is_left c.args.self.terms c.args.self.place c.args.self.bytes.items pushed parts h c.in-Later.is (omega (arith, c.len.ensures, c.if-len-self.false))
