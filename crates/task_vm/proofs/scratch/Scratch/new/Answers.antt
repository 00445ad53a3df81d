use Rattle.std.proofs.Common.{arith}
use Rattle.os_code.specs.Codes.{parts_of}
use Rattle.os_code.proofs.Fitting.{chain-few}
use Rattle.task_vm.proofs.scratch.Scratch.new.Goals as goal

pub returns-clause-made : goal.returns-clause-made
returns-clause-made c = record {
  stack = λ chain is. let few = c.stack_need.ensures.bound chain is in let e = c.in_ok-vec.ensures.len in omega (arith, few, e);
  slots = λ chain is. let few = c.slots_need.ensures.bound chain is in let e = c.in_ok-new.ensures.spare in omega (arith, few, e, c.try_from.ensures);
  calls = λ chain is. let few = chain-few (parts_of c.args.code.now) c.args.code.now.valid chain is in let e = c.in_ok-vec-2.ensures.len in omega (arith, few, e, c.len.ensures);
}
