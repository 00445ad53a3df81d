use Rattle.std.proofs.Common.{All, subst, arith}
use Rattle.std.proofs.lemmas.List.{take_all}
use Rattle.std.proofs.lemmas.List.Elements.{All-more}
use Rattle.collector.specs.Written.{IsByteIfThere}
use Rattle.runtime_tests.proofs.bytes.are_bytes.Goals as goal

pub loop-element-preserved : goal.loop-element-preserved
loop-element-preserved c = All-more IsByteIfThere c.args.elements.now c.loop-element.element-index _ c.loop-element-test.true c.loop-element.invariant (c.is_byte.ensures c.if-not-is_byte.false)

pub returns : goal.returns
returns c = λ _. subst (All IsByteIfThere) (take_all c.loop-element.element-index c.args.elements.now (omega arith)) c.loop-element.invariant
