use Rattle.std.proofs.Common.{take}
use Rattle.collector.specs.Buffering.{WentOn}
use Rattle.collector.proofs.line_buffer.LineBuffer.text.Given as goal

-- the bytes so far went on
abbrev pub invariant-loop-byte : goal.invariant-loop-byte
invariant-loop-byte g l = WentOn g.S.Sink l.initial.sink l.sink l.initial.self l.self (take l.byte-index l.text)
