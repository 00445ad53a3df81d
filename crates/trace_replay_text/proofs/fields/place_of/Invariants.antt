use Rattle.std.proofs.Common.{take}
use Rattle.trace_replay_text.specs.Fields.{IsFree}
use Rattle.trace_replay_text.proofs.fields.place_of.Given as goal

-- none stands before
abbrev pub invariant-loop-place : goal.invariant-loop-place
invariant-loop-place l = IsFree l.byte (take l.place l.text)
