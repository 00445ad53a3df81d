use Rattle.std.proofs.Common.{◌≡◌, ◌*◌, ◌≤◌, sum, take}
use Rattle.osrun_core_answer.proofs.gen_text.byte_sum.Given as goal

-- the sum so far, which is small
abbrev pub invariant-loop-byte : goal.invariant-loop-byte
invariant-loop-byte l = record { so_far : l.total ≡ sum (take l.byte-index l.bytes); small : l.total ≤ 255 * l.byte-index }
