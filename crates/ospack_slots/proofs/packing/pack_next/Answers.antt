use Rattle.std.proofs.Common.{length, arith}
use Rattle.ospack_slots.specs.Formats.{packing}
use Rattle.ospack_slots.proofs.Packed.{packed_turn, slot_read, piece_read, whole_went}
use Rattle.ospack_slots.proofs.Turns.{cut, lost, lost_went}
use Rattle.ospack_slots.proofs.Unended.{of_slot}
use Rattle.ospack_slots.proofs.packing.pack_next.Goals as goal

pub returns-in_err-count-clause-turn : goal.returns-in_err-count-clause-turn
returns-in_err-count-clause-turn g c =
    let read = c.in_err-count.ensures.lost in
    lost (packing (length c.args.slot.now)) c.args.number _ _ c.from_residual.result c.from_residual.ensures.1 (λ y q. q) read.0 (of_slot (length c.args.slot.now) read.0 (omega (arith, read.1))) (lost_went _ _ _ _ _ read.0 read.2 read.3)

pub returns-in_err-write_whole-clause-turn : goal.returns-in_err-write_whole-clause-turn
returns-in_err-write_whole-clause-turn g c =
    let size = length c.args.slot.now in
    let slot = c.fill_part.new.buffer in
    let n = c.length_at_front-length.result in
    let has = c.length_at_front-length.ensures in
    cut c.in_err-write_whole.field-0.0 (packing size) c.args.number _ _ _ _ _ _ _ slot _ _ c.from_residual-in_err-write_whole.ensures.1 (λ y q. q) (slot_read size n slot has (omega arith) (omega arith)) (piece_read size n _ slot has (omega arith) (omega arith) (omega arith)) (whole_went c.in_ok-count.count _ _ _ _ _ slot (omega (arith, c.in_ok-count.ensures.high, c.fill_part.auto.buffer)) (omega arith) c.in_ok-count.ensures.bytes c.in_ok-count.ensures.given) c.in_err-write_whole.ensures.err

pub returns-clause-turn : goal.returns-clause-turn
returns-clause-turn g c =
    let size = length c.args.slot.now in
    let slot = c.fill_part.new.buffer in
    packed_turn size c.in_ok-count.count c.length_at_front-length.result _ _ _ _ _ _ _ slot c.length_at_front-length.ensures (omega arith) (omega arith) (omega (arith, c.in_ok-count.ensures.high, c.fill_part.auto.buffer)) (omega arith) c.in_ok-count.ensures.bytes c.in_ok-count.ensures.given (omega arith) c.in_ok-write_whole.ensures.ok
