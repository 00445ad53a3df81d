use Rattle.std.proofs.Common.{◌≡◌, ◌<◌, ◌≤◌, length, take, drop, ◌++◌, ◌+◌, refl, inr, arith}
use Rattle.ospack_slots.specs.Formats.{unpacking}
use Rattle.ospack_slots.proofs.Turns.{cut, lost, lost_went}
use Rattle.ospack_slots.proofs.Unended.{of_length, of_piece}
use Rattle.ospack_slots.proofs.Unpacked.{unpacked_turn, two_reads, read_and_lost, has_length, is_short, piece_is, slot_is}
use Rattle.ospack_slots.proofs.unpacking.unpack_next.Goals as goal

pub returns-in_err-begun-clause-turn : goal.returns-in_err-begun-clause-turn
returns-in_err-begun-clause-turn g c =
    let read = c.in_err-begun.ensures.lost in
    lost (unpacking (length c.args.slot.now)) c.args.number _ _ c.from_residual.result c.from_residual.ensures.1 (λ y q. q) read.0 (of_length (length c.args.slot.now) read.0 (omega (arith, read.1))) (lost_went _ _ _ _ _ read.0 read.2 read.3)

pub returns-in_err-filled-clause-turn : goal.returns-in_err-filled-clause-turn
returns-in_err-filled-clause-turn g c =
    let one = c.fill_part.new.buffer in
    let begun = c.in_ok-begun.begun in
    let size = length c.args.slot.now in
    let n = c.length_at_front-length.result in
    let within : begun ≤ length one = omega (arith, c.in_ok-begun.ensures.high, c.fill_part.auto.buffer) in
    let whole : begun ≡ 2 = omega (arith, c.in_ok-begun.ensures.high) in
    let fits : n + 2 ≤ size = omega (arith, c.fill_part.auto.buffer) in
    let read = c.in_err-filled.ensures.lost in
    let short : length read.0 < n = omega (arith, read.1) in
    lost (unpacking size) c.args.number _ _ c.from_residual-in_err-filled.result c.from_residual-in_err-filled.ensures.1 (λ y q. q) (take begun one ++ read.0) (of_piece size n begun one read.0 c.length_at_front-length.ensures whole fits short) (read_and_lost begun _ _ _ _ _ _ _ one read.0 c.in_ok-begun.ensures.bytes c.in_ok-begun.ensures.given within read.2 read.3)

pub returns-then-filled-past-clause-turn : goal.returns-then-filled-past-clause-turn
returns-then-filled-past-clause-turn g c =
    let one = c.fill_part.new.buffer in
    let two = c.fill_part-2.new.buffer in
    let begun = c.in_ok-begun.begun in
    let filled = c.in_ok-filled.filled in
    let n = c.length_at_front-length.result in
    let has = c.length_at_front-length.ensures in
    let within : begun ≤ length one = omega (arith, c.in_ok-begun.ensures.high, c.fill_part.auto.buffer) in
    let whole : begun ≡ 2 = omega (arith, c.in_ok-begun.ensures.high) in
    let low : 2 ≤ filled = c.in_ok-filled.ensures.low in
    let inside : filled ≤ length two = omega (arith, c.in_ok-filled.ensures.high, c.fill_part.auto.buffer, c.fill_part-2.auto.buffer) in
    (take begun one ++ drop 2 (take filled two), inr (n, has_length n begun filled one two has whole, omega (arith, c.fill_part.auto.buffer), is_short n begun filled one two has whole low inside (omega arith)), two_reads begun filled _ _ _ _ _ _ _ one two c.in_ok-begun.ensures.bytes c.in_ok-begun.ensures.given within c.in_ok-filled.ensures.bytes c.in_ok-filled.ensures.given inside, refl, λ _. c.in_ok-filled.ensures.end (omega arith))

pub returns-in_err-write_whole-clause-turn : goal.returns-in_err-write_whole-clause-turn
returns-in_err-write_whole-clause-turn g c =
    let one = c.fill_part.new.buffer in
    let two = c.fill_part-2.new.buffer in
    let begun = c.in_ok-begun.begun in
    let filled = c.in_ok-filled.filled in
    let size = length c.args.slot.now in
    let n = c.length_at_front-length.result in
    let has = c.length_at_front-length.ensures in
    let within : begun ≤ length one = omega (arith, c.in_ok-begun.ensures.high, c.fill_part.auto.buffer) in
    let whole : begun ≡ 2 = omega (arith, c.in_ok-begun.ensures.high) in
    let inside : filled ≤ length two = omega (arith, c.in_ok-filled.ensures.high, c.fill_part.auto.buffer, c.fill_part-2.auto.buffer) in
    let full : filled ≡ n + 2 = omega (arith, c.in_ok-filled.ensures.high) in
    let long : length two ≡ size = omega (arith, c.fill_part.auto.buffer, c.fill_part-2.auto.buffer) in
    let fits : n + 2 ≤ size = omega (arith, c.fill_part.auto.buffer) in
    cut c.in_err-write_whole.field-0.0 (unpacking size) c.args.number _ _ _ _ _ _ _ (take begun one ++ drop 2 (take filled two)) (drop 2 (take filled two)) c.clear_behind.new.buffer c.from_residual-in_err-write_whole.ensures.1 (λ y q. q) (piece_is size n begun filled one two has whole full inside fits) (slot_is size n filled one two _ has c.fill_part-2.ensures.front full inside long c.clear_behind.ensures) (two_reads begun filled _ _ _ _ _ _ _ one two c.in_ok-begun.ensures.bytes c.in_ok-begun.ensures.given within c.in_ok-filled.ensures.bytes c.in_ok-filled.ensures.given inside) c.in_err-write_whole.ensures.err

pub returns-clause-turn : goal.returns-clause-turn
returns-clause-turn g c =
    let one = c.fill_part.new.buffer in
    let two = c.fill_part-2.new.buffer in
    let begun = c.in_ok-begun.begun in
    let filled = c.in_ok-filled.filled in
    let size = length c.args.slot.now in
    let n = c.length_at_front-length.result in
    let has = c.length_at_front-length.ensures in
    let within : begun ≤ length one = omega (arith, c.in_ok-begun.ensures.high, c.fill_part.auto.buffer) in
    let whole : begun ≡ 2 = omega (arith, c.in_ok-begun.ensures.high) in
    let inside : filled ≤ length two = omega (arith, c.in_ok-filled.ensures.high, c.fill_part.auto.buffer, c.fill_part-2.auto.buffer) in
    let full : filled ≡ n + 2 = omega (arith, c.in_ok-filled.ensures.high) in
    let long : length two ≡ size = omega (arith, c.fill_part.auto.buffer, c.fill_part-2.auto.buffer) in
    let fits : n + 2 ≤ size = omega (arith, c.fill_part.auto.buffer) in
    unpacked_turn size _ _ _ _ _ _ (take begun one ++ drop 2 (take filled two)) (drop 2 (take filled two)) c.clear_behind.new.buffer (piece_is size n begun filled one two has whole full inside fits) (slot_is size n filled one two _ has c.fill_part-2.ensures.front full inside long c.clear_behind.ensures) (two_reads begun filled _ _ _ _ _ _ _ one two c.in_ok-begun.ensures.bytes c.in_ok-begun.ensures.given within c.in_ok-filled.ensures.bytes c.in_ok-filled.ensures.given inside) c.in_ok-write_whole.ensures.ok
