use Rattle.std.proofs.Common.{◌≡◌, ◌+◌, take, length, ap, ◌∙◌, take_at}
use Rattle.os_io.proofs.Pieces.{prepend_known-all}
use Rattle.os_io.proofs.reading.read_rest.Goals as goal

pub returns-then-count-eq0-clause-whole : goal.returns-then-count-eq0-clause-whole
returns-then-count-eq0-clause-whole g c =
    let filled = c.loop-buffer.filled in
    let read = c.read_behind.new.buffer in
    let kept : length read ≡ c.make_room.new.buffer.len = c.read_behind.auto.buffer ∙ c.deref_mut.ensures.len in
    prepend_known-all _ _ _ _ _ _ _ c.loop-buffer.invariant.bytes (ap (take filled) c.deref_mut.ensures.value ∙ c.make_room.ensures.front) c.in_ok-count.ensures.bytes (c.truncate.ensures.items ∙ ap (take (filled + c.in_ok-count.count)) (take_at read _ _ kept)) (c.in_ok-count.ensures.end c.if-count-eq0.true)
