use Rattle.std.proofs.Common.{◌≡◌, ◌∙◌, ◌++◌, ap, arith, subst, sym, take, take_at}
use Rattle.std.specs.Io.KnownBytes.{prepend_known}
use Rattle.os_serve_jobs.specs.Reading.{waiting_lines}
use Rattle.os_serve_jobs.proofs.ReadOn.{at_end, range-none, took_on, uncut-line}
use Rattle.os_serve_jobs.proofs.reading.Reading.read_piece.Goals as goal

pub returns-in-Ok-eq0-clause-reads : goal.returns-in-Ok-eq0-clause-reads
returns-in-Ok-eq0-clause-reads g c told faults before has =
    let view = g.J.Files in
    let made = c.make_room.ensures in
    let read = c.in-Ok-eq0.ensures in
    let zero : c.in-Ok-eq0.field-0 ≡ 0 = omega (arith, c.in-Ok-eq0.field-0-test) in
    at_end view told faults c.end.result c.args.jobs.now c.read.new.self c.args.self.now c.end.new.self before c.args.waiting.now.items c.end.new.waiting.items
    c.make_room.new.self.line.items _ _ c.requires.is_open
    (uncut-line c.args.self.now c.requires.all_cut ∙ sym (ap (λ v. v.items) made.line))
    made.is_reading.is_line
    (subst (λ n. view.rest c.args.jobs.now ≡ prepend_known (take n c.read.new.buf) (view.rest c.read.new.self)) zero read.bytes)
    read.no_fault
    (omega (arith, read.given, zero, c.requires.given, c.requires.is_reading.total_within))
    (read.end zero (omega (arith, c.deref_mut.ensures.len, c.in_ok-make_room.ensures.some)))
    c.end.ensures.waits c.end.ensures.none_left c.end.ensures.ended c.end.ensures.waiting c.end.ensures.left
    (range-none c.make_room.new.self.line.items _ c.make_room.new.self.next c.make_room.new.self.filled made.all_cut)
    c.end.ensures.source (made.source ∙ c.requires.is_open) has

pub returns-in-Ok-clause-reads : goal.returns-in-Ok-clause-reads
returns-in-Ok-clause-reads g c told faults before has =
    let view = g.J.Files in
    let made = c.make_room.ensures in
    let read = c.in-Ok.ensures in
    let buffer = c.read.new.buf in
    took_on view told faults c.args.jobs.now c.read.new.self c.args.self.now c.take.new.self (before ++ waiting_lines c.args.waiting.now.items) _ buffer c.in-Ok.count c.requires.is_open
    (uncut-line c.args.self.now c.requires.all_cut ∙ sym (ap (λ v. v.items) made.line) ∙ sym c.take.ensures.line)
    (omega (arith, c.in-Ok.count-test))
    (omega (arith, c.read.auto.buf, read.within))
    (take_at buffer _ _ (c.read.auto.buf ∙ c.deref_mut.ensures.len))
    (omega (arith, c.take.ensures.total, made.total))
    c.requires.given c.take.ensures.took read.bytes read.no_fault
    (omega (arith, read.given, c.requires.given, c.take.ensures.total, made.total, c.take.ensures.is_reading.total_within))
    has
