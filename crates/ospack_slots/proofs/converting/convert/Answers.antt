use Rattle.std.proofs.Common.{length, refl, ◌∙◌, arith}
use Rattle.std.proofs.lemmas.Grind.{common_steps}
use Rattle.ospack_slots.specs.Answers.{Moment}
use Rattle.ospack_slots.specs.Formats.{format_of}
use Rattle.ospack_slots.proofs.Turns.{first, done, at_fault}
use Rattle.ospack_slots.proofs.converting.convert.Goals as goal

pub loop-number-init : goal.loop-number-init
loop-number-init g c = record {
  so_far = first (format_of c.args.way (length c.args.slot.now)) (record { left = g.F.Files.rest c.args.files.now; given = g.F.Files.given c.args.files.now; taken = g.S.Sink.taken c.args.out.now });
  no_read = refl;
  not_failed = refl;
  not_stuck = refl;
  opens = refl;
  holds = refl;
  may = refl;
}

pub returns-in_err-turn-clause-answer : goal.returns-in_err-turn-clause-answer
returns-in_err-turn-clause-answer g c =
    let a : Moment = record { left = g.F.Files.rest c.args.files.now; given = g.F.Files.given c.args.files.now; taken = g.S.Sink.taken c.args.out.now } in
    let b : Moment = record { left = g.F.Files.rest c.loop-number.files; given = g.F.Files.given c.loop-number.files; taken = g.S.Sink.taken c.loop-number.out } in
    let after : Moment = record { left = g.F.Files.rest c.convert_next.new.files; given = g.F.Files.given c.convert_next.new.files; taken = g.S.Sink.taken c.convert_next.new.out } in
    at_fault c.in_err-turn.field-0.0 (format_of c.args.way) c.loop-number.number (length c.args.slot.now) (length c.loop-number.slot) a b after c.from_residual.result c.loop-number.auto.slot c.from_residual.ensures.1 (λ y q. q) c.loop-number.invariant.so_far c.in_err-turn.ensures.turn

pub loop-number-preserved : goal.loop-number-preserved
loop-number-preserved g c =
    let a : Moment = record { left = g.F.Files.rest c.args.files.now; given = g.F.Files.given c.args.files.now; taken = g.S.Sink.taken c.args.out.now } in
    let b : Moment = record { left = g.F.Files.rest c.loop-number.files; given = g.F.Files.given c.loop-number.files; taken = g.S.Sink.taken c.loop-number.out } in
    let after : Moment = record { left = g.F.Files.rest c.convert_next.new.files; given = g.F.Files.given c.convert_next.new.files; taken = g.S.Sink.taken c.convert_next.new.out } in
    record {
      so_far = done c.in_ok-turn.turn (format_of c.args.way) c.loop-number.number (length c.args.slot.now) (length c.loop-number.slot) a b after c.loop-number.auto.slot c.in-Done.is c.loop-number.invariant.so_far c.in_ok-turn.ensures.turn;
      no_read = grind (arith, common_steps);
      not_failed = grind (arith, common_steps);
      not_stuck = grind (arith, common_steps);
      opens = c.convert_next.ensures.opens ∙ c.loop-number.invariant.opens;
      holds = c.convert_next.ensures.holds ∙ c.loop-number.invariant.holds;
      may = c.convert_next.ensures.may ∙ c.loop-number.invariant.may;
    }
