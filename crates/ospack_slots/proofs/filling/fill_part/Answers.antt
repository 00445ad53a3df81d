use Rattle.std.proofs.Common.{◌≤◌, length, refl, ◌∙◌, arith}
use Rattle.ospack_slots.proofs.Filled.{front, begun, one_more}
use Rattle.ospack_slots.proofs.filling.fill_part.Goals as goal

pub loop-past-init : goal.loop-past-init
loop-past-init g c = record {
  low = omega arith;
  high = c.requires.from;
  front = refl;
  bytes = begun c.args.from c.args.buffer.now (g.F.Files.rest c.args.files.now);
  given = omega arith;
  no_fault = refl;
  opens = refl;
  holds = refl;
  may = refl;
}

pub returns-in_err-count-clause-front : goal.returns-in_err-count-clause-front
returns-in_err-count-clause-front g c =
    front c.args.from c.loop-past.past c.read_part.new.buffer c.loop-past.buffer c.loop-past.invariant.low c.read_part.ensures.front
    ∙ c.loop-past.invariant.front

pub returns-then-count-eq0-clause-front : goal.returns-then-count-eq0-clause-front
returns-then-count-eq0-clause-front g c =
    front c.args.from c.loop-past.past c.read_part.new.buffer c.loop-past.buffer c.loop-past.invariant.low c.read_part.ensures.front
    ∙ c.loop-past.invariant.front

pub loop-past-preserved : goal.loop-past-preserved
loop-past-preserved g c =
    let long : c.loop-past.past ≤ length c.read_part.new.buffer = omega arith in
    record {
      low = omega arith;
      high = omega (arith, c.in_ok-count.ensures.within);
      front = front c.args.from c.loop-past.past c.read_part.new.buffer c.loop-past.buffer c.loop-past.invariant.low c.read_part.ensures.front
          ∙ c.loop-past.invariant.front;
      bytes = one_more _ _ _ c.args.from c.loop-past.past c.in_ok-count.count c.loop-past.buffer c.read_part.new.buffer c.loop-past.invariant.low long c.read_part.ensures.front c.loop-past.invariant.bytes c.in_ok-count.ensures.bytes;
      given = omega (arith, c.in_ok-count.ensures.given);
      no_fault = c.in_ok-count.ensures.no_fault ∙ c.loop-past.invariant.no_fault;
      opens = c.read_part.ensures.opens ∙ c.loop-past.invariant.opens;
      holds = c.read_part.ensures.holds ∙ c.loop-past.invariant.holds;
      may = c.read_part.ensures.may ∙ c.loop-past.invariant.may;
    }
