use Rattle.std.proofs.Common.{Err, ap, map, subst, sym}
use Rattle.osvectors_cases.specs.Cases.{IsFirstUnsaid, lines_of, numbered_of}
use Rattle.osvectors_cases.proofs.Said.{read_more, stops_at}
use Rattle.osvectors_cases.proofs.cases.read_cases.Goals as goal

pub loop-next-preserved : goal.loop-next-preserved
loop-next-preserved c =
    let added = c.in_ok-add_line.ensures.added in
    read_more c.args.text.now c.rest_of-rest.result.now c.front_of.result.now c.loop-next.next c.loop-next.number c.line_len-count.result
    (map numbered_of c.loop-next.cases.items) (map numbered_of c.add_line.new.cases.items) added.0 c.loop-next.invariant
    (record {
      starts = c.loop-next-test.true;
      rest_is = c.rest_of-rest.ensures;
      within = c.line_len-count.ensures.within;
      front_is = c.front_of.ensures;
      none = c.line_len-count.ensures.none;
      feed = c.line_len-count.ensures.feed;
    }) added.1 added.2 added.3

pub returns-in_err-add_line-clause-unsaid : goal.returns-in_err-add_line-clause-unsaid
returns-in_err-add_line-clause-unsaid c n is =
    let same = rw is at c.from_residual.ensures.1 in
    let at = c.in_err-add_line.ensures.unsaid n (ap Err (sym same)) in
    subst (IsFirstUnsaid (lines_of c.args.text.now)) (sym at.0)
    (stops_at c.args.text.now c.rest_of-rest.result.now c.front_of.result.now c.loop-next.next c.loop-next.number c.line_len-count.result
    (map numbered_of c.loop-next.cases.items) c.loop-next.invariant
    (record {
      starts = c.loop-next-test.true;
      rest_is = c.rest_of-rest.ensures;
      within = c.line_len-count.ensures.within;
      front_is = c.front_of.ensures;
      none = c.line_len-count.ensures.none;
      feed = c.line_len-count.ensures.feed;
    }) at.1)
