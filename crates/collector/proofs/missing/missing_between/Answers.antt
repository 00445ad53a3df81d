use Rattle.std.proofs.Common.{◌∙◌, ◌-◌, find, arith, ap, sym}
use Rattle.std.specs.List.{range_with_len}
use Rattle.collector.specs.Walking.{is_gap}
use Rattle.collector.proofs.Searches.{pass, stop}
use Rattle.collector.proofs.missing.missing_between.Goals as goal

pub loop-position-preserved : goal.loop-position-preserved
loop-position-preserved c = record {
  within = let m = c.min-position.ensures in omega (arith, m);
  passed = λ activations of.
      let gap = is_gap activations c.args.layout.now.input_len c.args.ends.now.ends c.args.stream in
      let there = c.in-Some.ensures activations of in
      c.loop-position.invariant.passed activations of
      ∙ pass gap c.loop-position.position c.in-Some.next c.args.end c.loop-position.invariant.within there.0 there.1
      ∙ ap (λ m. find gap (range_with_len m (c.args.end - m))) (sym c.min-position.ensures);
}

pub loop-position-smaller : goal.loop-position-smaller
loop-position-smaller c =
    let l = c.requires.layout in
    let there = c.in-Some.ensures l.activations l.is_of in
    let later = there.0 in
    omega (arith, c.min-position.ensures, later)

pub returns-in-None : goal.returns-in-None
returns-in-None c = λ activations of.
    let gap = is_gap activations c.args.layout.now.input_len c.args.ends.now.ends c.args.stream in
    sym (c.loop-position.invariant.passed activations of ∙ stop gap c.loop-position.position c.args.end c.loop-position-test.true (c.in-None.ensures activations of))
