use Rattle.std.proofs.Common.{◌≡◌, ◌+◌, ◌++◌, map, arith}
use Rattle.std.specs.List.{range_with_len}
use Rattle.epoch_run_batches.specs.Meant.{element_meant}
use Rattle.epoch_run_batches.proofs.ReadSoFar.{AreRead-one_more}
use Rattle.epoch_run_batches.proofs.sources.Sources.read_rest.Goals as goal

pub loop-k-preserved : goal.loop-k-preserved
loop-k-preserved g c = record {
  few = omega arith;
  read = λ was so_far cells r.
      let f = element_meant g.J.Meaning.run c.args.span.now.stream in
      let at : c.in-Some.position ≡ c.args.span.now.first + c.loop-k.k = omega (arith, c.in-Some.ensures.1, c.from.ensures) in
      AreRead-one_more f c.args.span.now.first c.loop-k.k c.in-Some.position cells c.in-Some-find.element c.add.new.self at c.in-Some-find.ensures
      (c.in_ok-add.ensures (cells ++ map f (range_with_len c.args.span.now.first c.loop-k.k)) (c.loop-k.invariant.read was so_far cells r));
}
