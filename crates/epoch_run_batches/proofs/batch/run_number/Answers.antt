use Rattle.std.proofs.Common.{sym, subst, arith}
use Rattle.epoch_run_batches.specs.Meant.{AreEndsMeant, IsEndMeant}
use Rattle.epoch_run_batches.specs.Workload.{AreSpansOf}
use Rattle.epoch_run_batches.proofs.Batches.{are_spans, more_ends}
use Rattle.epoch_run_batches.proofs.batch.run_number.Goals as goal

pub run_one-requires-clause-spans : goal.run_one-requires-clause-spans
run_one-requires-clause-spans g c =
    let workload = c.args.workload.now in
    subst (AreSpansOf g.J.Meaning.run c.args.number) (sym c.spans_of-spans.ensures)
    (are_spans g.J.Meaning.run workload.first workload.layout.now c.args.number (g.B.LocalBodies.outcome workload.bodies.now) (g.B.LocalBodies.takes workload.bodies.now) c.requires.workload (omega (arith, c.if-number-frames.false, c.frames.ensures)))

pub returns-in_ok-push-clause-ends : goal.returns-in_ok-push-clause-ends
returns-in_ok-push-clause-ends g c =
    let one : IsEndMeant g.J.Meaning.run (record { number = c.args.number; end = c.in-Some.end }) = rw c.in-Some.is at c.in_ok-end.ensures.end in
    subst (AreEndsMeant g.J.Meaning.run) (sym c.in_ok-push.ensures.ok)
    (more_ends g.J.Meaning.run c.args.ended.now (record { number = c.args.number; end = c.in-Some.end }) c.requires.ends one)
