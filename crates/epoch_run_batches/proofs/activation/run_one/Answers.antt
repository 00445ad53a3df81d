use Rattle.std.proofs.Common.{◌∙◌, length, sym, ap, subst}
use Rattle.epoch_run_batches.specs.Workload.{HasOutcome}
use Rattle.epoch_run_batches.proofs.Next.{are_written, have_outputs}
use Rattle.epoch_run_batches.proofs.activation.run_one.Goals as goal

pub write_all-requires-clause-outputs : goal.write_all-requires-clause-outputs
write_all-requires-clause-outputs g c =
    have_outputs g.J.Meaning.run c.args.number c.args.spans.now c.requires.spans c.in_ok-end.end c.root-root.result c.as_slice.result.now c.root-root.ensures
    (λ done. ap length c.as_slice.ensures.value ∙ c.in_ok-end.ensures.room done)

pub returns-clause-meant : goal.returns-clause-meant
returns-clause-meant g c =
    c.in_ok-write_all.ensures.meant g.J.Meaning.run
    (are_written g.J.Meaning.run c.args.number c.args.spans.now c.requires.spans c.in_ok-end.end c.root-root.result c.as_slice.result.now
    (subst (HasOutcome g.J.Meaning.run c.args.number c.in_ok-end.end) (sym c.as_slice.ensures.value) c.in_ok-end.ensures.come) c.root-root.ensures)
    c.requires.meant
