use Rattle.std.proofs.Common.{[], inl, inr, refl, subst}
use Rattle.osrun_core_jobs.specs.HandsOver.{HandsOver}
use Rattle.osview_answer.proofs.explain_answer.answer_explain.Goals as goal

pub returns-in-Ok : goal.returns-in-Ok
returns-in-Ok g c =
    let told = c.in-Ok.told in
    inl (record {
      told = told.text.items;
      own = told.status;
      made = c.in-Ok.ensures;
      handed = subst (λ bytes. HandsOver g.O.Sink c.args.out.now c.deliver.new.out bytes g.E.Sink c.args.report.now c.deliver.new.report [] told.status c.deliver.result)
          c.deref.ensures.value (c.deliver.ensures [] refl);
    })

pub returns-in-Err : goal.returns-in-Err
returns-in-Err g c = inr (record {
  refusal = c.in-Err.refusal;
  cause = c.in-Err.ensures;
  status = c.refuse.ensures.status;
  output_kept = refl;
  report = c.refuse.ensures.tells;
})
