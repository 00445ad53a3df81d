use Rattle.std.proofs.Common.{[], inl, refl, subst}
use Rattle.osrun_core_jobs.specs.HandsOver.{HandsOver}
use Rattle.osview_answer.proofs.stream_answer.answer_stream.Goals as goal

pub returns-in-Ok-Elements : goal.returns-in-Ok-Elements
returns-in-Ok-Elements g c =
    let told = c.in-Ok-Elements.told in
    inl (record {
      told = told.text.items;
      own = told.status;
      made = rw c.in-Ok-Elements.field-0-is at c.in-Ok-Elements.ensures;
      handed = subst (λ bytes. HandsOver g.O.Sink c.args.out.now c.deliver.new.out bytes g.E.Sink c.args.report.now c.deliver.new.report [] told.status c.deliver.result)
          c.deref.ensures.value (c.deliver.ensures [] refl);
    })
