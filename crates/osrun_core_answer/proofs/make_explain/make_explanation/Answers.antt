use Rattle.std.proofs.Common.{[], ◌∷◌, inl, inr, refl, subst}
use Rattle.std.specs.Prelude.{string_bytes}
use Rattle.std.proofs.lemmas.Result.{err_from_is_err_and}
use Rattle.osrun_core_answer.specs.Explained.{Explains}
use Rattle.osrun_core_jobs.specs.Status.{status_code}
use Rattle.osrun_core_answer.proofs.make_explain.make_explanation.Goals as goal

pub returns-in_err-told : goal.returns-in_err-told
returns-in_err-told g c =
    let e = err_from_is_err_and c.from_residual-in_err-told.result c.from_residual-in_err-told.ensures.1 in
    let made = c.in_ok-run.ensures in
    rw e.1 (inr (e.2, inr (inl (made.text ∷ made.input ∷ [], made.read))))

pub returns : goal.returns
returns g c =
    let made = c.in_ok-run.ensures in
    let ran = made.is_run in
    let ends = c.in_ok-run.run'.ends in
    let told = c.in_ok-told.told in (
      made.text ∷ made.input ∷ [],
      made.read,
      record {
        text = made.text;
        run = record { control = ran.made; input = made.input; ends = ends };
        contents_are = refl;
        program = made.program;
        is_program = made.is_program;
        control_is = ran.made_is;
        ends_are = ran.ends_are;
        explains = subst (λ n. Explains ran.made.activations n ends.ends c.args.job.now.activation (string_bytes told.text) (status_code told.status)) ran.over
            (c.in_ok-told.ensures ran.made.activations ran.laid);
        report_is = refl;
      },
    )
