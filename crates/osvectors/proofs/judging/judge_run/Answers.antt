use Rattle.std.proofs.Common.{subst, List, ℕ}
use Rattle.os_serve.specs.Commands.{kept_sink}
use Rattle.osrun_core_answer.specs.Answers.{AnswersRequest}
use Rattle.os_serve_jobs.specs.MemorySinkStates.{MemorySinkState, fresh_kept, output_room}
use Rattle.osrun_core_words.specs.Command.{command, texts}
use Rattle.osvectors_cases.specs.Verdicts.{IsVerdict}
use Rattle.osvectors.proofs.Made.{on_made}
use Rattle.osvectors.proofs.judging.judge_run.Goals as goal

pub returns : goal.returns
returns g c =
    let output = c.run_words-status.new.out in
    let report = c.run_words-status.new.report in
    let is = subst (λ (bytes : List ℕ). IsVerdict c.run_words-status.result bytes c.args.wanted.now c.judge-verdict.result) c.bytes.ensures.bytes
    c.judge-verdict.ensures.verdict in
    let asked = command (texts c.args.words.now) in
    let fresh = fresh_kept output_room in
    let answers = subst (λ (old : MemorySinkState). AnswersRequest g.F.Files c.args.files.now c.run_words-status.new.files kept_sink old output kept_sink fresh
    report asked c.run_words-status.result) c.new-output.ensures
    (subst (λ (old : MemorySinkState). AnswersRequest g.F.Files c.args.files.now c.run_words-status.new.files kept_sink c.new-output.result output
    kept_sink old report asked c.run_words-status.result) c.new-report.ensures c.run_words-status.ensures) in
    record {
      status = c.run_words-status.result;
      output = output;
      report = report;
      answers = answers;
      is_verdict = is;
      on_made = on_made g.F.Files c.args.files.now c.run_words-status.new.files asked output report c.run_words-status.result
          c.args.wanted.now c.judge-verdict.result answers is;
    }
