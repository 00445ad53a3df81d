use Rattle.osrun_core_words.specs.Command.{command, texts}
use Rattle.osrun_core_answer.specs.Answers.{asked_files}
use Rattle.os_serve.proofs.JobAnswers.{in_order_may, reply_made}
use Rattle.os_serve_answers.specs.Replies.{reply_of}
use Rattle.os_serve.proofs.commands.run_job.Goals as goal

pub returns-clause-reply : goal.returns-clause-reply
returns-clause-reply g c =
    let r = c.run_words-status in
    reply_made g.F.Files c.args.files.now r.new.files (texts c.args.words.now) c.new-output.result r.new.out c.new-report.result r.new.report r.result
    (reply_of c.of_command.result) c.new-output.ensures c.new-report.ensures r.ensures c.of_command.ensures

pub returns-clause-may : goal.returns-clause-may
returns-clause-may g c =
    in_order_may g.F.Files c.args.files.now c.run_words-status.new.files (asked_files (command (texts c.args.words.now))) c.run_words-status.ensures.reads
