use Rattle.std.proofs.Common.{◌≡◌, ◌∙◌, refl, subst, sym}
use Rattle.std.proofs.lemmas.Result.{IfErr-at_err, IfOk-at_ok}
use Rattle.os_serve_answers.proofs.Next.{next_answered, next_last, next_memory, next_short}
use Rattle.os_serve_answers.proofs.Written.{cut_by, took_first}
use Rattle.os_serve_answers.specs.Replies.{reply_of}
use Rattle.os_serve_answers.specs.declared.serve_error.ServeError.TheVariants as stops
use Rattle.os_serve_jobs.specs.Answers.{answer}
use Rattle.os_serve_jobs.specs.Reading.{waiting_lines}
use Rattle.os_serve_jobs.specs.Words.{IsText}
use Rattle.os_serve.specs.Command.{MayRun}
use Rattle.os_serve.specs.Commands.{IsReplyTo}
use Rattle.os_serve.proofs.answering.answer_next.Goals as goal

pub returns-in_default-clause-next : goal.returns-in_default-clause-next
returns-in_default-clause-next g c =
    let b = c.answer_beside-answer in
    let t = c.take_first-line in
    next_memory g.J.Files (IsReplyTo g.F.Files) g.O.Sink c.args.jobs.now b.new.jobs c.args.reading.now b.new.reading (waiting_lines c.args.waiting.now.items)
    (waiting_lines t.new.waiting.items) (waiting_lines b.new.waiting.items) c.args.files.now b.new.files c.args.out.now c.args.out.now c.args.number t.result.items
    t.ensures.taken b.ensures.reads stops.Memory refl (IfErr-at_err (λ _. b.new.files ≡ c.args.files.now) c.in_default.is b.ensures.files) refl

pub returns-then-is_err-clause-next : goal.returns-then-is_err-clause-next
returns-then-is_err-clause-next g c =
    let b = c.answer_beside-answer in
    let t = c.take_first-line in
    let run = IsReplyTo g.F.Files in
    let r = reply_of c.in-Ok.answer in
    next_short g.J.Files run g.O.Sink c.args.jobs.now b.new.jobs c.args.reading.now b.new.reading (waiting_lines c.args.waiting.now.items) (waiting_lines t.new.waiting.items)
    (waiting_lines b.new.waiting.items) c.args.files.now b.new.files c.args.out.now c.write_answer.new.out c.args.number t.result.items t.ensures.taken b.ensures.reads r
    (subst (λ l. run c.args.files.now b.new.files l r) c.deref.ensures.value
    (IfOk-at_ok (λ a. run c.args.files.now b.new.files c.deref.result.now (reply_of a)) c.in-Ok.is b.ensures.reply))
    stops.Write refl
    (cut_by g.O.Sink c.args.out.now c.write_answer.new.out (answer c.args.number r) c.write_answer.result (sym c.is_err.ensures.value ∙ c.if-is_err.true)
    c.write_answer.ensures)

pub returns-then-is_err-2-clause-next : goal.returns-then-is_err-2-clause-next
returns-then-is_err-2-clause-next g c =
    let b = c.answer_beside-answer in
    let t = c.take_first-line in
    let run = IsReplyTo g.F.Files in
    let r = reply_of c.in-Ok.answer in
    next_last g.J.Files run g.O.Sink c.args.jobs.now b.new.jobs c.args.reading.now b.new.reading (waiting_lines c.args.waiting.now.items) (waiting_lines t.new.waiting.items)
    (waiting_lines b.new.waiting.items) c.args.files.now b.new.files c.args.out.now c.write_answer.new.out c.args.number t.result.items t.ensures.taken b.ensures.reads r
    (subst (λ l. run c.args.files.now b.new.files l r) c.deref.ensures.value
    (IfOk-at_ok (λ a. run c.args.files.now b.new.files c.deref.result.now (reply_of a)) c.in-Ok.is b.ensures.reply))
    (took_first g.O.Sink c.args.out.now c.write_answer.new.out (answer c.args.number r) c.write_answer.result (sym c.is_err.ensures.value ∙ c.if-is_err.false)
    c.write_answer.ensures)
    stops.Memory refl

pub returns-clause-next : goal.returns-clause-next
returns-clause-next g c =
    let b = c.answer_beside-answer in
    let t = c.take_first-line in
    let run = IsReplyTo g.F.Files in
    let r = reply_of c.in-Ok.answer in
    next_answered g.J.Files run g.O.Sink c.args.jobs.now b.new.jobs c.args.reading.now b.new.reading (waiting_lines c.args.waiting.now.items) (waiting_lines t.new.waiting.items)
    (waiting_lines b.new.waiting.items) c.args.files.now b.new.files c.args.out.now c.write_answer.new.out c.args.number t.result.items t.ensures.taken b.ensures.reads r
    (subst (λ l. run c.args.files.now b.new.files l r) c.deref.ensures.value
    (IfOk-at_ok (λ a. run c.args.files.now b.new.files c.deref.result.now (reply_of a)) c.in-Ok.is b.ensures.reply))
    (took_first g.O.Sink c.args.out.now c.write_answer.new.out (answer c.args.number r) c.write_answer.result (sym c.is_err.ensures.value ∙ c.if-is_err.false)
    c.write_answer.ensures)

-- the files of the first job may be opened
pub answer_beside-answer-requires-clause-may : goal.answer_beside-answer-requires-clause-may
answer_beside-answer-requires-clause-may g c κs within =
    subst (λ line. IsText line → MayRun (g.F.Files.may c.args.files.now) line) (sym c.deref.ensures.value)
    (c.requires.may c.take_first-line.result.items (waiting_lines c.take_first-line.new.waiting.items) c.take_first-line.ensures.taken)
