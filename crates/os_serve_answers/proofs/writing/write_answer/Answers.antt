use Rattle.std.proofs.Common.{◌∙◌, length, sym}
use Rattle.os_serve_answers.proofs.Written.{first_failed, same_heading, second_failed, third_written}
use Rattle.os_serve_answers.specs.Replies.{reply_of}
use Rattle.os_serve_jobs.specs.Answers.{heading}
use Rattle.os_serve_answers.proofs.writing.write_answer.Goals as goal

pub returns-then-is_err : goal.returns-then-is_err
returns-then-is_err g c =
    let r = reply_of c.args.answer.now in
    first_failed g.O.Sink c.args.out.now c.write-first.new.out (heading c.args.number r.status (length r.output) (length r.told)) r.output r.told c.as_bytes.result.now
    c.write-first.result
    (same_heading c.args.number c.status.result c.output-output.result.now c.told-told.result.now c.as_bytes.result.now c.heading_line-heading.result r c.as_bytes.ensures
    c.heading_line-heading.ensures c.status.ensures c.output-output.ensures.bytes c.told-told.ensures.bytes)
    (sym c.is_err.ensures.value ∙ c.if-is_err.true) c.write-first.ensures

pub returns-then-is_err-2 : goal.returns-then-is_err-2
returns-then-is_err-2 g c =
    let r = reply_of c.args.answer.now in
    second_failed g.O.Sink c.args.out.now c.write-first.new.out c.write-second.new.out (heading c.args.number r.status (length r.output) (length r.told)) r.output r.told
    c.as_bytes.result.now c.output-output.result.now c.write-first.result c.write-second.result
    (same_heading c.args.number c.status.result c.output-output.result.now c.told-told.result.now c.as_bytes.result.now c.heading_line-heading.result r c.as_bytes.ensures
    c.heading_line-heading.ensures c.status.ensures c.output-output.ensures.bytes c.told-told.ensures.bytes)
    c.output-output.ensures.bytes (sym c.is_err.ensures.value ∙ c.if-is_err.false) (sym c.is_err-2.ensures.value ∙ c.if-is_err-2.true) c.write-first.ensures
    c.write-second.ensures

pub returns : goal.returns
returns g c =
    let r = reply_of c.args.answer.now in
    third_written g.O.Sink c.args.out.now c.write-first.new.out c.write-second.new.out c.write.new.out (heading c.args.number r.status (length r.output) (length r.told)) r.output
    r.told c.as_bytes.result.now c.output-output.result.now c.told-told.result.now c.write-first.result c.write-second.result c.write.result
    (same_heading c.args.number c.status.result c.output-output.result.now c.told-told.result.now c.as_bytes.result.now c.heading_line-heading.result r c.as_bytes.ensures
    c.heading_line-heading.ensures c.status.ensures c.output-output.ensures.bytes c.told-told.ensures.bytes)
    c.output-output.ensures.bytes c.told-told.ensures.bytes (sym c.is_err.ensures.value ∙ c.if-is_err.false) (sym c.is_err-2.ensures.value ∙ c.if-is_err-2.false)
    c.write-first.ensures c.write-second.ensures c.write.ensures
