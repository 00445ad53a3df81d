use Rattle.std.proofs.Common.{◌∙◌, ◌+◌, ap, arith, length, refl, subst, sym}
use Rattle.os_serve_answers.proofs.Next.{begins, few_jobs, goes_on, may_run, out_of_memory, reads_on, stops_by}
use Rattle.os_serve_answers.specs.Answered.{IsAnswered, StopsServing}
use Rattle.os_serve_answers.specs.Between.{IsServing}
use Rattle.os_serve_jobs.specs.Reading.{IsDone, IsReading, waiting_lines}
use Rattle.os_serve.specs.Command.{MayRun}
use Rattle.os_serve.specs.Commands.{IsReplyTo}
use Rattle.os_serve_jobs.specs.Words.{IsText}
use Rattle.os_serve.proofs.answering.answer_all.Goals as goal

pub serving-init : goal.serving-init
serving-init g c = record {
  is_reading = c.open.ensures.is_reading;
  given = c.open.ensures.given;
  may = refl;
  few = (let ok = c.new-waiting.result.ok.0 in let none = ap length c.new-waiting.ensures.items in omega (arith, ok, none));
  serving = rw c.new-waiting.ensures.items (begins g.J.Files (IsReplyTo g.F.Files) g.O.Sink (g.J.Files.holds c.args.jobs.now c.args.name.now)
      (g.J.Files.faults c.args.jobs.now) c.open.new.jobs c.open.new.self c.args.files.now c.args.out.now c.open.ensures.begun);
}

pub returns-then-is_err : goal.returns-then-is_err
returns-then-is_err g c =
    let told = g.J.Files.holds c.args.jobs.now c.args.name.now in
    let faults = g.J.Files.faults c.args.jobs.now in
    let run = IsReplyTo g.F.Files in
    let s = c.serving in
    let r = c.read_on in
    out_of_memory g.J.Files run g.O.Sink told faults r.new.jobs r.new.self (waiting_lines r.new.waiting.items) c.args.files.now s.files c.args.out.now s.out s.number
    (reads_on g.J.Files run g.O.Sink told faults s.jobs r.new.jobs s.reading r.new.self (waiting_lines s.waiting.items) (waiting_lines r.new.waiting.items)
    c.args.files.now s.files c.args.out.now s.out s.number r.ensures.reads s.invariant.serving)

pub answer_next-step-requires-clause-may : goal.answer_next-step-requires-clause-may
answer_next-step-requires-clause-may g c κs within =
    let told = g.J.Files.holds c.args.jobs.now c.args.name.now in
    let faults = g.J.Files.faults c.args.jobs.now in
    let run = IsReplyTo g.F.Files in
    let s = c.serving in
    let r = c.read_on in
    may_run g.J.Files run g.O.Sink told faults (λ line. IsText line → MayRun (g.F.Files.may s.files) line) r.new.jobs r.new.self (waiting_lines r.new.waiting.items) c.args.files.now s.files
    c.args.out.now s.out s.number
    (reads_on g.J.Files run g.O.Sink told faults s.jobs r.new.jobs s.reading r.new.self (waiting_lines s.waiting.items) (waiting_lines r.new.waiting.items)
    c.args.files.now s.files c.args.out.now s.out s.number r.ensures.reads s.invariant.serving)
    (λ line named text. subst (λ m. MayRun m line) (sym s.invariant.may) (c.requires.files line named text))

pub returns-then-is_err-2 : goal.returns-then-is_err-2
returns-then-is_err-2 g c =
    let told = g.J.Files.holds c.args.jobs.now c.args.name.now in
    let faults = g.J.Files.faults c.args.jobs.now in
    let run = IsReplyTo g.F.Files in
    let s = c.serving in
    let r = c.read_on in
    let n = c.answer_next-step in
    stops_by
    (λ _. IsServing g.J.Files told faults n.new.jobs n.new.reading (waiting_lines n.new.waiting.items) run c.args.files.now n.new.files g.O.Sink c.args.out.now n.new.out
    (s.number + 1))
    (λ _. IsAnswered g.J.Files told faults n.new.jobs n.new.reading run c.args.files.now n.new.files g.O.Sink c.args.out.now n.new.out × IsDone n.new.reading
    × IsReading n.new.reading)
    (StopsServing g.J.Files told faults n.new.jobs n.new.reading run c.args.files.now n.new.files g.O.Sink c.args.out.now n.new.out)
    n.result
    (sym c.is_err-in-serving.ensures.value ∙ c.if-is_err-2.true)
    (n.ensures.next told faults c.args.files.now c.args.out.now
    (reads_on g.J.Files run g.O.Sink told faults s.jobs r.new.jobs s.reading r.new.self (waiting_lines s.waiting.items) (waiting_lines r.new.waiting.items)
    c.args.files.now s.files c.args.out.now s.out s.number r.ensures.reads s.invariant.serving))

pub overflow_add-number : goal.overflow_add-number
overflow_add-number g c =
    let few = few_jobs g.J.Files (IsReplyTo g.F.Files) g.O.Sink (g.J.Files.holds c.args.jobs.now c.args.name.now) (g.J.Files.faults c.args.jobs.now) c.serving.jobs
    c.serving.reading (waiting_lines c.serving.waiting.items) c.args.files.now c.serving.files c.args.out.now c.serving.out c.serving.number c.serving.invariant.serving in
    omega (arith, few)

pub serving-smaller : goal.serving-smaller
serving-smaller g c =
    let few = few_jobs g.J.Files (IsReplyTo g.F.Files) g.O.Sink (g.J.Files.holds c.args.jobs.now c.args.name.now) (g.J.Files.faults c.args.jobs.now) c.serving.jobs
    c.serving.reading (waiting_lines c.serving.waiting.items) c.args.files.now c.serving.files c.args.out.now c.serving.out c.serving.number c.serving.invariant.serving in
    omega (arith, few)

pub serving-preserved : goal.serving-preserved
serving-preserved g c =
    let told = g.J.Files.holds c.args.jobs.now c.args.name.now in
    let faults = g.J.Files.faults c.args.jobs.now in
    let run = IsReplyTo g.F.Files in
    let s = c.serving in
    let r = c.read_on in
    let n = c.answer_next-step in
    record {
      is_reading = n.ensures.is_reading;
      given = n.ensures.given;
      may = n.ensures.may ∙ s.invariant.may;
      few = (let before = s.invariant.few in let read = r.ensures.few in let next = n.ensures.few in omega (arith, before, read, next));
      serving = goes_on
          (IsServing g.J.Files told faults n.new.jobs n.new.reading (waiting_lines n.new.waiting.items) run c.args.files.now n.new.files g.O.Sink c.args.out.now n.new.out
          (s.number + 1))
          (StopsServing g.J.Files told faults n.new.jobs n.new.reading run c.args.files.now n.new.files g.O.Sink c.args.out.now n.new.out)
          n.result
          (sym c.is_err-in-serving.ensures.value ∙ c.if-is_err-2.false)
          (n.ensures.next told faults c.args.files.now c.args.out.now
          (reads_on g.J.Files run g.O.Sink told faults s.jobs r.new.jobs s.reading r.new.self (waiting_lines s.waiting.items) (waiting_lines r.new.waiting.items)
          c.args.files.now s.files c.args.out.now s.out s.number r.ensures.reads s.invariant.serving));
    }
