use Rattle.std.proofs.Common.{◌∙◌, sym}
use Rattle.epoch_run_ready.proofs.Stuck.{writer_waits}
use Rattle.epoch_run_ready.proofs.waiting.is_writer_stuck.Goals as goal

pub returns-then-meet-clause-stuck : goal.returns-then-meet-clause-stuck
returns-then-meet-clause-stuck c = λ h.
    writer_waits c.args.layout.now c.args.waits.now c.args.span c.span-writer.result c.args.place c.in_ok-number.number
    c.requires.writers c.requires.reads c.requires.no_input (sym c.writer.ensures ∙ c.in_ok-number.was) c.span-writer.ensures (c.meet.ensures c.if-meet.true) (sym c.is_stuck.ensures ∙ h)
