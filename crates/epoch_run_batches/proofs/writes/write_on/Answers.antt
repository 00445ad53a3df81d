use Rattle.std.proofs.Common.{◌-◌, arith, refl}
use Rattle.flow_core_laws.specs.Element.{output_element}
use Rattle.epoch_run_batches.proofs.Written.{written_meant}
use Rattle.epoch_run_batches.proofs.writes.write_on.Goals as goal

pub returns : goal.returns
returns c = λ run written meant.
    let span = c.args.span.now in
    written_meant run span.stream c.args.first span.first span.offset span.count (span.first - c.args.first) c.args.elements.now c.fill_to.new.elements c.add_written.new.elements
    (output_element c.args.root c.args.outputs.now) (omega arith) refl (omega (arith, c.len.ensures)) c.in_ok-fill_to.ensures c.in_ok-add_written.ensures (written c.requires.write c.requires.other) meant
