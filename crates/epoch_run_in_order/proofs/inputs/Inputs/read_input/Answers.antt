use Rattle.std.proofs.Common.{ℕ, ◌+◌, ◌-◌, ◌≤◌, length, arith}
use Rattle.epoch_run_in_order.proofs.Reading.{read_of_input}
use Rattle.epoch_run_in_order.proofs.inputs.Inputs.read_input.Goals as goal

pub returns : goal.returns
returns c = λ _ streams cells r.
    let span = c.args.span.now in
    let within : span.first + span.count ≤ length c.args.input.now = omega arith in
    let n : ℕ = span.first + span.count - span.first in
    read_of_input streams c.args.input.now span c.add_bytes.new.self cells n c.requires within (omega arith) (c.in_ok-add_bytes.ensures cells r)
