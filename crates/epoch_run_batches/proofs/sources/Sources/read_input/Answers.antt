use Rattle.std.proofs.Common.{ℕ, ◌+◌, ◌-◌, ◌≤◌, length, arith}
use Rattle.epoch_run_batches.proofs.Slices.{read_of_input}
use Rattle.epoch_run_batches.proofs.sources.Sources.read_input.Goals as goal

pub returns-clause-read : goal.returns-clause-read
returns-clause-read g c = λ cells r.
    let span = c.args.span.now in
    let input = c.args.self.now.input.now in
    let within : span.first + span.count ≤ length input = omega (arith, c.from.ensures) in
    let n : ℕ = span.first + span.count - span.first in
    read_of_input g.J.Meaning.run input span n cells c.add_bytes.new.self c.args.self.now.input_is c.requires within (omega arith) (c.in_ok-add_bytes.ensures cells r)
