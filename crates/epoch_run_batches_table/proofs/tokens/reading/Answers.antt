use Rattle.std.proofs.Common.{refl, arith}
use Rattle.epoch_run_batches_table.proofs.tokens.reading.Goals as goal

pub returns : goal.returns
returns c = λ streams lt. record {
  lawful = record {
    stream_exists = lt;
    smallest = omega arith;
    largest = omega arith;
    input_is_read = λ e z. omega (arith, z, c.requires);
    output_is_written = λ e z. omega (arith, z, c.requires);
    writes_move_by_their_horizon = λ e. absurd (cc);
  };
  covers_one = refl;
  moves_little = omega arith;
}
