use Rattle.std.proofs.Common.{◌≡◌}
use Rattle.kernels.specs.Generated.{generated, generator_state}
use Rattle.kernels.proofs.generator.generate.Given as goal

-- the first `counter` bytes, and the state behind the last one of them
abbrev pub invariant-loop : goal.invariant-loop
invariant-loop l = record { bytes_so_far : l.bytes.items ≡ generated l.seed l.counter; state_so_far : l.state ≡ generator_state l.seed l.counter }
