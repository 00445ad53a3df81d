use Rattle.std.proofs.Common.{All}
use Rattle.epoch_run_batches_table.specs.Tokens.{IsTokenClaim}
use Rattle.epoch_run_batches_table.proofs.tokens.token_of.Given as goal

abbrev pub invariant-loop-batch : goal.invariant-loop-batch
invariant-loop-batch l = All (IsTokenClaim l.streams) l.claims
