use Rattle.std.proofs.Common.{◌≡◌, ◌≤◌, All, length}
use Rattle.flow_core_laws.specs.Limits.{positions_limit}
use Rattle.flow_core_laws.specs.Window.{claims_of}
use Rattle.epoch_run_batches_table.specs.Tokens.{IsTokenClaim}
use Rattle.epoch_run_batches_table.proofs.tokens.tokens_of.Given as goal

abbrev pub invariant-loop-number : goal.invariant-loop-number
invariant-loop-number l = record {
  counted : length l.tokens ≡ l.number;
  are_tokens : All (IsTokenClaim l.streams) (claims_of l.tokens);
  claimed : length (claims_of l.tokens) ≡ l.claims;
  within : l.claims ≤ positions_limit;
}
