use Rattle.std.proofs.Common.{List, subst, sym, ℕ}
use Rattle.epoch_run_ready.specs.Waiting.{AreMissing}
use Rattle.epoch_run_ready.proofs.ready.others_than.Goals as goal

pub unmarked-requires-clause-missing : goal.unmarked-requires-clause-missing
unmarked-requires-clause-missing c =
    subst (λ (xs : List ℕ). AreMissing c.args.layout.now c.as_mut_slice.result.now xs) (sym c.as_mut_slice-2.ensures.value) (c.in_ok-missing.ensures c.as_mut_slice.result.now)
