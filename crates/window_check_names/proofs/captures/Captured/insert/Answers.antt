use Rattle.std.proofs.Common.{ℕ, ◌<◌, ◌^◌, arith}
use Rattle.std.specs.Ordering.{nat_cmp}
use Rattle.std.proofs.lemmas.Map.Views.{All-insert_key}
use Rattle.window_check_names.proofs.captures.Captured.insert.Goals as goal

pub invariant_of-self-2 : goal.invariant_of-self-2
invariant_of-self-2 c =
    rw c.in_ok-insert.ensures.keys (All-insert_key nat_cmp c.args.slot (λ (s : ℕ). s < 2 ^ 32) _ c.self.invariant (omega (arith, c.ranges.slot)))
