use Rattle.std.proofs.Common.{◌≡◌, ◌≢◌, ◌-◌, ◌<◌, ◌≤◌, ◌⊎◌, ◌∙◌, Some, ap, arith, inl, inr, length, ℕ}
use Rattle.std.specs.Prelude.{slice_get}
use Rattle.std.proofs.lemmas.Bool.{cases_eq}
use Rattle.std.proofs.lemmas.Option.{slice_get-get_or}
use Rattle.epoch_run_ready.proofs.circles.readers_before.Goals as goal

pub back-preserved : goal.back-preserved
back-preserved c =
    let was = c.back.invariant in
    let left : c.back.left - 1 < length c.args.readers.now = omega (arith, c.back-test.true, was.within) in
    record {
      few = omega (arith, was.few);
      within = omega (arith, was.within);
      are_readers = λ b le lt. by b le lt left (cases_eq b (c.back.from - 1));
    }
  where
    by : (b : ℕ) → c.back.from - 1 ≤ b → b < c.args.first → c.back.left - 1 < length c.args.readers.now → (b ≡ c.back.from - 1) ⊎ (b ≢ c.back.from - 1) → (f : ℕ) × (slice_get c.args.readers.now f ≡ Some b)
    by b le lt left (inl same) =
        (c.back.left - 1, slice_get-get_or c.args.readers.now (c.back.left - 1) 0 left ∙ ap (λ (n : ℕ). Some n) (omega (arith, same, c.if-readers-left.false)))
    by b le lt left (inr other) = c.back.invariant.are_readers b (omega arith) lt
