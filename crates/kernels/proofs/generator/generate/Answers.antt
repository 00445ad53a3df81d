use Rattle.std.proofs.Common.{◌≡◌, ◌∙◌, ◌+◌, ◌*◌, ◌%◌, ◌/◌, ℕ, suc, ap, sym, refl, subst, [], ◌∷◌, ◌++◌, arith}
use Rattle.kernels.proofs.Ranges.{map-range-more}
use Rattle.kernels.specs.Generated.{byte, generated, generator_state}
use Rattle.kernels.proofs.generator.generate.Goals as goal

-- the machine's two steps are the recurrence's one
next_state : (x : ℕ) → (x * 1103515245 % 4294967296 + 12345) % 4294967296 ≡ (1103515245 * x + 12345) % 4294967296
next_state x = omega arith

pub loop-init : goal.loop-init
loop-init c = record { bytes_so_far = c.in_ok-reserve.ensures.items ∙ c.new-bytes.ensures.items; state_so_far = refl }

pub loop-preserved : goal.loop-preserved
loop-preserved c =
    let seed = c.args.seed in
    let k = c.loop.counter in
    let follows : (c.loop.state * 1103515245 % 4294967296 + 12345) % 4294967296 ≡ generator_state seed (suc k) =
    next_state c.loop.state ∙ ap (λ x. (1103515245 * x + 12345) % 4294967296) c.loop.invariant.state_so_far in
    let one_more : k + 1 ≡ suc k = omega arith in
    let from_zero : k ≡ 0 + k = omega arith in
    record {
      bytes_so_far = c.in_ok-push.ensures.items
          ∙ ap (λ xs. xs ++ (c.loop.state * 1103515245 % 4294967296 + 12345) % 4294967296 / 65536 % 256 ∷ []) c.loop.invariant.bytes_so_far
          ∙ ap (λ x. generated seed k ++ x / 65536 % 256 ∷ []) follows
          ∙ ap (λ m. generated seed k ++ byte seed m ∷ []) from_zero
          ∙ sym (map-range-more (byte seed) 0 k)
          ∙ ap (generated seed) (sym one_more);
      state_so_far = follows ∙ ap (generator_state seed) (sym one_more);
    }

pub returns : goal.returns
returns c = let same : c.loop.counter ≡ c.args.count = omega (arith, c.loop.auto.counter-end, c.loop-test.false) in
    subst (λ n. c.loop.bytes.items ≡ generated c.args.seed n) same c.loop.invariant.bytes_so_far
