-- The readers below a depth.
use Rattle.std.proofs.Common.{◌≡◌, ℕ, zero, suc, ◌-◌, ◌<◌, Some, None, refl, ap, arith}
use Rattle.os_parser_grammar.specs.Expressions.{below, layer}
use Rattle.os_parser_grammar.specs.Statements.{Inner, inner, stmt_on, block_item, readers_of}

pub below-none : (d : ℕ) → d ≡ 0 → below d ≡ None
unfolding below
below-none zero e = refl
below-none (suc d) e = absurd (omega arith)

pub below-more : (d : ℕ) → 0 < d → below d ≡ Some (layer (below (d - 1)))
unfolding below
below-more zero h = absurd (omega arith)
below-more (suc d) h = let e : d ≡ suc d - 1 = omega arith in ap (λ n. Some (layer (below n))) e

pub inner-none : (d : ℕ) → d ≡ 0 → inner d ≡ None
unfolding inner
inner-none zero e = refl
inner-none (suc d) e = absurd (omega arith)

abbrev pub inside : ℕ → Inner
inside d = record { readers = layer (below d); stmt = stmt_on (inner d); item = block_item (below d) (stmt_on (inner d)) }

pub inner-more : (d : ℕ) → 0 < d → inner d ≡ Some (inside (d - 1))
unfolding inner
inner-more zero h = absurd (omega arith)
inner-more (suc d) h = let e : d ≡ suc d - 1 = omega arith in ap (λ n. Some (inside n)) e

pub readers_of-inner : (d : ℕ) → readers_of (inner d) ≡ below d
unfolding inner below
readers_of-inner zero = refl
readers_of-inner (suc d) = refl

pub ruleset depths = (below-none, below-more, inner-none, inner-more)

pub ruleset readers = (readers_of-inner)
