use Rattle.std.proofs.Common.{◌≡◌, ◌<◌, ◌≤◌, ℕ, length, get_or, sym, subst, arith, inl, inr}
use Rattle.std.specs.Result.{MatchResult}
use Rattle.std.proofs.lemmas.Bool.{cases_lt}
use Rattle.std.proofs.lemmas.List.Sorted.{searched}
use Rattle.stream_match.proofs.LookUp.{ascend-rise, found_number, no_number}
use Rattle.stream_match.proofs.numbers.number_of.Goals as goal

pub returns-in-Ok : goal.returns-in-Ok
returns-in-Ok c =
    let xs = c.args.frames.now in
    let x = c.args.activation in
    let s = subst (λ r. MatchResult r (λ i. (i < length xs) × (get_or xs i 0 ≡ x)) (λ i. (i ≤ length xs) × ((k : ℕ) → k < i → get_or xs k 0 < x) × ((k : ℕ) → i ≤ k → k < length xs → x < get_or xs k 0))) c.in-Ok.is
    (searched xs x c.binary_search.result c.binary_search.ensures.position (ascend-rise xs c.requires.ascend)) in
    sym (found_number xs x c.in-Ok.number c.requires.ascend s.0 s.1)

pub returns-in-Err : goal.returns-in-Err
returns-in-Err c =
    let xs = c.args.frames.now in
    let x = c.args.activation in
    let s = subst (λ r. MatchResult r (λ i. (i < length xs) × (get_or xs i 0 ≡ x)) (λ i. (i ≤ length xs) × ((k : ℕ) → k < i → get_or xs k 0 < x) × ((k : ℕ) → i ≤ k → k < length xs → x < get_or xs k 0))) c.in-Err.is
    (searched xs x c.binary_search.result c.binary_search.ensures.position (ascend-rise xs c.requires.ascend)) in
    sym (no_number xs x (λ k lt e. elim (cases_lt k c.in-Err.field-0) [ inl less ↦ absurd (omega (arith, s.1 k less)) | inr ge ↦ absurd (omega (arith, s.2 k ge lt)) ]))

pub returns-then-is_at : goal.returns-then-is_at
returns-then-is_at c = let t = c.if-is_at.true in sym (found_number c.args.frames.now c.args.activation c.number_by_first-by_first.result c.requires.ascend (c.is_at.ensures.within t) (c.is_at.ensures.at t))

pub returns-then-is_at-2 : goal.returns-then-is_at-2
returns-then-is_at-2 c = let t = c.if-is_at-2.true in sym (found_number c.args.frames.now c.args.activation c.number_by_last-by_last.result c.requires.ascend (c.is_at-2.ensures.within t) (c.is_at-2.ensures.at t))
