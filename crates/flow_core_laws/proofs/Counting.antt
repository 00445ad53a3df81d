-- Counts over a stretch of numbers.
use Rattle.std.proofs.Common.{◌≡◌, ℕ, zero, suc, ◌+◌, ◌-◌, ◌<◌, ◌≤◌, Bool, true, false, refl, sym, ap, ◌∙◌, arith, count_by, cond}
use Rattle.std.specs.List.{range_with_len}
use Rattle.std.proofs.lemmas.List.Sums.{sum_by-cons}

-- how many of the numbers from one on pass a test
abbrev pub passing : (ℕ → Bool) → ℕ → ℕ → ℕ
passing p from n = count_by p (range_with_len from n)

abbrev one : Bool → ℕ
one b = cond {A = ℕ} b 1 0

passing-suc : (p : ℕ → Bool) (from n : ℕ) → passing p from (suc n) ≡ one (p from) + passing p (from + 1) n
passing-suc p from n = sum_by-cons (λ k. one (p k)) from (range_with_len (from + 1) n)

pub passing-same : (p q : ℕ → Bool) (from n : ℕ) → ((k : ℕ) → from ≤ k → k < from + n → p k ≡ q k) → passing p from n ≡ passing q from n
passing-same p q from zero same = refl
passing-same p q from (suc n) same =
    let here : one (p from) ≡ one (q from) = ap one (same from (omega arith) (omega arith)) in
    let rest : passing p (from + 1) n ≡ passing q (from + 1) n = passing-same p q (from + 1) n (λ k h l. same k (omega arith) (omega arith)) in
    passing-suc p from n ∙ (let e : one (p from) + passing p (from + 1) n ≡ one (q from) + passing q (from + 1) n = omega (arith, here, rest) in e) ∙ sym (passing-suc q from n)

pub passing-add : (p : ℕ → Bool) (from n m : ℕ) → passing p from (n + m) ≡ passing p from n + passing p (from + n) m
passing-add p from zero m =
    let a : passing p from (0 + m) ≡ passing p from m = ap (λ (k : ℕ). passing p from k) (let e : 0 + m ≡ m = omega arith in e) in
    let b : passing p from m ≡ passing p (from + 0) m = ap (λ (k : ℕ). passing p k m) (let e : from ≡ from + 0 = omega arith in e) in
    omega (arith, a, b)
passing-add p from (suc n) m =
    let a : passing p from (suc n + m) ≡ passing p from (suc (n + m)) = ap (λ (k : ℕ). passing p from k) (let e : suc n + m ≡ suc (n + m) = omega arith in e) in
    let b = passing-suc p from (n + m) in
    let c : passing p (from + 1) (n + m) ≡ passing p (from + 1) n + passing p (from + 1 + n) m = passing-add p (from + 1) n m in
    let d : passing p (from + 1 + n) m ≡ passing p (from + suc n) m = ap (λ (k : ℕ). passing p k m) (let e : from + 1 + n ≡ from + suc n = omega arith in e) in
    let f = passing-suc p from n in
    omega (arith, a, b, c, d, f)

pub passing-all : (p : ℕ → Bool) (from n : ℕ) → ((k : ℕ) → from ≤ k → k < from + n → p k ≡ true) → passing p from n ≡ n
passing-all p from zero all = refl
passing-all p from (suc n) all =
    let here : one (p from) ≡ 1 = ap one (all from (omega arith) (omega arith)) in
    let rest : passing p (from + 1) n ≡ n = passing-all p (from + 1) n (λ k h l. all k (omega arith) (omega arith)) in
    let s = passing-suc p from n in
    omega (arith, here, rest, s)

pub passing-none : (p : ℕ → Bool) (from n : ℕ) → ((k : ℕ) → from ≤ k → k < from + n → p k ≡ false) → passing p from n ≡ 0
passing-none p from zero none = refl
passing-none p from (suc n) none =
    let here : one (p from) ≡ 0 = ap one (none from (omega arith) (omega arith)) in
    let rest : passing p (from + 1) n ≡ 0 = passing-none p (from + 1) n (λ k h l. none k (omega arith) (omega arith)) in
    let s = passing-suc p from n in
    omega (arith, here, rest, s)

-- what a stretch within another loses, where all of it passed and none of it passes now
pub passing-lowered : (p q : ℕ → Bool) (from n at count : ℕ) → from ≤ at → at + count ≤ from + n → ((k : ℕ) → at ≤ k → k < at + count → p k ≡ true) → ((k : ℕ) → at ≤ k → k < at + count → q k ≡ false) → ((k : ℕ) → k < at → q k ≡ p k) → ((k : ℕ) → at + count ≤ k → q k ≡ p k) → passing q from n + count ≡ passing p from n
passing-lowered p q from n at count low high were are below above =
    let first = at - from in
    let last = n - (first + count) in
    let e : first + count + last ≡ n = omega arith in
    let f : from + first ≡ at = omega arith in
    let g : from + (first + count) ≡ at + count = omega arith in
    let parts : (r : ℕ → Bool) → passing r from n ≡ passing r from first + passing r at count + passing r (at + count) last =
    λ r. ap (λ (k : ℕ). passing r from k) (sym e) ∙ passing-add r from (first + count) last ∙ (let a : passing r from (first + count) ≡ passing r from first + passing r at count = passing-add r from first count ∙ ap (λ (k : ℕ). passing r from first + passing r k count) f in let b : passing r (from + (first + count)) last ≡ passing r (at + count) last = ap (λ (k : ℕ). passing r k last) g in omega (arith, a, b)) in
    let x : passing q from first ≡ passing p from first = passing-same q p from first (λ k h l. below k (omega arith)) in
    let y : passing q (at + count) last ≡ passing p (at + count) last = passing-same q p (at + count) last (λ k h l. above k h) in
    let u : passing p at count ≡ count = passing-all p at count were in
    let v : passing q at count ≡ 0 = passing-none q at count are in
    omega (arith, parts p, parts q, x, y, u, v)
