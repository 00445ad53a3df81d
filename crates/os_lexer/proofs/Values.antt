-- The value of digits, read up to a cap.
use Rattle.std.proofs.Common.{◌≡◌, ℕ, min, ◌+◌, ◌*◌, ◌<◌, ◌≤◌, List, take, get_or, length, sym, ap, ◌∙◌, ⊎_elim, arith, mul-le-mul}
use Rattle.std.proofs.lemmas.Bool.{cases_lt}
use Rattle.std.proofs.lemmas.List.Sums.{fold_more}
use Rattle.os_lexer.specs.Numbers.{value_in, digit_value}

pub product_fits : (v b : ℕ) → v ≤ 4294967296 → b ≤ 16 → v * b ≤ 68719476736
product_fits v b low high = omega (arith, mul-le-mul low high)

capped : (v b d cap : ℕ) → 1 ≤ b → min (min v cap * b + d) cap ≡ min (v * b + d) cap
capped v b d cap one =
    ⊎_elim
    (λ below. let same : min v cap ≡ v = omega (arith, below) in ap (λ k. min (k * b + d) cap) same)
    (λ over.
    let same : min v cap ≡ cap = omega (arith, over) in
    let caps : cap * 1 ≤ cap * b = mul-le-mul (omega arith) one in
    let values : cap * b ≤ v * b = mul-le-mul over (omega arith) in
    ap (λ k. min (k * b + d) cap) same ∙ omega arith)
    (cases_lt v cap)

-- one more digit
pub value_in_more : (base : ℕ) (digits : List ℕ) (i v : ℕ) → 1 ≤ base → i < length digits → v ≡ min (value_in base (take i digits)) 4294967296 → min (v * base + digit_value (get_or digits i 0)) 4294967296 ≡ min (value_in base (take (i + 1) digits)) 4294967296
value_in_more base digits i v one below is =
    ap (λ k. min (k * base + digit_value (get_or digits i 0)) 4294967296) is ∙ capped (value_in base (take i digits)) base (digit_value (get_or digits i 0)) 4294967296 one ∙ ap (λ k. min k 4294967296) (sym (fold_more (λ value digit. value * base + digit_value digit) 0 digits i 0 below))
