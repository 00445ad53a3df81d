-- What is judged in its own type is judged by its bits.
use Rattle.std.proofs.Common.{◌≡◌, ℕ, ◌^◌, ◌<◌, ◌≤◌, ◌⊎◌, inl, inr, Bool, true, false, ◌&&◌, ℤ, pos, negsuc, refl, ap, arith, ltb, leb, ◌==◌}
use Rattle.std.proofs.lemmas.Bool.{ltb-true}
use Rattle.std.proofs.lemmas.Bool.Decides.{nat_tests}
use Rattle.std.proofs.Math.Nat.{mod-eq_of_lt}
use Rattle.c_int.specs.Operators.{is_int}
use Rattle.c_int.specs.Typed.{converted}
use Rattle.c_int.specs.Unsigned.{word}
use Rattle.c_int.proofs.Conversions.{modulo, same_int}
use Rattle.cddf_meaning.specs.Judged.{JudgedByBits}
use Rattle.cddf_meaning.specs.Run.{array_size, window_size}
use Rattle.cddf_meaning.specs.Streams.{cursor_move, output_burst}
use Rattle.cddf_meaning.specs.Value.{checked}

-- A number of a type is its bits, or both are outside of 0 to 2^31 - 1.
abbrev Outside : Bool → ℤ → Type 0
Outside u x = (converted u x ≡ x) ⊎ ((n k : ℕ) × (converted u x ≡ pos n) × (2 ^ 31 ≤ n) × (x ≡ negsuc k))

outside : (u : Bool) (x : ℤ) → is_int x ≡ true → Outside u x
outside false x h = inl (same_int x h)
outside true (pos n) h = inl (let l : n < 2 ^ 31 = ltb-true _ _ h in ap pos (mod-eq_of_lt (omega arith)))
outside true (negsuc k) h = inr (word (negsuc k), k, modulo (negsuc k) h, (let l : k < 2 ^ 31 = ltb-true _ _ h in omega arith), refl)

-- what says the same of all numbers that are out of range
judged : {A : Type 0} (judge : ℤ → A) → ((n k : ℕ) → 2 ^ 31 ≤ n → judge (pos n) ≡ judge (negsuc k)) → JudgedByBits judge
judged judge far u x h = by (outside u x h)
  where
    by : Outside u x → judge (converted u x) ≡ judge x
    by (inl e) = ap judge e
    by (inr (n, k, e, g, f)) = rw (e, f) (far n k g)

pub checked-judged : (size line : ℕ) → size ≤ 2 ^ 31 → JudgedByBits (checked size line)
checked-judged size line l = judged (checked size line) far
  where
    past : (n : ℕ) → 2 ^ 31 ≤ n → ltb n size ≡ false
    past n g = grind (arith, nat_tests, l)

    far : (n k : ℕ) → 2 ^ 31 ≤ n → checked size line (pos n) ≡ checked size line (negsuc k)
    far n k g = rw (past n g) refl

past-limit : (n : ℕ) → 2 ^ 31 ≤ n → leb n 65536 ≡ false
past-limit n g = grind (arith, nat_tests)

neither : (a b : Bool) → b ≡ false → (a && b) ≡ false
neither true b h = h
neither false b h = refl

pub window-judged : (line : ℕ) → JudgedByBits (window_size line)
window-judged line = judged (window_size line) (λ n k g. rw (neither (leb 1 n) (leb n 65536) (past-limit n g)) refl)

pub array-judged : JudgedByBits array_size
array-judged = judged array_size (λ n k g. rw (neither (leb 1 n) (leb n 65536) (past-limit n g)) refl)

pub move-judged : (line : ℕ) → JudgedByBits (cursor_move line)
move-judged line = judged (cursor_move line) (λ n k g. rw (past-limit n g) refl)

pub burst-judged : (line horizon : ℕ) → horizon < 2 ^ 31 → JudgedByBits (output_burst line horizon)
burst-judged line horizon l = judged (output_burst line horizon) far
  where
    apart : (n : ℕ) → 2 ^ 31 ≤ n → (n == horizon) ≡ false
    apart n g = grind (arith, nat_tests, l)

    far : (n k : ℕ) → 2 ^ 31 ≤ n → output_burst line horizon (pos n) ≡ output_burst line horizon (negsuc k)
    far n k g = rw (apart n g) refl
