-- The operators between values, and the machine's on their bits.
use Rattle.std.proofs.Common.{◌≡◌, ℕ, zero, suc, ◌+◌, ◌-◌, ◌*◌, ◌/◌, ◌%◌, ◌^◌, ◌<◌, ◌≤◌, Bool, true, false, ◌||◌, if◌then◌else◌, refl, ap, ◌∙◌, sym, arith, ◌&&◌, leb, ℤ, pos, negsuc, ◌+ℤ◌, ◌-ℤ◌, ◌*ℤ◌, w32, ltb, Ok, Err}
use Rattle.std.specs.Prelude.{unsigned_abs, neg_ℤ, int_div, int_rem, int_lt, int_le, not, ◌==◌}
use Rattle.std.specs.Int.Bits.{bit_and}
use Rattle.std.specs.Int.{int_bit_and, int_bit_or, int_bit_xor, int_bit_not}
use Rattle.std.specs.Int.Signed.{mag_rem}
use Rattle.std.proofs.lemmas.Int.{quot-rem, ints, int_rem_euclid_is}
use Rattle.std.proofs.lemmas.Bool.{ltb-true, lt-ltb}
use Rattle.std.proofs.lemmas.Bool.Decides.{nat_tests}
use Rattle.std.proofs.lemmas.Nat.{or_of_32, xor_of_32, and_le_l}
use Rattle.std.proofs.Math.Nat.{mod-le}
use Rattle.std.proofs.Math.Nat.{mod-eq_of_lt}
use native.Mathlib.Nat.{div-le_self}
use Rattle.c_int.specs.Typed.{Typed, Valued, is_typed, is_of, is_unsigned, converted, bits, as_unsigned, of_type, fitted, in_common, compared, on_bits, shifted, truth_value, doubled, halved, sum, difference, product, quotient, remainder, unary_typed, binary_typed}
use Rattle.c_int.specs.Typed.{by_amount as typed_amount}
use Rattle.c_int.specs.Operators as machine
use Rattle.c_int.specs.Operators.{unary_value, binary_value, fitting, is_int, is_zero, is_equal}
use Rattle.c_int.specs.Unsigned as unsigned
use Rattle.c_int.specs.Unsigned.{word, signed}
use Rattle.c_int.specs.Trapping.{Operated, truth, by_amount}
use Rattle.c_int.specs.Machine.{unary_for, binary_for, unsigned_binary, given_bits}
use Rattle.c_int.specs.declared.operators.Binary.{Binary}
use Rattle.c_int.specs.declared.operators.Binary.TheVariants as binary
use Rattle.c_int.specs.declared.operators.Unary.{Unary}
use Rattle.c_int.specs.declared.operators.Unary.TheVariants as unary
use Rattle.c_int.specs.declared.trap.OperatorTrap.{OperatorTrap}
use Rattle.c_int.specs.declared.trap.OperatorTrap.TheVariants.{Overflow, DivisorZero, Shift}
use Rattle.c_int.proofs.Remainders.{small as small_int}
use Rattle.c_int.proofs.Conversions.{fits, same_int, reduced, again, word_of, same_unsigned, bits_of, is_int_bits, word_below, is_int_signed}

abbrev value : Bool → ℤ → Typed
value u x = record { number = x; unsigned = u }

words : (work : ℤ → ℤ → Valued) {a b c d : ℤ} → a ≡ c → b ≡ d → given_bits (work c d) ≡ given_bits (work a b)
words work {a} {b} {c} {d} e f = ap (λ x. given_bits (work x d)) (sym e) ∙ ap (λ y. given_bits (work a y)) (sym f)

-- Both operands in their common type: what is left is one fact for each type.
in_both : (op : Binary) (work : Bool → ℤ → ℤ → Valued) →
    ((a b : ℤ) → is_int a ≡ true → is_int b ≡ true → binary_value op a b ≡ given_bits (work false a b)) →
    ((a b : ℤ) → is_int a ≡ true → is_int b ≡ true → binary_value (unsigned_binary op) a b ≡ given_bits (work true (pos (word a)) (pos (word b)))) →
    (u v : Bool) (x y : ℤ) → is_of u x ≡ true → is_of v y ≡ true →
    binary_value (if u || v then unsigned_binary op else op) (converted false x) (converted false y) ≡ given_bits (in_common work (value u x) (value v y))
in_both op work i w false false x y h k = i (converted false x) (converted false y) (is_int_bits x) (is_int_bits y)
in_both op work i w false true x y h k = w (converted false x) (converted false y) (is_int_bits x) (is_int_bits y) ∙ words (work true) (word_of false x h) (word_of true y k)
in_both op work i w true v x y h k = w (converted false x) (converted false y) (is_int_bits x) (is_int_bits y) ∙ words (work true) (word_of true x h) (word_of v y k)

fitted_int : (t : OperatorTrap) (z : ℤ) → fitting t z ≡ given_bits (fitted t false z)
fitted_int t z = by (is_int z) refl
  where
    by : (b : Bool) → is_int z ≡ b → fitting t z ≡ given_bits (fitted t false z)
    by true e = rw e (ap Ok (sym (same_int z e)))
    by false e = rw e refl

fitted_unsigned : (t : OperatorTrap) (z : ℤ) → Ok (converted false z) ≡ given_bits (fitted t true z)
fitted_unsigned t z = ap Ok (sym (again z))

take : (a b : ℕ) → b < 2 ^ 32 → signed ((a + (2 ^ 32 - b)) % 2 ^ 32) ≡ converted false (pos a -ℤ pos b)
take a b l = ap (λ m. signed (unsigned_abs m)) (sym (int_rem_euclid_is (pos a -ℤ pos b) (pos (2 ^ 32)) (2 ^ 32) 1 (a + (2 ^ 32 - b)) (omega arith) refl (omega (arith, ints))))

negate : (b : ℕ) → b < 2 ^ 32 → signed ((2 ^ 32 - b) % 2 ^ 32) ≡ converted false (neg_ℤ (pos b))
negate b l = ap (λ m. signed (unsigned_abs m)) (sym (int_rem_euclid_is (neg_ℤ (pos b)) (pos (2 ^ 32)) (2 ^ 32) 1 (2 ^ 32 - b) (omega arith) refl (omega (arith, ints))))

truth_bits : (t : Bool) → truth t ≡ bits (truth_value t)
truth_bits true = refl
truth_bits false = refl

same_leb : (a b c d : ℕ) → (a ≤ b → c ≤ d) → (c ≤ d → a ≤ b) → leb a b ≡ leb c d
same_leb a b c d f g = by (leb a b) (leb c d) refl refl
  where
    by : (t u : Bool) → leb a b ≡ t → leb c d ≡ u → leb a b ≡ leb c d
    by true true p q = cc
    by false false p q = cc
    by true false p q = let x : a ≤ b = grind (arith, nat_tests) in let y = f x in grind (arith, nat_tests)
    by false true p q = let x : c ≤ d = grind (arith, nat_tests) in let y = g x in grind (arith, nat_tests)

apart : (a b : ℕ) → a < b → false ≡ (leb a b && leb b a)
apart a b l = by (leb a b) (leb b a) refl refl
  where
    by : (t u : Bool) → leb a b ≡ t → leb b a ≡ u → false ≡ (leb a b && leb b a)
    by false u p q = rw p refl
    by true false p q = rw (p, q) refl
    by true true p q = absurd (let y : b ≤ a = grind (arith, nat_tests) in omega arith)

apart_turned : (a b : ℕ) → a < b → false ≡ (leb b a && leb a b)
apart_turned a b l = by (leb b a) refl
  where
    by : (u : Bool) → leb b a ≡ u → false ≡ (leb b a && leb a b)
    by false q = rw q refl
    by true q = absurd (let y : b ≤ a = grind (arith, nat_tests) in omega arith)

same_equality : (a b : ℤ) → is_int a ≡ true → is_int b ≡ true → is_equal a b ≡ is_equal (pos (word a)) (pos (word b))
same_equality (pos a) (pos b) h k = refl
same_equality (pos a) (negsuc b) h k =
    let l : a < 2 ^ 31 = ltb-true _ _ h in
    let m : b < 2 ^ 31 = ltb-true _ _ k in
    apart a (2 ^ 32 - suc b) (omega arith)
same_equality (negsuc a) (pos b) h k =
    let l : a < 2 ^ 31 = ltb-true _ _ h in
    let m : b < 2 ^ 31 = ltb-true _ _ k in
    apart_turned b (2 ^ 32 - suc a) (omega arith)
same_equality (negsuc a) (negsuc b) h k =
    let l : a < 2 ^ 31 = ltb-true _ _ h in
    let m : b < 2 ^ 31 = ltb-true _ _ k in
    ap (λ t. t && leb a b) (same_leb b a (2 ^ 32 - suc a) (2 ^ 32 - suc b) (λ p. omega arith) (λ p. omega arith))
    ∙ ap (λ t. leb (2 ^ 32 - suc a) (2 ^ 32 - suc b) && t) (same_leb a b (2 ^ 32 - suc b) (2 ^ 32 - suc a) (λ p. omega arith) (λ p. omega arith))

-- division
ltb_suc : (n : ℕ) → ltb (suc n) 1 ≡ (suc n == 0)
ltb_suc n = grind (arith, nat_tests)

same_zero : (b : ℕ) → is_zero (pos b) ≡ (b == 0)
same_zero zero = refl
same_zero (suc n) = ltb_suc n

quotients_int : (a b : ℤ) → machine.quotient a b ≡ given_bits (quotient false a b)
quotients_int a b = by (is_zero b) refl
  where
    by : (t : Bool) → is_zero b ≡ t → machine.quotient a b ≡ given_bits (quotient false a b)
    by true e = rw e refl
    by false e = rw e (fitted_int Overflow (int_div a b))

quotients_unsigned : (a b : ℕ) → a < 2 ^ 32 → (if b == 0 then Err DivisorZero else Ok (signed (a / b))) ≡ given_bits (quotient true (pos a) (pos b))
quotients_unsigned a b l = by (b == 0) (same_zero b)
  where
    by : (t : Bool) → is_zero (pos b) ≡ t → (if t then Err DivisorZero else Ok (signed (a / b))) ≡ given_bits (quotient true (pos a) (pos b))
    by true e = rw e refl
    by false e = rw e (ap Ok (sym (bits_of (a / b) (omega (arith, div-le_self a b)))) ∙ fitted_unsigned Overflow (pos (a / b)))

remainders_int : (a b : ℤ) → is_int a ≡ true → machine.remainder a b ≡ given_bits (remainder false a b)
remainders_int a b h = by (is_zero b) (is_int (int_div a b)) refl refl
  where
    by : (t whole : Bool) → is_zero b ≡ t → is_int (int_div a b) ≡ whole → machine.remainder a b ≡ given_bits (remainder false a b)
    by true whole e f = rw e refl
    by false false e f = rw (e, f) refl
    by false true e f =
        let bound = mag_rem a b in
        let small = fits a h in
        let left = quot-rem a b in
        let is : int_rem a b ≡ a -ℤ (int_div a b *ℤ b) = grind (arith, left) in
        rw (e, f) (ap Ok (sym (same_int (a -ℤ (int_div a b *ℤ b)) (ap is_int (sym is) ∙ small_int (int_rem a b) (omega (arith, bound, small.sfits))))))

remainders_unsigned : (a b : ℕ) → a < 2 ^ 32 → (if b == 0 then Err DivisorZero else Ok (signed (a % b))) ≡ given_bits (remainder true (pos a) (pos b))
remainders_unsigned a b l = by (b == 0) (same_zero b)
  where
    by : (t : Bool) → is_zero (pos b) ≡ t → (if t then Err DivisorZero else Ok (signed (a % b))) ≡ given_bits (remainder true (pos a) (pos b))
    by true e = rw e refl
    by false e =
        let whole : ltb (a / b) (2 ^ 32) ≡ true = lt-ltb _ _ (omega (arith, div-le_self a b)) in
        let left = quot-rem (pos a) (pos b) in
        let is : pos (a % b) ≡ pos a -ℤ pos (a / b * b) = grind (arith, left) in
        rw (e, whole) (ap Ok (sym (bits_of (a % b) (omega (arith, mod-le a b))) ∙ ap (converted false) is))

-- shifts
amounts : (v : Bool) (y : ℤ) → is_of v y ≡ true → (f : ℕ → Operated) (g : ℕ → Valued) → ((n : ℕ) → n < 32 → f n ≡ given_bits (g n)) →
    by_amount (converted false y) f ≡ given_bits (typed_amount g y)
amounts false y k f g e = rw (same_int y k) (amounts_int y)
  where
    amounts_int : (y : ℤ) → by_amount y f ≡ given_bits (typed_amount g y)
    amounts_int (pos n) = by (ltb n 32) refl
      where
        by : (t : Bool) → ltb n 32 ≡ t → by_amount (pos n) f ≡ given_bits (typed_amount g (pos n))
        by true p = rw p (e n (ltb-true _ _ p))
        by false p = rw p refl
    amounts_int (negsuc n) = refl
amounts true (pos n) k f g e = ap (λ m. by_amount (signed m) f) (mod-eq_of_lt (ltb-true _ _ k)) ∙ by (ltb n (2 ^ 31)) (ltb n 32) refl refl
  where
    by : (t u : Bool) → ltb n (2 ^ 31) ≡ t → ltb n 32 ≡ u → by_amount (signed n) f ≡ given_bits (typed_amount g (pos n))
    by true true p q = rw (p, q) (e n (ltb-true _ _ q))
    by true false p q = rw (p, q) refl
    by false true p q = absurd (let l : n < 32 = ltb-true _ _ q in let m : 2 ^ 31 ≤ n = grind (arith, nat_tests) in omega arith)
    by false false p q = rw (p, q) refl
amounts true (negsuc n) k f g e = absurd (cc)

doubled_int : (a : ℤ) (n : ℕ) → machine.doubled a n ≡ given_bits (doubled false a n)
doubled_int (pos a) n = fitted_int Shift (pos a *ℤ pos (2 ^ n))
doubled_int (negsuc a) n = refl

doubled_unsigned : (a : ℕ) (n : ℕ) → Ok (signed ((a * 2 ^ n) % 2 ^ 32)) ≡ given_bits (doubled true (pos a) n)
doubled_unsigned a n = fitted_unsigned Shift (pos (a * 2 ^ n))

halved_int : (a : ℤ) (n : ℕ) → is_int a ≡ true → machine.halved a n ≡ given_bits (halved false a n)
halved_int (pos a) n h = ap Ok (sym (same_int (pos (a / 2 ^ n)) (lt-ltb _ _ (let l : a < 2 ^ 31 = ltb-true _ _ h in omega (arith, div-le_self a (2 ^ n))))))
halved_int (negsuc a) n h = ap Ok (sym (same_int (negsuc (a / 2 ^ n)) (lt-ltb _ _ (let l : a < 2 ^ 31 = ltb-true _ _ h in omega (arith, div-le_self a (2 ^ n))))))

halved_unsigned : (a : ℕ) (n : ℕ) → a < 2 ^ 32 → Ok (signed (a / 2 ^ n)) ≡ given_bits (halved true (pos a) n)
halved_unsigned a n l = ap Ok (sym (bits_of (a / 2 ^ n) (omega (arith, div-le_self a (2 ^ n)))))

-- bits
same_bits : (u : Bool) (z : ℤ) → is_int z ≡ true → z ≡ bits (of_type u z)
same_bits true z h = sym (again z ∙ same_int z h)
same_bits false z h = sym (ap (converted false) (same_int z h) ∙ same_int z h)

plain_form : (u : Bool) (op : Binary) → unsigned_binary op ≡ op → (if u then unsigned_binary op else op) ≡ op
plain_form true op e = e
plain_form false op e = refl

worked : (op : Binary) (work : ℤ → ℤ → ℤ) → unsigned_binary op ≡ op → ((a b : ℤ) → binary_value op a b ≡ Ok (work a b)) → ((a b : ℤ) → is_int a ≡ true → is_int b ≡ true → is_int (work a b) ≡ true) →
    (u : Bool) (a b : Typed) → binary_value (if u then unsigned_binary op else op) (bits a) (bits b) ≡ given_bits (on_bits work a b)
worked op work e f g u a b =
    ap (λ o. binary_value o (bits a) (bits b)) (plain_form u op e) ∙ f (bits a) (bits b) ∙ ap Ok (same_bits (Rattle.c_int.specs.Typed.common a b) (work (bits a) (bits b)) (g (bits a) (bits b) (is_int_bits a.number) (is_int_bits b.number)))

abbrev Claim : Binary → Type 0
Claim op = (u v : Bool) (x y : ℤ) → is_of u x ≡ true → is_of v y ≡ true →
    binary_value (binary_for u v op) (converted false x) (converted false y) ≡ given_bits (binary_typed op (value u x) (value v y))

sums : Claim binary.Add
sums = in_both binary.Add sum (λ a b h k. fitted_int Overflow (a +ℤ b)) (λ a b h k. fitted_unsigned Overflow (pos (word a + word b)))

differences : Claim binary.Subtract
differences = in_both binary.Subtract difference (λ a b h k. fitted_int Overflow (a -ℤ b))
    (λ a b h k. ap Ok (take (word a) (word b) (word_below b k)) ∙ fitted_unsigned Overflow (pos (word a) -ℤ pos (word b)))

products : Claim binary.Multiply
products = in_both binary.Multiply product (λ a b h k. fitted_int Overflow (a *ℤ b)) (λ a b h k. fitted_unsigned Overflow (pos (word a * word b)))

quotients : Claim binary.Divide
quotients = in_both binary.Divide quotient (λ a b h k. quotients_int a b) (λ a b h k. quotients_unsigned (word a) (word b) (word_below a h))

remainders : Claim binary.Remainder
remainders = in_both binary.Remainder remainder (λ a b h k. remainders_int a b h) (λ a b h k. remainders_unsigned (word a) (word b) (word_below a h))

compared_both : (op : Binary) (test : ℤ → ℤ → Bool) →
    ((a b : ℤ) → binary_value op a b ≡ Ok (truth (test a b))) →
    ((a b : ℤ) → is_int a ≡ true → is_int b ≡ true → binary_value (unsigned_binary op) a b ≡ Ok (truth (test (pos (word a)) (pos (word b))))) →
    (u v : Bool) (x y : ℤ) → is_of u x ≡ true → is_of v y ≡ true →
    binary_value (if u || v then unsigned_binary op else op) (converted false x) (converted false y) ≡ given_bits (compared test (value u x) (value v y))
compared_both op test i w = in_both op (λ _ x y. Ok (truth_value (test x y)))
    (λ a b h k. i a b ∙ ap Ok (truth_bits (test a b))) (λ a b h k. w a b h k ∙ ap Ok (truth_bits (test (pos (word a)) (pos (word b)))))

equalities : Claim binary.Equal
equalities = compared_both binary.Equal is_equal (λ a b. refl) (λ a b h k. ap (λ t. Ok (truth t)) (same_equality a b h k))

inequalities : Claim binary.Unequal
inequalities = compared_both binary.Unequal (λ x y. not (is_equal x y)) (λ a b. refl) (λ a b h k. ap (λ t. Ok (truth (not t))) (same_equality a b h k))

lesses : Claim binary.Less
lesses = compared_both binary.Less int_lt (λ a b. refl) (λ a b h k. refl)

less_equals : Claim binary.LessEqual
less_equals = compared_both binary.LessEqual int_le (λ a b. refl) (λ a b h k. refl)

greaters : Claim binary.Greater
greaters = compared_both binary.Greater (λ x y. int_lt y x) (λ a b. refl) (λ a b h k. refl)

greater_equals : Claim binary.GreaterEqual
greater_equals = compared_both binary.GreaterEqual (λ x y. int_le y x) (λ a b. refl) (λ a b h k. refl)

shifts_left : Claim binary.ShiftLeft
shifts_left false v x y h k = amounts v y k (machine.doubled (converted false x)) (doubled false x)
    (λ n l. doubled_int (converted false x) n ∙ ap (λ a. given_bits (doubled false a n)) (same_int x h))
shifts_left true v x y h k = amounts v y k (unsigned.doubled (converted false x)) (doubled true x)
    (λ n l. doubled_unsigned (word (converted false x)) n ∙ ap (λ a. given_bits (doubled true a n)) (sym (word_of true x h) ∙ same_unsigned x h))

shifts_right : Claim binary.ShiftRight
shifts_right false v x y h k = amounts v y k (machine.halved (converted false x)) (halved false x)
    (λ n l. halved_int (converted false x) n (is_int_bits x) ∙ ap (λ a. given_bits (halved false a n)) (same_int x h))
shifts_right true v x y h k = amounts v y k (unsigned.halved (converted false x)) (halved true x)
    (λ n l. halved_unsigned (word (converted false x)) n (word_below (converted false x) (is_int_bits x)) ∙
    ap (λ a. given_bits (halved true a n)) (sym (word_of true x h) ∙ same_unsigned x h))

-- A form for `unsigned` is the operator between operands that are converted.
unsigned_of : (x : ℤ) → is_unsigned (converted true x) ≡ true
unsigned_of x = let r = reduced x in rw r.1 (lt-ltb _ _ r.2)

-- of both operands
formed : (op form : Binary) → Claim op → binary_for true true op ≡ form → (u : Bool) → (if u then form else form) ≡ form → (x y : ℤ) →
    binary_value (if u then form else form) (converted false x) (converted false y) ≡
    given_bits (binary_typed op (value true (converted true x)) (value true (converted true y)))
formed op form claim e u f x y =
    ap (λ o. binary_value o (converted false x) (converted false y)) (f ∙ sym e)
    ∙ ap (λ a. binary_value (binary_for true true op) a (converted false y)) (sym (again x))
    ∙ ap (binary_value (binary_for true true op) (converted false (converted true x))) (sym (again y))
    ∙ claim true true (converted true x) (converted true y) (unsigned_of x) (unsigned_of y)

-- of the left operand
formed_left : (op form : Binary) → Claim op → (u v : Bool) → binary_for true v op ≡ form → (if u then form else form) ≡ form → (x y : ℤ) → is_of v y ≡ true →
    binary_value (if u then form else form) (converted false x) (converted false y) ≡
    given_bits (binary_typed op (value true (converted true x)) (value v y))
formed_left op form claim u v e f x y k =
    ap (λ o. binary_value o (converted false x) (converted false y)) (f ∙ sym e)
    ∙ ap (λ a. binary_value (binary_for true v op) a (converted false y)) (sym (again x))
    ∙ claim true v (converted true x) y (unsigned_of x) k

same_form : (u : Bool) (form : Binary) → (if u then form else form) ≡ form
same_form true form = refl
same_form false form = refl

-- a value is 0 where its bits are
zero_bits : (u : Bool) (x : ℤ) → is_of u x ≡ true → is_zero (converted false x) ≡ is_zero x
zero_bits false x h = ap is_zero (same_int x h)
zero_bits true (pos n) h = ap (λ m. is_zero (signed m)) (mod-eq_of_lt (ltb-true _ _ h)) ∙ by (ltb n (2 ^ 31)) refl
  where
    by : (t : Bool) → ltb n (2 ^ 31) ≡ t → is_zero (signed n) ≡ is_zero (pos n)
    by true p = rw p refl
    by false p = rw p (let m : 2 ^ 31 ≤ n = grind (arith, nat_tests) in grind (arith, nat_tests))
zero_bits true (negsuc n) h = absurd (cc)

same_unary : (u : Bool) (form : Unary) → (if u then form else form) ≡ form
same_unary true form = refl
same_unary false form = refl

negated : (u : Bool) (x : ℤ) → is_of u x ≡ true → unary_value (unary_for u unary.Minus) (converted false x) ≡ given_bits (unary_typed unary.Minus (value u x))
negated false x h = fitted_int Overflow (neg_ℤ (converted false x)) ∙ ap (λ y. given_bits (fitted Overflow false (neg_ℤ y))) (same_int x h)
negated true x h =
    ap Ok (negate (word (converted false x)) (word_below (converted false x) (is_int_bits x)))
    ∙ fitted_unsigned Overflow (neg_ℤ (pos (word (converted false x))))
    ∙ ap (λ y. given_bits (fitted Overflow true (neg_ℤ y))) (sym (word_of true x h) ∙ same_unsigned x h)

pub one_operand : (op : Unary) (a : Typed) → is_typed a ≡ true → unary_value (unary_for a.unsigned op) (bits a) ≡ given_bits (unary_typed op a)
one_operand unary.Minus a h = negated a.unsigned a.number h
one_operand unary.Plus a h = ap (λ o. unary_value o (bits a)) (same_unary a.unsigned unary.Plus)
one_operand unary.Not a h =
    ap (λ o. unary_value o (bits a)) (same_unary a.unsigned unary.Not)
    ∙ ap (λ t. Ok (truth t)) (zero_bits a.unsigned a.number h) ∙ ap Ok (truth_bits (is_zero a.number))
one_operand unary.Invert a h =
    ap (λ o. unary_value o (bits a)) (same_unary a.unsigned unary.Invert)
    ∙ ap Ok (same_bits a.unsigned (int_bit_not w32 (bits a)) (is_int_signed (2 ^ 32 - 1 - word (bits a)) (omega arith)))
one_operand unary.MinusUnsigned a h =
    ap (λ o. unary_value o (bits a)) (same_unary a.unsigned unary.MinusUnsigned)
    ∙ ap (unary_value unary.MinusUnsigned) (sym (again a.number)) ∙ negated true (converted true a.number) (unsigned_of a.number)

pub two_operands : (op : Binary) (a b : Typed) → is_typed a ≡ true → is_typed b ≡ true →
    binary_value (binary_for a.unsigned b.unsigned op) (bits a) (bits b) ≡ given_bits (binary_typed op a b)
two_operands binary.BitOr a b h k = worked binary.BitOr (int_bit_or w32) refl (λ _ _. refl) (λ x y p q. is_int_signed _ (or_of_32 _ _ (word_below x p) (word_below y q))) (a.unsigned || b.unsigned) a b
two_operands binary.BitXor a b h k = worked binary.BitXor (int_bit_xor w32) refl (λ _ _. refl) (λ x y p q. is_int_signed _ (xor_of_32 _ _ (word_below x p) (word_below y q))) (a.unsigned || b.unsigned) a b
two_operands binary.BitAnd a b h k = worked binary.BitAnd (int_bit_and w32) refl (λ _ _. refl) (λ x y p q. is_int_signed (bit_and (word x) (word y)) (let l = word_below x p in omega (arith, and_le_l (word x) (word y)))) (a.unsigned || b.unsigned) a b
two_operands binary.Equal a b h k = equalities a.unsigned b.unsigned a.number b.number h k
two_operands binary.Unequal a b h k = inequalities a.unsigned b.unsigned a.number b.number h k
two_operands binary.Less a b h k = lesses a.unsigned b.unsigned a.number b.number h k
two_operands binary.LessEqual a b h k = less_equals a.unsigned b.unsigned a.number b.number h k
two_operands binary.Greater a b h k = greaters a.unsigned b.unsigned a.number b.number h k
two_operands binary.GreaterEqual a b h k = greater_equals a.unsigned b.unsigned a.number b.number h k
two_operands binary.ShiftLeft a b h k = shifts_left a.unsigned b.unsigned a.number b.number h k
two_operands binary.ShiftRight a b h k = shifts_right a.unsigned b.unsigned a.number b.number h k
two_operands binary.Add a b h k = sums a.unsigned b.unsigned a.number b.number h k
two_operands binary.Subtract a b h k = differences a.unsigned b.unsigned a.number b.number h k
two_operands binary.Multiply a b h k = products a.unsigned b.unsigned a.number b.number h k
two_operands binary.Divide a b h k = quotients a.unsigned b.unsigned a.number b.number h k
two_operands binary.Remainder a b h k = remainders a.unsigned b.unsigned a.number b.number h k
two_operands binary.LessUnsigned a b h k =
    formed binary.Less binary.LessUnsigned lesses refl (a.unsigned || b.unsigned) (same_form (a.unsigned || b.unsigned) binary.LessUnsigned) a.number b.number
two_operands binary.LessEqualUnsigned a b h k =
    formed binary.LessEqual binary.LessEqualUnsigned less_equals refl (a.unsigned || b.unsigned) (same_form (a.unsigned || b.unsigned) binary.LessEqualUnsigned) a.number b.number
two_operands binary.GreaterUnsigned a b h k =
    formed binary.Greater binary.GreaterUnsigned greaters refl (a.unsigned || b.unsigned) (same_form (a.unsigned || b.unsigned) binary.GreaterUnsigned) a.number b.number
two_operands binary.GreaterEqualUnsigned a b h k =
    formed binary.GreaterEqual binary.GreaterEqualUnsigned greater_equals refl (a.unsigned || b.unsigned) (same_form (a.unsigned || b.unsigned) binary.GreaterEqualUnsigned) a.number b.number
two_operands binary.AddUnsigned a b h k =
    formed binary.Add binary.AddUnsigned sums refl (a.unsigned || b.unsigned) (same_form (a.unsigned || b.unsigned) binary.AddUnsigned) a.number b.number
two_operands binary.SubtractUnsigned a b h k =
    formed binary.Subtract binary.SubtractUnsigned differences refl (a.unsigned || b.unsigned) (same_form (a.unsigned || b.unsigned) binary.SubtractUnsigned) a.number b.number
two_operands binary.MultiplyUnsigned a b h k =
    formed binary.Multiply binary.MultiplyUnsigned products refl (a.unsigned || b.unsigned) (same_form (a.unsigned || b.unsigned) binary.MultiplyUnsigned) a.number b.number
two_operands binary.DivideUnsigned a b h k =
    formed binary.Divide binary.DivideUnsigned quotients refl (a.unsigned || b.unsigned) (same_form (a.unsigned || b.unsigned) binary.DivideUnsigned) a.number b.number
two_operands binary.RemainderUnsigned a b h k =
    formed binary.Remainder binary.RemainderUnsigned remainders refl (a.unsigned || b.unsigned) (same_form (a.unsigned || b.unsigned) binary.RemainderUnsigned) a.number b.number
two_operands binary.ShiftLeftUnsigned a b h k =
    formed_left binary.ShiftLeft binary.ShiftLeftUnsigned shifts_left (a.unsigned || b.unsigned) b.unsigned refl (same_form (a.unsigned || b.unsigned) binary.ShiftLeftUnsigned) a.number b.number k
two_operands binary.ShiftRightUnsigned a b h k =
    formed_left binary.ShiftRight binary.ShiftRightUnsigned shifts_right (a.unsigned || b.unsigned) b.unsigned refl (same_form (a.unsigned || b.unsigned) binary.ShiftRightUnsigned) a.number b.number k
