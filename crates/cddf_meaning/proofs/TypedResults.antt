-- What the operators give is of its type, and is known by its bits.
use Rattle.std.proofs.Common.{◌≡◌, ℕ, ◌*◌, ◌/◌, ◌%◌, ◌^◌, ◌<◌, ◌≤◌, Bool, true, false, if◌then◌else◌, refl, ap, ◌∙◌, sym, arith, ℤ, pos, negsuc, ◌+ℤ◌, ◌-ℤ◌, ◌*ℤ◌, w32, ltb, Ok, Err}
use Rattle.std.specs.Prelude.{⊤, int_div, int_rem, int_lt, int_le, is_none, neg_ℤ, not, Option, Some, None}
use Rattle.std.specs.Int.Signed.{mag_rem}
use Rattle.std.specs.Int.{int_bit_and, int_bit_or, int_bit_xor, int_bit_not}
use Rattle.std.proofs.lemmas.Int.{quot-rem}
use Rattle.std.proofs.lemmas.Bool.{ltb-true, lt-ltb}
use Rattle.std.proofs.lemmas.Bool.Decides.{nat_tests}
use Rattle.std.proofs.Math.Nat.{mod-le, mod-eq_of_lt}
use native.Mathlib.Nat.{div-le_self}
use Rattle.c_int.specs.Machine.{unary_for, binary_for, given_bits}
use Rattle.c_int.specs.Operators.{is_int, is_zero, is_equal, unary_value, binary_value}
use Rattle.c_int.specs.Trapping.{Operated}
use Rattle.c_int.specs.Typed.{Typed, Valued, is_typed, is_of, is_unsigned, converted, of_type, bits, truth_value, common, fitted, in_common, quotient, remainder, by_amount, doubled, halved, unary_typed, binary_typed}
use Rattle.c_int.specs.Unsigned.{word}
use Rattle.c_int.specs.declared.operators.Binary as int_binary
use Rattle.c_int.specs.declared.operators.Unary as int_unary
use Rattle.c_int.specs.declared.trap.OperatorTrap.{OperatorTrap}
use Rattle.c_int.specs.declared.trap.OperatorTrap.TheVariants.{Overflow, DivisorZero, Shift}
use Rattle.c_int.proofs.Conversions.{fits, same_int, reduced, again, word_of, modulo, same_unsigned, is_int_bits}
use Rattle.c_int.proofs.Remainders.{small}
use Rattle.c_int.proofs.TypedOperators.{one_operand, two_operands}
use Rattle.cddf_meaning.specs.Answers.{Answer, and_then, at_line}
use Rattle.cddf_meaning.specs.Operators.{operator_of_one, operator_of_two, unary_answer, operated_by, binary_answer}
use Rattle.cddf_meaning.specs.TypedValue.{element_with_type, typed_unary, typed_by, typed_binary}
use Rattle.cddf_meaning.specs.ExpressionTypes.{type_of_one, type_of_two}
use Rattle.os_ast.specs.declared.expr.Binary.TheVariants as binary
use Rattle.os_ast.specs.declared.expr.Binary.{Binary}
use Rattle.os_ast.specs.declared.expr.Unary.TheVariants as unary
use Rattle.os_ast.specs.declared.expr.Unary.{Unary}

-- a number that is converted is one of its type, and has the bits it had
pub converted_is : (u : Bool) (x : ℤ) → is_of u (converted u x) ≡ true
converted_is true x = let r = reduced x in rw r.1 (lt-ltb _ _ r.2)
converted_is false x = is_int_bits x

pub bits_stay : (u : Bool) (x : ℤ) → is_int x ≡ true → converted false (converted u x) ≡ x
bits_stay true x h = again x ∙ same_int x h
bits_stay false x h = ap (converted false) (same_int x h) ∙ same_int x h

-- a number of a type is known by its bits
back : (u : Bool) (x : ℤ) → is_of u x ≡ true → converted u (converted false x) ≡ x
back true x h = modulo (converted false x) (is_int_bits x) ∙ sym (word_of true x h) ∙ same_unsigned x h
back false x h = ap (converted false) (same_int x h) ∙ same_int x h

-- a value is 0 where its bits are
pub zero_bits : (u : Bool) (x : ℤ) → is_int x ≡ true → is_zero (converted u x) ≡ is_zero x
zero_bits false x h = ap is_zero (same_int x h)
zero_bits true (pos n) h = let l : n < 2 ^ 31 = ltb-true _ _ h in ap (λ m. is_zero (pos m)) (mod-eq_of_lt (omega arith))
zero_bits true (negsuc n) h =
    let l : n < 2 ^ 31 = ltb-true _ _ h in
    ap is_zero (modulo (negsuc n) h) ∙ far (word (negsuc n)) (omega arith)
  where
    far : (m : ℕ) → 1 ≤ m → is_zero (pos m) ≡ false
    far m l = grind (arith, nat_tests)

-- what is given is of this type, and a number of it
abbrev pub OfType : Bool → Valued → Type 0
OfType u (Ok a) = (a.unsigned ≡ u) × (is_of u a.number ≡ true)
OfType u (Err trap) = ⊤

of_type-is : (u : Bool) (x : ℤ) → OfType u (Ok (of_type u x))
of_type-is u x = (refl, converted_is u x)

fitted-is : (t : OperatorTrap) (u : Bool) (x : ℤ) → OfType u (fitted t u x)
fitted-is t true x = of_type-is true x
fitted-is t false x = by (is_int x) refl
  where
    by : (b : Bool) → is_int x ≡ b → OfType false (if b then Ok (record { number = x; unsigned = false }) else Err t)
    by true e = (refl, e)
    by false e = tt

truth-is : (b : Bool) → OfType false (Ok (truth_value b))
truth-is true = (refl, refl)
truth-is false = (refl, refl)

quotient-is : (u : Bool) (x y : ℤ) → OfType u (quotient u x y)
quotient-is u x y = by (is_zero y)
  where
    by : (b : Bool) → OfType u (if b then Err DivisorZero else fitted Overflow u (int_div x y))
    by true = tt
    by false = fitted-is Overflow u (int_div x y)

remainder_fits : (u : Bool) (x y : ℤ) → is_of u x ≡ true → is_of u y ≡ true → is_of u (x -ℤ (int_div x y *ℤ y)) ≡ true
remainder_fits false x y h k =
    let bound = mag_rem x y in
    let some = fits x h in
    let left = quot-rem x y in
    let is : int_rem x y ≡ x -ℤ (int_div x y *ℤ y) = grind (arith, left) in
    ap is_int (sym is) ∙ small (int_rem x y) (omega (arith, bound, some.sfits))
remainder_fits true (pos a) (pos b) h k =
    let l : a < 2 ^ 32 = ltb-true _ _ h in
    let left = quot-rem (pos a) (pos b) in
    let is : pos (a % b) ≡ pos a -ℤ pos (a / b * b) = grind (arith, left) in
    ap is_unsigned (sym is) ∙ lt-ltb _ _ (omega (arith, mod-le a b))
remainder_fits true (pos a) (negsuc b) h k = absurd (cc)
remainder_fits true (negsuc a) y h k = absurd (cc)

remainder-is : (u : Bool) (x y : ℤ) → is_of u x ≡ true → is_of u y ≡ true → OfType u (remainder u x y)
remainder-is u x y h k = by (is_zero y) (is_of u (int_div x y))
  where
    by : (b c : Bool) →
        OfType u (if b then Err DivisorZero else if c then Ok (record { number = x -ℤ (int_div x y *ℤ y); unsigned = u }) else Err Overflow)
    by true c = tt
    by false true = (refl, remainder_fits u x y h k)
    by false false = tt

amount-is : (u : Bool) (shift : ℕ → Valued) (y : ℤ) → ((n : ℕ) → OfType u (shift n)) → OfType u (by_amount shift y)
amount-is u shift (pos n) f = by (ltb n 32)
  where
    by : (b : Bool) → OfType u (if b then shift n else Err Shift)
    by true = f n
    by false = tt
amount-is u shift (negsuc n) f = tt

doubled-is : (u : Bool) (x : ℤ) (n : ℕ) → OfType u (doubled u x n)
doubled-is u (pos a) n = fitted-is Shift u (pos a *ℤ pos (2 ^ n))
doubled-is u (negsuc a) n = tt

halved-is : (u : Bool) (x : ℤ) (n : ℕ) → is_of u x ≡ true → OfType u (halved u x n)
halved-is false (pos a) n h = (refl, lt-ltb _ _ (let l : a < 2 ^ 31 = ltb-true _ _ h in omega (arith, div-le_self a (2 ^ n))))
halved-is false (negsuc a) n h = (refl, lt-ltb _ _ (let l : a < 2 ^ 31 = ltb-true _ _ h in omega (arith, div-le_self a (2 ^ n))))
halved-is true (pos a) n h = (refl, lt-ltb _ _ (let l : a < 2 ^ 32 = ltb-true _ _ h in omega (arith, div-le_self a (2 ^ n))))
halved-is true (negsuc a) n h = absurd (cc)

-- an operator with one operand
pub one-is : (op : Unary) (a : Typed) → is_typed a ≡ true → OfType (type_of_one op a.unsigned) (unary_typed (operator_of_one op) a)
one-is unary.Minus a h = fitted-is Overflow a.unsigned (neg_ℤ a.number)
one-is unary.Plus a h = (refl, h)
one-is unary.Not a h = truth-is (is_zero a.number)
one-is unary.Invert a h = of_type-is a.unsigned (int_bit_not w32 (bits a))

-- what is asked of an operator with two operands, if it is one
abbrev pub GivesType : Bool → Option int_binary.Binary → Typed → Typed → Type 0
GivesType u None a b = ⊤
GivesType u (Some op) a b = OfType u (binary_typed op a b)

pub two-is : (op : Binary) (a b : Typed) → is_typed a ≡ true → GivesType (type_of_two op a.unsigned b.unsigned) (operator_of_two op) a b
two-is binary.Or a b h = tt
two-is binary.And a b h = tt
two-is binary.BitOr a b h = of_type-is (common a b) (int_bit_or w32 (bits a) (bits b))
two-is binary.BitXor a b h = of_type-is (common a b) (int_bit_xor w32 (bits a) (bits b))
two-is binary.BitAnd a b h = of_type-is (common a b) (int_bit_and w32 (bits a) (bits b))
two-is binary.Equal a b h = truth-is (in_common (λ _ x y. is_equal x y) a b)
two-is binary.Unequal a b h = truth-is (in_common (λ _ x y. not (is_equal x y)) a b)
two-is binary.Less a b h = truth-is (in_common (λ _ x y. int_lt x y) a b)
two-is binary.LessEqual a b h = truth-is (in_common (λ _ x y. int_le x y) a b)
two-is binary.Greater a b h = truth-is (in_common (λ _ x y. int_lt y x) a b)
two-is binary.GreaterEqual a b h = truth-is (in_common (λ _ x y. int_le y x) a b)
two-is binary.ShiftLeft a b h = amount-is a.unsigned (doubled a.unsigned a.number) b.number (doubled-is a.unsigned a.number)
two-is binary.ShiftRight a b h = amount-is a.unsigned (halved a.unsigned a.number) b.number (λ n. halved-is a.unsigned a.number n h)
two-is binary.Add a b h = fitted-is Overflow (common a b) (converted (common a b) a.number +ℤ converted (common a b) b.number)
two-is binary.Subtract a b h = fitted-is Overflow (common a b) (converted (common a b) a.number -ℤ converted (common a b) b.number)
two-is binary.Multiply a b h = fitted-is Overflow (common a b) (converted (common a b) a.number *ℤ converted (common a b) b.number)
two-is binary.Divide a b h = quotient-is (common a b) (converted (common a b) a.number) (converted (common a b) b.number)
two-is binary.Remainder a b h =
    remainder-is (common a b) (converted (common a b) a.number) (converted (common a b) b.number)
    (converted_is (common a b) a.number) (converted_is (common a b) b.number)

-- a value is known by its type and its bits
pub known : (u : Bool) (a : Typed) → a.unsigned ≡ u → is_of u a.number ≡ true → a ≡ of_type u (bits a)
known u a t h =
    ap (λ w. record { number = a.number; unsigned = w }) t ∙ ap (λ x. record { number = x; unsigned = u }) (sym (back u a.number h))

agree : (u : Bool) (line : ℕ) (r : Valued) (q : Operated) → q ≡ given_bits r → OfType u r →
    at_line line r ≡ and_then (at_line line q) (element_with_type u)
agree u line (Ok a) q e (t, h) = ap Ok (known u a t h) ∙ sym (ap (λ x. and_then (at_line line x) (element_with_type u)) e)
agree u line (Err trap) q e f = sym (ap (λ x. and_then (at_line line x) (element_with_type u)) e)

-- where a number is given, it is an `int`
abbrev pub IntAnswer : Answer ℤ → Type 0
IntAnswer (Ok v) = is_int v ≡ true
IntAnswer (Err ending) = ⊤

int-given : (line : ℕ) (r : Valued) (q : Operated) → q ≡ given_bits r → IntAnswer (at_line line q)
int-given line (Ok a) q e = rw e (is_int_bits a.number)
int-given line (Err trap) q e = rw e tt

-- the operators between values with these bits, and those on the bits
bits_one : (op : int_unary.Unary) (u : Bool) (x : ℤ) → is_int x ≡ true →
    unary_value (unary_for u op) x ≡ given_bits (unary_typed op (of_type u x))
bits_one op u x h = ap (unary_value (unary_for u op)) (sym (bits_stay u x h)) ∙ one_operand op (of_type u x) (converted_is u x)

bits_two : (op : int_binary.Binary) (u v : Bool) (x y : ℤ) → is_int x ≡ true → is_int y ≡ true →
    binary_value (binary_for u v op) x y ≡ given_bits (binary_typed op (of_type u x) (of_type v y))
bits_two op u v x y h k =
    ap (λ z. binary_value (binary_for u v op) z y) (sym (bits_stay u x h))
    ∙ ap (binary_value (binary_for u v op) (converted false (converted u x))) (sym (bits_stay v y k))
    ∙ two_operands op (of_type u x) (of_type v y) (converted_is u x) (converted_is v y)

pub unary-agrees : (op : Unary) (line : ℕ) (u : Bool) (x : ℤ) → is_int x ≡ true →
    typed_unary op line (of_type u x) ≡ and_then (unary_answer op line u x) (element_with_type (type_of_one op u))
unary-agrees op line u x h =
    agree (type_of_one op u) line (unary_typed (operator_of_one op) (of_type u x)) (unary_value (unary_for u (operator_of_one op)) x)
    (bits_one (operator_of_one op) u x h) (one-is op (of_type u x) (converted_is u x))

pub unary-int : (op : Unary) (line : ℕ) (u : Bool) (x : ℤ) → is_int x ≡ true → IntAnswer (unary_answer op line u x)
unary-int op line u x h =
    int-given line (unary_typed (operator_of_one op) (of_type u x)) (unary_value (unary_for u (operator_of_one op)) x)
    (bits_one (operator_of_one op) u x h)

by-agrees : (o : Option int_binary.Binary) (w : Bool) (line : ℕ) (u v : Bool) (x y : ℤ) → is_int x ≡ true → is_int y ≡ true →
    (is_none o ≡ true → w ≡ false) → GivesType w o (of_type u x) (of_type v y) →
    typed_by o line (of_type u x) (of_type v y) ≡ and_then (operated_by o line u v x y) (element_with_type w)
by-agrees None w line u v x y h k n g = sym (ap (λ t. Ok (of_type t (pos 0))) (n refl))
by-agrees (Some op) w line u v x y h k n g =
    agree w line (binary_typed op (of_type u x) (of_type v y)) (binary_value (binary_for u v op) x y) (bits_two op u v x y h k) g

by-int : (o : Option int_binary.Binary) (line : ℕ) (u v : Bool) (x y : ℤ) → is_int x ≡ true → is_int y ≡ true →
    IntAnswer (operated_by o line u v x y)
by-int None line u v x y h k = refl
by-int (Some op) line u v x y h k =
    int-given line (binary_typed op (of_type u x) (of_type v y)) (binary_value (binary_for u v op) x y) (bits_two op u v x y h k)

no-operator : (op : Binary) (u v : Bool) → is_none (operator_of_two op) ≡ true → type_of_two op u v ≡ false
no-operator binary.Or u v h = refl
no-operator binary.And u v h = refl
no-operator op u v h = absurd (cc)

pub binary-agrees : (op : Binary) (line : ℕ) (u v : Bool) (x y : ℤ) → is_int x ≡ true → is_int y ≡ true →
    typed_binary op line (of_type u x) (of_type v y) ≡ and_then (binary_answer op line u v x y) (element_with_type (type_of_two op u v))
binary-agrees op line u v x y h k =
    by-agrees (operator_of_two op) (type_of_two op u v) line u v x y h k (no-operator op u v) (two-is op (of_type u x) (of_type v y) (converted_is u x))

pub binary-int : (op : Binary) (line : ℕ) (u v : Bool) (x y : ℤ) → is_int x ≡ true → is_int y ≡ true → IntAnswer (binary_answer op line u v x y)
binary-int op line u v x y h k = by-int (operator_of_two op) line u v x y h k
