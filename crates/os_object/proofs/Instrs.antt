-- An instruction, and what stands behind it, found in its numbers: the same for all that begin so.
use Rattle.std.proofs.Common.{◌≡◌, ℕ, ◌≤◌, List, [], ◌∷◌, ◌++◌, length, get_or, drop, refl, sym, ap, ◌∙◌, arith, ℤ}
use Rattle.std.specs.Int.{w32, cast_signed}
use Rattle.c_int.specs.declared.operators.Unary.{Unary as UnaryOperator}
use Rattle.c_int.specs.declared.operators.Unary.TheVariants as unary
use Rattle.c_int.specs.declared.operators.Binary.{Binary as BinaryOperator}
use Rattle.c_int.specs.declared.operators.Binary.TheVariants as binary
use Rattle.os_code.specs.declared.instr.Instr.{Instr}
use Rattle.os_code.specs.declared.instr.Instr.TheVariants.{Push, Drop, Copy, Load, Store, Zero, CheckAt, LoadAt, StoreAt, ItemCheck, ItemLoad, ItemStore, Unary, Binary, Jump, JumpZero, Turn, Call, Return, End, Window, BurstIn, BurstOut, Spawn, Tick}
use Rattle.os_object.specs.Object.{unary_number, binary_number, instr_numbers, IsInstr}
use Rattle.os_object.proofs.Members.{Ends}

abbrev at : List ℕ → ℕ → ℕ
at ns k = get_or ns k 0

abbrev unary_at : ℕ → UnaryOperator
unary_at n = get_or (unary.Minus ∷ unary.Plus ∷ unary.Not ∷ unary.Invert ∷ unary.MinusUnsigned ∷ []) n unary.Minus

abbrev binary_at : ℕ → BinaryOperator
binary_at n =
    get_or (binary.Multiply ∷ binary.Divide ∷ binary.Remainder ∷ binary.Add ∷ binary.Subtract ∷ binary.ShiftLeft ∷ binary.ShiftRight ∷ binary.Less ∷ binary.LessEqual ∷ binary.Greater ∷ binary.GreaterEqual ∷ binary.Equal ∷ binary.Unequal ∷ binary.BitAnd ∷ binary.BitXor ∷ binary.BitOr ∷ binary.MultiplyUnsigned ∷ binary.DivideUnsigned ∷ binary.RemainderUnsigned ∷ binary.AddUnsigned ∷ binary.SubtractUnsigned ∷ binary.ShiftLeftUnsigned ∷ binary.ShiftRightUnsigned ∷ binary.LessUnsigned ∷ binary.LessEqualUnsigned ∷ binary.GreaterUnsigned ∷ binary.GreaterEqualUnsigned ∷ [])
    n binary.Multiply

unary_at-number : (op : UnaryOperator) → unary_at (unary_number op) ≡ op
unary_at-number unary.Minus = refl
unary_at-number unary.Plus = refl
unary_at-number unary.Not = refl
unary_at-number unary.Invert = refl
unary_at-number unary.MinusUnsigned = refl

binary_at-number : (op : BinaryOperator) → binary_at (binary_number op) ≡ op
binary_at-number binary.Multiply = refl
binary_at-number binary.Divide = refl
binary_at-number binary.Remainder = refl
binary_at-number binary.Add = refl
binary_at-number binary.Subtract = refl
binary_at-number binary.ShiftLeft = refl
binary_at-number binary.ShiftRight = refl
binary_at-number binary.Less = refl
binary_at-number binary.LessEqual = refl
binary_at-number binary.Greater = refl
binary_at-number binary.GreaterEqual = refl
binary_at-number binary.Equal = refl
binary_at-number binary.Unequal = refl
binary_at-number binary.BitAnd = refl
binary_at-number binary.BitXor = refl
binary_at-number binary.BitOr = refl
binary_at-number binary.MultiplyUnsigned = refl
binary_at-number binary.DivideUnsigned = refl
binary_at-number binary.RemainderUnsigned = refl
binary_at-number binary.AddUnsigned = refl
binary_at-number binary.SubtractUnsigned = refl
binary_at-number binary.ShiftLeftUnsigned = refl
binary_at-number binary.ShiftRightUnsigned = refl
binary_at-number binary.LessUnsigned = refl
binary_at-number binary.LessEqualUnsigned = refl
binary_at-number binary.GreaterUnsigned = refl
binary_at-number binary.GreaterEqualUnsigned = refl

abbrev built : List ℕ → Instr
built ns =
    get_or ((Push (cast_signed w32 (at ns 1)))
    ∷ Drop
    ∷ Copy
    ∷ (Load (at ns 1))
    ∷ (Store (at ns 1))
    ∷ (Zero (at ns 1) (at ns 2))
    ∷ (CheckAt (at ns 1) (at ns 2))
    ∷ (LoadAt (at ns 1) (at ns 2) (at ns 3))
    ∷ (StoreAt (at ns 1) (at ns 2) (at ns 3))
    ∷ (ItemCheck (at ns 1) (at ns 2))
    ∷ (ItemLoad (at ns 1) (at ns 2))
    ∷ (ItemStore (at ns 1) (at ns 2))
    ∷ (Unary (unary_at (at ns 1)) (at ns 2))
    ∷ (Binary (binary_at (at ns 1)) (at ns 2))
    ∷ (Jump (at ns 1))
    ∷ (JumpZero (at ns 1))
    ∷ Turn
    ∷ (Call (at ns 1))
    ∷ Return
    ∷ End
    ∷ (Window (at ns 1) (at ns 2))
    ∷ (BurstIn (at ns 1))
    ∷ (BurstOut (at ns 1) (at ns 2))
    ∷ (Spawn (at ns 1))
    ∷ (Tick (at ns 1)) ∷ [])
    (at ns 0) End

abbrev behind : List ℕ → List ℕ
behind ns = drop (get_or (2 ∷ 1 ∷ 1 ∷ 2 ∷ 2 ∷ 3 ∷ 3 ∷ 4 ∷ 4 ∷ 3 ∷ 3 ∷ 3 ∷ 3 ∷ 3 ∷ 2 ∷ 2 ∷ 1 ∷ 2 ∷ 1 ∷ 1 ∷ 3 ∷ 2 ∷ 3 ∷ 2 ∷ 2 ∷ []) (at ns 0) 0) ns

built-numbers : (instr : Instr) (rest : List ℕ) → IsInstr instr → built (instr_numbers instr ++ rest) ≡ instr
built-numbers (Push a) rest fits = ap (λ (n : ℤ). Push n) fits
built-numbers Drop rest fits = refl
built-numbers Copy rest fits = refl
built-numbers (Load a) rest fits = refl
built-numbers (Store a) rest fits = refl
built-numbers (Zero a b) rest fits = refl
built-numbers (CheckAt a b) rest fits = refl
built-numbers (LoadAt a b c) rest fits = refl
built-numbers (StoreAt a b c) rest fits = refl
built-numbers (ItemCheck a b) rest fits = refl
built-numbers (ItemLoad a b) rest fits = refl
built-numbers (ItemStore a b) rest fits = refl
built-numbers (Unary a b) rest fits = ap (λ (op : UnaryOperator). Unary op b) (unary_at-number a)
built-numbers (Binary a b) rest fits = ap (λ (op : BinaryOperator). Binary op b) (binary_at-number a)
built-numbers (Jump a) rest fits = refl
built-numbers (JumpZero a) rest fits = refl
built-numbers Turn rest fits = refl
built-numbers (Call a) rest fits = refl
built-numbers Return rest fits = refl
built-numbers End rest fits = refl
built-numbers (Window a b) rest fits = refl
built-numbers (BurstIn a) rest fits = refl
built-numbers (BurstOut a b) rest fits = refl
built-numbers (Spawn a) rest fits = refl
built-numbers (Tick a) rest fits = refl

behind-numbers : (instr : Instr) (rest : List ℕ) → behind (instr_numbers instr ++ rest) ≡ rest
behind-numbers (Push a) rest = refl
behind-numbers Drop rest = refl
behind-numbers Copy rest = refl
behind-numbers (Load a) rest = refl
behind-numbers (Store a) rest = refl
behind-numbers (Zero a b) rest = refl
behind-numbers (CheckAt a b) rest = refl
behind-numbers (LoadAt a b c) rest = refl
behind-numbers (StoreAt a b c) rest = refl
behind-numbers (ItemCheck a b) rest = refl
behind-numbers (ItemLoad a b) rest = refl
behind-numbers (ItemStore a b) rest = refl
behind-numbers (Unary a b) rest = refl
behind-numbers (Binary a b) rest = refl
behind-numbers (Jump a) rest = refl
behind-numbers (JumpZero a) rest = refl
behind-numbers Turn rest = refl
behind-numbers (Call a) rest = refl
behind-numbers Return rest = refl
behind-numbers End rest = refl
behind-numbers (Window a b) rest = refl
behind-numbers (BurstIn a) rest = refl
behind-numbers (BurstOut a b) rest = refl
behind-numbers (Spawn a) rest = refl
behind-numbers (Tick a) rest = refl

some-instr : (instr : Instr) → 1 ≤ length (instr_numbers instr)
some-instr (Push a) = omega arith
some-instr Drop = omega arith
some-instr Copy = omega arith
some-instr (Load a) = omega arith
some-instr (Store a) = omega arith
some-instr (Zero a b) = omega arith
some-instr (CheckAt a b) = omega arith
some-instr (LoadAt a b c) = omega arith
some-instr (StoreAt a b c) = omega arith
some-instr (ItemCheck a b) = omega arith
some-instr (ItemLoad a b) = omega arith
some-instr (ItemStore a b) = omega arith
some-instr (Unary a b) = omega arith
some-instr (Binary a b) = omega arith
some-instr (Jump a) = omega arith
some-instr (JumpZero a) = omega arith
some-instr Turn = omega arith
some-instr (Call a) = omega arith
some-instr Return = omega arith
some-instr End = omega arith
some-instr (Window a b) = omega arith
some-instr (BurstIn a) = omega arith
some-instr (BurstOut a b) = omega arith
some-instr (Spawn a) = omega arith
some-instr (Tick a) = omega arith

pub ends-instr : Ends instr_numbers
ends-instr = record {
  rests = λ x y a b e. sym (behind-numbers x a) ∙ ap behind e ∙ behind-numbers y b;
  some = some-instr;
}

pub one-instr : (x y : Instr) (a b : List ℕ) → IsInstr x → IsInstr y → instr_numbers x ++ a ≡ instr_numbers y ++ b → x ≡ y
one-instr x y a b fits also e = sym (built-numbers x a fits) ∙ ap built e ∙ built-numbers y b also
