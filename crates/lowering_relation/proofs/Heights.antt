-- Heights of the operand stack by one walk over a code: each instruction goes on from the height that the one before it
-- leaves. Behind a jump, or the end of a body, what was pushed for those who jump there is gone.
use Rattle.std.proofs.Common.{◌≡◌, ℕ, zero, suc, ◌+◌, ◌-◌, ◌≤◌, if◌then◌else◌, Option, Some, None, ap, ◌∙◌, arith}
use Rattle.os_code.specs.declared.instr.Instr.{Instr}
use Rattle.os_code.specs.declared.instr.Instr.TheVariants.{Push, Drop, Copy, Load, Store, Zero, CheckAt, LoadAt, StoreAt, ItemCheck, ItemLoad, ItemStore, Unary, Binary, Jump, JumpZero, Turn, Call, Return, End, Window, BurstIn, BurstOut, Spawn, Tick}
use Rattle.os_code.specs.declared.parts.Parts.{Parts}
use Rattle.os_code.specs.Parts.{instr_at}
use Rattle.os_code.specs.Effects.{operands_of, height_after, falls_through}

abbrev pub behind_one : Parts → ℕ → Instr → ℕ
behind_one code height instr = if falls_through instr then height_after code instr height else height - 1

abbrev pub behind : Parts → ℕ → Option Instr → ℕ
behind code height None = height
behind code height (Some instr) = behind_one code height instr

abbrev pub height_at : Parts → ℕ → ℕ
height_at code zero = 0
height_at code (suc place) = behind code (height_at code place) (instr_at code place)

module _ (code : Parts) where
  height_next : (place : ℕ) → height_at code (place + 1) ≡ behind code (height_at code place) (instr_at code place)
  height_next place = let e : place + 1 ≡ suc place = omega arith in ap (height_at code) e

  -- behind an instruction
  pub height_behind : (place : ℕ) (instr : Instr) → instr_at code place ≡ Some instr → height_at code (place + 1) ≡ behind_one code (height_at code place) instr
  height_behind place instr is = height_next place ∙ ap (behind code (height_at code place)) is

  -- No instruction makes more than one operand.
  pub one_more : (instr : Instr) (height : ℕ) → operands_of code instr ≤ height → height_after code instr height ≤ height + 1
  one_more (Push v) height enough = omega (arith, enough)
  one_more Drop height enough = omega (arith, enough)
  one_more Copy height enough = omega (arith, enough)
  one_more (Load slot) height enough = omega (arith, enough)
  one_more (Store slot) height enough = omega (arith, enough)
  one_more (Zero first count) height enough = omega (arith, enough)
  one_more (CheckAt size line) height enough = omega (arith, enough)
  one_more (LoadAt first size line) height enough = omega (arith, enough)
  one_more (StoreAt first size line) height enough = omega (arith, enough)
  one_more (ItemCheck item line) height enough = omega (arith, enough)
  one_more (ItemLoad item line) height enough = omega (arith, enough)
  one_more (ItemStore item line) height enough = omega (arith, enough)
  one_more (Unary op line) height enough = omega (arith, enough)
  one_more (Binary op line) height enough = omega (arith, enough)
  one_more (Jump to) height enough = omega (arith, enough)
  one_more (JumpZero to) height enough = omega (arith, enough)
  one_more Turn height enough = omega (arith, enough)
  one_more (Call number) height enough = omega (arith, enough)
  one_more Return height enough = omega (arith, enough)
  one_more End height enough = omega (arith, enough)
  one_more (Window slot line) height enough = omega (arith, enough)
  one_more (BurstIn line) height enough = omega (arith, enough)
  one_more (BurstOut slot line) height enough = omega (arith, enough)
  one_more (Spawn number) height enough = omega (arith, enough)
  one_more (Tick stream) height enough = omega (arith, enough)
