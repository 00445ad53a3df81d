-- A word after some of the elements came that its frame missed.
use Rattle.std.proofs.Common.{◌≡◌, ℕ, ◌-◌, ◌≤◌, ◌≢◌, Bool, true, false, refl, ap, arith, eq-eqb}
use Rattle.std.specs.Prelude.{not, ◌==◌, if◌then◌else◌}
use Rattle.std.proofs.lemmas.Bool.{eqb-true}
use Rattle.flow_core_concurrent.specs.declared.word.Word.{Word}
use Rattle.flow_core_concurrent.specs.declared.word.Word.TheVariants.{Wait, Open, Taken, Ended}
use Rattle.flow_core_concurrent.specs.Words.{amount, waits, is_open, is_taken, is_started, has_ended, lowered}

pub amount-lowered : (count n : ℕ) → amount (lowered count (Wait n)) ≡ n - count
amount-lowered count n = by (n == count) refl
  where
    by : (b : Bool) → (n == count) ≡ b → amount (if b then Open else Wait (n - count)) ≡ n - count
    by true e = let z = eqb-true n count e in omega (arith, z)
    by false e = refl

pub waits-lowered : (count n : ℕ) → waits (lowered count (Wait n)) ≡ not (n == count)
waits-lowered count n = by (n == count)
  where
    by : (b : Bool) → waits (if b then Open else Wait (n - count)) ≡ not b
    by true = refl
    by false = refl

pub is_open-lowered : (count n : ℕ) → is_open (lowered count (Wait n)) ≡ (n == count)
is_open-lowered count n = by (n == count)
  where
    by : (b : Bool) → is_open (if b then Open else Wait (n - count)) ≡ b
    by true = refl
    by false = refl

pub is_started-lowered : (count n : ℕ) → is_started (lowered count (Wait n)) ≡ false
is_started-lowered count n = by (n == count)
  where
    by : (b : Bool) → is_started (if b then Open else Wait (n - count)) ≡ false
    by true = refl
    by false = refl

pub is_taken-lowered : (count n : ℕ) → is_taken (lowered count (Wait n)) ≡ false
is_taken-lowered count n = by (n == count)
  where
    by : (b : Bool) → is_taken (if b then Open else Wait (n - count)) ≡ false
    by true = refl
    by false = refl

pub has_ended-lowered : (count : ℕ) (w : Word) → has_ended (lowered count w) ≡ has_ended w
has_ended-lowered count (Wait n) = by (n == count)
  where
    by : (b : Bool) → has_ended (if b then Open else Wait (n - count)) ≡ false
    by true = refl
    by false = refl
has_ended-lowered count Open = refl
has_ended-lowered count Taken = refl
has_ended-lowered count (Ended e) = refl

pub lowered_waits_for_some : (count n : ℕ) → count ≤ n → lowered count (Wait n) ≢ Wait 0
lowered_waits_for_some count n le = by (n == count) refl
  where
    by : (b : Bool) → (n == count) ≡ b → (if b then Open else Wait (n - count)) ≢ Wait 0
    by true e = λ h. let z : false ≡ true = ap waits h in cc
    by false e = λ h. let z : n - count ≡ 0 = ap amount h in let t : (n == count) ≡ true = eq-eqb n count (omega (arith, z, le)) in cc
