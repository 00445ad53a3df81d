-- The heights and frames of a code whose units are fine.
use Rattle.std.proofs.Common.{◌≡◌, ℕ, zero, suc, ◌+◌, ◌-◌, ◌<◌, ◌≤◌, Bool, true, false, if◌then◌else◌, Option, Some, None, refl, ap, ◌∙◌, subst, arith}
use Rattle.os_code.specs.Effects.{operands_of, height_after, falls_through, slots_named}
use Rattle.os_code.specs.Heights.{HeightsFit}
use Rattle.os_code.specs.IsValid.{HasInstr, HasFrames, HasHeights}
use Rattle.os_code.specs.Parts.{instr_at, unit_at}
use Rattle.os_code.specs.declared.instr.Instr.{Instr}
use Rattle.os_code.specs.declared.instr.Instr.TheVariants as instr
use Rattle.os_code.specs.declared.parts.Parts.{Parts}
use Rattle.os_code.specs.declared.unit.CodeUnit.{CodeUnit}
use Rattle.os_code.proofs.HeightTables.{heights_suffice}
use Rattle.lowering_relation.proofs.Heights.{height_at, behind, height_behind, one_more}
use Rattle.lowering_relation.proofs.Homes.{Home, Suits}
use Rattle.lowering_relation.proofs.LaidUnits.{home_of}
use Rattle.lowering_relation.proofs.ValidRegions.{AreLaid, flat, ends, is_inside, stands, regions, targets}

-- the slots that an instruction names are the unit's
slots_fit : (h : Home) (i : Instr) → Suits h i → slots_named i ≤ h.slots
slots_fit h (instr.Push v) suits = omega arith
slots_fit h instr.Drop suits = omega arith
slots_fit h instr.Copy suits = omega arith
slots_fit h (instr.Load slot) suits = suits
slots_fit h (instr.Store slot) suits = suits
slots_fit h (instr.Zero first count) suits = suits
slots_fit h (instr.CheckAt size line) suits = omega arith
slots_fit h (instr.LoadAt first size line) suits = suits
slots_fit h (instr.StoreAt first size line) suits = suits
slots_fit h (instr.ItemCheck item line) suits = omega arith
slots_fit h (instr.ItemLoad item line) suits = omega arith
slots_fit h (instr.ItemStore item line) suits = omega arith
slots_fit h (instr.Unary op line) suits = omega arith
slots_fit h (instr.Binary op line) suits = omega arith
slots_fit h (instr.Jump to) suits = omega arith
slots_fit h (instr.JumpZero to) suits = omega arith
slots_fit h instr.Turn suits = omega arith
slots_fit h (instr.Call callee) suits = omega arith
slots_fit h instr.Return suits = omega arith
slots_fit h instr.End suits = omega arith
slots_fit h (instr.Window slot line) suits = suits.1
slots_fit h (instr.BurstIn line) suits = omega arith
slots_fit h (instr.BurstOut slot line) suits = suits.1
slots_fit h (instr.Spawn number) suits = omega arith
slots_fit h (instr.Tick stream) suits = omega arith

module _ (code : Parts) (all : AreLaid code) where
  pub frames : HasFrames code
  frames = record {
    stacks_small = λ number unit is. omega (arith, ends code all number unit is);
    slots_small = all.slots_small;
    args_in_slots = λ number unit is. (all.laid number unit is).args;
    slots_there = λ number place unit i has. let s = stands code all number unit place i has in slots_fit (home_of code (all.laid number unit s.is_unit).body number unit) i s.fine.suits;
  }

  -- No more operands are there than instructions before them in the unit.
  step_low : (p k : ℕ) (o : Option Instr) → height_at code p ≤ k → ((i : Instr) → o ≡ Some i → operands_of code i ≤ height_at code p) →
      behind code (height_at code p) o ≤ k + 1
  step_low p k None low enough = omega (arith, low)
  step_low p k (Some i) low enough = by_case (falls_through i)
    where
      by_case : (t : Bool) → (if t then height_after code i (height_at code p) else height_at code p - 1) ≤ k + 1
      by_case true = omega (arith, low, one_more code i (height_at code p) (enough i refl))
      by_case false = omega (arith, low)

  low_from : (unit : CodeUnit) (number : ℕ) (is : unit_at code number ≡ Some unit) (k : ℕ) → k ≤ unit.stack → height_at code (unit.start + k) ≤ k
  low_from unit number is zero le =
      let e : unit.start + 0 ≡ unit.start = omega arith in
      omega (arith, ap (height_at code) e, flat code all number unit is)
  low_from unit number is (suc k) le =
      let e : unit.start + suc k ≡ suc (unit.start + k) = omega arith in
      let low = low_from unit number is k (omega (arith, le)) in
      let step =
      step_low (unit.start + k) k (instr_at code (unit.start + k)) low
      (λ i there. ((all.laid number unit is).fine (flat code all number unit is) (unit.start + k) i (omega arith) (omega (arith, le)) there).enough) in
      omega (arith, ap (height_at code) e, step)

  low_at : (unit : CodeUnit) (number place : ℕ) → unit_at code number ≡ Some unit → unit.start ≤ place → place < unit.start + unit.stack →
      height_at code place < unit.stack
  low_at unit number place is low high =
      let k = place - unit.start in
      let e : unit.start + k ≡ place = omega (arith, low) in
      let h = low_from unit number is k (omega (arith, high, e)) in
      omega (arith, h, ap (height_at code) e, e, high)

  fit : (number place height : ℕ) (unit : CodeUnit) (i : Instr) → HasInstr code number unit place i → Some (height_at code place) ≡ Some height →
      HeightsFit code (λ p. Some (height_at code p)) unit place height i
  fit number place height unit i has is_height =
      let same : height_at code place ≡ height = cc in
      subst (λ n. HeightsFit code (λ p. Some (height_at code p)) unit place n i) same
      (let s = stands code all number unit place i has in
      let low = low_at unit number place s.is_unit s.low s.high in
      record {
        enough = s.fine.enough;
        low_before = omega (arith, low);
        low_after = omega (arith, low, one_more code i (height_at code place) s.fine.enough);
        goes_on = λ on. (
          is_inside code all number unit (place + 1) s.is_unit (omega (arith, s.low)) ((all.laid number unit s.is_unit).stays place i s.low s.high has.is_instr on),
          ap Some (height_behind code place i has.is_instr ∙ ap (λ t. if t then height_after code i (height_at code place) else height_at code place - 1) on),
        );
        jumps = λ to jumps. ap Some (s.fine.jumps to jumps).height;
      })

  pub heights : HasHeights code
  heights =
      heights_suffice code (λ p. Some (height_at code p)) (regions code all) (targets code all)
      (record { starts = λ number unit is. ap Some (flat code all number unit is); instrs = λ number place height unit i has is. fit number place height unit i has is })
