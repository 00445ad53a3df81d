-- Where units lie one behind another, all of them fine: their regions, targets, frames and heights are valid.
use Rattle.std.proofs.Common.{◌≡◌, ℕ, zero, suc, ◌+◌, ◌-◌, ◌^◌, ◌<◌, ◌≤◌, Bool, true, false, List, [], ◌∷◌, length, Some, slice_get, refl, sym, ap, ◌∙◌, inl, inr, arith}
use Rattle.std.proofs.lemmas.Bool.{cases_order}
use Rattle.std.proofs.lemmas.Option.{slice_get_within}
use Rattle.std.specs.List.{list_any}
use Rattle.std.specs.Prelude.{◌⊎◌, ◌||◌, IsTrue, sum_by}
use Rattle.os_code.specs.Effects.{jump_of, needs_turn}
use Rattle.os_code.specs.IsValid.{HasInstr, HasRegions, HasTargets}
use Rattle.os_code.specs.Parts.{instr_at, unit_at, region_end, is_within}
use Rattle.os_code.specs.declared.instr.Instr.{Instr}
use Rattle.os_code.specs.declared.instr.Instr.TheVariants as instr
use Rattle.os_code.specs.declared.parts.Parts.{Parts}
use Rattle.os_code.specs.declared.unit.CodeUnit.{CodeUnit}
use Rattle.os_code.proofs.Regions.{within, is_within-from}
use Rattle.lowering_relation.specs.Tiling.{Tile}
use Rattle.lowering_relation.proofs.Heights.{height_at}
use Rattle.lowering_relation.proofs.Homes.{Unturned, IsFine}
use Rattle.lowering_relation.proofs.LaidUnits.{home_of, IsLaid}
use Rattle.lowering_relation.proofs.Tiles.{between, in_order, next_of, covers, carried}

-- a code whose units fill it one behind another
pub record AreLaid (code : Parts) : Type 0 where
  pub tiles : Tile 0 (length code.instrs) code.units
  pub laid : (number : ℕ) (unit : CodeUnit) → unit_at code number ≡ Some unit → IsLaid code number unit
  pub short : length code.instrs < 2 ^ 32
  pub slots_small : sum_by (λ (unit : CodeUnit). unit.slots) code.units ≤ 2097152

module _ (code : Parts) (all : AreLaid code) where
  -- an instruction in its unit
  pub record Stands (number : ℕ) (unit : CodeUnit) (place : ℕ) (i : Instr) : Type 0 where
    pub is_unit : unit_at code number ≡ Some unit
    pub low : unit.start ≤ place
    pub high : place < unit.start + unit.stack
    pub fine : IsFine (home_of code (all.laid number unit is_unit).body number unit) place i

  pub flat : (number : ℕ) (unit : CodeUnit) → unit_at code number ≡ Some unit → height_at code unit.start ≡ 0
  flat number unit is =
      carried (λ p. height_at code p ≡ 0) code.units 0 (length code.instrs) all.tiles (λ k u at e. (all.laid k u at).height e) refl number unit is

  pub ends : (number : ℕ) (unit : CodeUnit) → unit_at code number ≡ Some unit → region_end code unit ≡ unit.start + unit.stack
  ends number unit is = next_of code.units 0 (length code.instrs) number unit all.tiles is (all.laid number unit is).some

  pub is_inside : (number : ℕ) (unit : CodeUnit) (place : ℕ) → unit_at code number ≡ Some unit → unit.start ≤ place → place < unit.start + unit.stack →
      IsTrue (is_within code unit place)
  is_inside number unit place is low high = is_within-from code unit place low (omega (arith, high, ends number unit is))

  stands_at : (number : ℕ) (unit : CodeUnit) (place : ℕ) (i : Instr) → unit_at code number ≡ Some unit → unit.start ≤ place → place < unit.start + unit.stack →
      instr_at code place ≡ Some i →
      Stands number unit place i
  stands_at number unit place i is low high there = record { is_unit = is; low = low; high = high; fine = (all.laid number unit is).fine (flat number unit is) place i low high there }

  pub stands : (number : ℕ) (unit : CodeUnit) (place : ℕ) (i : Instr) → HasInstr code number unit place i → Stands number unit place i
  stands number unit place i has =
      let w = within code unit place has.is_within in
      stands_at number unit place i has.is_unit w.from (omega (arith, w.to, ends number unit has.is_unit)) has.is_instr

  -- the unit that an instruction stands in
  pub record Found (place : ℕ) (i : Instr) : Type 0 where
    pub number : ℕ
    pub unit : CodeUnit
    pub stands : Stands number unit place i

  pub found : (place : ℕ) (i : Instr) → instr_at code place ≡ Some i → Found place i
  found place i is =
      let c = covers code.units 0 (length code.instrs) place all.tiles (omega arith) (slice_get_within code.instrs place i is) in
      record { number = c.number; unit = c.unit; stands = stands_at c.number c.unit place i c.is c.low c.high is }

  any_at : (test : CodeUnit → Bool) (us : List CodeUnit) (k : ℕ) (u : CodeUnit) → slice_get us k ≡ Some u → test u ≡ true → list_any test us ≡ true
  any_at test [] k u is passes = absurd (cc)
  any_at test (v ∷ us) zero u is passes =
      let same : v ≡ u = cc in
      ap (λ t. t || list_any test us) (ap test same ∙ passes)
  any_at test (v ∷ us) (suc k) u is passes = by_first (test v) (any_at test us k u is passes)
    where
      by_first : (t : Bool) → list_any test us ≡ true → (t || list_any test us) ≡ true
      by_first true e = refl
      by_first false e = e

  pub regions : HasRegions code
  regions = record {
    short = all.short;
    starts_inside = λ number unit is.
        let b = between code.units 0 (length code.instrs) number unit all.tiles is in
        let s = (all.laid number unit is).some in
        omega (arith, b.high, s);
    starts_distinct = λ number other unit one is at same. distinct number other unit one is at same (cases_order number other);
    covered = λ place lt.
        let c = covers code.units 0 (length code.instrs) place all.tiles (omega arith) lt in
        any_at (λ (unit : CodeUnit). is_within code unit place) code.units c.number c.unit c.is (is_inside c.number c.unit place c.is c.low c.high);
  }
    where
      distinct : (number other : ℕ) (unit one : CodeUnit) → unit_at code number ≡ Some unit → unit_at code other ≡ Some one → unit.start ≡ one.start →
          (number ≡ other) ⊎ ((number < other) ⊎ (other < number)) → number ≡ other
      distinct number other unit one is at same (inl e) = e
      distinct number other unit one is at same (inr (inl lt)) =
          absurd (omega (arith, same, in_order code.units 0 (length code.instrs) number other unit one all.tiles is at lt, (all.laid number unit is).some))
      distinct number other unit one is at same (inr (inr lt)) =
          absurd (omega (arith, same, in_order code.units 0 (length code.instrs) other number one unit all.tiles at is lt, (all.laid other one at).some))

  turn_before : (place : ℕ) (i : Instr) → instr_at code place ≡ Some i → needs_turn i ≡ true → instr_at code (place - 1) ≡ Some instr.Turn
  turn_before place i is needs = (found place i is).stands.fine.turned needs

  -- no jump goes to a call
  no_call : (place to : ℕ) (i target : Instr) → instr_at code place ≡ Some i → jump_of i ≡ Some to → instr_at code to ≡ Some target → needs_turn target ≡ false
  no_call place to i target is jumps there = by_lands ((found place i is).stands.fine.jumps to jumps).lands
    where
      by_need : (b : Bool) → needs_turn target ≡ b → place < to → Unturned code to → b ≡ false
      by_need false e lt other = refl
      by_need true e lt other = absurd (other (to - 1) (omega (arith, lt)) (turn_before to target there e))

      by_lands : ((place < to) × Unturned code to) ⊎ (instr_at code to ≡ Some instr.Turn) → needs_turn target ≡ false
      by_lands (inl (lt, other)) = by_need (needs_turn target) refl lt other
      by_lands (inr turn) =
          let twice : Some instr.Turn ≡ Some target = sym turn ∙ there in
          let k : instr.Turn ≡ target = cc in
          ap needs_turn (sym k)

  pub targets : HasTargets code
  targets = record {
    jumps_within = λ number place to unit i has jumps.
        let s = stands number unit place i has in
        let t = s.fine.jumps to jumps in
        is_inside number unit to s.is_unit t.low t.high;
    jumps_back_to_turns = λ number place to unit i has jumps back. by_lands place to back ((stands number unit place i has).fine.jumps to jumps).lands;
    turns_before = turn_before;
    no_jumps_to_calls = no_call;
    calls_smaller = λ number place callee unit has. (stands number unit place (instr.Call callee) has).fine.suits.0;
    calls_functions = λ place callee is. (found place (instr.Call callee) is).stands.fine.suits.1;
  }
    where
      by_lands : (place to : ℕ) → to ≤ place → ((place < to) × Unturned code to) ⊎ (instr_at code to ≡ Some instr.Turn) → instr_at code to ≡ Some instr.Turn
      by_lands place to back (inl (lt, other)) = absurd (omega (arith, back, lt))
      by_lands place to back (inr turn) = turn
