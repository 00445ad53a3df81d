use Rattle.std.proofs.Common.{◌≡◌, ℕ, ◌+◌, List, [], ◌∷◌, ◌++◌, length, arith, rules, sym, subst}
use Rattle.os_code.specs.declared.needs.Need.{Need}
use Rattle.os_code.specs.declared.unit.CodeUnit.{CodeUnit}
use Rattle.os_code.specs.NeedTables.{stack_in, slots_in, Tells, IsTop}
use Rattle.os_code.proofs.Tables.{tells-push, top-pushed, largest-top}
use Rattle.os_code.proofs.needs.needs.Goals as goal

pub loop-number-preserved : goal.loop-number-preserved
loop-number-preserved c =
    let before = c.loop-number.invariant in
    let need = c.unit_need-need.result in
    let items = c.push.new.self.items in
    let pushed : items ≡ c.loop-number.table.items ++ need ∷ [] = c.in_ok-push.ensures.items in
    record {
      tells = subst (λ (is : List Need). Tells c.args.parts.now is (c.loop-number.number + 1)) (sym pushed)
          (tells-push c.args.parts.now c.loop-number.table.items c.loop-number.number need before.tells c.unit_need-need.ensures.stack c.unit_need-need.ensures.slots);
      stack = top-pushed (λ (n : Need). n.stack) c.loop-number.table.items c.loop-number.number c.loop-number.largest.stack need c.max.result items
          before.tells.counted pushed (search rules) before.stack;
      slots = top-pushed (λ (n : Need). n.slots) c.loop-number.table.items c.loop-number.number c.loop-number.largest.slots need c.max-in-loop-number.result items
          before.tells.counted pushed (search rules) before.slots;
    }

pub returns-clause-stack : goal.returns-clause-stack
returns-clause-stack c =
    let all : c.loop-number.number ≡ length c.args.parts.now.units = omega arith in
    let tells : Tells c.args.parts.now c.loop-number.table.items (length c.args.parts.now.units) = subst (Tells c.args.parts.now c.loop-number.table.items) all c.loop-number.invariant.tells in
    largest-top c.args.parts.now (λ (u : CodeUnit). u.stack) (stack_in c.loop-number.table.items) c.loop-number.largest.stack tells.stack
    (subst (λ (n : ℕ). IsTop (stack_in c.loop-number.table.items) n c.loop-number.largest.stack) all c.loop-number.invariant.stack)

pub returns-clause-slots : goal.returns-clause-slots
returns-clause-slots c =
    let all : c.loop-number.number ≡ length c.args.parts.now.units = omega arith in
    let tells : Tells c.args.parts.now c.loop-number.table.items (length c.args.parts.now.units) = subst (Tells c.args.parts.now c.loop-number.table.items) all c.loop-number.invariant.tells in
    largest-top c.args.parts.now (λ (u : CodeUnit). u.slots) (slots_in c.loop-number.table.items) c.loop-number.largest.slots tells.slots
    (subst (λ (n : ℕ). IsTop (slots_in c.loop-number.table.items) n c.loop-number.largest.slots) all c.loop-number.invariant.slots)
