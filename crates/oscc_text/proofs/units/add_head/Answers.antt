use Rattle.std.proofs.Common.{◌≡◌, List, OnOk, subst, ℕ}
use Rattle.oscc_text.specs.Units.{signature, slots, operand_stack, stored_arguments}
use Rattle.oscc_text.proofs.Joined.{four}
use Rattle.oscc_text.proofs.units.add_head.Goals as goal

pub returns : goal.returns
returns c =
    let unit = c.args.unit in
    subst (λ (x : List ℕ). OnOk c.add_stored_arguments.result (c.add_stored_arguments.new.told ≡ x))
    (four c.args.told.now (signature c.args.number unit.args) (slots unit.slots) (operand_stack unit.stack) (stored_arguments unit.args)
    c.in_ok-add_signature.ensures c.in_ok-add_slots.ensures c.in_ok-add_operand_stack.ensures) c.add_stored_arguments.ensures
