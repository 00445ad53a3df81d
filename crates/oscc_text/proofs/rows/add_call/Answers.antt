use Rattle.std.proofs.Common.{◌≡◌, List, OnOk, codes, subst, ℕ}
use Rattle.oscc_text.specs.Rows.{call_head, operands}
use Rattle.oscc_text.proofs.Joined.{three}
use Rattle.oscc_text.proofs.rows.add_call.Goals as goal

pub returns : goal.returns
returns c =
    subst (λ (x : List ℕ). OnOk c.add.result (c.add.new.self ≡ x))
    (three c.args.told.now (call_head c.args.unit c.args.args) (operands c.args.args) (codes "); ++d;") c.in_ok-add_call_head.ensures c.in_ok-add_operands.ensures) c.add.ensures
