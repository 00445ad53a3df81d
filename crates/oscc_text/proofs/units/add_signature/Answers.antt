use Rattle.std.proofs.Common.{◌≡◌, List, OnOk, codes, subst, ℕ}
use Rattle.oscc_text.specs.Units.{signature_head, parameters}
use Rattle.oscc_text.proofs.Joined.{three}
use Rattle.oscc_text.proofs.units.add_signature.Goals as goal

pub returns : goal.returns
returns c =
    subst (λ (x : List ℕ). OnOk c.add.result (c.add.new.self ≡ x))
    (three c.args.told.now (signature_head c.args.number) (parameters c.args.args) (codes ")\n{\n") c.in_ok-add_signature_head.ensures c.in_ok-add_parameters.ensures) c.add.ensures
