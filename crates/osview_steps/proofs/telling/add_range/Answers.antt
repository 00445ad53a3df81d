use Rattle.std.proofs.Common.{◌≡◌, ◌++◌, List, OnOk, codes, subst, ℕ}
use Rattle.std.specs.Fmt.{decimal}
use Rattle.osview_steps.proofs.Told.{joined}
use Rattle.osview_steps.proofs.telling.add_range.Goals as goal

pub returns : goal.returns
returns c =
    subst (λ (x : List ℕ). OnOk c.add.result (c.add.new.self ≡ x))
    (joined c.args.told.now (codes ", " ++ decimal c.args.least) (codes " to " ++ decimal c.args.most) (codes " steps each") c.field.new.self c.field-2.new.self c.in_ok-field.ensures c.in_ok-field-2.ensures)
    c.add.ensures
