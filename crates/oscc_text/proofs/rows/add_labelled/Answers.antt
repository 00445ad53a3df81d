use Rattle.std.proofs.Common.{◌≡◌, ◌∙◌, ◌++◌, ap, Bool, List, OnOk, codes, subst, ℕ}
use Rattle.os_code.specs.Codes.{parts_of}
use Rattle.oscc_text.specs.Rows.{is_target, label_if, row}
use Rattle.oscc_text.proofs.Joined.{three}
use Rattle.oscc_text.proofs.rows.add_labelled.Goals as goal

pub returns : goal.returns
returns c =
    let code = parts_of c.args.code.now in
    subst (λ (x : List ℕ). OnOk c.add.result (c.add.new.self ≡ x))
    (three c.args.told.now (label_if (is_target code c.args.place) c.args.place) (row code c.args.instr) (codes "\n")
    (c.in_ok-add_label.ensures ∙ ap (λ (b : Bool). c.args.told.now ++ label_if b c.args.place) c.requires) c.in_ok-add_row.ensures) c.add.ensures
