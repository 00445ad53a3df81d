use Rattle.std.proofs.Common.{◌≡◌, ◌∙◌, ◌++◌, List, OnOk, ap, append_assoc, codes, subst, sym, ℕ, get_or}
use Rattle.std.specs.Fmt.{decimal}
use Rattle.osview_stream.proofs.lines.add_activation.Goals as goal

pub returns : goal.returns
returns c =
    let who = codes " activation " ++ decimal c.args.activation in
    let old = c.args.told.now in
    let at = codes " line " in
    let line = get_or c.args.lines.now c.args.activation 0 in
    let is = c.from-2.ensures ∙ c.line_of.ensures in
    let whole = ap (λ (x : List ℕ). x ++ (at ++ decimal c.from-2.result)) (c.in_ok-field.ensures ∙ ap (λ (n : ℕ). old ++ (codes " activation " ++ decimal n)) c.from.ensures)
    ∙ ap (λ (n : ℕ). (old ++ who) ++ (at ++ decimal n)) is ∙ append_assoc old who (at ++ decimal line)
    ∙ ap (λ (x : List ℕ). old ++ x) (sym (append_assoc who at (decimal line))) in
    subst (λ (x : List ℕ). OnOk c.field-2.result (c.field-2.new.self ≡ x)) whole c.field-2.ensures
