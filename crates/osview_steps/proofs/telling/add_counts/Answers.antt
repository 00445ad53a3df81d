use Rattle.std.proofs.Common.{◌≡◌, ◌∙◌, ◌++◌, List, OnOk, ap, append_assoc, codes, subst, sym, ℕ}
use Rattle.std.specs.Fmt.{decimal}
use Rattle.osview_text.specs.Words.{activation_word}
use Rattle.osview_steps.proofs.Told.{told_behind}
use Rattle.osview_steps.proofs.telling.add_counts.Goals as goal

pub returns : goal.returns
returns c =
    let old = c.args.told.now in
    let line = codes "line " ++ decimal c.args.line in
    let many = line ++ codes ": " ++ decimal c.args.activations in
    let word = many ++ activation_word c.args.activations in
    let ran = word ++ codes ", " ++ decimal c.args.ran in
    let second : c.field-2.new.self ≡ old ++ many =
    told_behind old line (codes ": " ++ decimal c.args.activations) c.in_ok-field.ensures c.in_ok-field-2.ensures
    ∙ ap (λ x. old ++ x) (sym (append_assoc line (codes ": ") (decimal c.args.activations))) in
    let third : c.add.new.self ≡ old ++ word =
    told_behind old many (activation_word c.args.activations) second (c.in_ok-add.ensures ∙ ap (λ x. c.field-2.new.self ++ x) c.activation_word.ensures) in
    let fourth : c.field-3.new.self ≡ old ++ ran =
    told_behind old word (codes ", " ++ decimal c.args.ran) third c.in_ok-field-3.ensures ∙ ap (λ x. old ++ x) (sym (append_assoc word (codes ", ") (decimal c.args.ran))) in
    subst (λ (x : List ℕ). OnOk c.add-2.result (c.add-2.new.self ≡ x))
    (ap (λ x. x ++ codes " of them ran") fourth ∙ append_assoc old ran (codes " of them ran")) c.add-2.ensures
