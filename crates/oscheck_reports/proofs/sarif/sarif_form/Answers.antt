use Rattle.std.proofs.Common.{◌≡◌, ◌∙◌, ◌++◌, codes, ap, List, ℕ, false}
use Rattle.serde_json.specs.View.{view}
use Rattle.serde_json.specs.Written.{compact_text, has_float}
use Rattle.oscheck_reports.specs.Sarif.{sarif_form}
use Rattle.oscheck_reports.proofs.NoFloats.{of_log}
use Rattle.oscheck_reports.proofs.sarif.sarif_form.Goals as goal

pub returns : goal.returns
unfolding sarif_form
returns c =
    let is = c.in_ok-value.ensures in
    let none : has_float (view c.in_ok-value.value) ≡ false = ap has_float is ∙ of_log c.args.version.now c.args.reports.now in
    c.in_ok-extend_from_slice.ensures.items ∙ ap (λ (x : List ℕ). x ++ codes "\n") (c.in_ok-text.ensures.text none ∙ ap compact_text is)
