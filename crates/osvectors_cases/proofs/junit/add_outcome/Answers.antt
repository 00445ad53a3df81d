use Rattle.std.proofs.Common.{◌≡◌, ◌∙◌, ◌++◌, List, OnOk, ap, subst, sym, ℕ}
use Rattle.std.specs.Prelude.{codes}
use Rattle.osvectors_cases.specs.Junit.{xml_outcome, xml_problem}
use Rattle.osvectors_cases.proofs.junit.add_outcome.Goals as goal

pub returns-in-Failed : goal.returns-in-Failed
returns-in-Failed c =
    subst (λ (x : List ℕ). OnOk c.add_problem.result (c.add_problem.new.told ≡ c.args.told.now ++ x))
    (ap (xml_problem (codes "><failure message=\"")) c.deref.ensures.value ∙ ap (λ outcome. xml_outcome outcome c.args.row.now.why.items) (sym c.in-Failed.is))
    c.add_problem.ensures

pub returns-in-Broken : goal.returns-in-Broken
returns-in-Broken c =
    subst (λ (x : List ℕ). OnOk c.add_problem-in-Broken.result (c.add_problem-in-Broken.new.told ≡ c.args.told.now ++ x))
    (ap (xml_problem (codes "><error message=\"")) c.deref-in-Broken.ensures.value ∙ ap (λ outcome. xml_outcome outcome c.args.row.now.why.items) (sym c.in-Broken.is))
    c.add_problem-in-Broken.ensures
