use Rattle.std.proofs.Common.{◌≡◌, List, OnOk, map, subst, ℕ}
use Rattle.std.specs.Prelude.{codes}
use Rattle.osvectors_cases.specs.Junit.{count_line, text_attribute}
use Rattle.osvectors_cases.specs.Reports.{row_of}
use Rattle.osvectors_cases.proofs.Joined.{more}
use Rattle.osvectors_cases.proofs.junit.add_suite.Goals as goal

pub returns : goal.returns
returns c =
    subst (λ (x : List ℕ). OnOk c.add_count_line.result (c.add_count_line.new.told ≡ x))
    (more c.args.told.now (text_attribute (codes "<testsuite name=\"") c.args.suite.now) (count_line (map row_of c.args.rows.now))
    c.in_ok-add_text.ensures) c.add_count_line.ensures
