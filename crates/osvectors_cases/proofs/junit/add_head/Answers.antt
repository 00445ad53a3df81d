use Rattle.std.proofs.Common.{◌≡◌, List, OnOk, map, subst, ℕ}
use Rattle.osvectors_cases.specs.Junit.{suite_head, xml_head}
use Rattle.osvectors_cases.specs.Reports.{row_of}
use Rattle.osvectors_cases.proofs.Joined.{more}
use Rattle.osvectors_cases.proofs.junit.add_head.Goals as goal

pub returns : goal.returns
returns c =
    subst (λ (x : List ℕ). OnOk c.add_suite.result (c.add_suite.new.told ≡ x))
    (more c.args.told.now (xml_head (map row_of c.args.rows.now)) (suite_head c.args.suite.now (map row_of c.args.rows.now))
    c.in_ok-add_first.ensures) c.add_suite.ensures
