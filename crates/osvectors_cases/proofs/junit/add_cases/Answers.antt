use Rattle.std.proofs.Common.{◌∙◌, ◌++◌, ap, arith, sym}
use Rattle.std.specs.List.{flat_map}
use Rattle.std.proofs.lemmas.List.{take_all}
use Rattle.std.proofs.lemmas.List.Folds.{flat_map-map}
use Rattle.osvectors_cases.specs.Junit.{xml_case}
use Rattle.osvectors_cases.specs.Reports.{row_of}
use Rattle.osvectors_cases.proofs.Joined.{one_more}
use Rattle.osvectors_cases.proofs.junit.add_cases.Goals as goal

pub loop-row-preserved : goal.loop-row-preserved
loop-row-preserved c =
    c.in_ok-add_case.ensures
    ∙ one_more (λ row. xml_case c.args.suite.now (row_of row)) c.args.rows.now c.loop-row.row-index c.row-item.result c.args.told.now c.loop-row.told
    c.loop-row-test.true c.row-item.is c.loop-row.invariant

pub returns : goal.returns
returns c =
    c.loop-row.invariant
    ∙ ap (λ rows. c.args.told.now ++ flat_map (λ row. xml_case c.args.suite.now (row_of row)) rows)
    (take_all c.loop-row.row-index c.args.rows.now (omega (arith, c.loop-row-test.false)))
    ∙ ap (λ text. c.args.told.now ++ text) (sym (flat_map-map (xml_case c.args.suite.now) row_of c.args.rows.now))
