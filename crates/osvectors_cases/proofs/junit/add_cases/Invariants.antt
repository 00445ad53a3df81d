use Rattle.std.proofs.Common.{◌≡◌, ◌++◌, take}
use Rattle.std.specs.List.{flat_map}
use Rattle.osvectors_cases.specs.Junit.{xml_case}
use Rattle.osvectors_cases.specs.Reports.{row_of}
use Rattle.osvectors_cases.proofs.junit.add_cases.Given as goal

-- those so far were added
abbrev pub invariant-loop-row : goal.invariant-loop-row
invariant-loop-row l = l.told ≡ l.initial.told ++ flat_map (λ row. xml_case l.suite (row_of row)) (take l.row-index l.rows)
