use Rattle.std.proofs.Common.{◌≡◌, ◌++◌, ◌-◌}
use Rattle.std.specs.List.{flat_map, range_with_len}
use Rattle.os_code.specs.Codes.{parts_of}
use Rattle.oscc_text.specs.Rows.{row_at}
use Rattle.oscc_text.proofs.rows.add_rows.Given as goal

-- the rows so far were added
abbrev pub invariant-loop-place : goal.invariant-loop-place
invariant-loop-place l = l.told ≡ l.initial.told ++ flat_map (row_at (parts_of l.code)) (range_with_len l.first (l.place - l.first))
