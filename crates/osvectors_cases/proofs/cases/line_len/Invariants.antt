use Rattle.std.proofs.Common.{◌≡◌, All, false, take}
use Rattle.std.specs.Prelude.{◌==◌}
use Rattle.osvectors_cases.proofs.cases.line_len.Given as goal

-- none stands before
abbrev pub invariant-loop-n : goal.invariant-loop-n
invariant-loop-n l = All (λ byte. (byte == 10) ≡ false) (take l.n l.bytes)
