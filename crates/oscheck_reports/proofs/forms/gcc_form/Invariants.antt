use Rattle.std.proofs.Common.{◌≡◌, take}
use Rattle.std.specs.List.{flat_map}
use Rattle.oscheck_reports.specs.Gcc.{gcc_form}
use Rattle.oscheck_reports.proofs.forms.gcc_form.Given as goal

-- the files so far were gone over
abbrev pub invariant-loop-number : goal.invariant-loop-number
invariant-loop-number l = l.told ≡ flat_map gcc_form (take l.number l.reports)
