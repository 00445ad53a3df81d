use Rattle.std.proofs.Common.{◌≡◌, take}
use Rattle.std.specs.List.{flat_map}
use Rattle.oscheck_reports.specs.Plain.{text_form}
use Rattle.oscheck_reports.proofs.forms.text_form.Given as goal

-- the files so far were gone over
abbrev pub invariant-loop-number : goal.invariant-loop-number
invariant-loop-number l = l.told ≡ flat_map text_form (take l.number l.reports)
