-- A report has a line.
use Rattle.std.proofs.Common.{◌≡◌, ◌∙◌, ◌++◌, ◌∷◌, [], ℕ, List, ap, arith, codes, length}
use Rattle.std.specs.Fmt.{decimal}
use Rattle.std.proofs.lemmas.List.{length-append}
use Rattle.collector.specs.Report.{activation_lines, control_line}
use Rattle.collector.specs.Written.{written}
use Rattle.flow_core_laws.specs.Place.{written_count}
use Rattle.osrun_core_run.specs.Reported.{IsReportOf}
use Rattle.osrun_core_run.specs.declared.made.MadeRun.{MadeRun}

-- what ends in a line feed isn't empty
some : (a b c : List ℕ) → [] ≡ a ++ b ++ (c ++ 10 ∷ []) → ⊥
some a b c none = omega (arith, ap length none ∙ length-append (a ++ b) (c ++ 10 ∷ []), length-append c (10 ∷ []))

pub never_empty : (run : MadeRun) → IsReportOf run [] → ⊥
never_empty run told =
    some (activation_lines told.activations run.layout.input_len run.ends.ends (length told.activations)) (control_line run.control)
    (codes "output " ++ decimal (length (written run.ends.output)) ++ codes " of " ++ decimal (written_count told.activations 1)) told.is_report
