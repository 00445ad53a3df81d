-- What a run that was made has to do with the meaning of the program, or of the code.
use Rattle.std.specs.Prelude.{◌≡◌, ◌≤◌, ℕ, All, List, length}
use Rattle.cddf_meaning.specs.Control.{control}
use Rattle.collector.specs.Written.{written}
use Rattle.epoch_run_bodies.specs.Frames.{code_ends}
use Rattle.flow_core_laws.specs.Limits.{positions_limit}
use Rattle.flow_core_laws.specs.declared.control.Control.{Control}
use Rattle.flow_core_laws.specs.declared.control.ControlEnd.{ControlEnd}
use Rattle.flow_core_laws.specs.declared.ends.Ends.{Ends}
use Rattle.epoch_run.specs.declared.result.Budgets.{Budgets}
use Rattle.os_ast.specs.Trees.{ProgramTree}
use Rattle.os_code.specs.Outcomes as machine
use Rattle.os_code.specs.Tasks.{Fits}
use Rattle.os_code.specs.declared.parts.Parts.{Parts}
use Rattle.osrun_core_run.specs.Run.{ends_over}
use Rattle.osrun_core_jobs.specs.Jobs.{AreTermsWithin}
use Rattle.osrun_core_jobs.specs.declared.job.Terms.{Terms}
use Rattle.stream_match_layouts.specs.Layout.{IsLayout, IsLayoutOf}
use Rattle.stream_match_layouts.specs.declared.layout.Layout.{Layout}

-- the terms are within their bounds
abbrev pub AreTerms : Terms → Type 0
AreTerms terms = AreTermsWithin terms.workers terms.task_budget terms.control_budget

-- the budgets among the terms of a run
abbrev pub budgets_of : Terms → Budgets
budgets_of terms = record { task = terms.task_budget; control = terms.control_budget }

-- The output, the layout and the ends are those of the activations that the control program creates, with
-- these budgets.
pub record IsRunOf (task_budget control_budget : ℕ) (p : ProgramTree) (input output : List ℕ) (layout : Layout) (ends : Ends)
    (end : ControlEnd) : Type 0 where
  pub made : Control
  pub made_is : made ≡ control p (length input) control_budget
  pub end_is : end ≡ made.end
  pub whole : IsLayout layout
  pub laid : IsLayoutOf layout made.activations
  pub over : layout.input_len ≡ length input
  pub ends_are : ends ≡ ends_over p made.activations input task_budget
  pub writes : output ≡ written ends.output
  pub few : length output ≤ positions_limit

-- The output, the layout and the ends are those of the activations that `main` of the code creates on the machine, with these
-- budgets. Each of them fits the code.
pub record IsRunOfCode (task_budget control_budget : ℕ) (code : Parts) (input output : List ℕ) (layout : Layout) (ends : Ends)
    (end : ControlEnd) : Type 0 where
  pub made : Control
  pub made_is : made ≡ machine.main_control code (length input) control_budget
  pub end_is : end ≡ made.end
  pub fit : All (Fits code) made.activations
  pub whole : IsLayout layout
  pub laid : IsLayoutOf layout made.activations
  pub over : layout.input_len ≡ length input
  pub ends_are : ends ≡ code_ends code made.activations input task_budget
  pub writes : output ≡ written ends.output
  pub few : length output ≤ positions_limit
