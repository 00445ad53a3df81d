-- What a run that is planned whole, before any activation runs, has to do with the code.
use Rattle.std.specs.Prelude.{◌≡◌, ℕ, All, List, length}
use Rattle.flow_core_laws.specs.IsSound.{IsSound}
use Rattle.flow_core_laws.specs.StandsFor.{StandsFor}
use Rattle.flow_core_laws.specs.declared.control.Control.{Control}
use Rattle.flow_core_laws.specs.declared.plan.Plan.{Plan}
use Rattle.os_code.specs.Outcomes as machine
use Rattle.os_code.specs.Tasks.{Fits}
use Rattle.os_code.specs.declared.parts.Parts.{Parts}
use Rattle.stream_match_layouts.specs.Lawful.{AreLawful}
use Rattle.stream_match_layouts.specs.Layout.{IsLayout, IsLayoutOf}
use Rattle.stream_match_layouts.specs.declared.layout.Layout.{Layout}

-- These are the activations that `main` of the code creates on the machine over an input, with this budget, their positions, and a
-- plan that stands for them.
pub record IsPlannedOf (control_budget : ℕ) (code : Parts) (input : List ℕ) (made : Control) (layout : Layout) (plan : Plan) : Type 0 where
  pub made_is : made ≡ machine.main_control code (length input) control_budget
  pub fit : All (Fits code) made.activations
  pub lawful : AreLawful code.streams made.activations
  pub whole : IsLayout layout
  pub laid : IsLayoutOf layout made.activations
  pub over : layout.input_len ≡ length input
  pub sound : IsSound plan
  pub stands : StandsFor plan made.activations input
