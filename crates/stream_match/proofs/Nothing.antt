-- The plan of an epoch with no frames.
use Rattle.std.proofs.Common.{ℕ, List, [], refl}
use Rattle.flow_core_laws.specs.declared.plan.Plan.{Plan}
use Rattle.flow_core_epochs.specs.Epoch as epoch
use Rattle.stream_match_layouts.specs.declared.layout.Layout.{Layout}
use Rattle.stream_match.specs.EpochPlan.{IsEpochPlanOf}
use Rattle.stream_match.specs.Weave.{woven_pieces}

abbrev pub empty_plan : Plan
empty_plan = record { frames = []; sink = record { cell = 0; inputs = 0; outputs = 0; wait = 0; piece = 0; pieces = 0 }; pieces = []; filled = []; numbers = [] }

pub nothing_planned : (layout : Layout) (input : List ℕ) (kept : List epoch.Kept) (cursors : List ℕ) → IsEpochPlanOf layout input [] kept cursors empty_plan []
unfolding woven_pieces
nothing_planned layout input kept cursors = record { woven = record { frames = refl; sink = refl; pieces = refl; filled = refl; numbers = refl }; places_are = refl }
