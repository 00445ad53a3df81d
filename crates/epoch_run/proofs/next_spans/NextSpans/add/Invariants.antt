use Rattle.std.proofs.Common.{◌≡◌, ◌++◌, List, take}
use Rattle.flow_core_laws.specs.Window.{Window}
use Rattle.stream_match_layouts.specs.Layout.{claims_in, IsOfWindows}
use Rattle.stream_match_layouts.proofs.OffsetsBehind.{AreBehind}
use Rattle.stream_match_layouts.proofs.Windows.{first_windows}
use Rattle.epoch_run.specs.NextSpans.{joined}
use Rattle.epoch_run.proofs.next_spans.NextSpans.add.Given as goal

-- the windows of the claims so far were added, and nothing else changed
abbrev pub invariant-loop-claim : goal.invariant-loop-claim
invariant-loop-claim l = record {
  added : (ws : List Window) → IsOfWindows (joined l.layout l.initial.self) ws → IsOfWindows (joined l.layout l.self) (ws ++ first_windows l.frame (claims_in ws) l.activation.claims l.claim-index);
  starts : l.self.starts ≡ l.initial.self.starts;
  offsets : AreBehind (take l.claim-index l.activation.claims) l.offsets;
}
