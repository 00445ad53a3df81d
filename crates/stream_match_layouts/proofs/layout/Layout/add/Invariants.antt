use Rattle.std.proofs.Common.{◌≡◌, ◌++◌, List, length, take}
use Rattle.flow_core_laws.specs.Window.{Window}
use Rattle.stream_match_layouts.specs.Layout.{claims_in, IsOfWindows}
use Rattle.stream_match_layouts.proofs.OffsetsBehind.{AreBehind}
use Rattle.stream_match_layouts.proofs.Windows.{first_windows}
use Rattle.stream_match_layouts.proofs.layout.Layout.add.Given as goal

-- the windows of the claims so far were added, and nothing else changed
abbrev pub invariant-loop-claim : goal.invariant-loop-claim
invariant-loop-claim l = record {
  added : (ws : List Window) → IsOfWindows l.initial.self ws → IsOfWindows l.self (ws ++ first_windows l.frame (claims_in ws) l.activation.claims l.claim-index);
  starts : l.self.starts ≡ l.initial.self.starts;
  streams : length l.self.writers ≡ length l.initial.self.writers;
  input_len : l.self.input_len ≡ l.initial.self.input_len;
  offsets : AreBehind (take l.claim-index l.activation.claims) l.offsets;
}
