use Rattle.std.proofs.Common.{◌≡◌, ◌+◌, ◌-◌, ◌≤◌, List, drop, length, take}
use Rattle.flow_core_laws.specs.declared.activation.Activation.{Activation}
use Rattle.os_code.specs.Codes.{parts_of}
use Rattle.stream_match_layouts.specs.Layout.{IsLayoutOf}
use Rattle.epoch_run_in_order.specs.Standing.{IsReady, StandsBehind}
use Rattle.epoch_run_in_order.proofs.in_order.InOrder.run_all.Given as goal

-- the first `count` of the activations have run
abbrev pub invariant-running : goal.invariant-running
invariant-running g l = record {
  ready : IsReady l.code l.self;
  within : l.count ≤ length l.activations;
  begun_at : l.first ≡ length l.initial.self.ends;
  have_run : length l.self.ends ≡ l.first + l.count;
  stands : (all given : List Activation) → IsLayoutOf l.layout given → given ≡ take (length given) all → drop l.first given ≡ l.activations
      → StandsBehind (parts_of l.code) all (take l.first given) l.input l.budget l.initial.self
      → StandsBehind (parts_of l.code) all (take (l.first + l.count) given) l.input l.budget l.self;
}

abbrev pub decreases-running : goal.decreases-running
decreases-running g l = length l.activations - l.count
