use Rattle.std.proofs.Common.{◌≡◌, ◌-◌, find, length}
use Rattle.std.specs.Prelude.{is_some}
use Rattle.std.specs.List.{range_with_len}
use Rattle.osview_sentences.specs.Passing.{first_passing, passing_claim}
use Rattle.osview_sentences.proofs.passing.first_passing.Given as goal

-- the first one stands among those that are left
abbrev pub invariant-loop-frame : goal.invariant-loop-frame
invariant-loop-frame l =
    find (λ a. is_some (passing_claim l.activations a)) (range_with_len l.frame (length l.activations - l.frame)) ≡ first_passing l.activations
