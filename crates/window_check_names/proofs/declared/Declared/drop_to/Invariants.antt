use Rattle.std.proofs.Common.{◌≡◌, ◌-◌, length, drop}
use Rattle.window_check_names.proofs.declared.Declared.drop_to.Given as goal

abbrev pub invariant-loop-self : goal.invariant-loop-self
invariant-loop-self l = drop (length l.self - l.fn.len) l.self ≡ drop (length l.fn.self - l.fn.len) l.fn.self

abbrev pub decreases-loop-self : goal.decreases-loop-self
decreases-loop-self l = length l.self
