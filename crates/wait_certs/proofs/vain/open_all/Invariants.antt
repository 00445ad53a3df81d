use Rattle.std.proofs.Common.{◌≡◌, ◌<◌, ℕ, None, cond, length, get_or, take}
use Rattle.wait_certs.specs.Searching.{has_member}
use Rattle.wait_certs.proofs.vain.open_all.Given as goal

-- the ends of the members so far are taken away
abbrev pub invariant-loop-member : goal.invariant-loop-member
invariant-loop-member l = record {
  same_length : length l.ends ≡ length l.fn.ends;
  opened : (a : ℕ) → a < length l.fn.ends → get_or l.ends a None ≡ cond (has_member (take l.member-index l.members) a) None (get_or l.fn.ends a None);
}
