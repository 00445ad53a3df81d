use Rattle.osview_chains.specs.Behind.{HasGoneThrough}
use Rattle.osview_chains.proofs.longest.longest_chain.Given as goal

-- the frames before this one were gone through
abbrev pub invariant-loop-frame : goal.invariant-loop-frame
invariant-loop-frame l = HasGoneThrough l.plan l.order l.steps l.frame-index l.behind l.most
