use Rattle.std.proofs.Common.{◌≡◌, count_by, take}
use Rattle.collector.specs.Status.{has_done}
use Rattle.osview_sentences.proofs.report.count_done.Given as goal

-- those so far were counted
abbrev pub invariant-loop-end : goal.invariant-loop-end
invariant-loop-end l = l.count ≡ count_by has_done (take l.end-index l.ends)
