use Rattle.cddf_meaning.proofs.Judging.{array-judged, burst-judged, checked-judged, move-judged, window-judged}
use Rattle.cddf_meaning.proofs.laws.judged_by_bits.Goals as goal

pub returns-clause-index : goal.returns-clause-index
returns-clause-index c = checked-judged

pub returns-clause-window : goal.returns-clause-window
returns-clause-window c = window-judged

pub returns-clause-array : goal.returns-clause-array
returns-clause-array c = array-judged

pub returns-clause-amount : goal.returns-clause-amount
returns-clause-amount c = move-judged

pub returns-clause-burst : goal.returns-clause-burst
returns-clause-burst c = burst-judged
