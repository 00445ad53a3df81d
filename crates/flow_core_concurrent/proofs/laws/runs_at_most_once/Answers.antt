use Rattle.std.proofs.Common.{◌≡◌, ℕ, ◌≤◌, Bool, true, false, arith}
use Rattle.flow_core_concurrent.specs.Counted.{one}
use Rattle.flow_core_concurrent.specs.Words.{word_at, is_started}
use Rattle.flow_core_concurrent.proofs.Once.{open_is_new}
use Rattle.flow_core_concurrent.proofs.Steps.{started_stays}
use Rattle.flow_core_concurrent.proofs.laws.runs_at_most_once.Goals as goal

at_most_one : (b : Bool) (n : ℕ) → n ≡ one b → n ≤ 1
at_most_one true n e = omega (arith, e)
at_most_one false n e = omega (arith, e)

pub returns-clause-once : goal.returns-clause-once
returns-clause-once c = λ known state f good. at_most_one (is_started (word_at state.words f)) _ (good.ran_once f)

pub returns-clause-stays : goal.returns-clause-stays
returns-clause-stays c = started_stays

pub returns-clause-new : goal.returns-clause-new
returns-clause-new c = open_is_new
