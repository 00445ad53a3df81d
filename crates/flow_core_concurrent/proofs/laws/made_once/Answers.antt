use Rattle.std.proofs.Common.{◌≡◌, Bool, true, false, refl, ◌∙◌}
use Rattle.std.specs.Prelude.{not, ◌&&◌}
use Rattle.flow_core_concurrent.specs.Counted.{one}
use Rattle.flow_core_concurrent.specs.Words.{word_at, opening_words, waits}
use Rattle.flow_core_concurrent.proofs.Opening.{known_waits_no_more}
use Rattle.flow_core_concurrent.proofs.Once.{waiting_is_new}
use Rattle.flow_core_concurrent.proofs.Steps.{waits_no_more}
use Rattle.flow_core_concurrent.proofs.laws.made_once.Goals as goal

both : (a b : Bool) → a ≡ true → b ≡ false → one (a && not b) ≡ 1
both true false e f = refl
both true true e f = absurd (cc)
both false b e f = absurd (cc)

pub returns-clause-once : goal.returns-clause-once
returns-clause-once c = λ known state f good waited now. good.made_once f ∙ both (waits (word_at (opening_words known.plan) f)) (waits (word_at state.words f)) waited now

pub returns-clause-stays : goal.returns-clause-stays
returns-clause-stays c = waits_no_more

pub returns-clause-known : goal.returns-clause-known
returns-clause-known c = λ known state seat view f fit. known_waits_no_more known state seat view f fit.plan_is_sound

pub returns-clause-new : goal.returns-clause-new
returns-clause-new c = waiting_is_new
