-- A hand keeps its deques, call after call.
use Rattle.std.proofs.Common.{refl, ◌∙◌}
use Rattle.steal_pool.specs.declared.hand.Hand.{Hand}
use Rattle.steal_pool.specs.Hands.{KeepsDeques}

pub keeps_same : (hand : Hand) → KeepsDeques hand hand
keeps_same hand = record { own = refl; others = refl }

pub keeps_on : (a b c : Hand) → KeepsDeques a b → KeepsDeques b c → KeepsDeques a c
keeps_on a b c first second = record { own = second.own ∙ first.own; others = second.others ∙ first.others }
