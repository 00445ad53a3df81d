use Rattle.std.proofs.Common.{arith, subst, sym, List}
use Rattle.steal_pool.specs.declared.hand.Hand.{Hand}
use Rattle.task_workers_crew.specs.Dealing.{AreDealtBelow}
use Rattle.task_workers_crew.proofs.Dealing.{dealt_new}
use Rattle.task_workers_crew.proofs.hiring.dealt.Goals as goal

pub spread-requires-clause-none_yet : goal.spread-requires-clause-none_yet
spread-requires-clause-none_yet c =
    let all = c.in_ok-hands.ensures.all in
    let some = c.requires.workers in
    subst (λ (hs : List Hand). AreDealtBelow c.args.plan.now 0 0 hs) (sym c.as_mut_slice.ensures.value) (dealt_new c.args.plan.now c.args.workers _ c.in_ok-hands.hands.items (omega (arith, c.len-frames.ensures, c.requires.few)) (omega (arith, all, some)) c.in_ok-hands.ensures.new c.in_ok-hands.ensures.in_ring)
