use Rattle.std.proofs.Common.{rules, arith, ap, sym, subst, ◌∙◌, ◌≡◌, ◌++◌, [], ◌∷◌, List, length, length-append, remove}
use Rattle.std.proofs.lemmas.List.Elements.{All-push, All-same, All-drop}
use Rattle.steal_pool.specs.declared.hand.Hand.{Hand}
use Rattle.steal_pool.specs.Hands.{AreInRing}
use Rattle.task_workers_crew.specs.declared.crew.Worker.{Worker}
use Rattle.task_workers_crew.specs.Crew.{TakesFrom, IsEquipped}
use Rattle.task_workers_crew.specs.Dealt.{hands_of, AreNumbered, AreDealt}
use Rattle.task_workers_crew.proofs.Hired.{next_hired, all_hired, next_number}
use Rattle.task_workers_crew.proofs.hiring.hire.Goals as goal

pub loop-number-preserved : goal.loop-number-preserved
loop-number-preserved g c =
    let plan = c.args.plan.now in
    let l = c.loop-number.invariant in
    let w = c.in_ok-worker.worker in
    let e : c.push.new.self.items ≡ c.loop-number.crew.items ++ w ∷ [] = search rules in
    let long : length c.push.new.self.items ≡ length (c.loop-number.crew.items ++ w ∷ []) = ap length e in
    let more = length-append c.loop-number.crew.items (w ∷ []) in
    let all = l.0 in
    let so_far = l.1 in
    let fewer = c.remove-hand.ensures.len in
    let o = c.remove-hand.new.self.ok.0 in
    let o' = c.loop-number.hands.ok.0 in
    let rest : c.remove-hand.new.self.items ≡ remove c.loop-number.hands.items 0 = c.remove-hand.ensures.items in (
      omega (arith, all, fewer, o, o'),
      omega (arith, long, more, so_far),
      All-same (λ h. TakesFrom plan (length plan.frames) h) c.remove-hand.new.self.items (remove c.loop-number.hands.items 0) rest (All-drop (λ h. TakesFrom plan (length plan.frames) h) 1 c.loop-number.hands.items l.2),
      All-same (λ (v : Worker _). IsEquipped plan v.hand v.log) c.push.new.self.items (c.loop-number.crew.items ++ w ∷ []) e (All-push (λ (v : Worker _). IsEquipped plan v.hand v.log) c.loop-number.crew.items w l.3 c.in_ok-worker.ensures.equipped),
      All-same (λ (v : Worker _). g.B.Bodies.fits c.args.bodies.now v.scratch) c.push.new.self.items (c.loop-number.crew.items ++ w ∷ []) e (All-push (λ (v : Worker _). g.B.Bodies.fits c.args.bodies.now v.scratch) c.loop-number.crew.items w l.4 c.in_ok-worker.ensures.fits),
      (λ i. hands_of (e i) ++ rest i) ∙ next_hired c.loop-number.crew.items w c.loop-number.hands.items _ c.remove-hand.result l.5 (omega (arith, fewer, o, o')) (c.in_ok-worker.ensures.hand ∙ c.remove-hand.ensures.value),
      subst (λ crew. AreNumbered crew) (sym e) (next_number c.loop-number.crew.items w c.loop-number.number l.6 so_far c.in_ok-worker.ensures.number),
      All-same (λ (v : Worker _). v.log.frames.items ≡ []) c.push.new.self.items (c.loop-number.crew.items ++ w ∷ []) e (All-push (λ (v : Worker _). v.log.frames.items ≡ []) c.loop-number.crew.items w l.7 c.in_ok-worker.ensures.unlogged),
    )

pub returns-clause-dealt : goal.returns-clause-dealt
returns-clause-dealt g c =
    let l = c.loop-number.invariant in
    let all = l.0 in
    let last = c.loop-number-test.false in
    subst (λ (hands : List Hand). AreDealt c.args.plan.now hands) (sym (all_hired c.loop-number.crew.items c.loop-number.hands.items c.in_ok-hands.hands.items l.5 (omega (arith, all, last)))) c.in_ok-hands.ensures.dealt

pub returns-clause-in_ring : goal.returns-clause-in_ring
returns-clause-in_ring g c =
    let l = c.loop-number.invariant in
    let all = l.0 in
    let last = c.loop-number-test.false in
    subst (λ (hands : List Hand). AreInRing hands) (sym (all_hired c.loop-number.crew.items c.loop-number.hands.items c.in_ok-hands.hands.items l.5 (omega (arith, all, last)))) c.in_ok-hands.ensures.in_ring
