use Rattle.std.proofs.Common.{rules, arith, ap, sym, ◌∙◌, ◌≡◌, ◌%◌, length, is_some, true, false}
use Rattle.std.proofs.Math.Nat.{mod-lt}
use Rattle.flow_core_concurrent.specs.Steps.{next_look}
use Rattle.frame_table.specs.Plays.{looked}
use Rattle.frame_table.specs.Tokens.{view_of, known_of}
use Rattle.task_workers_worker.proofs.Steps.{idled_on, idled_looked, looks_looked, idled_missed, looks_missed_turn, claimed_on, claimed_now}
use Rattle.task_workers_worker.proofs.finding.search.Goals as goal

pub loop-preserved : goal.loop-preserved
loop-preserved c =
    let known = known_of c.args.table.now in
    let o = view_of c.args.seat.now in
    let u = view_of c.loop.seat in
    let v = view_of c.look.new.seat in
    let w = view_of c.claim.new.seat in
    let e : v ≡ looked u (next_look known u) true = c.look.ensures.step ∙ ap (looked u (next_look known u)) (ap is_some c.in-Some.is) in
    let a = idled_looked u v (next_look known u) true c.loop.invariant.1.run e in
    let b = looks_looked u v (next_look known u) true e in
    let which : c.in-Some.frame ≡ next_look known u = search rules in
    let m = idled_missed known v w c.in-Some.frame c.claim.result a.run c.claim.ensures.step c.if-claim.false in
    let n = looks_missed_turn known v w c.in-Some.frame c.claim.result c.claim.ensures.step c.if-claim.false (which ∙ ap (λ x. x % length known.plan.frames) (sym b)) in
    let l = c.loop.invariant.2 in
    (c.claim.ensures.of_this_table, idled_on o u w c.loop.invariant.1 (idled_on u v w a m), omega (arith, b, n, l))

pub loop-preserved-in_default : goal.loop-preserved-in_default
loop-preserved-in_default c =
    let known = known_of c.args.table.now in
    let o = view_of c.args.seat.now in
    let u = view_of c.loop.seat in
    let v = view_of c.look.new.seat in
    let nothing : is_some c.look.result ≡ false = search rules in
    let e : v ≡ looked u (next_look known u) false = c.look.ensures.step ∙ ap (looked u (next_look known u)) nothing in
    let a = idled_looked u v (next_look known u) false c.loop.invariant.1.run e in
    let b = looks_looked u v (next_look known u) false e in
    let l = c.loop.invariant.2 in
    (c.look.ensures.of_this_table, idled_on o u v c.loop.invariant.1 a, omega (arith, b, l))

pub returns-then-claim-clause-claimed : goal.returns-then-claim-clause-claimed
returns-then-claim-clause-claimed c =
    let known = known_of c.args.table.now in
    let o = view_of c.args.seat.now in
    let u = view_of c.loop.seat in
    let v = view_of c.look.new.seat in
    let w = view_of c.claim.new.seat in
    let e : v ≡ looked u (next_look known u) true = c.look.ensures.step ∙ ap (looked u (next_look known u)) (ap is_some c.in-Some.is) in
    let a = idled_looked u v (next_look known u) true c.loop.invariant.1.run e in
    let which : c.in-Some.frame ≡ next_look known u = search rules in
    let some = c.requires.has_frames in
    let low = mod-lt u.looks {m = length known.plan.frames} (omega (arith, some)) in
    claimed_on known o v w c.in-Some.frame (idled_on o u v c.loop.invariant.1 a) (claimed_now known v w c.in-Some.frame c.claim.result c.claim.ensures.step c.if-claim.true (omega (arith, which, low)) (c.claim.ensures.new c.if-claim.true))
