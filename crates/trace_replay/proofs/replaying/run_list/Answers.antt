use Rattle.std.proofs.Common.{rules, arith, ◌∙◌, ◌≡◌, ◌+◌, ◌<◌, [], length, get_or, set}
use Rattle.std.proofs.lemmas.List.{get_or-set_other, get_or-set_same}
use Rattle.flow_core.proofs.Carrying.{OpensMore-none, OpensMore-trans}
use Rattle.trace_replay.proofs.Owning.{place_within}
use Rattle.trace_replay.proofs.Standing.{head_exists, head_has_no_end, stands_more}
use Rattle.trace_replay.proofs.replaying.run_list.Goals as goal

pub loop-frame-init : goal.loop-frame-init
loop-frame-init g c = record { stands = c.requires.stands; others = λ k n. search rules; opens = OpensMore-none _; fits = c.requires.fitting }

pub loop-frame-preserved : goal.loop-frame-preserved
loop-frame-preserved g c =
    let l = c.loop-frame.invariant in
    let found = c.in-Some.ensures.some in
    let ran = c.in_ok-run_frame.ensures in
    let (end, ended, gives) = ran.ended in
    record {
      stands = stands_more c.args.plan.now (g.B.Bodies.outcome c.args.bodies.now) c.args.lists.now c.requires.sound c.requires.frames c.loop-frame.places c.loop-frame.board l.stands c.args.list c.in-Some.frame c.requires.exists found.0 found.1 c.run_frame.new.board end ran.counted ran.shows ended;
      others = λ k n. get_or-set_other c.loop-frame.places c.args.list k _ 0 n ∙ l.others k n;
      opens = OpensMore-trans _ _ _ l.opens ran.opens;
      fits = ran.fits_again;
    }

pub loop-frame-smaller : goal.loop-frame-smaller
loop-frame-smaller g c =
    let l = c.loop-frame.invariant in
    let found = c.in-Some.ensures.some in
    let within : get_or c.loop-frame.places c.args.list 0 < length (get_or c.args.lists.now c.args.list []) = place_within c.args.lists.now c.args.list (get_or c.loop-frame.places c.args.list 0) c.in-Some.frame c.requires.exists found.0 in
    let places = l.stands.places_of_lists in
    let exists = c.requires.exists in
    let next : get_or (set c.loop-frame.places c.args.list (get_or c.loop-frame.places c.args.list 0 + 1)) c.args.list 0 ≡ get_or c.loop-frame.places c.args.list 0 + 1 = get_or-set_same c.loop-frame.places c.args.list _ 0 (omega (arith, places, exists)) in
    omega (arith, within, next)

pub run_frame-requires-clause-exists : goal.run_frame-requires-clause-exists
run_frame-requires-clause-exists g c κs bounded = head_exists c.args.plan.now (g.B.Bodies.outcome c.args.bodies.now) c.args.lists.now c.requires.sound c.requires.frames c.loop-frame.places c.loop-frame.board c.loop-frame.invariant.stands c.args.list c.in-Some.frame c.requires.exists c.in-Some.ensures.some.0 c.in-Some.ensures.some.1

pub run_frame-requires-clause-waits : goal.run_frame-requires-clause-waits
run_frame-requires-clause-waits g c κs bounded = head_has_no_end c.args.plan.now (g.B.Bodies.outcome c.args.bodies.now) c.args.lists.now c.requires.sound c.requires.frames c.loop-frame.places c.loop-frame.board c.loop-frame.invariant.stands c.args.list c.in-Some.frame c.requires.exists c.in-Some.ensures.some.0 c.in-Some.ensures.some.1
