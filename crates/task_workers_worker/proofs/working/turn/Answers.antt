use Rattle.std.proofs.Common.{rules, arith, refl, ◌∙◌}
use Rattle.frame_table.specs.Tokens.{view_of, known_of}
use Rattle.steal_pool.specs.Hands.{pushed_by}
use Rattle.task_workers_worker.proofs.Counts.{smaller}
use Rattle.task_workers_worker.specs.Ready.{frames_of}
use Rattle.task_workers_worker.specs.Turns.{Idled}
use Rattle.task_workers_worker.proofs.Turns.{worked_idled, worked_ran, ran_less}
use Rattle.task_workers_worker.proofs.Deques.{keeps_on}
use Rattle.task_workers_worker.proofs.Unmade.{left_some}
use Rattle.task_workers_worker.proofs.working.turn.Goals as goal

pub returns-in_default-clause-worked : goal.returns-in_default-clause-worked
returns-in_default-clause-worked g c =
    let i : Idled (view_of c.args.seat.now) (view_of c.find.new.seat) = search rules in
    worked_idled (frames_of c.args.table.now) (view_of c.args.seat.now) (view_of c.find.new.seat) (pushed_by c.args.hand.now) (pushed_by c.find.new.hand) c.args.log.now.frames.items i c.find.ensures.pushed

pub run_claimed-requires-clause-room : goal.run_claimed-requires-clause-room
run_claimed-requires-clause-room g c =
    let o = view_of c.args.seat.now in
    let cl = c.in-Some.ensures.claimed in
    let room = c.requires.may_work.log_serves.frames in
    let some = left_some (frames_of c.args.table.now) o.ran c.in-Some.frame cl.exists cl.is_new in
    omega (arith, room, some)

pub returns-clause-may_work : goal.returns-clause-may_work
returns-clause-may_work g c =
    let t = c.args.table.now in
    let o = view_of c.args.seat.now in
    let v = view_of c.find.new.seat in
    let w = view_of c.run_claimed.new.seat in
    let old = c.args.log.now in
    let new = c.run_claimed.new.log in
    let cl = c.in-Some.ensures.claimed in
    let gave = c.run_claimed.ensures.gave in
    let room = c.run_claimed.ensures.room in
    let windows = c.run_claimed.ensures.windows in
    let may = c.requires.may_work.log_serves in record {
      is_of_it = c.run_claimed.ensures.of_this_table;
      runs_nothing = c.run_claimed.ensures.idle;
      has_looks = let a = gave.looks in let z = c.in-Some.ensures.found_looks in omega (arith, a, z);
      hand_serves = c.run_claimed.ensures.serves;
      log_serves = record {
        frames =
            let a = may.frames in
            let b = ran_less (known_of t) (frames_of t) o v w c.in-Some.frame (pushed_by c.find.new.hand) (pushed_by c.run_claimed.new.hand) refl cl gave in
            omega (arith, a, b, room);
        windows = record {
          inputs = λ f lt. let a = may.windows.inputs f lt in let r = windows.0 in omega (arith, a, r);
          outputs = λ f lt. let a = may.windows.outputs f lt in let r = windows.1 in omega (arith, a, r);
        };
      };
    }

pub returns-clause-worked : goal.returns-clause-worked
returns-clause-worked g c =
    let t = c.args.table.now in
    worked_ran (known_of t) (frames_of t) (view_of c.args.seat.now) (view_of c.find.new.seat) (view_of c.run_claimed.new.seat) c.in-Some.frame (pushed_by c.args.hand.now) (pushed_by c.find.new.hand) (pushed_by c.run_claimed.new.hand) c.args.log.now.frames.items c.run_claimed.new.log.frames.items c.in-Some.ensures.claimed c.find.ensures.pushed c.run_claimed.ensures.gave c.run_claimed.ensures.logged

pub returns-clause-gets_on : goal.returns-clause-gets_on
returns-clause-gets_on g c = λ most lt.
    let t = c.args.table.now in
    let o = view_of c.args.seat.now in
    let w = view_of c.run_claimed.new.seat in
    let cl = c.in-Some.ensures.claimed in
    smaller (frames_of t) most o.ran w.ran c.in-Some.frame o.looks w.looks cl.exists cl.is_new (c.run_claimed.ensures.gave.ran ∙ cl.ran)

pub returns-clause-deques : goal.returns-clause-deques
returns-clause-deques g c = keeps_on c.args.hand.now c.find.new.hand c.run_claimed.new.hand c.find.ensures.deques c.run_claimed.ensures.deques
