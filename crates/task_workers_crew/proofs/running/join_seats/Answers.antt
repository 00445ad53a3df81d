use Rattle.std.proofs.Common.{arith, refl, ap, sym, subst, ◌∙◌, ◌≡◌, ◌+◌, ◌<◌, ◌≤◌, ◌≢◌, List, length, take}
use Rattle.std.proofs.Math.Seq.{map-set_same}
use Rattle.std.proofs.lemmas.List.{length-set, length-map, get_or-set_same, get_or-set_other, take_all}
use Rattle.flow_core_concurrent.specs.States.{times}
use Rattle.frame_table.specs.declared.seat.FrameSeat.{FrameSeat}
use Rattle.frame_table.specs.Tokens.{view_of}
use Rattle.task_workers_worker.specs.declared.log.WorkLog.{WorkLog}
use Rattle.task_workers_worker.specs.Ready.{MayWork}
use Rattle.task_workers_crew.specs.declared.crew.Worker.{Worker}
use Rattle.task_workers_crew.specs.Crew.{IsSeated, HasLogged, lists_of, times_in}
use Rattle.task_workers_crew.proofs.Joining.{may_go_on, more_shares}
use Rattle.task_workers_crew.proofs.Logged.{behind_set, times_one_more, ran_joined}
use Rattle.task_workers_crew.proofs.running.join_seats.Goals as goal

pub loop-k-init : goal.loop-k-init
loop-k-init g c =
    let table = c.args.table.now in
    let crew = c.args.crew.now in
    let v = c.index-crew-0.result in
    let w = c.take_back-seat.new.worker in
    let took = c.take_back-seat.ensures in
    let long : length _ ≡ length crew = length-set crew 0 w in
    record {
      same = long;
      seated = λ i d low lt. behind_set (λ (u : Worker _). IsSeated table 1 u.seat u.hand u.log) crew 0 w (λ j e from within. c.requires.seated j e within) i d low (omega (arith, lt, long));
      logged = λ i d low lt. behind_set (λ (u : Worker _). HasLogged u.seat u.log) crew 0 w (λ j e from within. c.requires.logged j e within) i d low (omega (arith, lt, long));
      may_work = λ d. subst (λ (u : Worker _). MayWork table c.take_back-seat.result u.hand u.log) (sym (get_or-set_same crew 0 w d c.requires.some)) took.may_work;
      shares = took.one_share;
      ran = λ f.
          let here : (view_of c.take_back-seat.result).ran ≡ v.log.frames.items = took.ran ∙ sym (c.requires.logged 0 v c.requires.some) ∙ ap (λ (u : Worker _). u.log.frames.items) (sym c.index-crew-0.is) in
          let first : times_in (take 1 (lists_of crew)) f ≡ times_in (take 0 (lists_of crew)) f + times f v.log.frames.items = times_one_more crew (lists_of crew) 0 f v refl c.requires.some c.index-crew-0.is in
          let none : times_in (take 0 (lists_of crew)) f ≡ 0 = refl in
          ap (times f) here ∙ omega (arith, first, none);
      lists = map-set_same (λ (u : Worker _). u.log.frames.items) crew 0 w v (ap (λ (l : WorkLog). l.frames.items) took.log);
      scratches = map-set_same (λ (u : Worker _). u.scratch) crew 0 w v took.scratch;
    }

pub loop-k-preserved : goal.loop-k-preserved
loop-k-preserved g c =
    let table = c.args.table.now in
    let l = c.loop-k.invariant in
    let k = c.loop-k.k in
    let crew = c.loop-k.crew in
    let v = c.index-crew-k.result in
    let w = c.take_back-guest.new.worker in
    let took = c.take_back-guest.ensures in
    let long : length _ ≡ length crew = length-set crew k w in
    let from : 1 ≤ k = c.loop-k.auto.k in
    let within : k < length crew = omega (arith, c.loop-k-test.true, c.loop-k.auto.crew) in
    record {
      same = long ∙ l.same;
      seated = λ i d low lt. behind_set (λ (u : Worker _). IsSeated table 1 u.seat u.hand u.log) crew k w l.seated i d low (omega (arith, lt, long));
      logged = λ i d low lt. behind_set (λ (u : Worker _). HasLogged u.seat u.log) crew k w l.logged i d low (omega (arith, lt, long));
      may_work = λ d. subst (λ (u : Worker _). MayWork table c.join.new.seat u.hand u.log) (sym (get_or-set_other crew k 0 w d (λ e. omega (arith, e, from)))) (may_go_on table c.loop-k.seat c.join.new.seat c.take_back-guest.result _ _ (l.may_work d) c.join.ensures.of_this_table c.join.ensures.step);
      shares = more_shares c.loop-k.seat c.join.new.seat c.take_back-guest.result c.join.ensures.step ∙ (let one = took.one_share in let so_far = l.shares in omega (arith, one, so_far));
      ran = λ f.
          let here : (view_of c.take_back-guest.result).ran ≡ v.log.frames.items = took.ran ∙ sym (l.logged k v (omega arith) within) ∙ ap (λ (u : Worker _). u.log.frames.items) (sym c.index-crew-k.is) in
          let joined = ran_joined f c.loop-k.seat c.join.new.seat c.take_back-guest.result c.join.ensures.step in
          let more = times_one_more crew (lists_of c.args.crew.now) k f v l.lists within c.index-crew-k.is in
          let so_far = l.ran f in
          let new : times f (view_of c.take_back-guest.result).ran ≡ times f v.log.frames.items = ap (times f) here in
          omega (arith, joined, more, so_far, new);
      lists = map-set_same (λ (u : Worker _). u.log.frames.items) crew k w v (ap (λ (x : WorkLog). x.frames.items) took.log) ∙ l.lists;
      scratches = map-set_same (λ (u : Worker _). u.scratch) crew k w v took.scratch ∙ l.scratches;
    }

pub take_back-guest-requires : goal.take_back-guest-requires
take_back-guest-requires g c = record { seated = c.loop-k.invariant.seated c.loop-k.k c.index-crew-k.result (omega arith) (omega (arith, c.loop-k-test.true, c.loop-k.auto.crew)) }

pub join-requires-clause-of_this_table : goal.join-requires-clause-of_this_table
join-requires-clause-of_this_table g c = ((c.loop-k.invariant.may_work c.index-crew-k.result).is_of_it, c.take_back-guest.ensures.may_work.is_of_it)

pub returns-clause-ran : goal.returns-clause-ran
returns-clause-ran g c = λ f.
    let l = c.loop-k.invariant in
    let done = c.loop-k-test.false in
    let auto = c.loop-k.auto.crew in
    let long : length (lists_of c.args.crew.now) ≡ length c.args.crew.now = length-map c.args.crew.now (λ (u : Worker _). u.log.frames.items) in
    let same = l.same in
    l.ran f ∙ ap (λ (ls : List (List _)). times_in ls f) (take_all c.loop-k.k (lists_of c.args.crew.now) (omega (arith, long, done, auto, same)) ∙ sym l.lists)
