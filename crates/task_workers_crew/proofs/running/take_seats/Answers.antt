use Rattle.std.proofs.Common.{rules, arith, sym, ap, subst, ◌∙◌, ◌≡◌, ◌<◌, ◌++◌, [], Some, IfSome, Option, option_to_list, length, length-append}
use Rattle.std.proofs.Math.Seq.{map-set_same}
use Rattle.std.proofs.lemmas.List.{length-set}
use Rattle.std.proofs.lemmas.List.Elements.{All-pop, All-set}
use Rattle.frame_table.specs.declared.seat.FrameSeat.{FrameSeat}
use Rattle.frame_table.specs.Tokens.{IsFresh, known_of}
use Rattle.task_workers_crew.specs.declared.crew.Worker.{Worker}
use Rattle.task_workers_crew.specs.Crew.{IsEquipped, IsSeated, ran_of}
use Rattle.task_workers_crew.proofs.Joining.{set_more}
use Rattle.task_workers_crew.proofs.running.take_seats.Goals as goal

pub take_seat-requires-clause-fresh : goal.take_seat-requires-clause-fresh
take_seat-requires-clause-fresh g c =
    let l = c.loop-k.invariant in
    let popped = All-pop (λ s. IsFresh c.args.table.now s) c.loop-k.seats.items c.pop.new.self.items c.pop.result c.pop.ensures.items l.2 in
    let e : c.pop.result ≡ Some c.in-Some.seat = search rules in
    subst (λ (o : Option FrameSeat). IfSome o (λ s. IsFresh c.args.table.now s)) e popped.1

pub loop-k-preserved : goal.loop-k-preserved
loop-k-preserved g c =
    let table = c.args.table.now in
    let k = c.loop-k.k in
    let crew = c.loop-k.crew in
    let worker = c.take_seat.new.worker in
    let l = c.loop-k.invariant in
    let popped = All-pop (λ s. IsFresh table s) c.loop-k.seats.items c.pop.new.self.items c.pop.result c.pop.ensures.items l.2 in
    let same = l.1 in
    let more = c.loop-k-test.true in
    let there : k < length crew = omega (arith, same, more) in
    let e : c.pop.result ≡ Some c.in-Some.seat = search rules in
    let one : length (option_to_list c.pop.result) ≡ 1 = ap (λ (o : Option FrameSeat). length (option_to_list o)) e in
    let split : length c.loop-k.seats.items ≡ length (c.pop.new.self.items ++ option_to_list c.pop.result) = ap length c.pop.ensures.items in
    let sum = length-append c.pop.new.self.items (option_to_list c.pop.result) in
    let long = length-set crew k worker in
    let so_far = l.0 in
    let fits = l.4 k c.index-crew-k.result there in (
      omega (arith, one, split, sum, long, so_far),
      length-set crew k worker ∙ l.1,
      popped.0,
      All-set (λ (w : Worker _). IsEquipped (known_of table).plan w.hand w.log) crew k worker c.take_seat.ensures.equipped l.3,
      All-set (λ (w : Worker _). g.B.Bodies.fits c.args.bodies.now w.scratch) crew k worker (subst (λ s. g.B.Bodies.fits c.args.bodies.now s) (sym c.take_seat.ensures.scratch) fits) l.4,
      set_more (λ (w : Worker _). IsSeated table 1 w.seat w.hand w.log) crew k worker there l.5 c.take_seat.ensures.seated,
      map-set_same (λ (w : Worker _). w.hand) crew k worker c.index-crew-k.result c.take_seat.ensures.hand ∙ l.6,
      map-set_same (λ (w : Worker _). w.log) crew k worker c.index-crew-k.result c.take_seat.ensures.log ∙ l.7,
      set_more (λ (w : Worker _). ran_of w.seat ≡ []) crew k worker there l.8 c.take_seat.ensures.ran,
    )

pub returns-clause-seated : goal.returns-clause-seated
returns-clause-seated g c = λ i d lt. c.loop-k.invariant.5 i d (let same = c.loop-k.invariant.1 in let done = c.loop-k-test.false in omega (arith, lt, same, done))

pub returns-clause-ran : goal.returns-clause-ran
returns-clause-ran g c = λ i d lt. c.loop-k.invariant.8 i d (let same = c.loop-k.invariant.1 in let done = c.loop-k-test.false in omega (arith, lt, same, done))
