use Rattle.std.proofs.Common.{rules, arith, ap, sym, ◌∙◌, ◌≡◌, ◌<◌, ◌++◌, ◌∷◌, [], List, length, append_assoc, append-nil, drop, remove}
use Rattle.task_workers_crew.specs.declared.crew.Worker.{Worker}
use Rattle.task_workers_crew.specs.Crew.{lists_of}
use Rattle.task_workers_crew.proofs.Logged.{lists_first, none_left}
use Rattle.task_workers_crew.proofs.running.gather_lists.Goals as goal

pub loop-crew-preserved : goal.loop-crew-preserved
loop-crew-preserved g c =
    let l = c.loop-crew.invariant in
    let fewer = c.remove-worker.ensures.len in
    let o = c.remove-worker.new.self.ok.0 in
    let o' = c.loop-crew.crew.ok.0 in
    let spare = c.push_spare.ensures.spare in
    let room = l.room in
    let rest : c.remove-worker.new.self.items ≡ remove c.loop-crew.crew.items 0 = c.remove-worker.ensures.items in
    let some : 0 < length c.loop-crew.crew.items = omega (arith, fewer, o, o') in
    record {
      gathered =
          ap (λ (ls : List (List _)). ls ++ lists_of c.remove-worker.new.self.items) (c.push_spare.ensures.items ∙ ap (λ (x : List _). c.loop-crew.lists.items ++ x ∷ []) c.list_of.ensures)
          ∙ append_assoc c.loop-crew.lists.items (c.remove-worker.result.log.frames.items ∷ []) (lists_of c.remove-worker.new.self.items)
          ∙ ap (λ (ls : List (List _)). c.loop-crew.lists.items ++ ls) (ap (λ (ws : List (Worker _)). c.remove-worker.result.log.frames.items ∷ lists_of ws) rest ∙ lists_first c.loop-crew.crew.items c.remove-worker.result some c.remove-worker.ensures.value)
          ∙ l.gathered;
      room = omega (arith, fewer, o, o', spare, room);
    }

pub returns : goal.returns
returns g c =
    let l = c.loop-crew.invariant in
    c.into_list.ensures ∙ none_left c.loop-crew.lists.items c.loop-crew.crew.items _ l.gathered (search rules)
