use Rattle.std.proofs.Common.{◌≡◌, ◌∷◌, ◌++◌, ℕ, Bool, [], cond, false, get_or, rules, subst, sym, true}
use Rattle.epoch_run_ready.proofs.Marks.{mark_both}
use Rattle.epoch_run_ready.proofs.Passing.{unmarked_more}
use Rattle.epoch_run_ready.proofs.marking.others.Goals as goal
use Rattle.epoch_run_ready.proofs.marking.others.Goals.{then-not-gets_mark+in_ok-push, else-not-gets_mark}

pub loop-number-preserved : goal.loop-number-preserved
loop-number-preserved c =
    let readers = c.args.readers.now in
    let n = c.loop-number.number in
    let r : ℕ = get_or readers n 0 in
    let new = c.gets_mark.new.waits in
    let before = c.loop-number.others in
    let after = c.if-not-gets_mark.others in
    let step : after ≡ cond (get_or new r false) before (before ++ r ∷ []) = elim c.if-not-gets_mark.branch [
      | then-not-gets_mark+in_ok-push w ↦ (
          let m : get_or new r false ≡ false = search rules in
          let e : after ≡ before ++ r ∷ [] = search rules in
          subst (λ (b : Bool). after ≡ cond b before (before ++ r ∷ [])) (sym m) e
          )
      | else-not-gets_mark w ↦ (
          let m : get_or new r false ≡ true = search rules in
          let e : after ≡ before = search rules in
          subst (λ (b : Bool). after ≡ cond b before (before ++ r ∷ [])) (sym m) e
          )
    ] in
    record {
      marked = mark_both c.args.layout.now readers c.args.waits.now c.loop-number.waits new c.loop-number.invariant.marked c.gets_mark.ensures.marked;
      missing = c.gets_mark.ensures.missing;
      others = λ ascend. unmarked_more readers c.loop-number.waits new before after n c.loop-number-test.true ascend c.gets_mark.ensures.others (c.loop-number.invariant.others ascend) step;
    }

pub returns-in_err-push-clause-marked : goal.returns-in_err-push-clause-marked
returns-in_err-push-clause-marked c = mark_both c.args.layout.now c.args.readers.now c.args.waits.now c.loop-number.waits c.gets_mark.new.waits c.loop-number.invariant.marked c.gets_mark.ensures.marked
