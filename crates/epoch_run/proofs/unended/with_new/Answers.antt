use Rattle.std.proofs.Common.{◌++◌, ◌∷◌, [], List, ℕ, ap, sym, ◌∙◌, arith}
use Rattle.epoch_run.proofs.Listing.{one_new}
use Rattle.epoch_run.proofs.unended.with_new.Goals as goal

pub loop-activation-preserved : goal.loop-activation-preserved
loop-activation-preserved c =
    let i = c.loop-activation.invariant in
    record {
      past = omega (arith, i.past);
      same = c.in_ok-push.ensures.ok ∙ ap (λ (xs : List ℕ). xs ++ c.loop-activation.activation ∷ []) i.same ∙ sym (one_new c.args.ends.now c.loop-activation.activation i.past);
    }
