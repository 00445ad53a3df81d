use Rattle.std.proofs.Common.{◌∙◌, ℕ, List, ap, set, subst, sym}
use Rattle.epoch_run_ready.specs.Waiting.{AreMissing}
use Rattle.epoch_run_ready.proofs.FirstMissing.{behind_missing}
use Rattle.epoch_run_ready.proofs.missing.behind_all.Goals as goal

pub returns : goal.returns
returns c = λ waits.
    let layout = c.args.layout.now in
    subst (λ (xs : List ℕ). AreMissing layout waits xs)
    (sym (ap (λ (xs : List ℕ). set xs 0 c.from.result) (c.in_ok-missing.ensures.items ∙ c.as_slice.ensures) ∙ ap (set layout.cursors.writes 0) c.from.ensures))
    (behind_missing layout c.requires.layout waits)
