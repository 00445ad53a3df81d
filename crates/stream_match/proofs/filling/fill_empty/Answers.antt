use Rattle.std.proofs.Common.{◌∙◌, ◌++◌, ◌∷◌, [], ap}
use Rattle.std.specs.Prelude.{None, replicate}
use Rattle.std.proofs.lemmas.List.{append_assoc, replicate-append-replicate}
use Rattle.stream_match.proofs.filling.fill_empty.Goals as goal

pub loop-preserved : goal.loop-preserved
loop-preserved c =
    let old = c.args.cells.now in
    c.in_ok-push.ensures.ok
    ∙ ap (λ vs. vs ++ None ∷ []) c.loop.invariant
    ∙ append_assoc old (replicate c.loop.counter None) (None ∷ [])
    ∙ ap (λ vs. old ++ vs) (replicate-append-replicate c.loop.counter 1 None)
