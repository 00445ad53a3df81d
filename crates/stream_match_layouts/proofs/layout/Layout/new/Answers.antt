use Rattle.std.proofs.Common.{◌≡◌, [], ap, arith, replicate, ◌∙◌}
use Rattle.stream_match_layouts.proofs.Appending.{is_empty}
use Rattle.stream_match_layouts.proofs.layout.Layout.new.Goals as goal

pub returns-clause-empty : goal.returns-clause-empty
returns-clause-empty c =
    let i = c.loop.invariant in
    let end : c.loop.counter ≡ c.args.streams = omega arith in
    is_empty _ _ i.spans i.starts (i.writers ∙ ap (λ n. replicate n []) end) i.cursors
