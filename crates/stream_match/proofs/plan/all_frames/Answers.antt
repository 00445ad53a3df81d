use Rattle.std.proofs.Common.{◌++◌, ◌∷◌, [], ◌∙◌, List, ℕ, ap, sym, arith, zero-add}
use Rattle.std.specs.List.{range_with_len}
use Rattle.stream_match_layouts.proofs.Pushing.{range-more}
use Rattle.stream_match_layouts.proofs.Sums.{frames_bound}
use Rattle.stream_match.proofs.plan.all_frames.Goals as goal

pub overflow_cast-frame-end : goal.overflow_cast-frame-end
overflow_cast-frame-end c = omega (arith, c.frames-count.ensures, frames_bound c.args.layout.now c.requires)

pub loop-frame-preserved : goal.loop-frame-preserved
loop-frame-preserved c =
    let k = c.loop-frame.frame in
    c.in_ok-push.ensures.items ∙ ap (λ (xs : List ℕ). xs ++ k ∷ []) c.loop-frame.invariant ∙ sym (range-more 0 k ∙ ap (λ m. range_with_len 0 k ++ m ∷ []) (zero-add k))
