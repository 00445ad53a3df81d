use borrow.Rule.Slice.PartMut.{put_mid}
use Rattle.std.proofs.Common.{◌≡◌, ◌∙◌, ◌+◌, ◌-◌, ◌++◌, ap, arith, take}
use Rattle.std.proofs.lemmas.List.{drop-drop}
use Rattle.epoch_run.proofs.Over.{over_from}
use Rattle.epoch_run.proofs.putting.put_from.Goals as goal

pub returns : goal.returns
returns c =
    let output = c.args.output.now in
    let values = c.args.values.now in
    let first = c.min-first.result in
    let count = c.min-count.result in
    ap (put_mid first (first + count - first) output) c.copy_from_slice.ensures.after
    ∙ ap (λ k. put_mid first k output (take count values)) (let e : first + count - first ≡ count = omega arith in e)
    ∙ ap (λ ys. take first output ++ (take count values ++ ys)) (drop-drop count first output)
    ∙ over_from output values c.args.first first count c.min-first.ensures c.min-count.ensures
