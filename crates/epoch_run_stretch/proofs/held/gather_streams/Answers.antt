use Rattle.std.proofs.Common.{◌≡◌, ◌+◌, ◌<◌, ◌≤◌, [], List, Option, length, sym, ap, ◌∙◌, subst, arith}
use Rattle.std.specs.Prelude.{IfSome, slice_index}
use Rattle.std.proofs.lemmas.List.{get_or_read}
use Rattle.flow_core_laws.specs.declared.elem.Elem.{Elem}
use Rattle.epoch_run_stretch.specs.Gathered.{AreGathered, IsGathered, held_to}
use Rattle.epoch_run_stretch.proofs.Gathering.{one_more_gathered}
use Rattle.epoch_run_stretch.proofs.held.gather_streams.Goals as goal

pub loop-stream-preserved : goal.loop-stream-preserved
loop-stream-preserved c =
    let s = c.loop-stream.stream in
    let firsts = c.args.firsts.now in
    let elements = c.args.elements.now in
    let writes = c.args.layout.now.cursors.writes in
    let outcomes = c.args.outcomes.now in
    let lt : s < length elements = omega (arith, c.loop-stream-test.true, c.loop-stream.auto.stream-end) in
    let from : slice_index firsts s + c.len.result ≡ held_to firsts elements s =
    ap (λ n. slice_index firsts s + n) (c.len.ensures ∙ ap length (get_or_read elements s c.index-elements-stream.result lt c.index-elements-stream.is [])) in
    let to : slice_index c.as_slice.result.now s ≡ slice_index writes s = ap (λ xs. slice_index xs s) c.as_slice.ensures in
    let one = subst (λ (o : Option (List (Option Elem))). IfSome o (λ xs. 1 ≤ s → IsGathered (slice_index firsts s + c.len.result) (slice_index c.as_slice.result.now s) outcomes s xs)) c.in-Some.is c.in_ok-part.ensures in
    subst (AreGathered firsts elements c.args.layout.now outcomes (s + 1)) (sym c.in_ok-push.ensures.ok)
    (one_more_gathered firsts elements c.args.layout.now outcomes s c.loop-stream.parts c.in-Some.part c.loop-stream.invariant
    (λ some. subst (λ t. IsGathered (held_to firsts elements s) t outcomes s c.in-Some.part) to (subst (λ f. IsGathered f (slice_index c.as_slice.result.now s) outcomes s c.in-Some.part) from (one some))))
