use Rattle.std.proofs.Common.{List, subst, sym, ℕ}
use Rattle.stream_match_layouts.specs.Spans.{frame_count}
use Rattle.epoch_run_ready.specs.Newest.{marked_from}
use Rattle.epoch_run_ready.specs.Waiting.{AreMissing}
use Rattle.epoch_run_ready.proofs.newest.wait_behind.Goals as goal

pub wait_from-wait-requires-clause-missing : goal.wait_from-wait-requires-clause-missing
wait_from-wait-requires-clause-missing c =
    let layout = c.args.layout.now in
    let marks = marked_from c.args.first (frame_count layout) in
    subst (λ (xs : List ℕ). AreMissing layout marks xs) (sym c.as_mut_slice.ensures.value) (c.in_ok-missing.ensures marks)
