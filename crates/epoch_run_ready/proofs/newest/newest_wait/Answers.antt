use Rattle.std.proofs.Common.{◌<◌, length}
use Rattle.flow_core_epochs.proofs.Carried.{all_has}
use Rattle.stream_match.proofs.Lowering.{streams_exist}
use Rattle.stream_match_layouts.specs.Spans.{spans_of}
use Rattle.stream_match_layouts.specs.declared.span.Span.{Span}
use Rattle.epoch_run_ready.proofs.AllWaiting.{around_none, wait_all}
use Rattle.epoch_run_ready.proofs.newest.newest_wait.Goals as goal

pub returns-then-behind : goal.returns-then-behind
returns-then-behind c = λ all.
    let layout = c.args.layout.now in
    wait_all layout c.args.readers.now c.args.first (λ a s lt h. all_has (λ (s : Span). s.stream < length layout.writers) (spans_of layout a) s (streams_exist layout c.requires.layout a lt) h)
    (around_none layout c.args.readers.now c.args.first (c.in_ok-behind.ensures c.if-behind.true))

pub returns : goal.returns
returns c = λ all.
    let layout = c.args.layout.now in
    wait_all layout c.args.readers.now c.args.first (λ a s lt h. all_has (λ (s : Span). s.stream < length layout.writers) (spans_of layout a) s (streams_exist layout c.requires.layout a lt) h) (c.in_ok-around.ensures all)
