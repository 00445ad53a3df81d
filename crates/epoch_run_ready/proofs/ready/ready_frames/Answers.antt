use Rattle.std.proofs.Common.{◌<◌, false, length, replicate, ℕ}
use Rattle.os_io.proofs.Repeated.{get_or-repeated}
use Rattle.flow_core_epochs.proofs.Carried.{all_has}
use Rattle.stream_match.proofs.Lowering.{streams_exist}
use Rattle.stream_match_layouts.specs.Spans.{frame_count, spans_of}
use Rattle.stream_match_layouts.specs.declared.span.Span.{Span}
use Rattle.epoch_run_ready.proofs.LeftOut.{left_out_wait}
use Rattle.epoch_run_ready.proofs.ready.ready_frames.Goals as goal

pub returns : goal.returns
returns c = λ activations input ends of over open_are.
    let layout = c.args.layout.now in
    let n : ℕ = frame_count layout in
    left_out_wait layout activations of input over ends c.args.readers.now open_are (replicate n false) c.in_ok-frames.frames
    (λ a s lt h. all_has (λ (s : Span). s.stream < length layout.writers) (spans_of layout a) s (streams_exist layout c.requires.layout a lt) h)
    (λ a m. absurd (let z = get_or-repeated n a false in cc)) (λ fs out a lt m. absurd (let z = get_or-repeated n a false in cc)) c.in_ok-frames.ensures
