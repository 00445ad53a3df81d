use Rattle.std.proofs.Common.{min, ap, ◌∙◌}
use Rattle.std.specs.Prelude.{fold, slice_index}
use Rattle.std.proofs.lemmas.List.{take_all}
use Rattle.stream_match.proofs.Lowering.{frame_firsts, may_lower, frames_exist, cursors_are}
use Rattle.stream_match.proofs.cursors.read_cursors.Goals as goal

pub lower-requires : goal.lower-requires
lower-requires c = may_lower c.args.layout.now c.requires.layout (slice_index c.args.frames.now c.loop-frame.frame-index) c.spans_of.result.now c.loop-frame.cursors.items (c.requires.exist c.loop-frame.frame-index 0 c.loop-frame-test.true) c.spans_of.ensures c.loop-frame.invariant.length

pub returns : goal.returns
returns c = λ activations of. cursors_are c.args.layout.now activations of c.args.frames.now c.loop-frame.cursors.items (frames_exist c.args.layout.now activations of c.args.frames.now c.requires.exist) c.loop-frame.invariant.length
    (λ stream. c.loop-frame.invariant.lowered stream ∙ ap (λ fs. fold min (slice_index c.args.layout.now.cursors.reads stream) (frame_firsts c.args.layout.now stream fs)) (take_all c.loop-frame.frame-index c.args.frames.now c.loop-frame-test.false))
