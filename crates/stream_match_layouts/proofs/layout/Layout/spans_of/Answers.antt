use Rattle.std.proofs.Common.{arith}
use Rattle.stream_match_layouts.proofs.Sums.{frames_bound}
use Rattle.stream_match_layouts.proofs.Tallies.{frame_count-is, start-next, start-within}
use Rattle.stream_match_layouts.proofs.layout.Layout.spans_of.Goals as goal

pub part-requires-clause-ordered : goal.part-requires-clause-ordered
part-requires-clause-ordered c =
    let l = c.requires.layout in
    let e = c.requires.exists in
    omega (arith, start-next c.args.self.now l.activations l.is_of c.args.frame (omega (arith, frame_count-is c.args.self.now l.activations l.is_of)))

pub part-requires-clause-within : goal.part-requires-clause-within
part-requires-clause-within c =
    let l = c.requires.layout in
    let e = c.requires.exists in
    omega (arith, start-within c.args.self.now l.activations l.is_of c.args.frame (omega (arith, frame_count-is c.args.self.now l.activations l.is_of)))

pub overflow_add-frame : goal.overflow_add-frame
overflow_add-frame c = let e = c.requires.exists in omega (arith, frames_bound c.args.self.now c.requires.layout)
