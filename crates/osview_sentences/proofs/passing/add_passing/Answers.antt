use Rattle.std.proofs.Common.{arith}
use Rattle.stream_match_layouts.proofs.Tallies.{frame_count-is}
use Rattle.osview_sentences.proofs.passing.add_passing.Goals as goal

pub first_passing-requires : goal.first_passing-requires
first_passing-requires c =
    let run = c.args.run.now in
    let layout = run.layout.now in
    let is = c.requires.layout in
    omega (arith, is.lawful.activations_are_few, frame_count-is layout is.activations is.is_of, frame_count-is layout run.activations.now c.requires.laid)
