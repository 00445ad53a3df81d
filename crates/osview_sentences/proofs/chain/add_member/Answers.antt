use Rattle.std.proofs.Common.{arith}
use Rattle.stream_match_layouts.proofs.Tallies.{frame_count-is}
use Rattle.osview_sentences.proofs.chain.add_member.Goals as goal

pub fact_of-fact-requires-clause-exists : goal.fact_of-fact-requires-clause-exists
fact_of-fact-requires-clause-exists c =
    let run = c.args.over.now.run in
    omega (arith, c.requires.exists, frame_count-is run.layout.now run.activations.now c.requires.context.is_run.laid)
