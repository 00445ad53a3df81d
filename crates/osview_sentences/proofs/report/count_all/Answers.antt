use Rattle.std.proofs.Common.{◌<◌, ◌∙◌, ap, arith, get_or, length}
use Rattle.stream_match_layouts.proofs.Tallies.{frame_count-is}
use Rattle.collector.proofs.ReadPlaces.{claimed_by}
use Rattle.osview_sentences.proofs.report.count_all.Goals as goal

pub returns-clause-activations : goal.returns-clause-activations
returns-clause-activations c = λ activations of. let count = frame_count-is c.args.layout.now activations of in omega (arith, c.len.ensures, count)

pub returns-clause-claimed : goal.returns-clause-claimed
returns-clause-claimed c = λ activations of.
    let two : 1 < length c.args.layout.now.writers = let h = c.requires.has_output in omega arith in
    ap (λ xs. get_or xs 1 0) c.as_slice-3.ensures ∙ claimed_by c.args.layout.now activations of two
