use Rattle.std.proofs.Common.{sum_by, ap, arith}
use Rattle.stream_match_layouts.specs.declared.span.Span.{Span}
use Rattle.stream_match_layouts.proofs.Tallies.{counts-few}
use Rattle.stream_match.proofs.frames.frame_tally.Goals as goal

pub tally_of-requires : goal.tally_of-requires
tally_of-requires c =
    let l = c.requires.layout in
    omega (arith, ap (sum_by (λ (s : Span). s.count)) c.spans_of.ensures, counts-few c.args.layout.now l.activations l.is_of l.lawful.positions_are_few c.args.frame)
