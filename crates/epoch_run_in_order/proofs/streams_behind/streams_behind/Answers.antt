use Rattle.std.proofs.Common.{◌∙◌, ap, map}
use Rattle.stream_match.specs.Kept.{kept_of}
use Rattle.epoch_run_in_order.specs.Behind.{with_all_kept}
use Rattle.epoch_run_in_order.proofs.StreamsBehind.{are_behind}
use Rattle.epoch_run_in_order.proofs.streams_behind.streams_behind.Goals as goal

pub returns : goal.returns
returns c =
    are_behind c.args.layout.now c.args.output (map kept_of c.args.kept.now) _ c.in_ok-elements.elements c.requires c.in_ok-firsts.ensures c.in_ok-elements.ensures
    (c.put_all.ensures ∙ ap (λ firsts. with_all_kept firsts c.in_ok-elements.elements (map kept_of c.args.kept.now)) c.as_slice.ensures)
