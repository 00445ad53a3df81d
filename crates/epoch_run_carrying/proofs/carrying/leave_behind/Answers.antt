use Rattle.std.proofs.Common.{ap, map, rules, ◌∙◌}
use Rattle.std.proofs.lemmas.Fn.{filter_same}
use Rattle.stream_match.specs.Kept.{kept_of}
use Rattle.epoch_run_carrying.specs.Carrying.{is_behind}
use Rattle.epoch_run_carrying.proofs.Filtering.{filter_kept}
use Rattle.epoch_run_carrying.proofs.carrying.leave_behind.Goals as goal

pub returns : goal.returns
returns c =
    ap (map kept_of) (filter_same _ (λ k. is_behind c.args.cursors.now (kept_of k)) _ (λ x b f' k. search rules) _ _ c.retain.ensures.filtered)
    ∙ filter_kept (is_behind c.args.cursors.now) c.args.kept.now.items
