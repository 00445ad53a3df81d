use Rattle.std.proofs.Common.{rules, ◌∙◌}
use Rattle.std.proofs.lemmas.Fn.{filter_same}
use Rattle.cddf_meaning_plain_tasks.proofs.Finding.{others_filter}
use Rattle.cddf_meaning_plain_tasks.proofs.tasks.forget.Goals as goal

pub returns : goal.returns
returns c =
    filter_same _ _ _ (λ x b f' k. search rules) _ _ c.retain.ensures.filtered ∙ others_filter c.args.id c.args.ids.now.items
