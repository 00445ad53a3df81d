use Rattle.std.proofs.Common.{ap, ◌∙◌, Bool}
use Rattle.os_ast.specs.ClauseMembers.{is_in}
use Rattle.os_ast.specs.Rules.{when}
use Rattle.window_check_names.specs.BrokenRules.{least_rule}
use Rattle.window_check_names.specs.Members.{ListedMembers}
use Rattle.window_check_names.proofs.Listing.{list_any-is_in}
use Rattle.window_check_names.proofs.members.Listed.again.Goals as goal
use Rattle.os_ast.specs.declared.rule.Rule.TheVariants as rule

pub returns : goal.returns
returns c =
    c.when.ensures
    ∙ ap (λ (b : Bool). least_rule (when b rule.ListedTwice)) (c.contains.ensures ∙ list_any-is_in c.args.name.id c.self.inside.names.keys)
    ∙ ap (λ (l : ListedMembers). least_rule (when (is_in c.args.name.id l.names) rule.ListedTwice)) c.self.view_is
