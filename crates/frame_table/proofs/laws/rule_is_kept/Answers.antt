use Rattle.frame_table.proofs.Rules.{opens_by_the_rule, split_rule, join_rule, claim_rule, store_rule, sub_rule, finish_rule, look_rule}
use Rattle.frame_table.proofs.laws.rule_is_kept.Goals as goal

pub returns-clause-opened : goal.returns-clause-opened
returns-clause-opened c = opens_by_the_rule

pub returns-clause-split : goal.returns-clause-split
returns-clause-split c = split_rule

pub returns-clause-join : goal.returns-clause-join
returns-clause-join c = join_rule

pub returns-clause-claim : goal.returns-clause-claim
returns-clause-claim c = claim_rule

pub returns-clause-store : goal.returns-clause-store
returns-clause-store c = store_rule

pub returns-clause-sub : goal.returns-clause-sub
returns-clause-sub c = sub_rule

pub returns-clause-finish : goal.returns-clause-finish
returns-clause-finish c = finish_rule

pub returns-clause-look : goal.returns-clause-look
returns-clause-look c = look_rule
