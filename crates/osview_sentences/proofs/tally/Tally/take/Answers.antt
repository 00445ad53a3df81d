use Rattle.std.proofs.Common.{None, subst}
use Rattle.std.specs.BTreeMap.{Updates}
use Rattle.osview_sentences.specs.contracts.likeness.LikenessOrd.TheImpl as likeness_order
use Rattle.osview_sentences.proofs.LeftOver.{none_left}
use Rattle.osview_sentences.proofs.tally.Tally.take.Goals as goal

pub returns-clause-others : goal.returns-clause-others
returns-clause-others c =
    none_left c.args.self.now (record { counts = c.remove.new.self }) c.args.sentence
    (subst (λ k. Updates (likeness_order.ghosts).cmp c.args.self.now.counts c.remove.new.self k None) c.likeness.ensures c.remove.ensures.updates)
