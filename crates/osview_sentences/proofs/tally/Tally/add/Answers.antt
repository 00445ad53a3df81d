use Rattle.std.proofs.Common.{Some, ap, subst, ◌+◌}
use Rattle.std.specs.BTreeMap.{Updates}
use Rattle.osview_sentences.specs.contracts.likeness.LikenessOrd.TheImpl as likeness_order
use Rattle.osview_sentences.proofs.LeftOver.{one_more_left}
use Rattle.osview_sentences.proofs.tally.Tally.add.Goals as goal

pub returns : goal.returns
returns c =
    one_more_left c.args.self.now (record { counts = c.insert.new.self }) c.args.sentence (c.left-more.result + 1)
    (subst (λ k. Updates (likeness_order.ghosts).cmp c.args.self.now.counts c.insert.new.self k (Some (c.left-more.result + 1))) c.likeness.ensures c.in_ok-insert.ensures.updates)
    (ap (λ n. n + 1) c.left-more.ensures)
