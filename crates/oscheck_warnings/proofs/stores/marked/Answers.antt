use Rattle.oscheck_warnings.specs.LastReads.{is_dead, last_read}
use Rattle.oscheck_warnings.specs.Meanings.{what_at}
use Rattle.oscheck_warnings.specs.declared.access.Access.{Access}
use Rattle.oscheck_warnings.proofs.Marked.{one_more_marked}
use Rattle.oscheck_warnings.proofs.Unread.{all_marked}
use Rattle.oscheck_warnings.proofs.stores.marked.Goals as goal

pub loop-index-preserved : goal.loop-index-preserved
loop-index-preserved c =
    one_more_marked c.args.list.now (λ (a : Access). a.place) (is_dead (last_read c.args.last.now) (what_at c.args.meanings.now)) c.loop-index.places c.add_if.new.self c.loop-index.index _
    c.is_dead.result c.loop-index.invariant c.loop-index-test.true c.is_dead.ensures c.in_ok-add_if.ensures

pub returns : goal.returns
returns c =
    all_marked c.args.list.now (what_at c.args.meanings.now) c.args.last.now c.requires c.loop-index.places c.loop-index.index c.loop-index.invariant c.loop-index-test.false
