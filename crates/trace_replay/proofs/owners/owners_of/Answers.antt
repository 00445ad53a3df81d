use Rattle.std.proofs.Common.{arith, sym, ap, subst, ◌∙◌, ◌≡◌, ◌+◌, length}
use Rattle.trace_replay.specs.Owners.{OwnBefore}
use Rattle.trace_replay.proofs.Owning.{own_none, owners_own, written, made_of}
use Rattle.trace_replay.proofs.owners.owners_of.Goals as goal

pub loop-list-init : goal.loop-list-init
loop-list-init c =
    let long = c.in_ok-resize.ensures.len in
    let ok = c.resize.new.self.ok.0 in
    (own_none c.args.lists.now c.resize.new.self.items c.requires.few (made_of _ c.new-owners.result.items c.resize.new.self.items _ 64 c.new-owners.ensures.items c.in_ok-resize.ensures.items), omega (arith, long, ok))

pub loop-list-preserved : goal.loop-list-preserved
loop-list-preserved c =
    let lent : length c.as_mut_slice.result.now ≡ length c.loop-list.owners.items = ap length c.as_mut_slice.ensures.value in
    let is = written c.loop-list.owners.len c.own.new.owners c.loop-list.owners.items (c.own.ensures.same ∙ lent) c.loop-list.owners.ok.0 in
    (subst (OwnBefore c.args.lists.now (c.loop-list.list + 1) 0) (sym is) c.in_default.ensures.none, ap length is ∙ c.own.ensures.same ∙ lent ∙ c.loop-list.invariant.1)

pub returns : goal.returns
returns c = owners_own c.args.lists.now c.loop-list.list c.loop-list.owners.items c.args.frames c.loop-list-test.false c.loop-list.invariant.1 c.loop-list.invariant.0
