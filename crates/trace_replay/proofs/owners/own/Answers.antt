use Rattle.std.proofs.Common.{◌∙◌, arith}
use Rattle.std.proofs.lemmas.List.{length-set}
use Rattle.trace_replay.proofs.Owning.{number_read, own_more, own_list, repeat_at, list_read}
use Rattle.trace_replay.proofs.owners.own.Goals as goal

pub bounds-owners-frame : goal.bounds-owners-frame
bounds-owners-frame c =
    let is = list_read c.args.lists.now c.args.list c.index-lists-list.result c.as_slice-numbers.result.now c.requires.exists c.index-lists-list.is c.as_slice-numbers.ensures in
    let same = c.loop-place.invariant.1 in
    let lt = c.requires.below c.args.list c.loop-place.place _ (number_read c.args.lists.now c.args.list c.loop-place.place c.as_slice-numbers.result.now is c.loop-place-test.true) in
    omega (arith, lt, same)

pub returns-then-owners-frame-ne-NOBODY-clause-some : goal.returns-then-owners-frame-ne-NOBODY-clause-some
returns-then-owners-frame-ne-NOBODY-clause-some c =
    let is = list_read c.args.lists.now c.args.list c.index-lists-list.result c.as_slice-numbers.result.now c.requires.exists c.index-lists-list.is c.as_slice-numbers.ensures in
    let same = c.loop-place.invariant.1 in
    let stands = number_read c.args.lists.now c.args.list c.loop-place.place c.as_slice-numbers.result.now is c.loop-place-test.true in
    let lt = c.requires.below c.args.list c.loop-place.place _ stands in
    repeat_at c.args.lists.now c.args.list c.loop-place.place _ c.loop-place.owners (omega (arith, lt, same)) stands c.if-owners-frame-ne-NOBODY.true c.loop-place.invariant.0

pub loop-place-preserved : goal.loop-place-preserved
loop-place-preserved c =
    let is = list_read c.args.lists.now c.args.list c.index-lists-list.result c.as_slice-numbers.result.now c.requires.exists c.index-lists-list.is c.as_slice-numbers.ensures in
    let same = c.loop-place.invariant.1 in
    let stands = number_read c.args.lists.now c.args.list c.loop-place.place c.as_slice-numbers.result.now is c.loop-place-test.true in
    let lt = c.requires.below c.args.list c.loop-place.place _ stands in
    (own_more c.args.lists.now c.args.list c.loop-place.place _ c.loop-place.owners c.requires.few c.requires.exists (omega (arith, lt, same)) stands c.if-owners-frame-ne-NOBODY.false c.loop-place.invariant.0, length-set c.loop-place.owners _ c.args.list ∙ same)

pub returns-clause-none : goal.returns-clause-none
returns-clause-none c =
    let is = list_read c.args.lists.now c.args.list c.index-lists-list.result c.as_slice-numbers.result.now c.requires.exists c.index-lists-list.is c.as_slice-numbers.ensures in
    own_list c.args.lists.now c.args.list c.as_slice-numbers.result.now c.loop-place.owners c.loop-place.place is c.loop-place-test.false c.loop-place.invariant.0
