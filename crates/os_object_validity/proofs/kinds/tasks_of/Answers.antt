use Rattle.std.proofs.Common.{◌≡◌, ◌<◌, ◌≤◌, length, ap, arith}
use Rattle.os_object_validity.proofs.Elements.{site_read, task_read, no_task_read}
use Rattle.os_object_validity.proofs.Telling.{told-more, task_taken, all_told, all_distinct}
use Rattle.os_object_validity.proofs.kinds.tasks_of.Goals as goal

pub returns-in-Some-clause-none : goal.returns-in-Some-clause-none
returns-in-Some-clause-none c =
    let is_site = site_read c.args.parts.now.sites c.as_slice-site-items.result.now c.loop-number.number c.site-item.result c.as_slice-site-items.ensures (omega arith) c.site-item.is in
    let low : c.site-item.result.unit < length c.loop-number.tasks.items = omega arith in
    task_taken c.args.parts.now c.loop-number.tasks.items c.loop-number.number c.site-item.result c.in-Some._other c.loop-number.invariant is_site low
    (task_read c.loop-number.tasks.items c.site-item.result.unit _ c.in-Some._other low c.index.ensures c.in-Some.is)

pub loop-number-preserved : goal.loop-number-preserved
loop-number-preserved c =
    let is_site = site_read c.args.parts.now.sites c.as_slice-site-items.result.now c.loop-number.number c.site-item.result c.as_slice-site-items.ensures (omega arith) c.site-item.is in
    let low : c.site-item.result.unit < length c.loop-number.tasks.items = omega arith in
    told-more c.args.parts.now c.loop-number.tasks.items c.loop-number.number c.site-item.result c.loop-number.invariant is_site low
    (no_task_read c.loop-number.tasks.items c.site-item.result.unit _ low c.index.ensures c.in_default.not-Some)

pub returns-clause-some : goal.returns-clause-some
returns-clause-some c =
    let counted : length c.as_slice-site-items.result.now ≡ length c.args.parts.now.sites = ap length c.as_slice-site-items.ensures in
    let last = c.loop-number-test.false in
    let all : length c.args.parts.now.sites ≤ c.loop-number.number = omega (arith, counted, last) in (
      all_told c.args.parts.now c.loop-number.tasks.items c.loop-number.number all c.loop-number.invariant,
      all_distinct c.args.parts.now c.loop-number.tasks.items c.loop-number.number all c.loop-number.invariant,
    )
