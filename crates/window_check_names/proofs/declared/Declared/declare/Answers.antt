use Rattle.window_check_names.proofs.HidingEntries.{entries_push, kept_more}
use Rattle.window_check_names.proofs.declared.Declared.declare.Goals as goal

pub invariant_of-self-2 : goal.invariant_of-self-2
invariant_of-self-2 c =
    rw (c.push_reserved.ensures.items, c.reserve.ensures.items)
    (kept_more
    c.self.inside.rows.items
    (record { entry = c.args.entry; hidden = c.in_ok-hidden.hidden })
    c.self.inside.newest
    c.insert.new.self
    c.self.invariant
    c.in_ok-hidden.ensures.updates
    c.in_ok-hidden.ensures.old)

pub returns-clause-ok : goal.returns-clause-ok
returns-clause-ok c =
    rw (c.push_reserved.ensures.items, c.reserve.ensures.items, ← c.self.view_is)
    (entries_push c.self.inside.rows.items (record { entry = c.args.entry; hidden = c.in_ok-hidden.hidden }))
