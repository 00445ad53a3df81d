use Rattle.std.proofs.Common.{None, Some}
use Rattle.window_check_names.proofs.HidingEntries.{entries_less, is_some, kept_less, kept_there}
use Rattle.window_check_names.proofs.declared.Declared.undo.Goals as goal

pub invariant_of-self-in-Some-get_mut : goal.invariant_of-self-in-Some-get_mut
invariant_of-self-in-Some-get_mut c =
    let there =
    kept_there c.self.inside.rows.items c.pop.new.self.items c.in-Some.row c.self.inside.newest c.in-Some.ensures.items c.self.invariant.1
    in
    let written = c.get_mut.follows.holds c.in-Some-hidden.hidden in
    kept_less
    c.self.inside.rows.items
    c.pop.new.self.items
    c.in-Some.row
    c.self.inside.newest
    (c.get_mut.follows.lender c.in-Some-hidden.hidden)
    (Some c.in-Some-hidden.hidden)
    c.in-Some.ensures.items
    c.in-Some-hidden.is
    c.self.invariant
    (written.3 (is_some _ c.in-Some.row.entry there))

-- the key is there
pub invariant_of-self-in_default-get_mut : goal.invariant_of-self-in_default-get_mut
invariant_of-self-in_default-get_mut c =
    let there =
    kept_there c.self.inside.rows.items c.pop.new.self.items c.in-Some.row c.self.inside.newest c.in-Some.ensures.items c.self.invariant.1
    in
    cc (c.in_default-get_mut.ensures.value, there)

pub invariant_of-self-in-None : goal.invariant_of-self-in-None
invariant_of-self-in-None c =
    kept_less
    c.self.inside.rows.items
    c.pop.new.self.items
    c.in-Some.row
    c.self.inside.newest
    c.remove.new.self
    None
    c.in-Some.ensures.items
    c.in-None.is
    c.self.invariant
    c.remove.ensures.updates

pub returns-in-Some-get_mut : goal.returns-in-Some-get_mut
returns-in-Some-get_mut c =
    rw (← c.self.view_is) (entries_less c.self.inside.rows.items c.pop.new.self.items c.in-Some.row c.in-Some.ensures.items)

pub returns-in_default-get_mut : goal.returns-in_default-get_mut
returns-in_default-get_mut c =
    rw (← c.self.view_is) (entries_less c.self.inside.rows.items c.pop.new.self.items c.in-Some.row c.in-Some.ensures.items)

pub returns-in-None : goal.returns-in-None
returns-in-None c =
    rw (← c.self.view_is) (entries_less c.self.inside.rows.items c.pop.new.self.items c.in-Some.row c.in-Some.ensures.items)
