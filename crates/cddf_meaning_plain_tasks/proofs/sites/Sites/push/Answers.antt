use Rattle.std.proofs.Common.{rules, ◌≡◌, ◌==◌, length, position, unwrap_or}
use Rattle.cddf_meaning.specs.declared.site.Site.{Site}
use Rattle.cddf_meaning_plain_tasks.proofs.Numbered.{numbered}
use Rattle.cddf_meaning_plain_tasks.proofs.sites.Sites.push.Goals as goal

pub invariant_of-self-3 : goal.invariant_of-self-3
invariant_of-self-3 c =
    let sites = c.self.inside.sites.items in
    let number : c.unwrap_or-number.result ≡ unwrap_or (position (λ (t : Site). t.place == c.args.site.place) sites) (length sites)
    = search (rules, c.number.ensures, c.unwrap_or-number.ensures) in
    rw (c.push_reserved.ensures.items, c.reserve.ensures.items)
    (numbered sites c.args.site c.unwrap_or-number.result c.self.inside.numbers c.insert.new.self c.self.invariant
    c.in_ok-insert.ensures.updates number)
