use Rattle.std.proofs.Common.{◌≡◌, ◌∙◌, ◌++◌, ap, List, OnOk, codes, subst, ℕ}
use Rattle.std.specs.List.{flat_map}
use Rattle.os_code.specs.declared.site.SiteItem.{SiteItem}
use Rattle.oscc_text.specs.Sites.{items_head, item_text}
use Rattle.oscc_text.proofs.Joined.{three}
use Rattle.oscc_text.proofs.sites.add_items.Goals as goal

pub returns : goal.returns
returns c =
    subst (λ (x : List ℕ). OnOk c.add.result (c.add.new.self ≡ x))
    (three c.args.told.now (items_head c.args.number) (flat_map item_text c.args.site.now.items) (codes "{0, 0, 0}};\n") c.in_ok-add_items_head.ensures (c.in_ok-add_all_items.ensures ∙ ap (λ (l : List SiteItem). c.add_items_head.new.told ++ flat_map item_text l) c.as_slice.ensures)) c.add.ensures
