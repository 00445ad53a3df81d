use Rattle.std.proofs.Common.{◌≡◌, List, OnOk, subst, ℕ}
use Rattle.oscc_text.specs.Sites.{body_text, items_text, captured_text}
use Rattle.oscc_text.proofs.Joined.{three}
use Rattle.oscc_text.proofs.sites.add_site.Goals as goal

pub returns : goal.returns
returns c =
    subst (λ (x : List ℕ). OnOk c.add_captured.result (c.add_captured.new.told ≡ x))
    (three c.args.told.now (body_text c.args.number c.args.site.now) (items_text c.args.number c.args.site.now) (captured_text c.args.number c.args.site.now) c.in_ok-add_body.ensures c.in_ok-add_items.ensures) c.add_captured.ensures
