use Rattle.std.proofs.Common.{◌≡◌, ◌∙◌, ◌++◌, ap, List, OnOk, codes, subst, ℕ}
use Rattle.std.specs.Prelude.{length}
use Rattle.oscc_text.specs.Sites.{body_head, scalars}
use Rattle.oscc_text.proofs.Joined.{three}
use Rattle.oscc_text.proofs.sites.add_body.Goals as goal

pub returns : goal.returns
returns c =
    subst (λ (x : List ℕ). OnOk c.add.result (c.add.new.self ≡ x))
    (three c.args.told.now (body_head c.args.number c.args.site.now) (scalars (length c.args.site.now.captured)) (codes ");\n}\n\n") c.in_ok-add_body_head.ensures (c.in_ok-add_scalars.ensures ∙ ap (λ (n : ℕ). c.add_body_head.new.told ++ scalars n) c.len.ensures)) c.add.ensures
