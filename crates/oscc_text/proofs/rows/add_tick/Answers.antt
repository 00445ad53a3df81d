use Rattle.std.proofs.Common.{◌≡◌, ◌++◌, OnOk, codes, subst, ℕ}
use Rattle.std.specs.Fmt.{decimal}
use Rattle.oscc_text.proofs.rows.add_tick.Goals as goal

pub returns : goal.returns
returns c =
    subst (λ (n : ℕ). OnOk c.add_one.result (c.add_one.new.told ≡ c.args.told.now ++ (codes "d -= 2; os_tick(" ++ decimal n ++ codes ", s[d], s[d + 1]);")))
    c.from.ensures c.add_one.ensures
