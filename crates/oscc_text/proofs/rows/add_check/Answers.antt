use Rattle.std.proofs.Common.{◌≡◌, ◌++◌, OnOk, codes, subst, ℕ}
use Rattle.std.specs.Fmt.{decimal}
use Rattle.oscc_text.proofs.rows.add_check.Goals as goal

pub returns : goal.returns
returns c =
    subst (λ (n : ℕ). OnOk c.add_two.result (c.add_two.new.told
    ≡ c.args.told.now ++ (codes "os_index(s[d - 1], " ++ decimal c.args.size ++ codes ", " ++ decimal n ++ codes ");")))
    c.from-2.ensures
    (subst (λ (n : ℕ). OnOk c.add_two.result (c.add_two.new.told
    ≡ c.args.told.now ++ (codes "os_index(s[d - 1], " ++ decimal n ++ codes ", " ++ decimal c.from-2.result ++ codes ");")))
    c.from.ensures c.add_two.ensures)
