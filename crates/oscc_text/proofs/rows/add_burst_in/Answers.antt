use Rattle.std.proofs.Common.{◌≡◌, ◌++◌, OnOk, codes, subst, ℕ}
use Rattle.std.specs.Fmt.{decimal}
use Rattle.oscc_text.proofs.rows.add_burst_in.Goals as goal

pub returns : goal.returns
returns c =
    subst (λ (n : ℕ). OnOk c.add_one.result (c.add_one.new.told ≡ c.args.told.now ++ (codes "os_burst_in(s[d - 1], " ++ decimal n ++ codes ");")))
    c.from.ensures c.add_one.ensures
