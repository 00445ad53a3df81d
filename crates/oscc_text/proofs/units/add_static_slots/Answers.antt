use Rattle.std.proofs.Common.{◌≡◌, ◌++◌, OnOk, codes, subst, ℕ}
use Rattle.std.specs.Fmt.{decimal}
use Rattle.oscc_text.proofs.units.add_static_slots.Goals as goal

pub returns : goal.returns
returns c =
    subst (λ (n : ℕ). OnOk c.add_one.result (c.add_one.new.told ≡ c.args.told.now ++ (codes "    static int32_t v[1 + " ++ decimal n ++ codes "];\n    memset(v, 0, sizeof v);\n")))
    c.from.ensures c.add_one.ensures
