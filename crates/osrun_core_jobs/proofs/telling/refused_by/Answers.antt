use Rattle.std.proofs.Common.{◌≡◌, ◌≤◌, ◌<◌, ◌++◌, [], ℕ, ap, arith, codes, length}
use Rattle.std.specs.Fmt.{decimal}
use Rattle.std.proofs.lemmas.Fmt.{length-decimal-le}
use Rattle.osrun_core_jobs.proofs.Told.{then_told}
use Rattle.osrun_core_jobs.proofs.telling.refused_by.Goals as goal

-- a code has at most three digits
digits : (code : ℕ) → code < 256 → length (decimal code) ≤ 3
digits code small = length-decimal-le 3 code (omega arith) (omega (arith, small)) (omega (arith, small))

pub returns-clause-told : goal.returns-clause-told
returns-clause-told c =
    then_told (codes "refused ") (decimal c.args.code) (then_told [] (codes "refused ") c.new-told.ensures c.text.ensures (omega arith)) c.number.ensures
    (omega (arith, digits c.args.code c.ranges.code.fits))

pub returns-clause-short : goal.returns-clause-short
returns-clause-short c =
    let few = digits c.args.code c.ranges.code.fits in
    let told : c.number.new.self ≡ codes "refused " ++ decimal c.args.code =
    then_told (codes "refused ") (decimal c.args.code) (then_told [] (codes "refused ") c.new-told.ensures c.text.ensures (omega arith)) c.number.ensures
    (omega (arith, few)) in
    omega (arith, few, ap length told)
