use Rattle.std.proofs.Common.{◌≤◌, ◌<◌, ◌++◌, ◌∷◌, ◌∙◌, [], ℕ, append_assoc, arith, codes, length, refl}
use Rattle.std.specs.Fmt.{decimal}
use Rattle.std.proofs.lemmas.List.{length-append}
use Rattle.std.proofs.lemmas.Fmt.{length-decimal-le}
use Rattle.osrun_core_jobs.proofs.Told.{then_told}
use Rattle.osrun_core_jobs.proofs.telling.end_at.Goals as goal

-- a line's number has at most ten digits
digits : (number : ℕ) → number < 4294967296 → length (decimal number) ≤ 10
digits number small = length-decimal-le 10 number (omega arith) (omega (arith, small)) (omega (arith, small))

pub returns : goal.returns
returns c =
    let old = c.args.told.now in
    let number = decimal c.args.number in
    let added = codes " line " ++ number in
    let few = digits c.args.number c.ranges.number.fits in
    let first = then_told old (codes " line ") refl c.text.ensures (omega (arith, c.requires)) in
    let second =
    then_told (old ++ codes " line ") number first c.number.ensures (omega (arith, c.requires, few, length-append old (codes " line "))) ∙ append_assoc old (codes " line ") number in
    then_told (old ++ added) (10 ∷ []) second c.text-2.ensures (omega (arith, c.requires, few, length-append old added, length-append (codes " line ") number))
    ∙ append_assoc old added (10 ∷ [])
