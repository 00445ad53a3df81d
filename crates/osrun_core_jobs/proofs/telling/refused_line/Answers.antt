use Rattle.std.proofs.Common.{◌++◌, ◌∷◌, ◌∙◌, [], ap, append-nil, arith, codes, length, sym}
use Rattle.std.specs.Fmt.{decimal}
use Rattle.osrun_core_jobs.specs.Refusal.{line_text}
use Rattle.osrun_core_jobs.proofs.Told.{then_told}
use Rattle.osrun_core_jobs.proofs.telling.refused_line.Goals as goal

pub returns-in-None : goal.returns-in-None
returns-in-None c =
    let told = codes "refused " ++ decimal c.args.code in
    let is = c.refused_by-told.ensures.told in
    then_told told (10 ∷ []) is c.text.ensures (omega (arith, c.refused_by-told.ensures.short, ap length is))
    ∙ ap (λ bytes. bytes ++ 10 ∷ []) (sym (append-nil told) ∙ ap (λ at. told ++ line_text at) (sym c.in-None.is))
