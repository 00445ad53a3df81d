use Rattle.std.proofs.Common.{sym, ◌∙◌, arith}
use Rattle.os_code.specs.Codes.{parts_of}
use Rattle.os_code.proofs.Ends.{end-region}
use Rattle.oscc_text.proofs.regions.region_end.Goals as goal

pub returns-clause-ends : goal.returns-clause-ends
returns-clause-ends c unit starts =
    let code = parts_of c.args.code.now in
    let marked = c.requires.marked in
    let counted = marked.counted in
    let end = c.end_of_region.ensures in
    let after = end.after in
    let inside = end.inside in
    end-region code unit c.end_of_region.result (omega (arith, after, starts)) (omega (arith, counted, inside))
    (λ place low high. sym (marked.marked place (omega (arith, counted, inside))) ∙ end.none_between place (omega (arith, starts)) high)
    (λ low. sym (marked.marked c.end_of_region.result low) ∙ end.ends (omega (arith, counted)))
