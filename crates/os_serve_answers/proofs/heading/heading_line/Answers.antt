use Rattle.std.proofs.Common.{◌≡◌, ◌++◌, ◌∷◌, [], ap, arith, codes, length}
use Rattle.std.specs.Fmt.{decimal}
use Rattle.std.proofs.lemmas.List.{length-append}
use Rattle.osrun_core_jobs.proofs.Told.{four_told, then_told}
use Rattle.os_serve_answers.proofs.Headings.{ten}
use Rattle.os_serve_answers.proofs.heading.heading_line.Goals as goal

pub returns : goal.returns
returns c =
    let output = decimal c.args.output in
    let told = decimal c.args.told in
    let job = codes "job " ++ decimal c.args.number ++ codes " status " ++ decimal c.args.status in
    let long = ten c.args.output c.ranges.output.fits in
    let long_too = ten c.args.told c.ranges.told.fits in
    let short = c.job_line-line.ensures.short in
    let is = c.job_line-line.ensures.line in
    let all : c.number-2.new.self ≡ job ++ codes " out " ++ output ++ codes " report " ++ told =
    four_told job (codes " out ") output (codes " report ") told is c.text.ensures c.number.ensures c.text-2.ensures c.number-2.ensures
    (omega (arith, long, long_too, short, ap length is)) in
    then_told (job ++ codes " out " ++ output ++ codes " report " ++ told) (10 ∷ []) all c.text-3.ensures
    (omega (
      arith,
      long,
      long_too,
      short,
      ap length is,
      length-append (job ++ codes " out " ++ output ++ codes " report ") told,
      length-append (job ++ codes " out " ++ output) (codes " report "),
      length-append (job ++ codes " out ") output,
      length-append job (codes " out "),
    ))
