use Rattle.std.proofs.Common.{◌≡◌, ◌++◌, [], ap, arith, codes, length}
use Rattle.std.specs.Fmt.{decimal}
use Rattle.std.proofs.lemmas.List.{length-append}
use Rattle.osrun_core_jobs.proofs.Told.{four_told}
use Rattle.os_serve_answers.proofs.Headings.{ten, three}
use Rattle.os_serve_answers.proofs.heading.job_line.Goals as goal

pub returns-clause-line : goal.returns-clause-line
returns-clause-line c =
    four_told [] (codes "job ") (decimal c.args.number) (codes " status ") (decimal c.args.status) c.new-told.ensures c.text.ensures c.number.ensures c.text-2.ensures
    c.number-2.ensures (omega (arith, ten c.args.number c.ranges.number.fits, three c.args.status c.ranges.status.fits))

pub returns-clause-short : goal.returns-clause-short
returns-clause-short c =
    let number = decimal c.args.number in
    let status = decimal c.args.status in
    let long = ten c.args.number c.ranges.number.fits in
    let small = three c.args.status c.ranges.status.fits in
    let told : c.number-2.new.self ≡ codes "job " ++ number ++ codes " status " ++ status =
    four_told [] (codes "job ") number (codes " status ") status c.new-told.ensures c.text.ensures c.number.ensures c.text-2.ensures c.number-2.ensures
    (omega (arith, long, small)) in
    omega (
      arith,
      long,
      small,
      ap length told,
      length-append (codes "job " ++ number ++ codes " status ") status,
      length-append (codes "job " ++ number) (codes " status "),
      length-append (codes "job ") number,
    )
