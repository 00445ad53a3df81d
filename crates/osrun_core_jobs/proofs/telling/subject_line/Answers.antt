use Rattle.std.proofs.Common.{◌≤◌, ◌++◌, ◌∷◌, ◌∙◌, [], ap, arith, length}
use Rattle.std.proofs.lemmas.List.{length-append}
use Rattle.osrun_core_jobs.specs.Files.{subject_name}
use Rattle.osrun_core_jobs.specs.declared.subject.Subject.{Subject}
use Rattle.osrun_core_jobs.specs.declared.subject.Subject.TheVariants as subjects
use Rattle.osrun_core_jobs.proofs.Told.{then_told}
use Rattle.osrun_core_jobs.proofs.telling.subject_line.Goals as goal

-- a file is called by seven bytes at most
short : (subject : Subject) → length (subject_name subject) ≤ 7
short subjects.Program = omega arith
short subjects.Input = omega arith
short subjects.Object = omega arith
short subjects.Trace = omega arith

pub returns : goal.returns
returns c =
    let wrong = c.args.wrong.now in
    let few = short c.args.subject in
    let first = then_told [] wrong c.new-told.ensures c.text.ensures (omega (arith, c.requires)) in
    let second = then_told wrong c.name.result.now first c.text-2.ensures (omega (arith, c.requires, few, ap length c.name.ensures)) ∙ ap (λ name. wrong ++ name) c.name.ensures in
    then_told (wrong ++ subject_name c.args.subject) (10 ∷ []) second c.text-3.ensures (omega (arith, c.requires, few, length-append wrong (subject_name c.args.subject)))
