use Rattle.std.proofs.Common.{◌≡◌, ◌-◌, List, [], ◌∷◌, length, sym, subst}
use Rattle.os_code.specs.declared.instr.Instr.{Instr}
use Rattle.os_code.specs.declared.site.Site.{Site}
use Rattle.os_code.specs.declared.unit.CodeUnit.{CodeUnit}
use Rattle.os_code.specs.Checking.{found_heights}
use Rattle.os_code.specs.IsValid.{IsValid}
use Rattle.os_code.specs.Parts.{made_of}
use Rattle.os_code.proofs.Checked.{valid_from}
use Rattle.machine_tests.specs.Written.{written_code}
use Rattle.machine_tests.proofs.Fitting.{sites-are}
use Rattle.machine_tests.proofs.written.code_of.Goals as goal

pub new-requires : goal.new-requires
new-requires c =
    let valid = valid_from (written_code c.args.instrs.now c.args.units.now c.args.task c.args.captured.now c.args.items.now) (found_heights (written_code c.args.instrs.now c.args.units.now c.args.task c.args.captured.now c.args.items.now)) c.requires.valid in
    let sites : c.push.new.self ≡ record { unit = c.args.task; line = 90; captured = c.args.captured.now; items = c.args.items.now } ∷ [] =
    sites-are c.new-sites.result c.push.new.self c.args.task c.in_ok-list_of.field-0 c.args.captured.now c.in_ok-list_of-2.field-0 c.args.items.now c.in_ok-push.ensures.ok c.new-sites.ensures c.in_ok-list_of.ensures c.in_ok-list_of-2.ensures in
    subst (λ (instrs : List Instr). IsValid (made_of instrs c.in_ok-list_of-4.field-0 c.push.new.self (length c.args.units.now - 1) 3)) (sym c.in_ok-list_of-3.ensures)
    (subst (λ (units : List CodeUnit). IsValid (made_of c.args.instrs.now units c.push.new.self (length c.args.units.now - 1) 3)) (sym c.in_ok-list_of-4.ensures)
    (subst (λ (all : List Site). IsValid (made_of c.args.instrs.now c.args.units.now all (length c.args.units.now - 1) 3)) (sym sites) valid))
