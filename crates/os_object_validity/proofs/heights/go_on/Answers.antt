use Rattle.std.proofs.Common.{◌≡◌, ℕ, ◌+◌, true, sym, subst, arith}
use Rattle.os_code.specs.Effects.{falls_through}
use Rattle.os_code.specs.IsValid.{Reaches, GoesOn}
use Rattle.os_code.proofs.Regions.{within}
use Rattle.os_object_validity.proofs.heights.go_on.Goals as goal

pub returns-then-at-region-clause-no : goal.returns-then-at-region-clause-no
returns-then-at-region-clause-no c e fits =
    let on : falls_through c.args.instr ≡ true = cc in
    let next = fits.ends_within c.args.region.number c.args.at.place c.args.at.height c.args.region.unit c.args.instr
    (record { is_unit = c.requires.is_unit; reached = c.requires.reached; is_instr = c.requires.is_instr }) on in
    let to = (within c.args.parts.now c.args.region.unit (c.args.at.place + 1) next).to in
    let ends = c.requires.ends in
    let past = c.if-at-region.true in
    omega (arith, to, ends, past)

pub reach-requires-clause-reached : goal.reach-requires-clause-reached
reach-requires-clause-reached c =
    let on : falls_through c.args.instr ≡ true = cc in
    subst (λ (h : ℕ). Reaches c.args.parts.now c.args.region.unit (c.args.at.place + 1) h) (sym c.requires.after)
    (GoesOn c.requires.reached c.requires.is_instr on)
