use Rattle.std.proofs.Common.{sym, ◌∙◌, ap, w32, w64, to_z, of_z}
use Rattle.std.specs.Prelude.{int_rem}
use Rattle.std.proofs.lemmas.Int.{rem_is, to_z-of_z}
use Rattle.c_int.specs.Operators as operator
use Rattle.c_int.specs.declared.trap.OperatorTrap.TheVariants.{Overflow}
use Rattle.c_int.proofs.arithmetic.remainder.Goals as goal
use Rattle.c_int.proofs.Remainders.{remainder_behind}

pub returns : goal.returns
returns c =
    let a = to_z-of_z w32 c.args.a c.ranges.a in
    let b = to_z-of_z w32 c.args.b c.ranges.b in
    let is = remainder_behind c.args.a c.args.b c.in_ok-divide.field-0 c.ranges.a.sfits (sym c.in_ok-divide.was ∙ c.divide.ensures ∙ ap (λ x. operator.quotient x (to_z w32 (of_z w32 c.args.b))) a ∙ ap (operator.quotient c.args.a) b) in
    let r = rem_is w64 c.from.result c.from-2.result record { sfits = c.from.type_inv } record { sfits = c.from-2.type_inv } in
    c.fitting.ensures ∙ ap (operator.fitting Overflow) r ∙ ap (λ x. operator.fitting Overflow (int_rem x c.from-2.result)) (c.from.ensures ∙ a) ∙ ap (λ x. operator.fitting Overflow (int_rem c.args.a x)) (c.from-2.ensures ∙ b) ∙ is
