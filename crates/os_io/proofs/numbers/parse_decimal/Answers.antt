use Rattle.std.proofs.Common.{◌≡◌, length, get_or, sym, arith}
use Rattle.os_io.proofs.Digits.{not_empty, no_plus, no_padding, is_text, is_read, are_decimal}
use Rattle.os_io.proofs.numbers.parse_decimal.Goals as goal
use Rattle.os_io.proofs.numbers.parse_decimal.Goals.{else-first-eq48-via-then-first-eq48+else-not-is_empty, else-first-eq48-via-else-first-eq48}

pub returns-in_default-clause-none : goal.returns-in_default-clause-none
returns-in_default-clause-none c = λ n small is. omega (arith, not_empty c.args.digits.now n small is, c.in_default.len_below)

pub returns-then-first-eq43-clause-none : goal.returns-then-first-eq43-clause-none
returns-then-first-eq43-clause-none c = λ n small is. no_plus c.args.digits.now n small is (grind (arith, c.if-first-eq43.true))

pub returns-then-not-is_empty-clause-none : goal.returns-then-not-is_empty-clause-none
returns-then-not-is_empty-clause-none c = λ n small is.
    let one = no_padding c.args.digits.now n small is (grind (arith, c.if-first-eq48.true)) in
    grind (arith, one, c.if-not-is_empty.true, c.is_empty.ensures)

pub returns-in_default-from_utf8-clause-none : goal.returns-in_default-from_utf8-clause-none
returns-in_default-from_utf8-clause-none c = λ n small is. c.in_default-from_utf8.ensures.cases.0 (is_text c.args.digits.now n small is)

pub returns-in_default-from_str_radix-clause-none : goal.returns-in_default-from_str_radix-clause-none
returns-in_default-from_str_radix-clause-none c = λ n small is.
    let read = is_read c.args.digits.now n small is c.from_str_radix.result (rw (sym c.in-Ok.ensures.cases.0) c.from_str_radix.ensures.value) in
    cc

pub returns-clause-some : goal.returns-clause-some
returns-clause-some c =
    are_decimal c.args.digits.now c.in-Ok-from_str_radix.number (λ e. grind (arith, e, c.if-first-eq43.false)) padding (rw (sym c.in-Ok.ensures.cases.0) c.in-Ok-from_str_radix.ensures.value)
  where
    padding : get_or c.args.digits.now 0 0 ≡ 48 → length c.args.digits.now ≡ 1
    padding e = elim c.else-first-eq48.branch [
      | else-first-eq48-via-then-first-eq48+else-not-is_empty w ↦ grind (arith, e, w.if-not-is_empty.false, w.is_empty.ensures, c.in-len1-up.len_at_least)
      | else-first-eq48-via-else-first-eq48 w ↦ absurd (grind (arith, e, w.if-first-eq48.false))
    ]
