use Rattle.std.proofs.Common.{◌≡◌, ◌∙◌, ◌+◌, ◌-◌, ◌++◌, ◌≤◌, ap, arith, sym, ℕ}
use Rattle.std.specs.List.{flat_map, range_with_len}
use Rattle.os_code.specs.Codes.{parts_of}
use Rattle.oscc_text.specs.Rows.{row_at}
use Rattle.oscc_text.proofs.Joined.{one_more}
use Rattle.oscc_text.proofs.rows.add_rows.Goals as goal

pub loop-place-preserved : goal.loop-place-preserved
loop-place-preserved c =
    let f = row_at (parts_of c.args.code.now) in
    let first = c.args.first in
    let p = c.loop-place.place in
    let low : first ≤ p = c.loop-place.auto.place in
    let at : first + (p - first) ≡ p = omega (arith, low) in
    let more : p + 1 - first ≡ p - first + 1 = omega (arith, low) in
    c.in_ok-add_row_at.ensures ∙ ap (λ (j : ℕ). c.loop-place.told ++ f j) (sym at)
    ∙ one_more f first (p - first) c.args.told.now c.loop-place.told c.loop-place.invariant
    ∙ ap (λ (m : ℕ). c.args.told.now ++ flat_map f (range_with_len first m)) (sym more)
