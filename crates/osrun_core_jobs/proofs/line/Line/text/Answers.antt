use Rattle.std.proofs.Common.{◌≡◌, ◌∙◌, ◌+◌, ◌-◌, ◌≤◌, ◌++◌, ap, arith, length, min, sym, take}
use Rattle.std.proofs.lemmas.List.{length-take-le}
use Rattle.std.proofs.lemmas.Slice.{take-put_mid}
use Rattle.osrun_core_jobs.specs.LineRoom.{line_room}
use Rattle.osrun_core_jobs.proofs.Told.{filled}
use Rattle.osrun_core_jobs.proofs.line.Line.text.Goals as goal

pub returns : goal.returns
returns c =
    let old = c.args.self.now in
    let text = c.args.text.now in
    let bytes = c.self.inside.bytes in
    let kept = c.self.inside.kept in
    let more = c.min-more.result in
    let copied = c.copy_from_slice.ensures.after in
    let here : kept ≤ length bytes = omega (arith, c.self.invariant, c.self.told) in
    let is : length old ≡ kept = ap length (sym c.self.view_is) ∙ length-take-le kept bytes here in
    let fits : more ≤ length text = omega (arith, c.min-more.ensures) in
    take-put_mid kept (kept + more - kept) bytes c.copy_from_slice.new.self (kept + more) (omega (arith, ap length copied ∙ length-take-le more text fits)) here
    ∙ (λ i. c.self.view_is i ++ copied i)
    ∙ ap (λ n. old ++ take n text) (let e : more ≡ min (line_room - length old) (length text) = omega (arith, c.min-more.ensures, is) in e)
    ∙ filled old text (omega (arith, is, c.self.invariant))
