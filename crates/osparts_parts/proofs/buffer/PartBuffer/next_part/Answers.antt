use Rattle.std.proofs.Common.{◌≡◌, ◌-◌, List, ℕ, length, drop, vec_len, sym, subst, ap, rules, ◌∙◌, arith}
use Rattle.osparts_parts.specs.Progress.{HoldsAfter}
use Rattle.osparts_parts.proofs.Held.{part_given}
use Rattle.osparts_parts.proofs.buffer.PartBuffer.next_part.Goals as goal

pub returns-clause-gives : goal.returns-clause-gives
returns-clause-gives c = λ pushed parts h.
    let terms = c.args.self.now.terms in
    let place = c.args.self.now.place in
    let same : c.replace.result.items ≡ c.args.self.now.bytes.items = cc (c.replace.ensures.value) in
    let long : length c.replace.result.items ≡ length c.args.self.now.bytes.items = ap length same in
    let after : c.replace.new.dest.items ≡ c.in_ok-next.next.items = cc (c.replace.ensures.after) in
    let overlap : c.in_ok-next.next.items ≡ drop (vec_len c.args.self.now.bytes - c.args.self.now.terms.overlap) c.args.self.now.bytes.items = c.in_ok-next.ensures in
    let len : vec_len c.args.self.now.bytes ≡ length c.args.self.now.bytes.items = search rules in
    part_given terms place c.replace.result.items c.replace.new.dest.items pushed parts
    (subst (λ (x : List ℕ). HoldsAfter terms place x pushed parts) (sym same) h)
    (omega (arith, long, c.room.ensures, c.if-room-gt0.false))
    (after ∙ overlap ∙ ap (λ (n : ℕ). drop (n - c.args.self.now.terms.overlap) c.args.self.now.bytes.items) len ∙ ap (λ (x : List ℕ). drop (length x - c.args.self.now.terms.overlap) x) (sym same))
