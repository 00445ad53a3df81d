use Rattle.std.proofs.Common.{◌≡◌, ◌∙◌, List, ℕ, ap, length, take}
use Rattle.std.proofs.Math.Seq.{take-append_seam}
use Rattle.std.specs.Cmp.Lexicographic.{other_text}
use Rattle.osview_stream.proofs.called.behind.Goals as goal

pub returns-else-eq-clause-none : goal.returns-else-eq-clause-none
returns-else-eq-clause-none c = λ rest is.
    let front : take (length c.args.name.now) c.args.word.now ≡ c.args.name.now = ap (λ (w : List ℕ). take (length c.args.name.now) w) is ∙ take-append_seam c.args.name.now rest in
    other_text c.split_at.result.0.now c.args.name.now c.if-eq.ensures (c.split_at.ensures.front ∙ front)
