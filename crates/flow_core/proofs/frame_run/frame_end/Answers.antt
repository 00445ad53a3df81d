use Rattle.std.proofs.Common.{ℕ, length, sym, ap, ◌∙◌, subst}
use Rattle.flow_core_laws.proofs.Gathering.{length-gathered}
use Rattle.flow_core_laws.proofs.OneMore.{length-values}
use Rattle.flow_core.proofs.Ending.{IsSome-value, none_left}
use Rattle.flow_core.proofs.frame_run.frame_end.Goals as goal

pub run-requires-clause-taken : goal.run-requires-clause-taken
run-requires-clause-taken g c =
    let (es, there) = IsSome-value _ c.requires.there in
    let none = none_left c.in_ok-root.root _ c.in_default.not-Some (c.in_ok-root.ensures.root es there) in
    let inputs = ap length c.as_slice.ensures.value ∙ ap length (c.in_ok-root.ensures.values es there) ∙ length-values es none ∙ length-gathered c.args.cells.now es there in
    let outputs = c.as_mut_slice.ensures.len ∙ c.in_ok-resize.ensures.len in
    subst (λ (k : ℕ). g.B.Bodies.takes c.args.bodies.now c.args.frame k (length c.as_mut_slice.result.now)) (sym inputs)
    (subst (λ (k : ℕ). g.B.Bodies.takes c.args.bodies.now c.args.frame (length c.args.cells.now) k) (sym outputs) c.requires.taken)
