use Rattle.std.proofs.Common.{ℕ, sym, subst, ◌∙◌}
use Rattle.os_code.specs.IsValid.{Reaches, Jumps}
use Rattle.os_object_validity.proofs.heights.jump.Goals as goal

pub reach-requires-clause-reached : goal.reach-requires-clause-reached
reach-requires-clause-reached c =
    subst (λ (h : ℕ). Reaches c.args.parts.now c.args.region.unit c.in-Some.to h) (sym c.requires.after)
    (Jumps c.requires.reached c.requires.is_instr (sym c.jump_of.ensures ∙ c.in-Some.is))
