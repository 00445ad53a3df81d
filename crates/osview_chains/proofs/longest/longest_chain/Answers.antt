use Rattle.std.proofs.Common.{◌∙◌, ◌+◌, ℕ, List, ap, arith, get_or, max, replicate, refl, subst, sym}
use Rattle.osview_chains.specs.Behind.{HasGoneThrough}
use Rattle.osview_chains.proofs.Passing.{at_first, at_last, none_more, one_more}
use Rattle.osview_chains.proofs.longest.longest_chain.Goals.{in-Some, in_default}
use Rattle.osview_chains.proofs.longest.longest_chain.Goals as goal

pub loop-frame-init : goal.loop-frame-init
loop-frame-init c =
    at_first c.args.plan.now c.args.order.now c.args.steps.now c.in_ok-behind.behind
    (c.in_ok-behind.ensures ∙ ap (λ (n : ℕ). replicate (n + 1) 0) c.len.ensures)

pub loop-frame-preserved : goal.loop-frame-preserved
loop-frame-preserved c =
    let plan = c.args.plan.now in
    let order = c.args.order.now in
    let steps = c.args.steps.now in
    let turn = c.loop-frame.frame-index in
    let frame : ℕ = get_or order turn 0 in
    elim c.match-steps_of.branch [
      | in-Some w ↦
          let more = one_more plan order steps turn c.loop-frame.behind c.loop-frame.most frame c.loop-frame.invariant refl
          w.in-Some.own w.together-takes.result w.raise_readers.new.behind
          (sym c.steps_of.ensures ∙ w.in-Some.is) c.requires.sound c.requires.order (omega arith) w.together-takes.ensures.small
          (w.together-takes.ensures.sum ∙ ap (λ (xs : List ℕ). get_or xs frame 0 + w.in-Some.own) w.as_slice.ensures) w.raise_readers.ensures in
          let most_is = w.most-is ∙ w.larger-most.ensures in
          subst (λ (m : ℕ). HasGoneThrough plan order steps (turn + 1) c.match-steps_of.behind m) (sym most_is)
          (subst (λ (b : List ℕ). HasGoneThrough plan order steps (turn + 1) b (max c.loop-frame.most w.together-takes.result)) (sym w.behind-is) more)
      | in_default w ↦
          let none = none_more plan order steps turn c.loop-frame.behind c.loop-frame.most frame c.loop-frame.invariant refl (sym c.steps_of.ensures ∙ w.in_default.is) in
          subst (λ (m : ℕ). HasGoneThrough plan order steps (turn + 1) c.match-steps_of.behind m) (sym w.most-is)
          (subst (λ (b : List ℕ). HasGoneThrough plan order steps (turn + 1) b c.loop-frame.most) (sym w.behind-is) none)
    ]

pub returns : goal.returns
returns c = at_last _ _ _ _ _ c.loop-frame.frame-index (omega arith) c.requires.listed c.loop-frame.invariant
