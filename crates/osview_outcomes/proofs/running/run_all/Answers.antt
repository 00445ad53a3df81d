use Rattle.std.proofs.Common.{ℕ, ◌<◌, Some, ap, ◌∙◌, set, length, arith, refl, subst, sym}
use Rattle.std.proofs.lemmas.List.{get_or_default, length-set}
use Rattle.flow_core_laws.specs.Plans.{plan_meaning}
use Rattle.flow_core.specs.Shows.{HasOutcome, Reads}
use Rattle.flow_core.proofs.Running.{IsRun-more, IsRun-fewer}
use Rattle.osview_outcomes.proofs.Keeping.{kept_at_first, one_more}
use Rattle.osview_outcomes.proofs.Ordering.{one_more_behind}
use Rattle.osview_outcomes.proofs.running.run_all.Goals as goal

pub loop-turn-init : goal.loop-turn-init
loop-turn-init g c = record {
  run = c.requires.begins;
  within = omega arith;
  fits = c.in_ok-scratch.ensures;
  kept = kept_at_first _ _ _ _ _ _ c.requires.none;
  behind = record { behind = λ k f lt. absurd (omega (arith, lt)) };
  inputs = c.requires.inputs;
  outputs = c.requires.outputs;
}

pub loop-turn-smaller : goal.loop-turn-smaller
loop-turn-smaller g c =
    let run = c.loop-turn.invariant.run in
    let board = c.loop-turn.board in
    let lt : c.loop-turn.turn < length board.waits.opened.items = omega arith in
    let at = c.index-frame.ensures ∙ get_or_default board.waits.opened.items c.loop-turn.turn _ 0 lt in
    let (e, ends, gives) = c.in_ok-run_frame.ensures.ended in
    IsRun-fewer _ _ board c.loop-turn.turn e _ run lt (ends ∙ ap (λ (f : ℕ). set board.ends.items f (Some e)) at)

pub loop-turn-preserved : goal.loop-turn-preserved
loop-turn-preserved g c =
    let run = c.loop-turn.invariant.run in
    let board = c.loop-turn.board in
    let lt : c.loop-turn.turn < length board.waits.opened.items = omega arith in
    let at = c.index-frame.ensures ∙ get_or_default board.waits.opened.items c.loop-turn.turn _ 0 lt in
    let (e, ends, gives) = c.in_ok-run_frame.ensures.ended in
    let opens = c.in_ok-run_frame.ensures.opens in
    let grows = opens.grows in
    let frames = run.counted.frames_of_plan in
    let in_plan = run.counted.opens_full.exist c.loop-turn.turn lt in
    let of_plan = run.shows.ends_of_plan in
    let room = c.loop-turn.invariant.outputs in
    let inputs_room = c.loop-turn.invariant.inputs in
    let plan = c.args.plan.now in
    let m = plan_meaning plan (g.B.Bodies.outcome c.args.bodies.now) in
    let in_ends : c.index-frame.result.now < length board.ends.items = omega (arith, at) in
    let in_inputs : c.index-frame.result.now < length c.loop-turn.inputs = omega (arith, at) in
    let in_outputs : c.index-frame.result.now < length c.loop-turn.outputs = omega (arith, at) in
    record {
      run = IsRun-more _ _ board c.run_frame.new.board c.loop-turn.turn e run lt c.in_ok-run_frame.ensures.counted c.in_ok-run_frame.ensures.shows opens (ends ∙ ap (λ (f : ℕ). set board.ends.items f (Some e)) at);
      within = omega arith;
      fits = c.in_ok-run_frame.ensures.fits_again;
      kept = one_more plan m board.ends.items _ c.index-frame.result.now e in_ends ends c.loop-turn.inputs _ c.loop-turn.outputs _ _ _ c.loop-turn.invariant.kept in_inputs in_outputs
          c.in_ok-keep.ensures c.in_ok-keep-2.ensures
          (subst (Reads plan m c.index-frame.result.now) (sym c.as_slice.ensures.value) c.in_ok-run_frame.ensures.reads)
          (subst (HasOutcome m c.index-frame.result.now e) (sym c.as_slice-in-loop-turn.ensures.value) gives);
      behind = one_more_behind plan m board.waits.opened.items c.run_frame.new.board.waits.opened.items board c.loop-turn.turn c.requires.sound run lt refl opens.keeps c.loop-turn.invariant.behind;
      inputs = ap length c.in_ok-keep.ensures ∙ length-set c.loop-turn.inputs c.index-frame.result.now _ ∙ c.loop-turn.invariant.inputs;
      outputs = ap length c.in_ok-keep-2.ensures ∙ length-set c.loop-turn.outputs c.index-frame.result.now _ ∙ c.loop-turn.invariant.outputs;
    }
