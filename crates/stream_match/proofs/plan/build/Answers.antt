use Rattle.std.proofs.Common.{[], ◌∷◌, ◌∙◌, List, length, map, ap, sym, subst}
use Rattle.stream_match.specs.declared.kept.Kept.{Kept}
use Rattle.stream_match.specs.Weave.{IsWoven}
use Rattle.stream_match.specs.EpochPlan.{AscendInLayout, weave_over}
use Rattle.stream_match.specs.Kept.{kept_of}
use Rattle.std.specs.Prelude.{All}
use Rattle.stream_match.specs.Whole.{all_frames, output_reach}
use Rattle.stream_match.proofs.Empty.{empty_output}
use Rattle.stream_match.specs.EpochCode.{IsEmpty, IsRead, IsLeft, CanLeave, reads_before}
use Rattle.stream_match.proofs.Whole.{are, can_leave, whole_sound, whole_stands}
use Rattle.stream_match.proofs.plan.build.Goals as goal

pub reading-requires-clause-frames : goal.reading-requires-clause-frames
reading-requires-clause-frames c = subst (AscendInLayout c.args.layout.now) (sym (c.as_slice.ensures.value ∙ c.in_ok-all.ensures)) (are c.args.layout.now c.requires.layout)

pub output-requires-clause-next : goal.output-requires-clause-next
output-requires-clause-next c = c.in_ok-read.ensures.next ∙ ap (λ frames. reads_before c.args.layout.now frames (length frames)) (c.as_slice.ensures.value ∙ c.in_ok-all.ensures)

pub output-requires-clause-frames : goal.output-requires-clause-frames
output-requires-clause-frames c = c.as_slice-2.ensures.value ∙ c.in_ok-all.ensures

pub weave_rows-requires-clause-frames : goal.weave_rows-requires-clause-frames
weave_rows-requires-clause-frames c = subst (AscendInLayout c.args.layout.now) (sym (c.as_slice-3.ensures.value ∙ c.in_ok-all.ensures)) (are c.args.layout.now c.requires.layout)

pub weave_rows-requires-clause-read : goal.weave_rows-requires-clause-read
weave_rows-requires-clause-read c = subst (λ frames. IsRead c.args.layout.now frames c.in_ok-read.read) (c.as_slice.ensures.value ∙ sym c.as_slice-3.ensures.value) (record { stretches_are = c.in_ok-read.ensures.stretches; next_is = c.in_ok-read.ensures.next })

pub weave_rows-requires-clause-left : goal.weave_rows-requires-clause-left
weave_rows-requires-clause-left c =
    let layout = c.args.layout.now in
    let same = sym (c.as_slice-3.ensures.value ∙ c.in_ok-all.ensures) in (
      output_reach layout ∷ [],
      subst (λ frames. CanLeave layout frames (output_reach layout ∷ [])) same (can_leave layout c.requires.layout),
      subst (λ frames. IsLeft layout frames (output_reach layout ∷ []) c.in_ok-left.left) same c.in_ok-left.ensures,
    )

pub weave_rows-requires-clause-nothing : goal.weave_rows-requires-clause-nothing
weave_rows-requires-clause-nothing c =
    let layout = c.args.layout.now in
    let input = c.args.input.now in
    let all = all_frames layout in
    let none = c.as_slice-4.ensures.value ∙ c.new-kept.ensures.items in
    subst (λ (ks : List Kept). All (IsEmpty input ks) c.in_ok-left.left.stretches) (sym none)
    (subst (All (IsEmpty input [])) (sym c.in_ok-left.ensures.stretches_are) (empty_output layout input (length all) (reads_before layout all (length all))))

pub returns-clause-exact : goal.returns-clause-exact
returns-clause-exact c =
    let layout = c.args.layout.now in
    let input = c.args.input.now in
    let sink = output_reach layout ∷ [] in
    let same = c.as_slice-3.ensures.value ∙ c.in_ok-all.ensures in
    let can : CanLeave layout c.as_slice-3.result.now sink = subst (λ frames. CanLeave layout frames sink) (sym same) (can_leave layout c.requires.layout) in
    let left : IsLeft layout c.as_slice-3.result.now sink c.in_ok-left.left = subst (λ frames. IsLeft layout frames sink c.in_ok-left.left) (sym same) c.in_ok-left.ensures in
    let woven = c.in_ok-plan.ensures sink can left in
    let none = c.as_slice-4.ensures.value ∙ c.new-kept.ensures.items in
    subst (λ frames. IsWoven layout (weave_over layout input frames [] sink) c.in_ok-plan.plan) same
    (subst (λ (ks : List Kept). IsWoven layout (weave_over layout input c.as_slice-3.result.now (map kept_of ks) sink) c.in_ok-plan.plan) none woven)

pub returns-clause-sound : goal.returns-clause-sound
returns-clause-sound c =
    let layout = c.args.layout.now in
    let is = c.requires.layout in
    whole_sound layout is is.activations is.is_of c.args.input.now c.in_ok-plan.plan (returns-clause-exact c)

pub returns-clause-stands_for : goal.returns-clause-stands_for
returns-clause-stands_for c = λ activations of. whole_stands c.args.layout.now c.requires.layout activations of c.args.input.now c.in_ok-plan.plan (returns-clause-exact c)
