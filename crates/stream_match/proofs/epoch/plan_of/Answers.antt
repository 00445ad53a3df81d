use Rattle.std.proofs.Common.{◌≡◌, ◌∙◌, ℕ, List, length, map, rules, subst, sym}
use Rattle.std.proofs.lemmas.List.{nil_from_length}
use Rattle.std.specs.List.{flat_map, range_with_len}
use Rattle.flow_core_epochs.specs.Epoch.{read_from}
use Rattle.stream_match.specs.EpochPlan.{IsEpochPlanOf}
use Rattle.stream_match.specs.Kept.{kept_of}
use Rattle.stream_match.specs.Stretch.{stretch_places}
use Rattle.stream_match.proofs.EpochTop.{cursors_small}
use Rattle.stream_match.proofs.epoch.plan_of.Goals as goal

pub weave-requires-clause-small : goal.weave-requires-clause-small
weave-requires-clause-small c =
    let layout = c.args.layout.now in
    cursors_small layout c.requires.layout c.args.readers.now c.as_slice.result.now (c.as_slice.ensures.value ∙ c.in_ok-cursors.ensures c.requires.layout.activations c.requires.layout.is_of)

pub returns-then-is_empty-clause-plan : goal.returns-then-is_empty-clause-plan
returns-then-is_empty-clause-plan c = λ activations is_of.
    let layout = c.args.layout.now in
    let kept = map kept_of c.args.kept.now in
    let cursors = map (read_from activations c.args.readers.now) (range_with_len 0 (length layout.writers)) in
    let zero_is : length c.args.frames.now ≡ 0 = search rules in
    let none = nil_from_length c.args.frames.now zero_is in
    subst (λ (frames : List ℕ). IsEpochPlanOf layout c.args.input.now frames kept cursors c.nothing.result.plan (flat_map stretch_places c.nothing.result.leaves)) (sym none)
    (c.nothing.ensures.plan layout c.args.input.now kept cursors)

pub returns-clause-plan : goal.returns-clause-plan
returns-clause-plan c = λ activations is_of.
    subst (λ (cursors : List ℕ). IsEpochPlanOf c.args.layout.now c.args.input.now c.args.frames.now (map kept_of c.args.kept.now) cursors c.in_ok-epoch.epoch.plan (flat_map stretch_places c.in_ok-epoch.epoch.leaves))
    (c.as_slice.ensures.value ∙ c.in_ok-cursors.ensures activations is_of) c.in_ok-epoch.ensures.plan
