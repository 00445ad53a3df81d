use Rattle.std.proofs.Common.{All, ◌≡◌, ◌<◌, ◌∙◌, List, ℕ, ap, map, refl, subst, sym}
use Rattle.std.specs.Prelude.{Option, filter, is_none}
use Rattle.std.specs.List.{flat_map}
use Rattle.flow_core_epochs.specs.Epoch.{carried_over, open_in, put_over}
use Rattle.flow_core_laws.specs.Outcome.{outcome_at}
use Rattle.flow_core_laws.specs.declared.elem.Elem.{Elem}
use Rattle.flow_core_laws.specs.declared.task_end.TaskEnd.{TaskEnd}
use Rattle.stream_match.specs.Kept.{kept_of}
use Rattle.stream_match.specs.Stretch.{stretch_places}
use Rattle.stream_match_layouts.specs.Spans.{frame_count}
use Rattle.epoch_run.proofs.Frames.{all_exist, are_frames, frames_differ}
use Rattle.epoch_run.proofs.Listing.{none_ended, still_listed}
use Rattle.epoch_run.proofs.held.Held.take_joined.Goals as goal

pub carry_over-requires-clause-exist : goal.carry_over-requires-clause-exist
carry_over-requires-clause-exist c =
    let layout = c.args.layout.now in
    let old = c.args.self.now.ends.ends in
    let frames : List ℕ = c.args.frames.now in
    let readers : List ℕ = c.args.readers in
    let count : ℕ = frame_count layout in
    let after : List (Option TaskEnd) = c.take_ends.new.ends in
    let put : after ≡ put_over old frames c.args.ends.now.ends count =
    c.in_ok-take_ends.ensures ∙ ap (λ (rs : List (Option TaskEnd)). put_over old frames rs c.frames.result) c.as_slice.ensures ∙ ap (put_over old frames c.args.ends.now.ends) c.frames.ensures in
    let is : c.in_ok-self.field-0 ≡ open_in after count =
    c.in_ok-self.ensures ∙ ap (λ (es : List (Option TaskEnd)). filter (λ a. is_none (outcome_at es a)) readers) c.as_slice-4.ensures
    ∙ still_listed old frames c.args.ends.now.ends after readers count c.requires.are_open c.requires.readers put in
    subst (All (λ f. f < count)) (sym (c.as_slice-5.ensures ∙ is)) (all_exist layout (open_in after count) (are_frames layout after count refl))

pub returns-clause-without_end : goal.returns-clause-without_end
returns-clause-without_end c =
    let layout = c.args.layout.now in
    let old = c.args.self.now.ends.ends in
    let frames : List ℕ = c.args.frames.now in
    let readers : List ℕ = c.args.readers in
    let count : ℕ = frame_count layout in
    let after : List (Option TaskEnd) = c.take_ends.new.ends in
    let put : after ≡ put_over old frames c.args.ends.now.ends count =
    c.in_ok-take_ends.ensures ∙ ap (λ (rs : List (Option TaskEnd)). put_over old frames rs c.frames.result) c.as_slice.ensures ∙ ap (put_over old frames c.args.ends.now.ends) c.frames.ensures in
    c.in_ok-self.ensures ∙ ap (λ (es : List (Option TaskEnd)). filter (λ a. is_none (outcome_at es a)) readers) c.as_slice-4.ensures
    ∙ still_listed old frames c.args.ends.now.ends after readers count c.requires.are_open c.requires.readers put

pub returns-clause-kept : goal.returns-clause-kept
returns-clause-kept c = λ activations of.
    let layout = c.args.layout.now in
    let old = c.args.self.now.ends.ends in
    let frames : List ℕ = c.args.frames.now in
    let readers : List ℕ = c.args.readers in
    let count : ℕ = frame_count layout in
    let after : List (Option TaskEnd) = c.take_ends.new.ends in
    let put : after ≡ put_over old frames c.args.ends.now.ends count =
    c.in_ok-take_ends.ensures ∙ ap (λ (rs : List (Option TaskEnd)). put_over old frames rs c.frames.result) c.as_slice.ensures ∙ ap (put_over old frames c.args.ends.now.ends) c.frames.ensures in
    let is : c.in_ok-self.field-0 ≡ open_in after count =
    c.in_ok-self.ensures ∙ ap (λ (es : List (Option TaskEnd)). filter (λ a. is_none (outcome_at es a)) readers) c.as_slice-4.ensures
    ∙ still_listed old frames c.args.ends.now.ends after readers count c.requires.are_open c.requires.readers put in
    c.in_ok-carry_over.ensures activations of
    ∙ ap (λ (fs : List ℕ). carried_over activations fs (map kept_of c.args.self.now.kept.items) (flat_map stretch_places c.args.leaves.now) c.as_slice-6.result.now) (c.as_slice-5.ensures ∙ is)
    ∙ ap (λ (vs : List (Option Elem)). carried_over activations (open_in after count) (map kept_of c.args.self.now.kept.items) (flat_map stretch_places c.args.leaves.now) vs) c.as_slice-6.ensures

pub take_ends-requires-clause-differ : goal.take_ends-requires-clause-differ
take_ends-requires-clause-differ c = frames_differ c.args.layout.now c.args.frames.now c.requires.frames

pub still_open-requires : goal.still_open-requires
still_open-requires c = λ none.
    let layout = c.args.layout.now in
    let old = c.args.self.now.ends.ends in
    let frames : List ℕ = c.args.frames.now in
    let readers : List ℕ = c.args.readers in
    let count : ℕ = frame_count layout in
    let after : List (Option TaskEnd) = c.take_ends.new.ends in
    let put : after ≡ put_over old frames c.args.ends.now.ends count =
    c.in_ok-take_ends.ensures ∙ ap (λ (rs : List (Option TaskEnd)). put_over old frames rs c.frames.result) c.as_slice.ensures ∙ ap (put_over old frames c.args.ends.now.ends) c.frames.ensures in
    subst (λ (es : List (Option TaskEnd)). readers ≡ filter (λ a. is_none (outcome_at es a)) readers) (sym c.as_slice-4.ensures)
    (none_ended old frames c.args.ends.now.ends after readers count c.requires.more c.requires.readers put none)
