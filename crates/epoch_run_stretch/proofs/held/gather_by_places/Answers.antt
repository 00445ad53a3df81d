use Rattle.std.proofs.Common.{◌≡◌, ◌-◌, ◌++◌, [], List, Option, IsSome, length, ap, subst, ◌∙◌, arith}
use Rattle.std.specs.Prelude.{All, IfSome, slice_index_or}
use Rattle.flow_core_laws.specs.declared.elem.Elem.{Elem}
use Rattle.flow_core_laws.specs.declared.task_end.TaskEnd.{TaskEnd}
use Rattle.stream_match_layouts.proofs.Tallies.{frame_count-is}
use Rattle.epoch_run_batches.specs.Meant.{Run}
use Rattle.epoch_run_batches.specs.Outcome.{AreAllMeant}
use Rattle.epoch_run_stretch.specs.Ends.{AreEndsFrom}
use Rattle.epoch_run_stretch.specs.Gathered.{AreGathered, HaveMore}
use Rattle.epoch_run_stretch.proofs.Gathering.{held_all}
use Rattle.epoch_run_stretch.proofs.held.gather_by_places.Goals as goal

pub returns-clause-held : goal.returns-clause-held
returns-clause-held c = λ all run of are before.
    let layout = c.args.layout.now in
    let ends = c.args.ends.now in
    let elements = c.args.elements.now in
    let firsts = c.args.firsts.now in
    let more = c.in-Some.more in
    let parts = c.in-Some-parts.parts in
    let frames = frame_count-is layout run.activations of in
    let streams = c.requires.streams in
    let count = subst (λ (o : Option (List (Option TaskEnd))). IfSome o (λ es. length es ≡ c.frames.result - c.len.result)) c.in-Some.is c.in_ok-more.ensures.count in
    let there = subst (λ (o : Option (List (Option TaskEnd))). IfSome o (λ es. All IsSome es)) c.in-Some.is c.in_ok-more.ensures.all in
    let meant = subst (λ (o : Option (List (Option TaskEnd))). IfSome o (λ es. (r : Run) → AreAllMeant r c.args.outcomes.now → AreEndsFrom r c.len.result es)) c.in-Some.is c.in_ok-more.ensures.meant in
    let gathered = subst (λ (o : Option (List (List (Option Elem)))). IfSome o (AreGathered firsts c.as_slice.result.now layout c.args.outcomes.now (length c.as_slice.result.now))) c.in-Some-parts.is c.in_ok-parts.ensures in
    held_all c.apart_and_joined.ensures.join layout run of c.args.outcomes.now are ends more c.extend_from_slice.new.self firsts elements parts c.add_parts.new.elements streams
    (omega (arith, c.requires.within, frames))
    (omega (arith, count, c.frames.ensures, c.len.ensures, frames))
    there
    (subst (λ n. AreEndsFrom run n more) c.len.ensures (meant run are))
    (c.in_ok-extend_from_slice.ensures.ok ∙ ap (λ es. ends ++ es) c.as_slice-2.ensures)
    (subst (λ (es : List (List (Option Elem))). AreGathered firsts es layout c.args.outcomes.now (length es) parts) c.as_slice.ensures gathered)
    (subst (λ (ps : List (List (Option Elem))). HaveMore (length elements) (λ s. slice_index_or ps s []) elements c.add_parts.new.elements) c.as_slice-3.ensures c.in_ok-add_parts.ensures)
    before
