use Rattle.std.proofs.Common.{◌<◌, All, List, Option, [], ap, arith, subst, sym, ℕ, ◌∙◌}
use Rattle.flow_core_epochs.proofs.Carried.{has_all}
use Rattle.flow_core_epochs.proofs.Frames.{open_each}
use Rattle.flow_core_epochs.specs.Epoch.{open_in}
use Rattle.flow_core_laws.specs.declared.task_end.TaskEnd.{TaskEnd}
use Rattle.stream_match_layouts.proofs.Sums.{frames_bound}
use Rattle.stream_match_layouts.specs.Spans.{frame_count}
use Rattle.epoch_run.proofs.epoch.none_waits.Goals as goal

pub overflow_cast-frames : goal.overflow_cast-frames
overflow_cast-frames c = omega (arith, frames_bound c.args.layout.now c.requires, c.frames.ensures)

pub with_new-requires-clause-listed : goal.with_new-requires-clause-listed
with_new-requires-clause-listed c = c.new.ensures

pub ready_frames-requires-clause-readers : goal.ready_frames-requires-clause-readers
ready_frames-requires-clause-readers c =
    let n : ℕ = frame_count c.args.layout.now in
    let none : List (Option TaskEnd) = [] in
    subst (λ (xs : List ℕ). All (λ a. a < n) xs) (sym (c.as_slice.ensures ∙ c.in_ok-all.ensures ∙ ap (open_in none) c.frames.ensures))
    (has_all (λ a. a < n) (open_in none n) (λ a h. let (f, at) = h in (open_each none n f a at).0))
