use Rattle.std.proofs.Common.{◌∙◌, [], Bool, List, ap, false, length, replicate, subst, sym, ℕ}
use Rattle.os_io.proofs.Repeated.{get_or-repeated}
use Rattle.stream_match_layouts.specs.Spans.{frame_count}
use Rattle.epoch_run_ready.specs.Waiting.{AreMissing}
use Rattle.epoch_run_ready.proofs.Marks.{mark_same}
use Rattle.epoch_run_ready.proofs.Passing.{unmarked_all}
use Rattle.epoch_run_ready.proofs.ready.chosen.Goals as goal

pub up_to_last_behind-count-requires-clause-missing : goal.up_to_last_behind-count-requires-clause-missing
up_to_last_behind-count-requires-clause-missing c = ap (λ (xs : List ℕ). length xs) c.as_slice.ensures.value ∙ (c.in_ok-missing.ensures []).one_each

pub unmarked-requires-clause-missing : goal.unmarked-requires-clause-missing
unmarked-requires-clause-missing c =
    subst (λ (xs : List ℕ). AreMissing c.args.layout.now c.as_mut_slice.result.now xs) (sym c.as_mut_slice-2.ensures.value) (c.in_ok-missing.ensures c.as_mut_slice.result.now)

pub returns-then-count-eq0 : goal.returns-then-count-eq0
returns-then-count-eq0 c =
    let layout = c.args.layout.now in
    let readers = c.args.readers.now in
    let n = frame_count layout in
    let none : List Bool = replicate n false in
    record {
      waits = none;
      are_marked = mark_same layout readers none;
      others = λ ascend. c.in_ok-frames.ensures ∙ sym (unmarked_all none readers (λ a. get_or-repeated n a false));
    }
