use Rattle.std.proofs.Common.{◌≡◌, ◌<◌, IfSome, List, Option, Some, length, subst, ℕ}
use Rattle.flow_core_epochs.proofs.Carried.{all_has}
use Rattle.stream_match.proofs.Lowering.{streams_exist}
use Rattle.stream_match_layouts.specs.Spans.{spans_of}
use Rattle.stream_match_layouts.specs.declared.span.Span.{Span}
use Rattle.epoch_run_ready.proofs.LeftOut.{left_out_wait}
use Rattle.epoch_run_ready.proofs.Reached.{waits_still}
use Rattle.epoch_run_ready.specs.Unreached.{AreUnreached}
use Rattle.epoch_run_ready.proofs.ready.ready_since.Goals as goal

-- what holds of what is there
where_some : {A : Type 0} (o : Option A) (x : A) → o ≡ Some x → (P : A → Type 0) → IfSome o P → P x
where_some o x is P h = subst (λ p. IfSome p P) is h

pub returns-in_ok-frames-in-Some : goal.returns-in_ok-frames-in-Some
returns-in_ok-frames-in-Some c = λ activations input ends of over open_are many wait.
    let layout = c.args.layout.now in
    let are : AreUnreached layout c.args.readers.now c.args.first c.in-Some.waits.items = where_some c.in_ok-waits.field-0 c.in-Some.waits c.in-Some.is (λ waits. AreUnreached layout c.args.readers.now c.args.first waits.items) c.in_ok-waits.ensures in
    left_out_wait layout activations of input over ends c.args.readers.now open_are c.in-Some.waits.items c.in_ok-frames-in-Some.frames
    (λ a s lt h. all_has (λ (s : Span). s.stream < length layout.writers) (spans_of layout a) s (streams_exist layout c.requires.layout a lt) h)
    are.are_judged.are_readers
    (λ fs out a lt m. waits_still layout activations of input ends c.args.first c.in-Some.waits.items (subst (λ (xs : List ℕ). AreUnreached layout xs c.args.first c.in-Some.waits.items) open_are are) fs wait out a lt m)
    c.in_ok-frames-in-Some.ensures
