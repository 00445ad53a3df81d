use Rattle.std.proofs.Common.{◌≡◌, ℕ, ◌<◌, List, length, get_or, sym, ap, ◌∙◌, subst, arith}
use Rattle.std.proofs.lemmas.List.FromFn.{get_or-map-range_with_len}
use Rattle.flow_core_laws.specs.FirstPosition.{read_cursor}
use Rattle.flow_core_laws.specs.Window.{claims_of}
use Rattle.epoch_run_in_order_laws.specs.InOrder.{HoldElements}
use Rattle.epoch_run_in_order.specs.declared.streams.Streams.{Streams}
use Rattle.epoch_run_in_order.proofs.streams.Streams.give_up.Goals as goal
use Rattle.epoch_run_in_order.proofs.streams.Streams.give_up.Goals.{then-stream-len+then-stream-len-2+in_ok-give_up_of, else-stream-len}

pub loop-stream-preserved : goal.loop-stream-preserved
loop-stream-preserved c = elim c.if-stream-len.branch [
  | then-stream-len+then-stream-len-2+in_ok-give_up_of w ↦ (
      let stream = c.loop-stream.stream in
      let many : length w.give_up_of.new.self.elements ≡ length c.loop-stream.self.elements = w.in_ok-give_up_of.ensures.elements in
      let exists : stream < length c.args.self.now.elements = omega (arith, w.if-stream-len.true, c.len.ensures, c.loop-stream.invariant.as_many) in
      record {
        as_many = ap (λ (s : Streams). length s.elements) w.self-is ∙ many ∙ c.loop-stream.invariant.as_many;
        firsts = ap (λ (s : Streams). length s.firsts) w.self-is ∙ w.in_ok-give_up_of.ensures.firsts ∙ c.loop-stream.invariant.firsts;
        held = λ activations input state is h.
            subst (λ (s : Streams). HoldElements activations input state s.elements s.firsts) (sym w.self-is)
            (w.in_ok-give_up_of.ensures.held activations input state
            (ap (λ (l : List ℕ). get_or l stream 0) is ∙ get_or-map-range_with_len (λ stream. read_cursor stream (claims_of activations)) 0 (length c.args.self.now.elements) stream stream 0 exists (omega arith))
            (c.loop-stream.invariant.held activations input state is h));
      })
  | else-stream-len w ↦ record {
    as_many = ap (λ (s : Streams). length s.elements) w.self-is ∙ c.loop-stream.invariant.as_many;
    firsts = ap (λ (s : Streams). length s.firsts) w.self-is ∙ c.loop-stream.invariant.firsts;
    held = λ activations input state is h. subst (λ (s : Streams). HoldElements activations input state s.elements s.firsts) (sym w.self-is) (c.loop-stream.invariant.held activations input state is h);
  }
]
