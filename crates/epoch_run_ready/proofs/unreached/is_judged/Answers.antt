use Rattle.std.proofs.Common.{◌≡◌, ◌<◌, ◌^◌, All, Bool, List, false, get_or, length, refl, subst, sym, true, ℕ}
use Rattle.std.specs.Prelude.{not}
use Rattle.std.proofs.lemmas.List.Elements.{All-get_or}
use Rattle.flow_core_epochs.proofs.Carried.{has_all}
use Rattle.stream_match.proofs.Behind.{span_small}
use Rattle.stream_match.proofs.Lowering.{streams_exist}
use Rattle.stream_match_layouts.specs.Spans.{frame_count, spans_of}
use Rattle.stream_match_layouts.specs.declared.span.Span.{Span}
use Rattle.epoch_run_ready.specs.Unreached.{ReadBefore, WriteBehind}
use Rattle.epoch_run_ready.proofs.Judged.{judged_marked, judged_other}
use Rattle.epoch_run_ready.proofs.unreached.is_judged.Goals as goal

pub read_behind-requires-clause-exist : goal.read_behind-requires-clause-exist
read_behind-requires-clause-exist c =
    let layout = c.args.layout.now in
    let a : ℕ = get_or c.args.readers.now c.args.number 0 in
    let lt : a < frame_count layout = All-get_or (λ b. b < frame_count layout) c.args.readers.now c.args.number 0 c.requires.exists c.requires.readers in
    subst (λ (n : ℕ). All (λ (s : Span). s.stream < n) c.spans_of-spans.result.now) (sym c.requires.low)
    (subst (λ (spans : List Span). All (λ (s : Span). s.stream < length layout.writers) spans) (sym c.spans_of-spans.ensures) (streams_exist layout c.requires.layout a lt))

pub read_behind-requires-clause-small : goal.read_behind-requires-clause-small
read_behind-requires-clause-small c =
    let layout = c.args.layout.now in
    let a : ℕ = get_or c.args.readers.now c.args.number 0 in
    let lt : a < frame_count layout = All-get_or (λ b. b < frame_count layout) c.args.readers.now c.args.number 0 c.requires.exists c.requires.readers in
    subst (λ (spans : List Span). All (λ (s : Span). s.first < 2 ^ 62) spans) (sym c.spans_of-spans.ensures)
    (has_all (λ (s : Span). s.first < 2 ^ 62) (spans_of layout a) (λ s h. span_small layout c.requires.layout a s lt h))

pub write_before-requires : goal.write_before-requires
write_before-requires c =
    let layout = c.args.layout.now in
    let a : ℕ = get_or c.args.readers.now c.args.number 0 in
    let lt : a < frame_count layout = All-get_or (λ b. b < frame_count layout) c.args.readers.now c.args.number 0 c.requires.exists c.requires.readers in
    record {
      exist = subst (λ (n : ℕ). All (λ (s : Span). s.stream < n) c.spans_of-spans.result.now) (sym c.requires.low)
          (subst (λ (spans : List Span). All (λ (s : Span). s.stream < length layout.writers) spans) (sym c.spans_of-spans.ensures) (streams_exist layout c.requires.layout a lt));
    }

pub returns-then-not-read_behind : goal.returns-then-not-read_behind
returns-then-not-read_behind c = λ _.
    let layout = c.args.layout.now in
    let readers = c.args.readers.now in
    let a : ℕ = get_or readers c.args.number 0 in
    let lt : a < frame_count layout = All-get_or (λ b. b < frame_count layout) readers c.args.number 0 c.requires.exists c.requires.readers in
    judged_marked layout readers c.args.first c.args.low.now c.args.waits.now c.args.number a refl c.requires.exists lt c.if-activation-first.true
    (subst (λ (spans : List Span). ReadBefore c.args.low.now spans) c.spans_of-spans.ensures (c.read_behind.ensures c.if-not-read_behind.true)) c.requires.so_far

pub returns : goal.returns
returns c = λ h.
    let layout = c.args.layout.now in
    judged_other layout c.args.readers.now c.args.first c.args.low.now c.args.waits.now c.args.number
    (subst (λ (spans : List Span). WriteBehind c.args.low.now spans) c.spans_of-spans.ensures (c.write_before.ensures (is_false c.write_before.result h))) c.requires.so_far
  where
    is_false : (b : Bool) → not b ≡ true → b ≡ false
    is_false true e = absurd (cc)
    is_false false e = refl
