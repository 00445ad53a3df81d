use Rattle.std.proofs.Common.{◌≡◌, ◌+◌, ◌<◌, ◌≤◌, List, Option, true, false, length, get_or, drop, sym, ap, ◌∙◌, arith}
use Rattle.std.proofs.lemmas.List.{drop_more}
use Rattle.std.proofs.lemmas.List.Elements.{All-get_or}
use Rattle.flow_core_laws.specs.declared.elem.Elem.{Elem}
use Rattle.stream_match_layouts.specs.declared.span.Span.{Span}
use Rattle.epoch_run_in_order.specs.Writing.{with_spans}
use Rattle.epoch_run_in_order.proofs.Through.{length-with_span}
use Rattle.epoch_run_in_order.proofs.streams.Streams.write_all.Goals as goal

abbrev no_span : Span
no_span = record { first = 0; count = 0; offset = 0; stream = 0; frame = 0; write = false }

pub write_through-requires : goal.write_through-requires
write_through-requires c =
    let spans = c.args.spans.now in
    let i = c.loop-span.span-index in
    let outputs = c.args.outputs.now in
    let exists : (get_or spans i no_span).stream < length c.args.self.now.elements =
    All-get_or (λ (s : Span). s.stream < length c.args.self.now.elements) spans i no_span c.loop-span-test.true c.requires.exist in
    record {
      exists = omega (arith, exists, c.loop-span.invariant.streams);
      outputs = λ none. All-get_or (λ (s : Span). s.write ≡ true → s.offset + s.count ≤ length outputs) spans i no_span c.loop-span-test.true (c.requires.outputs none);
    }

pub loop-span-preserved : goal.loop-span-preserved
loop-span-preserved c =
    let spans = c.args.spans.now in
    let i = c.loop-span.span-index in
    let root = c.args.root in
    let outputs = c.args.outputs.now in
    let elements = c.loop-span.self.elements in
    record {
      rest =
          ap (λ (es : List (List (Option Elem))). with_spans root outputs es (drop (i + 1) spans)) c.in_ok-write_through.ensures
          ∙ sym (ap (λ (ss : List Span). with_spans root outputs elements ss) (drop_more spans i no_span c.loop-span-test.true))
          ∙ c.loop-span.invariant.rest;
      streams = ap length c.in_ok-write_through.ensures ∙ length-with_span root outputs elements (get_or spans i no_span) ∙ c.loop-span.invariant.streams;
      firsts = c.loop-span.invariant.firsts;
    }
