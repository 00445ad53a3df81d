use Rattle.std.proofs.Common.{◌∙◌, Some, ap, sym, subst, All, find}
use Rattle.std.specs.List.{flat_map}
use Rattle.std.specs.Option.{option_map}
use Rattle.collector.specs.Missing.{missing_at}
use Rattle.collector.specs.Walking.{IsSpanIn, is_missing, read_places}
use Rattle.collector.proofs.ReadPlaces.{missing_by_spans, spans_in, starts_ordered}
use Rattle.collector.proofs.missing.first_missing.Goals as goal

pub missing_among-requires-clause-spans : goal.missing_among-requires-clause-spans
missing_among-requires-clause-spans c =
    let l = c.args.layout.now in
    let s = starts_ordered l c.requires.layout c.args.frame c.requires.exists in
    subst (All (IsSpanIn l)) (sym c.spans_of.ensures) (spans_in l c.requires.layout _ _ s.0 s.1)

pub returns-in_err-gap : goal.returns-in_err-gap
returns-in_err-gap c = record {
  missing = λ activations of.
      let l = c.args.layout.now in
      let e = c.args.ends.now.ends in
      c.from_residual.ensures ∙ ap (option_map (missing_at activations)) (c.in_err-gap.ensures.missing activations of ∙ ap (λ ss. find (is_missing activations l.input_len e) (flat_map read_places ss)) c.spans_of.ensures ∙ missing_by_spans l activations of l.input_len e c.args.frame c.requires.exists);
}

pub returns : goal.returns
returns c = record {
  missing = λ activations of.
      let l = c.args.layout.now in
      let e = c.args.ends.now.ends in
      let gap = c.in_ok-gap.gap in
      ap (λ p. Some (record { stream = gap.stream; position = gap.position; producer = p })) (c.producing.ensures activations of)
      ∙ ap (option_map (missing_at activations)) (c.in_ok-gap.ensures.missing activations of ∙ ap (λ ss. find (is_missing activations l.input_len e) (flat_map read_places ss)) c.spans_of.ensures ∙ missing_by_spans l activations of l.input_len e c.args.frame c.requires.exists);
}
