use Rattle.std.proofs.Common.{◌∙◌, All, ap, sym, subst}
use Rattle.std.specs.List.{flat_map, list_any}
use Rattle.collector.specs.Walking.{IsSpanIn, read_places}
use Rattle.collector.proofs.ReadPlaces.{spans_in, starts_ordered}
use Rattle.wait_certs.specs.Searching.{is_produced_by}
use Rattle.wait_certs.proofs.Reading.{reads_by_spans}
use Rattle.wait_certs.proofs.awaiting.awaits.Goals as goal

pub any_reads-requires-clause-spans : goal.any_reads-requires-clause-spans
any_reads-requires-clause-spans c =
    let l = c.args.layout.now in
    let s = starts_ordered l c.requires.layout c.args.frame c.requires.exists in
    subst (All (IsSpanIn l)) (sym c.spans_of.ensures) (spans_in l c.requires.layout _ _ s.0 s.1)

pub returns : goal.returns
returns c = λ activations of.
    c.any_reads.ensures activations of
    ∙ ap (λ ss. list_any (is_produced_by activations c.args.writer) (flat_map read_places ss)) c.spans_of.ensures
    ∙ reads_by_spans c.args.layout.now activations of c.args.frame c.args.writer c.requires.exists
