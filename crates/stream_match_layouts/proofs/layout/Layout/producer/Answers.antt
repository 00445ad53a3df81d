use Rattle.std.proofs.Common.{◌≡◌, ◌∙◌, ◌≤◌, ◌<◌, Some, None, length, sym, ap, subst, arith}
use Rattle.std.specs.Prelude.{slice_get}
use Rattle.stream_match_layouts.specs.declared.span.Span.{Span}
use Rattle.stream_match_layouts.specs.Writers.{writers_on, writer_at, span_at}
use Rattle.stream_match_layouts.proofs.Writers.{has_writers, found, not_found, between, number_place, past_places}
use Rattle.stream_match_layouts.proofs.layout.Layout.producer.Goals as goal

pub first_behind-place-requires-clause-writers : goal.first_behind-place-requires-clause-writers
first_behind-place-requires-clause-writers c = let l = c.requires.layout in has_writers c.args.self.now l.activations l.is_of c.args.stream c.requires.exists l.lawful

pub returns-in_err-number : goal.returns-in_err-number
returns-in_err-number c = λ activations of.
    let l = c.requires.layout in
    let has = has_writers c.args.self.now l.activations l.is_of c.args.stream c.requires.exists l.lawful in
    let none : slice_get (writers_on c.args.self.now c.args.stream) c.first_behind-place.result ≡ None = sym c.in_err-number.ensures in
    let past = past_places (writers_on c.args.self.now c.args.stream) c.first_behind-place.result none in
    c.from_residual.ensures ∙ sym (not_found c.args.self.now activations of c.args.stream c.requires.exists c.args.position
    (between c.args.self.now c.args.stream c.args.position c.first_behind-place.result has c.first_behind-place.ensures (λ lt. absurd (omega arith))))

pub span-requires : goal.span-requires
span-requires c =
    let l = c.requires.layout in
    let has = has_writers c.args.self.now l.activations l.is_of c.args.stream c.requires.exists l.lawful in
    let at = number_place (writers_on c.args.self.now c.args.stream) c.first_behind-place.result c.in_ok-number.number (sym c.writer.ensures ∙ c.in_ok-number.was) in
    subst (λ n. n < length c.args.self.now.spans) at.1 (has.exist c.first_behind-place.result at.0)

pub returns-then-span-position : goal.returns-then-span-position
returns-then-span-position c = λ activations of.
    let place = c.first_behind-place.result in
    let at = number_place (writers_on c.args.self.now c.args.stream) place c.in_ok-number.number (sym c.writer.ensures ∙ c.in_ok-number.was) in
    let span : writer_at c.args.self.now c.args.stream place ≡ c.span.result = ap (span_at c.args.self.now) at.1 ∙ sym c.span.ensures in
    ap (λ n. Some n) (sym at.1) ∙ sym (found c.args.self.now activations of c.args.stream c.requires.exists c.args.position place at.0
    (subst (λ (s : Span). s.first ≤ c.args.position) (sym span) c.if-span-position.true) (c.first_behind-place.ensures.behind place (omega arith) at.0))

pub returns-else-span-position : goal.returns-else-span-position
returns-else-span-position c = λ activations of.
    let l = c.requires.layout in
    let has = has_writers c.args.self.now l.activations l.is_of c.args.stream c.requires.exists l.lawful in
    let place = c.first_behind-place.result in
    let at = number_place (writers_on c.args.self.now c.args.stream) place c.in_ok-number.number (sym c.writer.ensures ∙ c.in_ok-number.was) in
    let span : writer_at c.args.self.now c.args.stream place ≡ c.span.result = ap (span_at c.args.self.now) at.1 ∙ sym c.span.ensures in
    sym (not_found c.args.self.now activations of c.args.stream c.requires.exists c.args.position
    (between c.args.self.now c.args.stream c.args.position place has c.first_behind-place.ensures (λ lt. subst (λ (s : Span). c.args.position < s.first) (sym span) c.if-span-position.false)))
