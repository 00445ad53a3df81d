use Rattle.std.proofs.Common.{◌≡◌, ◌∙◌, ◌-◌, ◌++◌, List, ℕ, ap, arith, sym}
use Rattle.osview_stream.proofs.Words.{index_there, indexed, inside, one_index}
use Rattle.osview_stream.proofs.called.member_of.Goals as goal

pub returns-in_default-clause-none : goal.returns-in_default-clause-none
returns-in_default-clause-none c = λ stream is.
    let text = c.args.text.now in
    let word = c.args.word.now in
    let name = c.args.name in
    let k = c.in-Some.index in
    let there = inside text c.args.streams word name stream is in
    let exists = is.exists in
    let fits = c.ranges.streams.fits in
    let small = c.in-Some.ensures.small in
    let same : k ≡ stream - name.first = one_index c.bytes.result.now k (stream - name.first) (omega arith) (omega arith)
    (sym c.in-Some.ensures.some ∙ index_there text c.args.streams word name stream c.requires is ∙ ap (λ (x : List ℕ). x ++ indexed (stream - name.first)) (sym c.bytes.ensures)) in
    omega (arith, same, c.if-index-streams.false, exists, there.0)

pub returns-in_default-3-clause-none : goal.returns-in_default-3-clause-none
returns-in_default-3-clause-none c = λ stream is.
    let text = c.args.text.now in
    let word = c.args.word.now in
    let name = c.args.name in
    let k = c.in-Some.index in
    let there = inside text c.args.streams word name stream is in
    let exists = is.exists in
    let fits = c.ranges.streams.fits in
    let small = c.in-Some.ensures.small in
    let same : k ≡ stream - name.first = one_index c.bytes.result.now k (stream - name.first) (omega arith) (omega arith)
    (sym c.in-Some.ensures.some ∙ index_there text c.args.streams word name stream c.requires is ∙ ap (λ (x : List ℕ). x ++ indexed (stream - name.first)) (sym c.bytes.ensures)) in
    omega (arith, same, c.if-index-name.false, there.1)
