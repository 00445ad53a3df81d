use Rattle.std.proofs.Common.{◌≡◌, ◌∙◌, ◌+◌, ◌-◌, ◌++◌, ap, arith, length, map, sym, drop}
use Rattle.std.proofs.lemmas.List.{append-nil, length-drop}
use Rattle.std.proofs.lemmas.Slice.{between_to_end}
use Rattle.std.specs.List.{between}
use Rattle.flow_core_epochs.specs.Epoch.{elements_at}
use Rattle.flow_core_laws.specs.Place.{places_from}
use Rattle.stream_match.specs.Kept.{kept_of}
use Rattle.epoch_run_carrying.proofs.Filtering.{stretch_carried}
use Rattle.epoch_run_carrying.proofs.carrying.carry_stretch.Goals as goal

pub returns-then-passed-leaving : goal.returns-then-passed-leaving
returns-then-passed-leaving c =
    let s = c.args.leaving in
    let p = c.passed_over-passed.result in
    let values = c.args.values.now in
    let old = map kept_of c.args.carried.now.items in
    sym (append-nil old)
    ∙ ap (λ n. old ++ elements_at (places_from s.stream (s.first + p) n) (drop p values)) (let e : 0 ≡ s.count - p = omega arith in e)
    ∙ ap (λ ks. old ++ ks) (sym (stretch_carried c.args.cursors.now s p values c.passed_over-passed.ensures.passed c.requires.as_many))

pub returns : goal.returns
returns c =
    let s = c.args.leaving in
    let p = c.passed_over-passed.result in
    let values = c.args.values.now in
    let old = map kept_of c.args.carried.now.items in
    let rest : between p (length values) values ≡ drop p values = between_to_end values p (length values) (omega arith) in
    let count : length (drop p values) ≡ s.count - p = length-drop p values ∙ ap (λ n. n - p) c.requires.as_many in
    c.in_ok-add_elements.ensures
    ∙ ap (λ n. old ++ elements_at (places_from s.stream (s.first + n) (length (between p (length values) values))) (between p (length values) values)) c.from.ensures
    ∙ ap (λ vs. old ++ elements_at (places_from s.stream (s.first + p) (length vs)) vs) rest
    ∙ ap (λ n. old ++ elements_at (places_from s.stream (s.first + p) n) (drop p values)) count
    ∙ ap (λ ks. old ++ ks) (sym (stretch_carried c.args.cursors.now s p values c.passed_over-passed.ensures.passed c.requires.as_many))
