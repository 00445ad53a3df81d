use Rattle.std.proofs.Common.{◌-◌, ◌<◌, ◌^◌, All, List, drop, length, subst, sym, take, ℕ}
use Rattle.std.proofs.lemmas.List.Elements.{All-drop, All-take}
use Rattle.stream_match_layouts.specs.declared.span.Span.{Span}
use Rattle.epoch_run_ready.proofs.AllSpans.{all_exist, all_small}
use Rattle.epoch_run_ready.proofs.marking.none_behind.Goals as goal

pub read_behind-requires-clause-exist : goal.read_behind-requires-clause-exist
read_behind-requires-clause-exist c =
    let layout = c.args.layout.now in
    let first : ℕ = c.in-Some.first in
    let count : ℕ = c.in-Some.end - c.in-Some.first in
    subst (λ (n : ℕ). All (λ (s : Span). s.stream < n) (take count (drop first c.as_slice.result.now))) (sym c.requires.missing)
    (subst (λ (spans : List Span). All (λ (s : Span). s.stream < length layout.writers) (take count (drop first spans))) (sym c.as_slice.ensures)
    (All-take (λ (s : Span). s.stream < length layout.writers) count (drop first layout.spans)
    (All-drop (λ (s : Span). s.stream < length layout.writers) first layout.spans (all_exist layout c.requires.layout))))

pub read_behind-requires-clause-small : goal.read_behind-requires-clause-small
read_behind-requires-clause-small c =
    let layout = c.args.layout.now in
    let first : ℕ = c.in-Some.first in
    let count : ℕ = c.in-Some.end - c.in-Some.first in
    subst (λ (spans : List Span). All (λ (s : Span). s.first < 2 ^ 62) (take count (drop first spans))) (sym c.as_slice.ensures)
    (All-take (λ (s : Span). s.first < 2 ^ 62) count (drop first layout.spans)
    (All-drop (λ (s : Span). s.first < 2 ^ 62) first layout.spans (all_small layout c.requires.layout)))
