use Rattle.std.proofs.Common.{◌∙◌, ℕ, ◌+◌, ◌++◌, ◌∷◌, [], ap, sym, map, refl}
use Rattle.std.specs.List.{range_with_len}
use Rattle.std.proofs.lemmas.List.{append_assoc}
use Rattle.std.proofs.lemmas.List.FromFn.{map-range_with_len_more}
use Rattle.flow_core_laws.specs.declared.place.Place.{Place}
use Rattle.stream_match.proofs.places.add_places.Goals as goal

pub loop-offset-preserved : goal.loop-offset-preserved
loop-offset-preserved c =
    let s = c.args.stretch in
    let k = c.loop-offset.offset in
    let now = c.loop-offset.places in
    let old = c.args.places.now in
    let f : ℕ → Place = λ position. record { stream = s.stream; position = position } in
    c.in_ok-push.ensures.ok
    ∙ ap (λ n. now ++ f (s.first + n) ∷ []) c.from.ensures
    ∙ ap (λ xs. xs ++ f (s.first + k) ∷ []) c.loop-offset.invariant
    ∙ append_assoc old (map f (range_with_len s.first k)) (f (s.first + k) ∷ [])
    ∙ ap (λ xs. old ++ xs) (sym (map-range_with_len_more f s.first k (s.first + k) refl))
