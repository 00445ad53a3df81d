use Rattle.std.proofs.Common.{◌≡◌, ◌∙◌, ◌+◌, ◌++◌, ◌∷◌, ◌<◌, [], List, ap, append_assoc, arith, get_or, length, map, sym, zero-add, ℕ}
use Rattle.std.specs.List.{range_with_len}
use Rattle.std.proofs.lemmas.List.{map-append}
use Rattle.flow_core_laws.specs.Window.{claim_at, no_claim}
use Rattle.flow_core_laws.specs.declared.claim.Claim.{Claim}
use Rattle.osview_graph.specs.Arrows.{use_of}
use Rattle.osview_graph.specs.declared.uses.Use.{Use}
use Rattle.stream_match_layouts.proofs.Pushing.{range-more}
use Rattle.osview_graph.proofs.uses.add_uses.Goals as goal

one_more_use : (f : ℕ → Use) (k : ℕ) → map f (range_with_len 0 (k + 1)) ≡ map f (range_with_len 0 k) ++ f k ∷ []
one_more_use f k =
    ap (map f) (range-more 0 k) ∙ map-append f (range_with_len 0 k) ((0 + k) ∷ []) ∙ ap (λ (j : ℕ). map f (range_with_len 0 k) ++ f j ∷ []) (zero-add k)

pub loop-item-preserved : goal.loop-item-preserved
loop-item-preserved c =
    let a = c.args.activation.now in
    let k = c.loop-item.item in
    let f : ℕ → Use = λ item. use_of a.site item (claim_at a.claims item) in
    let old = c.args.all.now.items in
    let lt : k < length c.as_slice-claim-items.result.now = omega (arith, c.loop-item-test.true) in
    let claim : get_or c.as_slice-claim-items.result.now k no_claim ≡ claim_at a.claims k = ap (λ (xs : List Claim). get_or xs k no_claim) c.as_slice-claim-items.ensures in
    let used : c.use_of.result ≡ f k = c.use_of.ensures ∙ ap (use_of a.site k) claim in
    c.in_ok-push.ensures.items ∙ ap (λ (xs : List Use). xs ++ c.use_of.result ∷ []) c.loop-item.invariant
    ∙ append_assoc old (map f (range_with_len 0 k)) (c.use_of.result ∷ [])
    ∙ ap (λ (u : Use). old ++ (map f (range_with_len 0 k) ++ u ∷ [])) used ∙ ap (λ (xs : List Use). old ++ xs) (sym (one_more_use f k))
