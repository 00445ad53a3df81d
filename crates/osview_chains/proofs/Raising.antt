-- One more piece of a frame.
use Rattle.std.proofs.Common.{◌≡◌, ◌∙◌, ◌⊎◌, inl, inr, ℕ, ◌+◌, ◌<◌, ◌≤◌, max, List, Some, length, get_or, set, refl, subst, sym, ap, arith}
use Rattle.std.specs.Prelude.{slice_get}
use Rattle.std.proofs.lemmas.Bool.{cases_eq, cases_lt}
use Rattle.std.proofs.lemmas.List.{get_or-set_other, get_or-set_same, length-set}
use Rattle.std.proofs.lemmas.Option.{same_Some}
use Rattle.std.specs.Prelude.{◌≢◌}
use Rattle.flow_core_laws.specs.declared.plan.Piece.{Piece}
use Rattle.flow_core_laws.specs.declared.plan.Plan.{Plan}
use Rattle.osview_chains.specs.Behind.{Feeds, Raises}

-- nothing was raised yet
pub none_raised : (plan : Plan) (low from least : ℕ) (numbers : List ℕ) → Raises plan low low from least numbers numbers
none_raised plan low from least numbers = record {
  as_many = refl;
  grows = λ g. omega arith;
  raised = λ g feeds. let a = feeds.after in let b = feeds.before in absurd (omega (arith, a, b));
  others = λ g. inl refl;
}

module _ (plan : Plan) (low high from least : ℕ) (old mid new : List ℕ) (p : Piece) (le : low ≤ high) (is : slice_get plan.pieces high ≡ Some p) (comes_from : p.from ≡ from)
    (inside : p.to < length mid) (so_far : Raises plan low high from least old mid) (new_is : new ≡ set mid p.to (max (get_or mid p.to 0) least)) where
  here : get_or new p.to 0 ≡ max (get_or mid p.to 0) least
  here = ap (λ (xs : List ℕ). get_or xs p.to 0) new_is ∙ get_or-set_same mid p.to _ 0 inside

  there : (g : ℕ) → g ≢ p.to → get_or new g 0 ≡ get_or mid g 0
  there g other = ap (λ (xs : List ℕ). get_or xs g 0) new_is ∙ get_or-set_other mid p.to g _ 0 other

  by_this : Feeds plan low (high + 1) from p.to
  by_this = record { number = high; piece = p; after = le; before = omega arith; is_there = is; comes_from = comes_from; goes_to = refl }

  earlier : (g : ℕ) → Feeds plan low high from g → Feeds plan low (high + 1) from g
  earlier g feeds = let b = feeds.before in record {
    number = feeds.number;
    piece = feeds.piece;
    after = feeds.after;
    before = omega (arith, b);
    is_there = feeds.is_there;
    comes_from = feeds.comes_from;
    goes_to = feeds.goes_to;
  }

  pub one_more_piece : Raises plan low (high + 1) from least old new
  one_more_piece = record {
    as_many = ap length new_is ∙ length-set mid p.to _ ∙ so_far.as_many;
    grows = λ g. grows_at g (cases_eq g p.to);
    raised = λ g feeds. raised_at g feeds (cases_eq g p.to) (cases_lt feeds.number high);
    others = λ g. others_at g (cases_eq g p.to);
  }
    where
      grows_at : (g : ℕ) → (g ≡ p.to) ⊎ (g ≢ p.to) → get_or old g 0 ≤ get_or new g 0
      grows_at g (inl same) = let h = here in let s = so_far.grows p.to in
          subst (λ (k : ℕ). get_or old k 0 ≤ get_or new k 0) (sym same) (omega (arith, h, s))
      grows_at g (inr other) = let t = there g other in let s = so_far.grows g in omega (arith, t, s)

      raised_at : (g : ℕ) (feeds : Feeds plan low (high + 1) from g) → (g ≡ p.to) ⊎ (g ≢ p.to) → (feeds.number < high) ⊎ (high ≤ feeds.number) → least ≤ get_or new g 0
      raised_at g feeds (inl same) _ = let h = here in subst (λ (k : ℕ). least ≤ get_or new k 0) (sym same) (omega (arith, h))
      raised_at g feeds (inr other) (inl lt) =
          let t = there g other in
          let s = so_far.raised g (record { number = feeds.number; piece = feeds.piece; after = feeds.after; before = lt; is_there = feeds.is_there; comes_from = feeds.comes_from; goes_to = feeds.goes_to }) in
          omega (arith, t, s)
      raised_at g feeds (inr other) (inr ge) =
          let b = feeds.before in
          let n : feeds.number ≡ high = omega (arith, b, ge) in
          let e : feeds.piece ≡ p = same_Some feeds.piece p (sym feeds.is_there ∙ ap (slice_get plan.pieces) n ∙ is) in
          absurd (other (sym feeds.goes_to ∙ ap (λ (q : Piece). q.to) e))

      others_at : (g : ℕ) → (g ≡ p.to) ⊎ (g ≢ p.to) → (get_or new g 0 ≡ get_or old g 0) ⊎ ((get_or new g 0 ≡ least) × Feeds plan low (high + 1) from g)
      others_at g (inl same) = subst (λ (k : ℕ). (get_or new k 0 ≡ get_or old k 0) ⊎ ((get_or new k 0 ≡ least) × Feeds plan low (high + 1) from k)) (sym same) (by_order (cases_lt (get_or mid p.to 0) least))
        where
          by_order : (get_or mid p.to 0 < least) ⊎ (least ≤ get_or mid p.to 0) → (get_or new p.to 0 ≡ get_or old p.to 0) ⊎ ((get_or new p.to 0 ≡ least) × Feeds plan low (high + 1) from p.to)
          by_order (inl lt) = let h = here in inr (omega (arith, h, lt), by_this)
          by_order (inr ge) = let h = here in was (so_far.others p.to) (omega (arith, h, ge))
            where
              was : (get_or mid p.to 0 ≡ get_or old p.to 0) ⊎ ((get_or mid p.to 0 ≡ least) × Feeds plan low high from p.to) → get_or new p.to 0 ≡ get_or mid p.to 0
                  → (get_or new p.to 0 ≡ get_or old p.to 0) ⊎ ((get_or new p.to 0 ≡ least) × Feeds plan low (high + 1) from p.to)
              was (inl same_old) e = inl (e ∙ same_old)
              was (inr (is_least, feeds)) e = inr (e ∙ is_least, by_this)
      others_at g (inr other) = was (so_far.others g)
        where
          was : (get_or mid g 0 ≡ get_or old g 0) ⊎ ((get_or mid g 0 ≡ least) × Feeds plan low high from g) → (get_or new g 0 ≡ get_or old g 0) ⊎ ((get_or new g 0 ≡ least) × Feeds plan low (high + 1) from g)
          was (inl same) = inl (there g other ∙ same)
          was (inr (is_least, feeds)) = inr (there g other ∙ is_least, earlier g feeds)
