-- One more frame of an order.
use Rattle.std.proofs.Common.{◌≡◌, ◌∙◌, ◌⊎◌, inl, inr, ℕ, ◌+◌, ◌*◌, ◌<◌, ◌≤◌, max, List, [], ◌∷◌, Option, Some, None, length, get_or, replicate, refl, subst, sym, ap, arith}
use Rattle.std.specs.Prelude.{IsSome, false, is_some, true}
use Rattle.std.proofs.lemmas.Bool.{cases_lt}
use Rattle.std.proofs.lemmas.List.{length-replicate}
use Rattle.os_io.proofs.Repeated.{get_or-repeated}
use Rattle.flow_core_laws.specs.IsSound.{IsSound}
use Rattle.flow_core_laws.specs.Plans.{frame_at, plan_reads}
use Rattle.flow_core_laws.specs.declared.plan.Plan.{Plan}
use Rattle.flow_core_laws.specs.Element.{Source}
use Rattle.osview_chains.specs.Behind.{Feeds, HasGoneThrough, IsOfChain, Raises, nothing, chain}
use Rattle.osview_chains.specs.Chains.{IsChain, IsChainFrom, IsLongest, chain_steps, steps_at}
use Rattle.osview_outcomes.specs.Order.{IsInOrder, WaitsFor}
use Rattle.osview_chains.proofs.Feeding.{fed_if_waits, waits_if_fed}

-- the first of a chain ran
first_ran : (reads : ℕ → List Source) (steps : List (Option ℕ)) (a : ℕ) (rest : List ℕ) → IsChainFrom reads steps a rest → IsSome (get_or steps a None)
first_ran reads steps a [] c = c
first_ran reads steps a (b ∷ rest) c = c.0

-- one that ran has steps
pub steps_are : (steps : List (Option ℕ)) (a n : ℕ) → get_or steps a None ≡ Some n → steps_at steps a ≡ n
steps_are steps a n is = rw is refl

has_steps : (steps : List (Option ℕ)) (a n : ℕ) → get_or steps a None ≡ Some n → IsSome (get_or steps a None)
has_steps steps a n is = ap is_some is

none_ran : (steps : List (Option ℕ)) (a : ℕ) → get_or steps a None ≡ None → IsSome (get_or steps a None) → ⊥
none_ran steps a is some = let e : false ≡ true = sym (ap is_some is) ∙ some in absurd (cc)

-- before the first turn
pub at_first : (plan : Plan) (order : List ℕ) (steps : List (Option ℕ)) (behind : List ℕ)
    → behind ≡ replicate (length plan.frames + 1) 0 → HasGoneThrough plan order steps 0 behind 0
at_first plan order steps behind zeros = record {
  as_many = ap length zeros ∙ length-replicate (length plan.frames + 1) 0;
  small = λ g. let z = zero_at g in omega (arith, z);
  are_of_chains = λ g exists. nothing (zero_at g);
  is_of_chain = nothing refl;
  counted = λ j rest lt c. absurd (omega (arith, lt));
  passed_on = λ j g rest lt c exists waits. absurd (omega (arith, lt));
}
  where
    zero_at : (g : ℕ) → get_or behind g 0 ≡ 0
    zero_at g = ap (λ (xs : List ℕ). get_or xs g 0) zeros ∙ get_or-repeated (length plan.frames + 1) g 0

module _ (plan : Plan) (order : List ℕ) (steps : List (Option ℕ)) (turn : ℕ) (behind : List ℕ) (most frame : ℕ)
    (so_far : HasGoneThrough plan order steps turn behind most) (is_next : get_or order turn 0 ≡ frame) where
  reads : ℕ → List Source
  reads = plan_reads plan

  -- a frame that never ran
  pub none_more : get_or steps frame None ≡ None → HasGoneThrough plan order steps (turn + 1) behind most
  none_more none = record {
    as_many = so_far.as_many;
    small = λ g. let s = so_far.small g in omega (arith, s);
    are_of_chains = so_far.are_of_chains;
    is_of_chain = so_far.is_of_chain;
    counted = λ j rest lt c. counted_at j rest c (cases_lt j turn) lt;
    passed_on = λ j g rest lt c exists waits. passed_at j g rest c exists waits (cases_lt j turn) lt;
  }
    where
      never : (j : ℕ) (rest : List ℕ) → turn ≤ j → j < turn + 1 → IsChainFrom (plan_reads plan) steps (get_or order j 0) rest → ⊥
      never j rest low high c =
          let at : j ≡ turn = omega (arith, low, high) in
          none_ran steps frame none (subst (λ (k : ℕ). IsSome (get_or steps k None)) (ap (λ (k : ℕ). get_or order k 0) at ∙ is_next) (first_ran (plan_reads plan) steps (get_or order j 0) rest c))

      counted_at : (j : ℕ) (rest : List ℕ) → IsChainFrom (plan_reads plan) steps (get_or order j 0) rest → (j < turn) ⊎ (turn ≤ j) → j < turn + 1
          → chain_steps steps (get_or order j 0 ∷ rest) ≤ most
      counted_at j rest c (inl lt) high = so_far.counted j rest lt c
      counted_at j rest c (inr ge) high = absurd (never j rest ge high c)

      passed_at : (j g : ℕ) (rest : List ℕ) → IsChainFrom (plan_reads plan) steps (get_or order j 0) rest → g < length plan.frames
          → WaitsFor (plan_reads plan) g (get_or order j 0) → (j < turn) ⊎ (turn ≤ j) → j < turn + 1
          → chain_steps steps (get_or order j 0 ∷ rest) ≤ get_or behind g 0
      passed_at j g rest c exists waits (inl lt) high = so_far.passed_on j g rest lt c exists waits
      passed_at j g rest c exists waits (inr ge) high = absurd (never j rest ge high c)

  -- a frame that ran
  module _ (own takes : ℕ) (raised : List ℕ) (ran : get_or steps frame None ≡ Some own) (sound : IsSound plan) (in_order : IsInOrder (plan_reads plan) (length plan.frames) order)
      (inside : turn < length order) (small : own ≤ 18446744073709551615) (takes_is : takes ≡ get_or behind frame 0 + own)
      (raises : Raises plan (frame_at plan frame).piece ((frame_at plan frame).piece + (frame_at plan frame).pieces) frame takes behind raised) where
    exists_frame : frame < length plan.frames
    exists_frame = subst (λ (k : ℕ). k < length plan.frames) is_next (in_order.exist turn inside)

    -- there is a chain from the frame with as many steps
    longest_from : (rest : List ℕ) × IsChainFrom (plan_reads plan) steps frame rest × (chain_steps steps (frame ∷ rest) ≡ takes)
    longest_from = by_chain (so_far.are_of_chains frame exists_frame)
      where
        by_chain : IsOfChain (plan_reads plan) steps (WaitsFor (plan_reads plan) frame) (get_or behind frame 0)
            → (rest : List ℕ) × IsChainFrom (plan_reads plan) steps frame rest × (chain_steps steps (frame ∷ rest) ≡ takes)
        by_chain (nothing zero) =
            let n = steps_are steps frame own ran in
            ([], has_steps steps frame own ran, omega (arith, n, zero, takes_is))
        by_chain (chain b rest is waits are) =
            let n = steps_are steps frame own ran in
            (b ∷ rest, (has_steps steps frame own ran, waits, is), omega (arith, n, are, takes_is))

    -- and none from it has more
    none_from : (rest : List ℕ) → IsChainFrom (plan_reads plan) steps frame rest → chain_steps steps (frame ∷ rest) ≤ takes
    none_from [] c = let n = steps_are steps frame own ran in omega (arith, n, takes_is)
    none_from (b ∷ rest) (some, waits, c) =
        let n = steps_are steps frame own ran in
        let (j, lt, at) = in_order.behind turn b inside (subst (λ (k : ℕ). WaitsFor (plan_reads plan) k b) (sym is_next) waits) in
        let le : chain_steps steps (get_or order j 0 ∷ rest) ≤ get_or behind frame 0 = so_far.passed_on j frame rest lt (subst (λ (k : ℕ). IsChainFrom (plan_reads plan) steps k rest) (sym at) c)
        exists_frame (subst (WaitsFor (plan_reads plan) frame) (sym at) waits) in
        let le_b : chain_steps steps (b ∷ rest) ≤ get_or behind frame 0 = subst (λ (k : ℕ). chain_steps steps (k ∷ rest) ≤ get_or behind frame 0) at le in
        omega (arith, n, le_b, takes_is)

    at_next : (j : ℕ) → turn ≤ j → j < turn + 1 → get_or order j 0 ≡ frame
    at_next j low high = let at : j ≡ turn = omega (arith, low, high) in ap (λ (k : ℕ). get_or order k 0) at ∙ is_next

    small_takes : takes ≤ (turn + 1) * 18446744073709551615
    small_takes = let s = so_far.small frame in omega (arith, s, takes_is, small)

    pub one_more : HasGoneThrough plan order steps (turn + 1) raised (max most takes)
    one_more = record {
      as_many = raises.as_many ∙ so_far.as_many;
      small = λ g. small_at g (raises.others g);
      are_of_chains = λ g exists. chain_at g exists (raises.others g);
      is_of_chain = most_at (cases_lt most takes) so_far.is_of_chain;
      counted = λ j rest lt c. counted_at j rest c (cases_lt j turn) lt;
      passed_on = λ j g rest lt c exists waits. passed_at j g rest c exists waits (cases_lt j turn) lt;
    }
      where
        small_at : (g : ℕ) → (get_or raised g 0 ≡ get_or behind g 0) ⊎ ((get_or raised g 0 ≡ takes) × Feeds plan (frame_at plan frame).piece ((frame_at plan frame).piece + (frame_at plan frame).pieces) frame g)
            → get_or raised g 0 ≤ (turn + 1) * 18446744073709551615
        small_at g (inl same) = let s = so_far.small g in omega (arith, s, same)
        small_at g (inr (is, feeds)) = let s = small_takes in omega (arith, s, is)

        chain_at : (g : ℕ) → g < length plan.frames → (get_or raised g 0 ≡ get_or behind g 0) ⊎ ((get_or raised g 0 ≡ takes) × Feeds plan (frame_at plan frame).piece ((frame_at plan frame).piece + (frame_at plan frame).pieces) frame g)
            → IsOfChain (plan_reads plan) steps (WaitsFor (plan_reads plan) g) (get_or raised g 0)
        chain_at g exists (inl same) = subst (IsOfChain (plan_reads plan) steps (WaitsFor (plan_reads plan) g)) (sym same) (so_far.are_of_chains g exists)
        chain_at g exists (inr (is, feeds)) =
            let (rest, c, are) = longest_from in
            chain frame rest c (waits_if_fed plan _ _ frame g sound feeds) (are ∙ sym is)

        most_at : (most < takes) ⊎ (takes ≤ most) → IsOfChain (plan_reads plan) steps (λ b. Unit {0}) most → IsOfChain (plan_reads plan) steps (λ b. Unit {0}) (max most takes)
        most_at (inl lt) old = let (rest, c, are) = longest_from in let m : max most takes ≡ takes = omega (arith, lt) in chain frame rest c tt (are ∙ sym m)
        most_at (inr le) old = let m : max most takes ≡ most = omega (arith, le) in subst (IsOfChain (plan_reads plan) steps (λ b. Unit {0})) (sym m) old

        counted_at : (j : ℕ) (rest : List ℕ) → IsChainFrom (plan_reads plan) steps (get_or order j 0) rest → (j < turn) ⊎ (turn ≤ j) → j < turn + 1
            → chain_steps steps (get_or order j 0 ∷ rest) ≤ max most takes
        counted_at j rest c (inl lt) high = let le = so_far.counted j rest lt c in omega (arith, le)
        counted_at j rest c (inr ge) high =
            let at = at_next j ge high in
            let le = none_from rest (subst (λ (k : ℕ). IsChainFrom (plan_reads plan) steps k rest) at c) in
            let le_at : chain_steps steps (get_or order j 0 ∷ rest) ≤ takes = subst (λ (k : ℕ). chain_steps steps (k ∷ rest) ≤ takes) (sym at) le in
            omega (arith, le_at)

        passed_at : (j g : ℕ) (rest : List ℕ) → IsChainFrom (plan_reads plan) steps (get_or order j 0) rest → g < length plan.frames
            → WaitsFor (plan_reads plan) g (get_or order j 0) → (j < turn) ⊎ (turn ≤ j) → j < turn + 1
            → chain_steps steps (get_or order j 0 ∷ rest) ≤ get_or raised g 0
        passed_at j g rest c exists waits (inl lt) high =
            let le = so_far.passed_on j g rest lt c exists waits in
            let up = raises.grows g in
            omega (arith, le, up)
        passed_at j g rest c exists waits (inr ge) high =
            let at = at_next j ge high in
            let le = none_from rest (subst (λ (k : ℕ). IsChainFrom (plan_reads plan) steps k rest) at c) in
            let le_at : chain_steps steps (get_or order j 0 ∷ rest) ≤ takes = subst (λ (k : ℕ). chain_steps steps (k ∷ rest) ≤ takes) (sym at) le in
            let up = raises.raised g (fed_if_waits plan frame g sound exists (subst (WaitsFor (plan_reads plan) g) at waits)) in
            omega (arith, le_at, up)

-- after the last turn
pub at_last : (plan : Plan) (order : List ℕ) (steps : List (Option ℕ)) (behind : List ℕ) (most turn : ℕ) → length order ≤ turn
    → ((f : ℕ) → IsSome (get_or steps f None) → (k : ℕ) × (k < length order) × (get_or order k 0 ≡ f))
    → HasGoneThrough plan order steps turn behind most → IsLongest (plan_reads plan) steps most
at_last plan order steps behind most turn over listed through = by_chain through.is_of_chain
  where
    none_longer : (other : List ℕ) → IsChain (plan_reads plan) steps other → chain_steps steps other ≤ most
    none_longer [] c = omega arith
    none_longer (a ∷ rest) c =
        let (k, lt, at) = listed a (first_ran (plan_reads plan) steps a rest c) in
        let le = through.counted k rest (omega (arith, lt, over)) (subst (λ (b : ℕ). IsChainFrom (plan_reads plan) steps b rest) (sym at) c) in
        subst (λ (b : ℕ). chain_steps steps (b ∷ rest) ≤ most) at le

    by_chain : IsOfChain (plan_reads plan) steps (λ b. Unit {0}) most → IsLongest (plan_reads plan) steps most
    by_chain (nothing zero) = record { chain = []; is_chain = tt; takes = sym zero; none_longer = none_longer }
    by_chain (chain b rest c _ are) = record { chain = b ∷ rest; is_chain = c; takes = are; none_longer = none_longer }
