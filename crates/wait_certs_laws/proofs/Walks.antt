-- That walks are chains, and that each starved activation has one.
use Rattle.std.proofs.Common.{◌≡◌, ◌≢◌, ℕ, zero, suc, ◌+◌, ◌-◌, ◌<◌, ℤ, Bool, true, false, cond, ◌&&◌, List, [], ◌∷◌, Option, Some, None, length, get_or, refl, sym, ap, ◌∙◌, subst, ◌⊎◌, inl, inr, arith}
use Rattle.std.specs.Prelude.{◌==◌, nat_lt, slice_get, slice_index, option_and_then, Contains, is_some, IsSome}
use Rattle.std.specs.Option.{option_map, option_map_or}
use Rattle.std.proofs.lemmas.Bool.{and_parts, eqb-true}
use Rattle.std.proofs.lemmas.Bool.Decides.{nat_tests}
use Rattle.std.proofs.lemmas.Map.Keys.{IsDistinct-from_apart, apart_from_distinct}
use Rattle.std.proofs.lemmas.Option.{same_Some, slice_get_within, get_or_from_slice_get}
use Rattle.flow_core_laws.specs.declared.activation.Activation.{Activation}
use Rattle.flow_core_laws.specs.Place.{input_places}
use Rattle.flow_core_laws.specs.Window.{Window, windows, producer, is_written_by}
use Rattle.flow_core_laws.proofs.Sources.{find_passes}
use Rattle.flow_core_laws.proofs.Windows.{is_window, written}
use Rattle.flow_core_laws.specs.declared.outcome.Outcome.{Outcome}
use Rattle.flow_core_laws.specs.declared.place.Place.{Place}
use Rattle.flow_core_laws.specs.declared.task_end.TaskEnd.{TaskEnd}
use Rattle.flow_core_laws.specs.Laws.{IsFilled}
use Rattle.flow_core_laws.specs.Outcome.{has_end_at}
use Rattle.flow_core_laws.specs.Streams.{stream_meaning}
use Rattle.flow_core_laws.specs.There.{is_there, missing_place}
use Rattle.collector.specs.declared.missing.Missing.{Missing}
use Rattle.collector.specs.Missing.{missing_at, producing, missing}
use Rattle.collector.proofs.Firsts.{one_found}
use Rattle.collector.proofs.Starving.{has_lines, producers_wait}
use Rattle.stream_match_layouts.specs.Lawful.{AreLawful, IsLawfulClaim}
use Rattle.stream_match_layouts.proofs.Windows.{no_window}
use Rattle.stream_match_layouts.proofs.Writers.{lawful_window, window_number}
use Rattle.wait_certs_laws.specs.Chain.{the_input, activation, nobody, giver, Awaits, last_of, IsChain}
use Rattle.wait_certs_laws.specs.Walk.{waited_for, IsWalk}
use Rattle.wait_certs_laws.specs.Laws.{IsStarved, ends_in, OfStarved, IsShortChain, WalksAreChains, HasChain}
use Rattle.wait_certs_laws.proofs.Growing.{IsGrown, IsWhole, each_member, few_members, whole, contained}

module _ (streams : ℕ) (activations : List Activation) (input : List ℕ) (body : ℕ → List ℤ → Outcome) (lawful : AreLawful streams activations)
    (filled : IsFilled activations (stream_meaning activations input body)) where
  abbrev ends : List (Option TaskEnd)
  ends = ends_in activations input body

  abbrev next : ℕ → Option ℕ
  next x = waited_for activations (length input) ends x

  -- an activation that is there and starved
  pub record Starves (x : ℕ) : Type 0 where
    pub exists : x < length activations
    pub starved : IsStarved ends x

  -- what it misses
  record Misses (x : ℕ) : Type 0 where
    pub place : Place
    pub missed : missing activations (length input) ends x ≡ Some (missing_at activations place)
    pub is_read : Contains (input_places activations x) place
    pub given : giver activations (length input) place ≡ option_map_or activation (producing activations place) nobody

  -- the giver of an element that isn't there
  giver_is : (place : Place) → is_there activations (length input) ends place ≡ false → giver activations (length input) place ≡ option_map_or activation (producing activations place) nobody
  giver_is place = by (place.stream == 0) (nat_lt place.position (length input))
    where
      by : (b c : Bool) → cond b c (option_map_or (λ (w : Window). has_end_at ends w.activation) (producer activations place.stream place.position) false) ≡ false
          → cond (b && c) the_input (option_map_or activation (producing activations place) nobody) ≡ option_map_or activation (producing activations place) nobody
      by true true h = absurd (cc)
      by true false h = refl
      by false c h = refl

  misses : (x : ℕ) → Starves x → Misses x
  misses x starves = by (missing_place activations (length input) ends x) refl ((has_lines activations input body filled).misses x starves.exists (none_there (get_or ends x None) starves.starved))
    where
      none_there : (o : Option TaskEnd) → is_some o ≡ false → o ≡ None
      none_there None h = refl
      none_there (Some end) h = absurd (cc)

      stands : (xs : List Place) (k : ℕ) (place : Place) → slice_get xs k ≡ Some place → get_or xs k place ≡ place
      stands [] k place h = absurd (cc)
      stands (y ∷ ys) zero place h = cc
      stands (y ∷ ys) (suc k) place h = stands ys k place h

      by : (o : Option Place) → missing_place activations (length input) ends x ≡ o → IsSome (option_map (missing_at activations) o) → Misses x
      by None is some = absurd (cc)
      by (Some place) is some =
          let f = one_found (is_there activations (length input) ends) (input_places activations x) place is in
          record {
            place = place;
            missed = ap (option_map (missing_at activations)) is;
            is_read = (f.number, slice_get_within (input_places activations x) f.number place f.stands, stands (input_places activations x) f.number place f.stands);
            given = giver_is place f.fails;
          }

  -- whom it waits for
  next_is : (x : ℕ) (m : Misses x) → next x ≡ producing activations m.place
  next_is x m = ap (option_and_then (λ (n : Missing). n.producer)) m.missed

  -- nobody writes the input
  written_stream : (stream position : ℕ) (w : Window) → producer activations stream position ≡ Some w → (stream ≢ 0) × (w.activation < length activations)
  written_stream stream position w is =
      let (i, at, passes) = find_passes (is_written_by stream position) (windows activations) w is in
      let writes = written stream position w passes in
      let s = is_window activations i w at in
      let on = and_parts w.claim.write (w.claim.stream == stream) writes.on_stream in
      let same : window_number activations i ≡ w = get_or_from_slice_get (windows activations) i w no_window at in
      let l = lawful_window streams activations lawful i (slice_get_within (windows activations) i w at) in
      let claim : (window_number activations i).claim ≡ w.claim = ap (λ (v : Window). v.claim) same in
      let l_w : IsLawfulClaim streams w.claim = subst (IsLawfulClaim streams) claim l in
      let stream_is : w.claim.stream ≡ stream = eqb-true w.claim.stream stream on.1 in
      let activation_is : w.activation ≡ s.a = ap (λ (v : Window). v.activation) s.is in
      let exists = s.exists in
      (λ zero_is. l_w.input_is_read on.0 (stream_is ∙ zero_is), omega arith)

  -- that one starves too
  next_starves : (x b : ℕ) → Starves x → next x ≡ Some b → Starves b
  next_starves x b starves is = by (producer activations m.place.stream m.place.position) refl
    where
      m : Misses x
      m = misses x starves

      named : producing activations m.place ≡ Some b
      named = sym (next_is x m) ∙ is

      by : (o : Option Window) → producer activations m.place.stream m.place.position ≡ o → Starves b
      by None found = absurd (let never : None ≡ Some b = ap (option_map (λ (w : Window). w.activation)) (sym found) ∙ named in cc)
      by (Some w) found =
          let here : Some w.activation ≡ Some b = ap (option_map (λ (w : Window). w.activation)) (sym found) ∙ named in
          let same : w.activation ≡ b = same_Some w.activation b here in
          let facts = written_stream m.place.stream m.place.position w found in
          let within = facts.1 in
          record {
            exists = omega arith;
            starved = producers_wait activations (length input) ends x (missing_at activations m.place) b m.missed facts.0 named;
          }

  awaits : (x b : ℕ) → Starves x → next x ≡ Some b → Awaits activations (length input) x (activation b)
  awaits x b starves is =
      let m = misses x starves in
      (m.place, m.is_read, m.given ∙ ap (λ o. option_map_or activation o nobody) (sym (next_is x m) ∙ is))

  awaits_nobody : (x : ℕ) → Starves x → next x ≡ None → Awaits activations (length input) x nobody
  awaits_nobody x starves is =
      let m = misses x starves in
      (m.place, m.is_read, m.given ∙ ap (λ o. option_map_or activation o nobody) (sym (next_is x m) ∙ is))

  module _ (a : ℕ) (starves : Starves a) where
    -- a walk is one that has grown
    grown_of : (members : List ℕ) → IsWalk activations (length input) ends a members → IsGrown next a members (last_of members)
    grown_of members walk = record {
      has_members = slice_get_within members 0 a walk.begins;
      begins = walk.begins;
      ends = refl;
      distinct = IsDistinct-from_apart (λ x y. x == y) members (λ i j d less within.
          apart (get_or members i d) (get_or members j d) (λ same.
          walk.has_each_once i j less within (other_default members i d (omega arith) ∙ same ∙ sym (other_default members j d within))));
      follows = walk.goes_on;
    }
      where
        other_default : (xs : List ℕ) (i d : ℕ) → i < length xs → get_or xs i 0 ≡ get_or xs i d
        other_default [] i d l = absurd (omega arith)
        other_default (x ∷ xs) zero d l = refl
        other_default (x ∷ xs) (suc i) d l = other_default xs i d (omega arith)

        apart : (x y : ℕ) → x ≢ y → (x == y) ≡ false
        apart x y differ = by (x == y) refl
          where
            by : (t : Bool) → (x == y) ≡ t → (x == y) ≡ false
            by true e = absurd (differ (eqb-true x y e))
            by false e = e

    is_chain : (members : List ℕ) → IsWalk activations (length input) ends a members → IsChain activations (length input) members
    is_chain members walk = record {
      has_members = grown.has_members;
      members_exist = λ k d lt. subst (λ x. x < length activations) (other_default members k d lt) (each k lt).exists;
      awaits_next = λ k lt. awaits (slice_index members k) (slice_index members (k + 1)) (each k (omega arith)) (walk.goes_on k lt);
      ends_in_vain = at_end (next (last_of members)) refl;
    }
      where
        grown : IsGrown next a members (last_of members)
        grown = grown_of members walk

        each : (k : ℕ) → k < length members → Starves (get_or members k 0)
        each = each_member next a Starves starves next_starves members (last_of members) grown

        at_last : Starves (last_of members)
        at_last = let some = grown.has_members in each (length members - 1) (omega arith)

        at_end : (o : Option ℕ) → next (last_of members) ≡ o
            → (Awaits activations (length input) (last_of members) nobody) ⊎ ((b : ℕ) × Contains members b × Awaits activations (length input) (last_of members) (activation b))
        at_end None is = inl (awaits_nobody (last_of members) at_last is)
        at_end (Some b) is = inr (b, walk.goes_as_far b is, awaits (last_of members) b at_last is)

        other_default : (xs : List ℕ) (i d : ℕ) → i < length xs → get_or xs i 0 ≡ get_or xs i d
        other_default [] i d l = absurd (omega arith)
        other_default (x ∷ xs) zero d l = refl
        other_default (x ∷ xs) (suc i) d l = other_default xs i d (omega arith)

    pub short_chain : (members : List ℕ) → IsWalk activations (length input) ends a members → IsShortChain activations (length input) members
    short_chain members walk = record {
      is_chain = is_chain members walk;
      is_short = few_members next a (length activations) Starves (λ x s. s.exists) starves next_starves members (last_of members) (grown_of members walk);
    }

    -- what has grown as far as it can is a walk
    walk_of : (members : List ℕ) → IsWhole next a members → IsWalk activations (length input) ends a members
    walk_of members all = record {
      begins = all.grown.begins;
      goes_on = all.grown.follows;
      has_each_once = λ j k less within same. differ (get_or members j 0) (get_or members k 0) (apart_from_distinct (λ x y. x == y) members j k 0 all.grown.distinct less within) same;
      goes_as_far = λ b is. contained b members (all.goes_as_far b (ap next (sym all.grown.ends) ∙ is));
    }
      where
        differ : (x y : ℕ) → (x == y) ≡ false → x ≢ y
        differ x y e same = absurd (grind (arith, nat_tests))

    pub a_walk : (members : List ℕ) × IsWalk activations (length input) ends a members
    a_walk =
        let (members, all) = whole next a (length activations) Starves (λ x s. s.exists) starves next_starves in
        (members, walk_of members all)

pub walks_are_chains : OfStarved WalksAreChains
walks_are_chains streams activations input body a lawful filled exists starved members walk =
    short_chain streams activations input body lawful filled a (record { exists = exists; starved = starved }) members walk

pub have_chains : OfStarved HasChain
have_chains streams activations input body a lawful filled exists starved =
    let (members, walk) = a_walk streams activations input body lawful filled a (record { exists = exists; starved = starved }) in
    (members, walk.begins, short_chain streams activations input body lawful filled a (record { exists = exists; starved = starved }) members walk, walk)
