-- Walks that grow, with a mark for each member, and that end.
use Rattle.std.proofs.Common.{◌≡◌, ◌≢◌, ℕ, ◌<◌, ◌≤◌, ◌||◌, Bool, true, false, cond, List, [], ◌∷◌, ◌++◌, Option, Some, None, length, get_or, set, replicate, refl, sym, ap, ◌∙◌, subst, arith}
use Rattle.std.specs.Prelude.{◌==◌, option_and_then}
use Rattle.std.specs.Option.{option_map}
use Rattle.std.proofs.lemmas.Bool.{eqb-true}
use Rattle.std.proofs.lemmas.Bool.Decides.{nat_tests}
use Rattle.std.proofs.lemmas.List.{get_or-replicate, get_or-set_same, get_or-set_other, length-replicate}
use Rattle.std.proofs.lemmas.List.Folds.{list_any-append}
use Rattle.std.proofs.lemmas.Map.Keys.{apart_from_distinct}
use Rattle.flow_core_laws.specs.declared.activation.Activation.{Activation}
use Rattle.flow_core_laws.specs.declared.place.Place.{Place}
use Rattle.flow_core_laws.specs.There.{missing_place}
use Rattle.flow_core_laws.specs.Window.{Window, producer}
use Rattle.flow_core_laws.specs.declared.task_end.TaskEnd.{TaskEnd}
use Rattle.stream_match_layouts.specs.declared.layout.Layout.{Layout}
use Rattle.stream_match_layouts.specs.Layout.{IsLayout, IsLayoutOf}
use Rattle.stream_match_layouts.specs.Spans.{frame_count}
use Rattle.collector.specs.declared.missing.Missing.{Missing}
use Rattle.collector.specs.Missing.{missing_at}
use Rattle.wait_certs_laws.specs.Walk.{IsWalk, waited_for}
use Rattle.wait_certs_laws.proofs.Growing.{IsGrown, few_members, contained}
use Rattle.wait_certs.specs.Searching.{has_member, unmarked}
use Rattle.wait_certs.proofs.Giving.{producer_is}

-- ---- whom an activation waits for

module _ (layout : Layout) (is : IsLayout layout) (activations : List Activation) (of : IsLayoutOf layout activations) (ends : List (Option TaskEnd)) where
  abbrev next : ℕ → Option ℕ
  next a = waited_for activations layout.input_len ends a

  pub next_exists : (a b : ℕ) → next a ≡ Some b → b < frame_count layout
  next_exists a b = by_place (missing_place activations layout.input_len ends a)
    where
      by_producer : (place : Place) (o : Option Window) → producer activations place.stream place.position ≡ o → option_map (λ (w : Window). w.activation) o ≡ Some b → b < frame_count layout
      by_producer place None found h = absurd (cc)
      by_producer place (Some w) found h =
          let same : w.activation ≡ b = cc in
          subst (λ c. c < frame_count layout) same (producer_is layout is activations of place.stream place.position w found).exists

      by_place : (o : Option Place) → option_and_then (λ (m : Missing). m.producer) (option_map (missing_at activations) o) ≡ Some b → b < frame_count layout
      by_place None h = absurd (cc)
      by_place (Some place) h = by_producer place (producer activations place.stream place.position) refl h

  -- a walk has no more members than there are activations
  pub few : (first last : ℕ) (members : List ℕ) → first < frame_count layout → IsGrown next first members last → length members ≤ frame_count layout
  few first last members exists grown = few_members next first (frame_count layout) (λ x. x < frame_count layout) (λ x lt. lt) exists (λ x b lt e. next_exists x b e) members last grown

-- ---- marks

-- the one that follows and has no mark
pub follows_unmarked : (marks : List Bool) (o : Option ℕ) (b : ℕ) → Some b ≡ option_and_then (unmarked marks) o → (o ≡ Some b) × (get_or marks b false ≡ false)
follows_unmarked marks None b h = absurd (cc)
follows_unmarked marks (Some c) b h = by (get_or marks c false) refl h
  where
    by : (t : Bool) → get_or marks c false ≡ t → Some b ≡ cond t None (Some c) → (Some c ≡ Some b) × (get_or marks b false ≡ false)
    by true e h = absurd (cc)
    by false e h = let same : c ≡ b = cc in (sym h, ap (λ x. get_or marks x false) (sym same) ∙ e)

-- one that follows where none without a mark does has one
pub follows_marked : (marks : List Bool) (o : Option ℕ) (b : ℕ) → None ≡ option_and_then (unmarked marks) o → o ≡ Some b → get_or marks b false ≡ true
follows_marked marks o b h is = by (get_or marks b false) refl (h ∙ ap (option_and_then (unmarked marks)) is)
  where
    by : (t : Bool) → get_or marks b false ≡ t → None ≡ cond t None (Some b) → get_or marks b false ≡ true
    by true e h = e
    by false e h = absurd (cc)

-- the marks of one member, and of one more
pub marked_more : (count : ℕ) (marks : List Bool) (members : List ℕ) (b : ℕ) → length marks ≡ count → b < count → ((q : ℕ) → q < count → get_or marks q false ≡ has_member members q)
    → (q : ℕ) → q < count → get_or (set marks b true) q false ≡ has_member (members ++ b ∷ []) q
marked_more count marks members b one_each exists so_far q lt = by (q == b) refl
  where
    or_true : (t : Bool) → (t || true) ≡ true
    or_true true = refl
    or_true false = refl

    or_false : (t : Bool) → (t || false) ≡ t
    or_false true = refl
    or_false false = refl

    more : has_member (members ++ b ∷ []) q ≡ (has_member members q || (q == b))
    more = list_any-append (λ x. q == x) members (b ∷ []) ∙ ap (λ t. has_member members q || t) (or_false (q == b))

    by : (t : Bool) → (q == b) ≡ t → get_or (set marks b true) q false ≡ has_member (members ++ b ∷ []) q
    by true e =
        let at : q ≡ b = eqb-true q b e in
        ap (λ j. get_or (set marks b true) j false) at ∙ get_or-set_same marks b true false (omega arith)
        ∙ sym (more ∙ ap (λ t. has_member members q || t) e ∙ or_true (has_member members q))
    by false e =
        let other : q ≢ b = λ at. absurd (grind (arith, nat_tests)) in
        get_or-set_other marks b q true false other ∙ so_far q lt ∙ sym (more ∙ ap (λ t. has_member members q || t) e ∙ or_false (has_member members q))

pub marked_first : (count first : ℕ) → first < count → (q : ℕ) → q < count → get_or (set (replicate count false) first true) q false ≡ has_member (first ∷ []) q
marked_first count first exists =
    marked_more count (replicate count false) [] first (length-replicate count false) exists (λ q lt. get_or-replicate count q false false lt)

-- ---- the whole walk

pub walk_by : (activations : List Activation) (input_len : ℕ) (ends : List (Option TaskEnd)) (first last count : ℕ) (members : List ℕ) (marks : List Bool)
    → IsGrown (waited_for activations input_len ends) first members last
    → ((q : ℕ) → q < count → get_or marks q false ≡ has_member members q)
    → ((b : ℕ) → waited_for activations input_len ends last ≡ Some b → b < count)
    → None ≡ option_and_then (unmarked marks) (waited_for activations input_len ends last) → IsWalk activations input_len ends first members
walk_by activations input_len ends first last count members marks grown marked exists none = record {
  begins = grown.begins;
  goes_on = grown.follows;
  has_each_once = λ j k less within same. differ (get_or members j 0) (get_or members k 0) (apart_from_distinct (λ x y. x == y) members j k 0 grown.distinct less within) same;
  goes_as_far = λ b is.
      let follows : waited_for activations input_len ends last ≡ Some b = ap (waited_for activations input_len ends) (sym grown.ends) ∙ is in
      contained b members (sym (marked b (exists b follows)) ∙ follows_marked marks (waited_for activations input_len ends last) b none follows);
}
  where
    differ : (x y : ℕ) → (x == y) ≡ false → x ≢ y
    differ x y e same = absurd (grind (arith, nat_tests))
