-- Givers of elements over a layout, where nobody writes the input.
use Rattle.std.proofs.Common.{◌≡◌, ℕ, zero, suc, ◌<◌, ◌&&◌, ◌||◌, Bool, true, false, cond, not, List, [], ◌∷◌, Option, Some, None, length, get_or, refl, sym, ap, ◌∙◌, subst, ◌⊎◌, inl, inr, arith}
use Rattle.std.specs.Prelude.{◌==◌, nat_lt, slice_get, All, Contains, is_some}
use Rattle.std.specs.List.{list_any}
use Rattle.std.specs.Option.{option_map, option_map_or}
use Rattle.std.proofs.lemmas.Bool.{and_parts, eqb-true}
use Rattle.std.proofs.lemmas.Bool.Decides.{nat_tests}
use Rattle.std.proofs.lemmas.List.Folds.{list_any_at}
use Rattle.std.proofs.lemmas.Option.{same_Some, slice_get_within, slice_get-map, get_or_from_slice_get}
use Rattle.wait_certs_laws.proofs.Growing.{contained}
use Rattle.flow_core_laws.specs.declared.activation.Activation.{Activation}
use Rattle.flow_core_laws.specs.declared.place.Place.{Place}
use Rattle.flow_core_laws.specs.declared.task_end.TaskEnd.{TaskEnd}
use Rattle.flow_core_laws.specs.Outcome.{has_end_at}
use Rattle.flow_core_laws.specs.Place.{input_places}
use Rattle.flow_core_laws.specs.There.{is_there, missing_place}
use Rattle.flow_core_laws.specs.Window.{Window, windows, producer, is_written_by}
use Rattle.flow_core_laws.proofs.Sources.{find_passes}
use Rattle.flow_core_laws.proofs.Windows.{IsWindow, is_window, written}
use Rattle.stream_match_layouts.specs.declared.layout.Layout.{Layout}
use Rattle.stream_match_layouts.specs.declared.span.Span.{Span}
use Rattle.stream_match_layouts.specs.Lawful.{IsLawfulClaim}
use Rattle.stream_match_layouts.specs.Layout.{IsLayout, IsLayoutOf, span_of}
use Rattle.stream_match_layouts.specs.Spans.{frame_count}
use Rattle.stream_match_layouts.proofs.Tallies.{frame_count-is}
use Rattle.stream_match_layouts.proofs.Windows.{no_window}
use Rattle.stream_match_layouts.proofs.Writers.{lawful_window, window_number}
use Rattle.collector.specs.Missing.{missing, missing_at, producing}
use Rattle.collector.proofs.Firsts.{none_found, one_found}
use Rattle.wait_certs_laws.specs.Chain.{the_input, activation, nobody, giver, Awaits, last_of}
use Rattle.wait_certs.specs.Searching.{AllEndedBut, EndsInVain, is_produced_by, reads_from, has_member}

same_test : (a b : ℕ) → a ≡ b → (a == b) ≡ true
same_test a b e = grind (arith, nat_tests)

pub has_contained : (b : ℕ) (xs : List ℕ) → Contains xs b → list_any (λ x. b == x) xs ≡ true
has_contained b xs (k, lt, at) = list_any_at (λ x. b == x) xs k b lt (same_test b (get_or xs k b) (sym at))

module _ (layout : Layout) (is : IsLayout layout) (activations : List Activation) (of : IsLayoutOf layout activations) where
  -- a producer is there, and writes no input
  pub record Producer (stream position : ℕ) (w : Window) : Type 0 where
    pub exists : w.activation < frame_count layout
    pub no_input : (stream == 0) ≡ false

  pub producer_is : (stream position : ℕ) (w : Window) → producer activations stream position ≡ Some w → Producer stream position w
  producer_is stream position w found = record {
    exists = let e = s.exists in omega (arith, frame_count-is layout activations of, ap (λ (v : Window). v.activation) s.is);
    no_input = by (stream == 0) refl;
  }
    where
      passing : (i : ℕ) × (slice_get (windows activations) i ≡ Some w) × (is_written_by stream position w ≡ true)
      passing = find_passes (is_written_by stream position) (windows activations) w found

      s : IsWindow activations passing.0 w
      s = is_window activations passing.0 w passing.1

      on : (w.claim.write ≡ true) × ((w.claim.stream == stream) ≡ true)
      on = and_parts w.claim.write (w.claim.stream == stream) (written stream position w passing.2).on_stream

      -- the window of its number among those that are lawful
      lawful : (v : Window) × (slice_get (windows is.activations) passing.0 ≡ Some v) × (span_of v ≡ span_of w)
      lawful = by_option (slice_get (windows is.activations) passing.0) refl
        where
          both : option_map span_of (slice_get (windows is.activations) passing.0) ≡ Some (span_of w)
          both =
              sym (slice_get-map span_of (windows is.activations) passing.0)
              ∙ ap (λ xs. slice_get xs passing.0) (sym is.is_of.of_windows.spans ∙ of.of_windows.spans)
              ∙ slice_get-map span_of (windows activations) passing.0
              ∙ ap (option_map span_of) passing.1

          by_option : (o : Option Window) → slice_get (windows is.activations) passing.0 ≡ o → (v : Window) × (slice_get (windows is.activations) passing.0 ≡ Some v) × (span_of v ≡ span_of w)
          by_option None e = absurd (let never : None ≡ Some (span_of w) = ap (option_map span_of) (sym e) ∙ both in cc)
          by_option (Some v) e = (v, e, same_Some (span_of v) (span_of w) (ap (option_map span_of) (sym e) ∙ both))

      by : (t : Bool) → (stream == 0) ≡ t → (stream == 0) ≡ false
      by false e = e
      by true e =
          let (v, at, same) = lawful in
          let i = passing.0 in
          let here : window_number is.activations i ≡ v = get_or_from_slice_get (windows is.activations) i v no_window at in
          let l : IsLawfulClaim (length layout.writers) v.claim = subst (λ (u : Window). IsLawfulClaim (length layout.writers) u.claim) here (lawful_window (length layout.writers) is.activations is.lawful i (slice_get_within (windows is.activations) i v at)) in
          let writes : v.claim.write ≡ true = ap (λ (t : Span). t.write) same ∙ on.0 in
          let stream_is : v.claim.stream ≡ stream = ap (λ (t : Span). t.stream) same ∙ eqb-true w.claim.stream stream on.1 in
          absurd (l.input_is_read writes (stream_is ∙ eqb-true stream 0 e))

  -- whether an activation should write an element is whether it is its giver
  given_by : (input_len b : ℕ) (place : Place) → is_produced_by activations b place ≡ true → giver activations input_len place ≡ activation b
  given_by input_len b place = by (producer activations place.stream place.position) refl
    where
      by : (o : Option Window) → producer activations place.stream place.position ≡ o → option_map_or (λ a. a == b) (option_map (λ (w : Window). w.activation) (producer activations place.stream place.position)) false ≡ true
          → giver activations input_len place ≡ activation b
      by None found h = absurd (let never : false ≡ true = ap (λ o. option_map_or (λ a. a == b) (option_map (λ (w : Window). w.activation) o) false) (sym found) ∙ h in cc)
      by (Some w) found h =
          let same : w.activation ≡ b = eqb-true w.activation b (ap (λ o. option_map_or (λ a. a == b) (option_map (λ (v : Window). v.activation) o) false) (sym found) ∙ h) in
          ap (λ t. cond (t && nat_lt place.position input_len) the_input (option_map_or activation (producing activations place) nobody)) (producer_is place.stream place.position w found).no_input
          ∙ ap (λ o. option_map_or activation (option_map (λ (v : Window). v.activation) o) nobody) found
          ∙ ap activation same

  produced_by : (input_len b : ℕ) (place : Place) → giver activations input_len place ≡ activation b → is_produced_by activations b place ≡ true
  produced_by input_len b place = by (place.stream == 0 && nat_lt place.position input_len) (producing activations place)
    where
      by : (t : Bool) (o : Option ℕ) → cond t the_input (option_map_or activation o nobody) ≡ activation b → option_map_or (λ a. a == b) o false ≡ true
      by true o h = absurd (cc)
      by false None h = absurd (cc)
      by false (Some a) h = same_test a b (let e : a ≡ b = cc in e)

  pub awaits_by : (input_len a b : ℕ) → reads_from activations a b ≡ true → Awaits activations input_len a (activation b)
  awaits_by input_len a b h =
      let (place, stands, passes) = among (input_places activations a) h in
      (place, stands, given_by input_len b place passes)
    where
      among : (ps : List Place) → list_any (is_produced_by activations b) ps ≡ true → (place : Place) × Contains ps place × (is_produced_by activations b place ≡ true)
      among [] h = absurd (cc)
      among (p ∷ ps) h = by (is_produced_by activations b p) refl h (among ps)
        where
          by : (t : Bool) → is_produced_by activations b p ≡ t → (t || list_any (is_produced_by activations b) ps) ≡ true
              → (list_any (is_produced_by activations b) ps ≡ true → (place : Place) × Contains ps place × (is_produced_by activations b place ≡ true))
              → (place : Place) × Contains (p ∷ ps) place × (is_produced_by activations b place ≡ true)
          by true e h rest = (p, (0, omega arith, refl), e)
          by false e h rest = let (place, (k, lt, at), passes) = rest h in (place, (suc k, omega arith, at), passes)

  pub reads_by : (input_len a b : ℕ) → Awaits activations input_len a (activation b) → reads_from activations a b ≡ true
  reads_by input_len a b (place, (k, lt, at), given) =
      list_any_at (is_produced_by activations b) (input_places activations a) k place lt (ap (is_produced_by activations b) at ∙ produced_by input_len b place given)

  -- What an activation misses where all but the members of a list have an end.
  module _ (members : List ℕ) (ends : List (Option TaskEnd)) (ended : AllEndedBut layout members ends) where
    abbrev there : ℕ → Place → Bool
    there input_len place = is_there activations input_len ends place

    -- an element that isn't there comes from nobody or from a member
    from_gap : (input_len : ℕ) (place : Place) → there input_len place ≡ false → (giver activations input_len place ≡ nobody) ⊎ ((b : ℕ) × Contains members b × (giver activations input_len place ≡ activation b))
    from_gap input_len place = by (place.stream == 0) refl (nat_lt place.position input_len) (producer activations place.stream place.position) refl
      where
        by : (t : Bool) → (place.stream == 0) ≡ t → (c : Bool) (o : Option Window) → producer activations place.stream place.position ≡ o
            → cond t c (option_map_or (λ (w : Window). has_end_at ends w.activation) o false) ≡ false
            → (cond (t && c) the_input (option_map_or activation (option_map (λ (w : Window). w.activation) o) nobody) ≡ nobody)
            ⊎ ((b : ℕ) × Contains members b × (cond (t && c) the_input (option_map_or activation (option_map (λ (w : Window). w.activation) o) nobody) ≡ activation b))
        by true e true o found h = absurd (cc)
        by true e false None found h = inl refl
        by true e false (Some w) found h = absurd (let never : true ≡ false = sym e ∙ (producer_is place.stream place.position w found).no_input in cc)
        by false e c None found h = inl refl
        by false e c (Some w) found h =
            let exists = (producer_is place.stream place.position w found).exists in
            inr (w.activation, contained w.activation members (turned (has_member members w.activation) (sym (ended w.activation exists) ∙ h)), refl)
          where
            turned : (b : Bool) → not b ≡ false → b ≡ true
            turned true n = refl
            turned false n = absurd (cc)

    -- and such an element isn't there
    gap_from : (input_len : ℕ) (place : Place) → All (λ a. a < frame_count layout) members
        → (giver activations input_len place ≡ nobody) ⊎ ((b : ℕ) × Contains members b × (giver activations input_len place ≡ activation b)) → there input_len place ≡ false
    gap_from input_len place exist = by (place.stream == 0) (nat_lt place.position input_len) (producer activations place.stream place.position)
      where
        by : (t c : Bool) (o : Option Window)
            → (cond (t && c) the_input (option_map_or activation (option_map (λ (w : Window). w.activation) o) nobody) ≡ nobody)
            ⊎ ((b : ℕ) × Contains members b × (cond (t && c) the_input (option_map_or activation (option_map (λ (w : Window). w.activation) o) nobody) ≡ activation b))
            → cond t c (option_map_or (λ (w : Window). has_end_at ends w.activation) o false) ≡ false
        by true true o (inl h) = absurd (cc)
        by true true o (inr (b, in_members, h)) = absurd (cc)
        by true false o h = refl
        by false c None h = refl
        by false c (Some w) (inl h) = absurd (cc)
        by false c (Some w) (inr (b, (k, lt, at), h)) =
            let same : w.activation ≡ b = cc in
            let within : b < frame_count layout = subst (λ x. x < frame_count layout) at (exist k b lt) in
            ap (has_end_at ends) same ∙ ended b within ∙ ap not (has_contained b members (k, lt, at))

    -- so an element is missing exactly where the last member awaits in vain
    pub in_vain : (input_len : ℕ) → is_some (missing activations input_len ends (last_of members)) ≡ true → EndsInVain activations input_len members
    in_vain input_len = by (missing_place activations input_len ends (last_of members)) refl
      where
        by : (o : Option Place) → missing_place activations input_len ends (last_of members) ≡ o → is_some (option_map (missing_at activations) o) ≡ true → EndsInVain activations input_len members
        by None found h = absurd (cc)
        by (Some place) found h =
            let f = one_found (there input_len) (input_places activations (last_of members)) place found in
            of_place place (f.number, slice_get_within (input_places activations (last_of members)) f.number place f.stands, stands (input_places activations (last_of members)) f.number place f.stands) (from_gap input_len place f.fails)
          where
            stands : (xs : List Place) (k : ℕ) (p : Place) → slice_get xs k ≡ Some p → get_or xs k p ≡ p
            stands [] k p h = absurd (cc)
            stands (y ∷ ys) zero p h = cc
            stands (y ∷ ys) (suc k) p h = stands ys k p h

            of_place : (p : Place) → Contains (input_places activations (last_of members)) p → (giver activations input_len p ≡ nobody) ⊎ ((b : ℕ) × Contains members b × (giver activations input_len p ≡ activation b)) → EndsInVain activations input_len members
            of_place p at (inl given) = inl (p, at, given)
            of_place p at (inr (b, in_members, given)) = inr (b, in_members, (p, at, given))

    pub vain_misses : (input_len : ℕ) → All (λ a. a < frame_count layout) members → EndsInVain activations input_len members → is_some (missing activations input_len ends (last_of members)) ≡ true
    vain_misses input_len exist vain = by (missing_place activations input_len ends (last_of members)) refl
      where
        gap : EndsInVain activations input_len members → (place : Place) × Contains (input_places activations (last_of members)) place × (there input_len place ≡ false)
        gap (inl (place, at, given)) = (place, at, gap_from input_len place exist (inl given))
        gap (inr (b, in_members, (place, at, given))) = (place, at, gap_from input_len place exist (inr (b, in_members, given)))

        by : (o : Option Place) → missing_place activations input_len ends (last_of members) ≡ o → is_some (option_map (missing_at activations) o) ≡ true
        by (Some place) found = refl
        by None found =
            let (place, (k, lt, at), absent) = gap vain in
            let present = none_found (there input_len) (input_places activations (last_of members)) found k place lt in
            let never : true ≡ false = sym present ∙ ap (there input_len) at ∙ absent in
            absurd (cc)
