-- One element that is kept for an epoch of the activations that tests make epochs of.
use Rattle.std.proofs.Common.{◌≡◌, zero, suc, ◌≤◌, pos, [], ◌∷◌, Some, None, refl, arith}
use Rattle.std.specs.Prelude.{All}
use Rattle.flow_core_laws.specs.declared.elem.Elem.TheVariants.{Value}
use Rattle.flow_core_laws.specs.Window.{Window, producer, windows}
use Rattle.flow_core_epochs.specs.Epoch.{IsOutside, Kept, PlacesDiffer, number_among}
use Rattle.runtime_tests.specs.Worked.{worked, writes_some}

single : {X : Type 0} (P : X → Type 0) (x : X) → P x → All P (x ∷ [])
single P x p zero d lt = p
single P x p (suc k) d lt = absurd (omega arith)

one_differs : (kept : Kept) → PlacesDiffer (kept ∷ [])
one_differs kept zero zero k l at also same = refl
one_differs kept zero (suc j) k l at also same = absurd (cc)
one_differs kept (suc i) j k l at also same = absurd (cc)

-- position 1 of stream 2, which the first of them writes
abbrev pub the_kept : Kept
the_kept = record { place = record { stream = 2; position = 1 }; value = Value (pos 6) }

pub kept_outside : IsOutside worked (1 ∷ 3 ∷ []) (the_kept ∷ [])
unfolding windows
kept_outside =
    let two : 2 ≤ 2 = omega arith in
    record {
      are_declared = single (λ (k : Kept). 2 ≤ k.place.stream) the_kept two;
      places_differ = one_differs the_kept;
      written_outside = single (λ (k : Kept). (w : Window) × (producer worked k.place.stream k.place.position ≡ Some w) × (number_among (1 ∷ 3 ∷ []) w.activation ≡ None)) the_kept
          (record { activation = 0; claim = writes_some 2 4; first = 0; offset = 0 }, refl, refl);
    }
