-- Bursts that trap, by the sizes of the windows.
use Rattle.std.proofs.Common.{◌≡◌, ◌≢◌, ◌∙◌, ℕ, ◌<◌, ◌≤◌, Bool, true, false, ◌&&◌, not, List, length, Option, Some, None, refl, sym, ap, subst, arith}
use Rattle.std.proofs.lemmas.Bool.Decides.{nat_tests}
use Rattle.std.specs.Prelude.{◌==◌, ltb}
use Rattle.std.specs.List.{slice_get}
use Rattle.oscheck_warnings.proofs.Unread.{and_both, both, below_by_test, test_below}
use Rattle.os_ast.specs.declared.names.What.{What}
use Rattle.os_ast.specs.declared.names.What.TheVariants as what
use Rattle.oscheck_warnings.specs.Bursts.{window_of, IsWrongBurst, AreWrongBursts}
use Rattle.oscheck_warnings.specs.Places.{has}
use Rattle.oscheck_warnings.specs.Sizes.{sized, burst_window, is_other, differs, is_wrong_for, is_wrong, AreSizes}
use Rattle.oscheck_warnings.specs.declared.bursts.Sizes.{Sizes}
use Rattle.oscheck_warnings.specs.declared.extent.Amount.{Amount}
use Rattle.oscheck_warnings.specs.declared.extent.Amount.TheVariants as amount
use Rattle.oscheck_warnings.specs.declared.extent.Bracket.{Bracket}
use Rattle.oscheck_warnings.specs.declared.extent.Bracket.TheVariants as bracket
use Rattle.oscheck_warnings.specs.declared.extent.Extent.{Extent}
use Rattle.oscheck_warnings.specs.declared.places.Places.{Places}
use Rattle.oscheck_warnings.proofs.Marked.{AreMarked, none_marked, slice_within}

other_amount : (size : ℕ) (a : Amount) → is_other size a ≡ true → a ≢ amount.Number size
other_amount size (amount.Number n) h e = let same : n ≡ size = cc e in let no : (size == n) ≡ true = grind (arith, nat_tests) in cc
other_amount size amount.BelowZero h e = cc

amount_other : (size : ℕ) (a : Amount) → a ≢ amount.Number size → is_other size a ≡ true
amount_other size (amount.Number n) h = differ (size == n) refl
  where
    differ : (b : Bool) → (size == n) ≡ b → not b ≡ true
    differ true e = let same : n ≡ size = grind (arith, nat_tests) in absurd (h (ap amount.Number same))
    differ false e = refl
amount_other size amount.BelowZero h = refl

-- a burst that traps, by its parts
record Wrong (b : Bracket) (w : Option What) (sizes : ℕ → Option Amount) (a : Amount) : Type 0 where
  pub slot : ℕ
  pub size : ℕ
  pub is_burst : b ≡ bracket.Burst
  pub is : w ≡ Some (what.Window slot)
  pub sized : sizes slot ≡ Some (amount.Number size)
  pub some : 0 < size
  pub fits : size ≤ 65536
  pub differs : a ≢ amount.Number size

wrong_window : (slot : ℕ) (sizes : ℕ → Option Amount) (a : Amount) (o : Option Amount) → sizes slot ≡ o → differs o a ≡ true →
    Wrong bracket.Burst (Some (what.Window slot)) sizes a
wrong_window slot sizes a None e h = cc
wrong_window slot sizes a (Some amount.BelowZero) e h = cc
wrong_window slot sizes a (Some (amount.Number size)) e h =
    let parts = both (ltb 0 size) (ltb size 65537 && is_other size a) h in
    let rest = both (ltb size 65537) (is_other size a) parts.1 in
    let below = below_by_test size 65537 rest.0 in
    record {
      slot = slot;
      size = size;
      is_burst = refl;
      is = refl;
      sized = e;
      some = below_by_test 0 size parts.0;
      fits = omega (arith, below);
      differs = other_amount size a rest.1;
    }

wrong_parts : (b : Bracket) (w : Option What) (sizes : ℕ → Option Amount) (a : Amount) → is_wrong_for sizes (burst_window b w) a ≡ true → Wrong b w sizes a
wrong_parts bracket.Size w sizes a h = cc
wrong_parts bracket.Burst None sizes a h = cc
wrong_parts bracket.Burst (Some (what.Constant v)) sizes a h = cc
wrong_parts bracket.Burst (Some (what.Function n)) sizes a h = cc
wrong_parts bracket.Burst (Some (what.Scalar k)) sizes a h = cc
wrong_parts bracket.Burst (Some (what.Array first size)) sizes a h = cc
wrong_parts bracket.Burst (Some (what.Window slot)) sizes a h = wrong_window slot sizes a (sizes slot) refl h
wrong_parts bracket.Burst (Some (what.Stream first count)) sizes a h = cc
wrong_parts bracket.Burst (Some (what.Element n)) sizes a h = cc
wrong_parts bracket.Burst (Some (what.View n)) sizes a h = cc

module _ (list : List Extent) (means : ℕ → Option What) (sizes : Sizes) (all_sizes : AreSizes list means sizes) where
  wrong_so : (index : ℕ) (e : Extent) → slice_get list index ≡ Some e → is_wrong (sized sizes) means e ≡ true → IsWrongBurst list means e.place
  wrong_so index e stands wrong =
      let p = wrong_parts e.bracket (means e.place) (sized sizes) e.amount wrong in
      record {
        index = index;
        burst = e;
        slot = p.slot;
        size = p.size;
        stands = stands;
        is_burst = p.is_burst;
        there = refl;
        is = p.is;
        sized = sym (all_sizes p.slot) ∙ p.sized;
        some = p.some;
        fits = p.fits;
        differs = p.differs;
      }

  so_wrong : (place : ℕ) (d : IsWrongBurst list means place) → is_wrong (sized sizes) means d.burst ≡ true
  so_wrong place d =
      let fits = d.fits in
      ap (λ (b : Bracket). is_wrong_for (sized sizes) (burst_window b (means d.burst.place)) d.burst.amount) d.is_burst
      ∙ ap (λ (w : Option What). is_wrong_for (sized sizes) (window_of w) d.burst.amount) (ap means d.there ∙ d.is)
      ∙ ap (λ (o : Option Amount). differs o d.burst.amount) (all_sizes d.slot ∙ d.sized)
      ∙ and_both (ltb 0 d.size) (ltb d.size 65537 && is_other d.size d.burst.amount) (test_below 0 d.size d.some)
      (and_both (ltb d.size 65537) (is_other d.size d.burst.amount) (test_below d.size 65537 (omega (arith, fits))) (amount_other d.size d.burst.amount d.differs))

  -- all were gone over
  pub all_bursts : (places : Places) (count : ℕ) → AreMarked list (λ (e : Extent). e.place) (λ (e : Extent) (index : ℕ). is_wrong (sized sizes) means e) places count → length list ≤ count →
      AreWrongBursts list means places
  all_bursts places count h all = record {
    sound = λ place is. let m = h.sound place is in subst (IsWrongBurst list means) m.3 (wrong_so m.0 m.1 m.2 m.4);
    complete = λ place d.
        ap (has places) (sym d.there)
        ∙ h.complete d.index d.burst (let l = slice_within list d.index d.burst d.stands in omega (arith, l, all)) d.stands (so_wrong place d);
  }

pub ruleset wrong_bursts = (none_marked, all_bursts)
