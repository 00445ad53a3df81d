-- Sizes that trap.
use Rattle.std.proofs.Common.{◌≡◌, ◌∙◌, ℕ, ◌<◌, ◌≤◌, Bool, true, false, ◌&&◌, not, List, length, Option, Some, None, refl, sym, ap, subst, arith}
use Rattle.std.specs.Prelude.{ltb}
use Rattle.std.specs.List.{slice_get}
use Rattle.oscheck_warnings.proofs.Unread.{and_both, both, below_by_test, test_below}
use Rattle.os_ast.specs.declared.names.What.{What}
use Rattle.os_ast.specs.declared.names.What.TheVariants as what
use Rattle.oscheck_warnings.specs.Bursts.{window_of, sized_window}
use Rattle.oscheck_warnings.specs.NoSizes.{is_no_size, is_wrong_for, is_wrong_size}
use Rattle.oscheck_warnings.specs.Places.{has}
use Rattle.oscheck_warnings.specs.WindowSizes.{IsWrongSize, AreWrongSizes}
use Rattle.oscheck_warnings.specs.declared.extent.Amount.{Amount}
use Rattle.oscheck_warnings.specs.declared.extent.Amount.TheVariants as amount
use Rattle.oscheck_warnings.specs.declared.extent.Bracket.{Bracket}
use Rattle.oscheck_warnings.specs.declared.extent.Bracket.TheVariants as bracket
use Rattle.oscheck_warnings.specs.declared.extent.Extent.{Extent}
use Rattle.oscheck_warnings.specs.declared.places.Places.{Places}
use Rattle.oscheck_warnings.proofs.Marked.{AreMarked, none_marked, slice_within}

-- an amount that no window has
abbrev IsNone : Amount → Type 0
IsNone a = (n : ℕ) → a ≡ amount.Number n → 0 < n → n ≤ 65536 → ⊥

none_of : (a : Amount) → is_no_size a ≡ true → IsNone a
none_of (amount.Number m) h n e some fits =
    let same : m ≡ n = cc e in
    let there : (ltb 0 n && ltb n 65537) ≡ true = and_both (ltb 0 n) (ltb n 65537) (test_below 0 n some) (test_below n 65537 (omega (arith, fits))) in
    let here : not (ltb 0 n && ltb n 65537) ≡ true = subst (λ (k : ℕ). not (ltb 0 k && ltb k 65537) ≡ true) same h in
    cc
none_of amount.BelowZero h n e some fits = cc

of_none : (a : Amount) → IsNone a → is_no_size a ≡ true
of_none (amount.Number m) h = differ (ltb 0 m && ltb m 65537) refl
  where
    differ : (b : Bool) → (ltb 0 m && ltb m 65537) ≡ b → not b ≡ true
    differ true e =
        let parts = both (ltb 0 m) (ltb m 65537) e in
        let below = below_by_test m 65537 parts.1 in
        absurd (h m refl (below_by_test 0 m parts.0) (omega (arith, below)))
    differ false e = refl
of_none amount.BelowZero h = refl

-- a size that traps, by its parts
record Wrong (b : Bracket) (w : Option What) (a : Amount) : Type 0 where
  pub slot : ℕ
  pub is_size : b ≡ bracket.Size
  pub is : w ≡ Some (what.Window slot)
  pub none : IsNone a

wrong_parts : (b : Bracket) (w : Option What) (a : Amount) → is_wrong_for (sized_window b w) a ≡ true → Wrong b w a
wrong_parts bracket.Burst w a h = cc
wrong_parts bracket.Size None a h = cc
wrong_parts bracket.Size (Some (what.Constant v)) a h = cc
wrong_parts bracket.Size (Some (what.Function n)) a h = cc
wrong_parts bracket.Size (Some (what.Scalar k)) a h = cc
wrong_parts bracket.Size (Some (what.Array first size)) a h = cc
wrong_parts bracket.Size (Some (what.Window slot)) a h = record {
  slot = slot;
  is_size = refl;
  is = refl;
  none = none_of a h;
}
wrong_parts bracket.Size (Some (what.Stream first count)) a h = cc
wrong_parts bracket.Size (Some (what.Element n)) a h = cc
wrong_parts bracket.Size (Some (what.View n)) a h = cc

module _ (list : List Extent) (means : ℕ → Option What) where
  wrong_so : (index : ℕ) (e : Extent) → slice_get list index ≡ Some e → is_wrong_size means e ≡ true → IsWrongSize list means e.place
  wrong_so index e stands wrong =
      let p = wrong_parts e.bracket (means e.place) e.amount wrong in
      record {
        index = index;
        size = e;
        slot = p.slot;
        stands = stands;
        is_size = p.is_size;
        there = refl;
        is = p.is;
        none = p.none;
      }

  so_wrong : (place : ℕ) (d : IsWrongSize list means place) → is_wrong_size means d.size ≡ true
  so_wrong place d =
      ap (λ (b : Bracket). is_wrong_for (sized_window b (means d.size.place)) d.size.amount) d.is_size
      ∙ ap (λ (w : Option What). is_wrong_for (window_of w) d.size.amount) (ap means d.there ∙ d.is)
      ∙ of_none d.size.amount d.none

  -- all were gone over
  pub all_window_sizes : (places : Places) (count : ℕ) → AreMarked list (λ (e : Extent). e.place) (λ (e : Extent) (index : ℕ). is_wrong_size means e) places count → length list ≤ count →
      AreWrongSizes list means places
  all_window_sizes places count h all = record {
    sound = λ place is. let m = h.sound place is in subst (IsWrongSize list means) m.3 (wrong_so m.0 m.1 m.2 m.4);
    complete = λ place d.
        ap (has places) (sym d.there)
        ∙ h.complete d.index d.size (let l = slice_within list d.index d.size d.stands in omega (arith, l, all)) d.stands (so_wrong place d);
  }

pub ruleset wrong_sizes = (none_marked, all_window_sizes)
