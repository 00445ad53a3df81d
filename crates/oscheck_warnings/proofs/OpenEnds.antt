-- Functions that can end without `return`, by the items of a program.
use Rattle.std.proofs.Common.{◌≡◌, ◌≢◌, ◌∙◌, ℕ, ◌≤◌, Bool, true, false, ◌&&◌, not, List, length, map, Option, Some, None, refl, sym, ap, subst, arith}
use Rattle.std.proofs.lemmas.Bool.Decides.{nat_tests}
use Rattle.std.proofs.lemmas.Option.{slice_get-map}
use Rattle.std.specs.Prelude.{◌==◌, option_map}
use Rattle.std.specs.List.{slice_get}
use Rattle.os_ast.specs.Trees as tree
use Rattle.os_ast.specs.Views.{item_tree}
use Rattle.os_ast.specs.declared.program.Item.{Item}
use Rattle.os_lexer.specs.Names.{main_id}
use Rattle.oscheck_warnings.specs.Endings.{open_item, item_place, is_open, place_of}
use Rattle.oscheck_warnings.specs.OpenEnds.{some_stay, IsOpenEnd, AreOpenEnds}
use Rattle.oscheck_warnings.specs.Places.{has}
use Rattle.oscheck_warnings.specs.declared.places.Places.{Places}
use Rattle.oscheck_warnings.proofs.Unread.{and_both, both}
use Rattle.oscheck_warnings.proofs.Marked.{AreMarked, none_marked, slice_within}

not_same : (a b : ℕ) → not (a == b) ≡ true → a ≢ b
not_same a b h e = grind (arith, nat_tests)

same_not : (a b : ℕ) → a ≢ b → not (a == b) ≡ true
same_not a b h = differ (a == b) refl
  where
    differ : (t : Bool) → (a == b) ≡ t → not t ≡ true
    differ true e = let same : a ≡ b = grind (arith, nat_tests) in absurd (h same)
    differ false e = refl

not_true : (b : Bool) → not b ≡ true → b ≡ false
not_true true h = cc
not_true false h = refl

-- an item that is open, by its parts
record Opened (i : tree.ItemTree) : Type 0 where
  pub function : tree.FunctionTree
  pub is : i ≡ tree.ItemTree.Function function
  pub called : function.name.id ≢ main_id
  pub open_end : some_stay function.body ≡ false

opened : (i : tree.ItemTree) → open_item i ≡ true → Opened i
opened (tree.ItemTree.Constant c) h = cc
opened (tree.ItemTree.Function f) h =
    let parts = both (not (f.name.id == main_id)) (not (some_stay f.body)) h in
    record {
      function = f;
      is = refl;
      called = not_same f.name.id main_id parts.0;
      open_end = not_true (some_stay f.body) parts.1;
    }

-- an element of a list that is gone over by a view
some_of : {A B : Type 0} (view : A → B) (o : Option A) (b : B) → option_map view o ≡ Some b → (a : A) × (o ≡ Some a) × (view a ≡ b)
some_of view None b h = cc
some_of view (Some a) b h = (a, refl, cc h)

module _ (items : List Item) where
  tree_at : (index : ℕ) (i : Item) → slice_get items index ≡ Some i → slice_get (map item_tree items) index ≡ Some (item_tree i)
  tree_at index i stands = slice_get-map item_tree items index ∙ ap (option_map item_tree) stands

  open_so : (index : ℕ) (i : Item) → slice_get items index ≡ Some i → is_open i ≡ true → IsOpenEnd (map item_tree items) (place_of i)
  open_so index i stands passed =
      let o = opened (item_tree i) passed in
      record {
        index = index;
        function = o.function;
        stands = tree_at index i stands ∙ ap Some o.is;
        there = sym (ap item_place o.is);
        called = o.called;
        open_end = o.open_end;
      }

  so_open : (place : ℕ) (d : IsOpenEnd (map item_tree items) place) → open_item (tree.ItemTree.Function d.function) ≡ true
  so_open place d =
      and_both (not (d.function.name.id == main_id)) (not (some_stay d.function.body)) (same_not d.function.name.id main_id d.called) (ap not d.open_end)

  -- all were gone over
  pub all_items : (places : Places) (count : ℕ) → AreMarked items place_of (λ (i : Item) (index : ℕ). is_open i) places count → length items ≤ count →
      AreOpenEnds (map item_tree items) places
  all_items places count h all = record {
    sound = λ place is. let m = h.sound place is in subst (IsOpenEnd (map item_tree items)) m.3 (open_so m.0 m.1 m.2 m.4);
    complete = λ place d.
        let found = some_of item_tree (slice_get items d.index) (tree.ItemTree.Function d.function) (sym (slice_get-map item_tree items d.index) ∙ d.stands) in
        let within = slice_within items d.index found.0 found.1 in
        ap (has places) (sym (ap item_place found.2 ∙ d.there))
        ∙ h.complete d.index found.0 (omega (arith, within, all)) found.1 (ap open_item found.2 ∙ so_open place d);
  }

pub ruleset open_ends = (none_marked, all_items)
