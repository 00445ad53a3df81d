-- Changes that nothing reads, by where scalars are read last.
use Rattle.std.proofs.Common.{◌≡◌, ◌∙◌, ℕ, ◌<◌, ◌≤◌, ◌⊎◌, inl, inr, Bool, true, false, ◌&&◌, not, List, length, Option, Some, None, refl, sym, ap, subst, arith}
use Rattle.std.proofs.lemmas.Bool.Decides.{nat_tests}
use Rattle.std.specs.Prelude.{ltb}
use Rattle.std.specs.List.{slice_get}
use Rattle.os_ast.specs.declared.names.What.{What}
use Rattle.os_ast.specs.declared.names.What.TheVariants as what
use Rattle.oscheck_warnings.specs.DeadStores.{IsReadAt, IsDeadStore, AreDeadStores}
use Rattle.oscheck_warnings.specs.LastReads.{last_read, cell_of, cell_changed, is_unread, is_dead_cell, is_dead, AreLastReads}
use Rattle.oscheck_warnings.specs.Places.{has}
use Rattle.oscheck_warnings.proofs.Marked.{AreMarked, none_marked, slice_within}
use Rattle.oscheck_warnings.specs.declared.access.Access.{Access}
use Rattle.oscheck_warnings.specs.declared.access.Effect.{Effect}
use Rattle.oscheck_warnings.specs.declared.access.Effect.TheVariants as effect
use Rattle.oscheck_warnings.specs.declared.last_reads.LastReads.{LastReads}
use Rattle.oscheck_warnings.specs.declared.places.Places.{Places}

-- a change that nothing reads, by its parts
record Change (e : Effect) (task : ℕ) (w : Option What) (reads : ℕ → ℕ → Option ℕ) (looped : Bool) (index : ℕ) : Type 0 where
  pub slot : ℕ
  pub changes : e ≡ effect.Change
  pub in_task : 0 < task
  pub is : w ≡ Some (what.Scalar slot)
  pub unread : is_unread (reads task slot) looped index ≡ true

pub both : (b c : Bool) → (b && c) ≡ true → (b ≡ true) × (c ≡ true)
both true true h = (refl, refl)
both true false h = cc
both false c h = cc

pub below_by_test : (a b : ℕ) → ltb a b ≡ true → a < b
below_by_test a b h = grind (arith, nat_tests)

not_below_by_test : (a b : ℕ) → not (ltb a b) ≡ true → b ≤ a
not_below_by_test a b h = grind (arith, nat_tests)

change_parts : (e : Effect) (task : ℕ) (w : Option What) (reads : ℕ → ℕ → Option ℕ) (looped : Bool) (index : ℕ) →
    is_dead_cell reads (cell_changed e task w) looped index ≡ true → Change e task w reads looped index
change_parts effect.Read task w reads looped index h = cc
change_parts effect.Change task None reads looped index h = cc
change_parts effect.Change task (Some (what.Constant v)) reads looped index h = cc
change_parts effect.Change task (Some (what.Function n)) reads looped index h = cc
change_parts effect.Change task (Some (what.Scalar k)) reads looped index h = record {
  slot = k;
  changes = refl;
  in_task = below_by_test 0 task (both (ltb 0 task) (is_unread (reads task k) looped index) h).0;
  is = refl;
  unread = (both (ltb 0 task) (is_unread (reads task k) looped index) h).1;
}
change_parts effect.Change task (Some (what.Array first size)) reads looped index h = cc
change_parts effect.Change task (Some (what.Window n)) reads looped index h = cc
change_parts effect.Change task (Some (what.Stream first count)) reads looped index h = cc
change_parts effect.Change task (Some (what.Element n)) reads looped index h = cc
change_parts effect.Change task (Some (what.View n)) reads looped index h = cc

pub test_below : (a b : ℕ) → a < b → ltb a b ≡ true
test_below a b h = grind (arith, nat_tests)

pub and_both : (b c : Bool) → b ≡ true → c ≡ true → (b && c) ≡ true
and_both true true h k = refl
and_both true false h k = cc
and_both false c h k = cc

module _ (list : List Access) (means : ℕ → Option What) (reads : LastReads) (last : AreLastReads list means reads (length list)) where
  -- by where it is read last, no read comes later
  unread_so : (task slot index : ℕ) (looped : Bool) (o : Option ℕ) → last_read reads task slot ≡ o → is_unread o looped index ≡ true →
      (other : ℕ) → IsReadAt list means task slot other → (index < other) ⊎ (looped ≡ true) → ⊥
  unread_so task slot index looped None e u other r later =
      let there = last.complete task slot other (slice_within list other r.access r.stands) r in
      let none = there.1 in cc
  unread_so task slot index true (Some j) e u other r later = cc
  unread_so task slot index false (Some j) e u other r (inr wrong) = cc
  unread_so task slot index false (Some j) e u other r (inl later) =
      let there = last.complete task slot other (slice_within list other r.access r.stands) r in
      let these : Some j ≡ Some there.0 = sym e ∙ there.1 in
      let same : j ≡ there.0 = cc these in
      let most = there.2 in
      let least = not_below_by_test index j u in
      absurd (omega (arith, later, most, least, same))

  -- where no read comes later, that is so by where it is read last
  so_unread : (task slot index : ℕ) (looped : Bool) (o : Option ℕ) → last_read reads task slot ≡ o →
      ((other : ℕ) → IsReadAt list means task slot other → (index < other) ⊎ (looped ≡ true) → ⊥) → is_unread o looped index ≡ true
  so_unread task slot index looped None e none = refl
  so_unread task slot index true (Some j) e none = absurd (none j (last.sound task slot j e) (inr refl))
  so_unread task slot index false (Some j) e none = no_later (ltb index j) refl
    where
      no_later : (b : Bool) → ltb index j ≡ b → not b ≡ true
      no_later true t = absurd (none j (last.sound task slot j e) (inl (below_by_test index j t)))
      no_later false t = refl

  dead_so : (index : ℕ) (a : Access) → slice_get list index ≡ Some a → is_dead (last_read reads) means a index ≡ true → IsDeadStore list means a.place
  dead_so index a stands dead =
      let p = change_parts a.effect a.site.task (means a.place) (last_read reads) a.site.looped index dead in
      record {
        index = index;
        change = a;
        slot = p.slot;
        stands = stands;
        changes = p.changes;
        there = refl;
        in_task = p.in_task;
        is = p.is;
        unread = unread_so a.site.task p.slot index a.site.looped (last_read reads a.site.task p.slot) refl p.unread;
      }

  so_dead : (place : ℕ) (d : IsDeadStore list means place) → is_dead (last_read reads) means d.change d.index ≡ true
  so_dead place d =
      ap (λ (e : Effect). is_dead_cell (last_read reads) (cell_changed e d.change.site.task (means d.change.place)) d.change.site.looped d.index) d.changes
      ∙ ap (λ (w : Option What). is_dead_cell (last_read reads) (cell_of d.change.site.task w) d.change.site.looped d.index) (ap means d.there ∙ d.is)
      ∙ and_both (ltb 0 d.change.site.task) (is_unread (last_read reads d.change.site.task d.slot) d.change.site.looped d.index)
      (test_below 0 d.change.site.task d.in_task)
      (so_unread d.change.site.task d.slot d.index d.change.site.looped (last_read reads d.change.site.task d.slot) refl d.unread)

  -- all were gone over
  pub all_marked : (places : Places) (count : ℕ) → AreMarked list (λ (a : Access). a.place) (is_dead (last_read reads) means) places count → length list ≤ count → AreDeadStores list means places
  all_marked places count h all = record {
    sound = λ place is. let m = h.sound place is in subst (IsDeadStore list means) m.3 (dead_so m.0 m.1 m.2 m.4);
    complete = λ place d.
        ap (has places) (sym d.there)
        ∙ h.complete d.index d.change (let l = slice_within list d.index d.change d.stands in omega (arith, l, all)) d.stands (so_dead place d);
  }

pub ruleset unread = (none_marked, all_marked)
