-- Where scalars are read last, where some of the accesses were gone over.
use Rattle.std.proofs.Common.{◌≡◌, ◌≢◌, ◌∙◌, ℕ, ◌+◌, ◌<◌, ◌≤◌, ◌⊎◌, inl, inr, Bool, true, false, cond, List, [], ◌∷◌, zero, suc, length, get_or, Option, Some, None, refl, sym, ap, subst, arith}
use Rattle.std.proofs.lemmas.Bool.{cases_eq}
use Rattle.std.proofs.lemmas.Bool.Decides.{nat_tests}
use Rattle.std.proofs.lemmas.Option.{slice_get-get_or}
use Rattle.std.specs.List.{slice_get}
use Rattle.os_ast.specs.declared.names.What.{What}
use Rattle.os_ast.specs.declared.names.What.TheVariants as what
use Rattle.oscheck_warnings.specs.DeadStores.{IsReadAt}
use Rattle.oscheck_warnings.specs.LastReads.{last_read, is_cell, cell_of, cell_read, read_by, AreLastReads}
use Rattle.oscheck_warnings.specs.declared.access.Access.{Access}
use Rattle.oscheck_warnings.specs.declared.access.Effect.{Effect}
use Rattle.oscheck_warnings.specs.declared.access.Effect.TheVariants as effect
use Rattle.oscheck_warnings.specs.declared.last_reads.LastReads.{LastReads}

-- an access that reads, by its parts
pub record Parts (e : Effect) (task : ℕ) (w : Option What) (t s : ℕ) : Type 0 where
  pub reads : e ≡ effect.Read
  pub there : task ≡ t
  pub is : w ≡ Some (what.Scalar s)

read_parts : (e : Effect) (task : ℕ) (w : Option What) (t s : ℕ) → is_cell (cell_read e task w) t s ≡ true → Parts e task w t s
read_parts effect.Change task w t s h = cc
read_parts effect.Read task None t s h = cc
read_parts effect.Read task (Some (what.Constant v)) t s h = cc
read_parts effect.Read task (Some (what.Function n)) t s h = cc
read_parts effect.Read task (Some (what.Scalar k)) t s h = record {
  reads = refl;
  there = grind (arith, nat_tests);
  is = let same : k ≡ s = grind (arith, nat_tests) in ap (λ (n : ℕ). Some (what.Scalar n)) same;
}
read_parts effect.Read task (Some (what.Array first size)) t s h = cc
read_parts effect.Read task (Some (what.Window n)) t s h = cc
read_parts effect.Read task (Some (what.Stream first count)) t s h = cc
read_parts effect.Read task (Some (what.Element n)) t s h = cc
read_parts effect.Read task (Some (what.View n)) t s h = cc

cell_itself : (t s : ℕ) → is_cell (Some record { task = t; slot = s }) t s ≡ true
cell_itself t s = grind (arith, nat_tests)

-- what an access reads that reads a scalar
read_of : (means : ℕ → Option What) (a : Access) (t s : ℕ) → a.effect ≡ effect.Read → a.site.task ≡ t → means a.place ≡ Some (what.Scalar s) →
    is_cell (read_by means a) t s ≡ true
read_of means a t s reads there is =
    ap (λ (e : Effect). is_cell (cell_read e a.site.task (means a.place)) t s) reads
    ∙ ap (λ (w : Option What). is_cell (cell_of a.site.task w) t s) is
    ∙ ap (λ (n : ℕ). is_cell (Some record { task = n; slot = s }) t s) there
    ∙ cell_itself t s

-- an element that is there doesn't depend on what stands for one that isn't
pub get_or-default : {A : Type 0} (list : List A) (count : ℕ) (d e : A) → count < length list → get_or list count d ≡ get_or list count e
get_or-default [] count d e l = absurd (omega (arith, l))
get_or-default (x ∷ xs) zero d e l = refl
get_or-default (x ∷ xs) (suc count) d e l = get_or-default xs count d e (omega (arith, l))

-- none was gone over
pub none_read : (list : List Access) (means : ℕ → Option What) (reads : LastReads) → ((task slot : ℕ) → last_read reads task slot ≡ None) →
    AreLastReads list means reads 0
none_read list means reads none = record {
  sound = λ task slot index is. let no = none task slot in cc;
  complete = λ task slot other l r. absurd (omega (arith, l));
}

-- one more
pub one_more_read : (list : List Access) (means : ℕ → Option What) (old new : LastReads) (count : ℕ) (a : Access) →
    AreLastReads list means old count → count < length list → a ≡ get_or list count a →
    ((task slot : ℕ) → last_read new task slot ≡ cond (is_cell (read_by means a) task slot) (Some count) (last_read old task slot)) →
    AreLastReads list means new (count + 1)
one_more_read list means old new count a h l at next = record {
  sound = λ task slot index is. sound_of task slot index is (is_cell (read_by means a) task slot) refl;
  complete = λ task slot other below r. complete_of task slot other below r (is_cell (read_by means a) task slot) refl (cases_eq other count);
}
  where
    here : slice_get list count ≡ Some a
    here = slice_get-get_or list count a l ∙ ap Some (sym at)

    next_by : (task slot : ℕ) (b : Bool) → is_cell (read_by means a) task slot ≡ b → last_read new task slot ≡ cond b (Some count) (last_read old task slot)
    next_by task slot b e = next task slot ∙ ap (λ (c : Bool). cond c (Some count) (last_read old task slot)) e

    read_here : (task slot : ℕ) → Parts a.effect a.site.task (means a.place) task slot → IsReadAt list means task slot count
    read_here task slot p = record { access = a; stands = here; reads = p.reads; there = p.there; is = p.is }

    sound_of : (task slot index : ℕ) → last_read new task slot ≡ Some index → (b : Bool) → is_cell (read_by means a) task slot ≡ b → IsReadAt list means task slot index
    sound_of task slot index is true e =
        let these : Some count ≡ Some index = sym (next_by task slot true e) ∙ is in
        let same : count ≡ index = cc these in
        subst (IsReadAt list means task slot) same (read_here task slot (read_parts a.effect a.site.task (means a.place) task slot e))
    sound_of task slot index is false e = h.sound task slot index (sym (next_by task slot false e) ∙ is)

    complete_of : (task slot other : ℕ) → other < count + 1 → IsReadAt list means task slot other → (b : Bool) → is_cell (read_by means a) task slot ≡ b →
        (other ≡ count) ⊎ (other ≢ count) → (index : ℕ) × (last_read new task slot ≡ Some index) × (other ≤ index)
    complete_of task slot other below r true e _ = (count, next_by task slot true e, omega (arith, below))
    complete_of task slot other below r false e (inl o) =
        let same : Some r.access ≡ Some a = sym r.stands ∙ ap (slice_get list) o ∙ here in
        let one : r.access ≡ a = cc same in
        let reads : is_cell (read_by means a) task slot ≡ true =
        read_of means a task slot (sym (ap (λ (x : Access). x.effect) one) ∙ r.reads) (sym (ap (λ (x : Access). x.site.task) one) ∙ r.there)
        (sym (ap (λ (x : Access). means x.place) one) ∙ r.is) in
        cc
    complete_of task slot other below r false e (inr o) =
        let before = h.complete task slot other (omega (arith, below, o)) r in
        (before.0, next_by task slot false e ∙ before.1, before.2)

-- the same of the access at an index
pub one_more_read_at : (list : List Access) (means : ℕ → Option What) (old new : LastReads) (count : ℕ) (d : Access) →
    AreLastReads list means old count → count < length list →
    ((task slot : ℕ) → last_read new task slot ≡ cond (is_cell (read_by means (get_or list count d)) task slot) (Some count) (last_read old task slot)) →
    AreLastReads list means new (count + 1)
one_more_read_at list means old new count d h l next = one_more_read list means old new count (get_or list count d) h l (get_or-default list count d (get_or list count d) l) next

pub ruleset so_far = (none_read, one_more_read_at)
