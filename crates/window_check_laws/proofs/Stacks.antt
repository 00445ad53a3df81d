-- The slots of `main` that are in scope lie above one another.
use Rattle.std.proofs.Common.{◌≡◌, ◌≤◌, ◌+◌, ℕ, Bool, true, false, List, [], ◌∷◌, Option, Some, None, refl, sym, subst, arith}
use Rattle.os_ast.specs.Names.{Scope}
use Rattle.os_ast.specs.Notes.Declarators.{form_with, form_entity, sized_form, size_of, taken, scalar_entity}
use Rattle.os_ast.specs.Stacked.{Extent, Stacked, begins, ends, main_extent}
use Rattle.os_ast.specs.Trees as tree
use Rattle.os_ast.specs.declared.names.Entity.{Entity}
use Rattle.os_ast.specs.declared.names.Entity.TheVariants as entity
use Rattle.os_ast.specs.declared.names.Entry.{Entry}
use Rattle.os_ast.specs.declared.names.Form.{Form}
use Rattle.os_ast.specs.declared.names.Owner.{Owner}
use Rattle.os_ast.specs.declared.names.Owner.TheVariants as owner
use Rattle.window_check_laws.specs.Room.{IsOrdered}

begins_more : (x : Option Extent) (a b : ℕ) → a ≤ b → begins x a ≤ begins x b
begins_more None a b h = h
begins_more (Some x) a b h = omega arith

ends_more : (x : Option Extent) (a b : ℕ) → a ≤ b → ends x a ≤ a → ends x b ≤ b
ends_more None a b h k = omega arith
ends_more (Some x) a b h k = omega (arith, h, k)

pub stacked_more : (extent : Entity → Option Extent) (a b : ℕ) (es : List Entry) → a ≤ b → Stacked extent a es → Stacked extent b es
stacked_more extent a b [] h k = tt
stacked_more extent a b (e ∷ es) h k =
    (ends_more (extent e.entity) a b h k.0, stacked_more extent (begins (extent e.entity) a) (begins (extent e.entity) b) es (begins_more (extent e.entity) a b h) k.1)

-- what has no slots of `main`
pub ordered_other : (o : Owner) (slots more : ℕ) (es : List Entry) (e : Entry) → main_extent e.entity ≡ None → slots ≤ more →
    IsOrdered o slots es → IsOrdered o more (e ∷ es)
ordered_other o slots more es e none le h = record {
  top = h.top;
  stacked = subst (λ (x : Option Extent). (ends x h.top ≤ h.top) × Stacked main_extent (begins x h.top) es) (sym none) (omega arith, h.stacked);
  below = λ is. omega (arith, h.below is, le);
  outside = h.outside;
}

pub ordered_rise : (o : Owner) (slots more : ℕ) (es : List Entry) → slots ≤ more → IsOrdered o slots es → IsOrdered o more es
ordered_rise o slots more es le h = record {
  top = h.top;
  stacked = h.stacked;
  below = λ is. omega (arith, h.below is, le);
  outside = h.outside;
}

-- a scalar or a window of `main`
ordered_slot : (slots : ℕ) (es : List Entry) (e : Entry) → main_extent e.entity ≡ Some (record { first = slots; size = 1 }) →
    IsOrdered owner.OfMain slots es → IsOrdered owner.OfMain (slots + 1) (e ∷ es)
ordered_slot slots es e is h = record {
  top = slots + 1;
  stacked = subst (λ (x : Option Extent). (ends x (slots + 1) ≤ slots + 1) × Stacked main_extent (begins x (slots + 1)) es) (sym is)
      (omega arith, stacked_more main_extent h.top slots es (h.below refl) h.stacked);
  below = λ _. omega arith;
  outside = λ is. absurd (cc);
}

pub ordered_scalar : (o : Owner) (id depth slots : ℕ) (u : Bool) (es : List Entry) → IsOrdered o slots es →
    IsOrdered o (slots + 1) (record { id = id; depth = depth; entity = scalar_entity o slots; unsigned = u } ∷ es)
ordered_scalar owner.OfMain id depth slots u es h = ordered_slot slots es (record { id = id; depth = depth; entity = entity.Control slots; unsigned = u }) refl h
ordered_scalar owner.OfFunction id depth slots u es h =
    ordered_other owner.OfFunction slots (slots + 1) es (record { id = id; depth = depth; entity = entity.Scalar slots; unsigned = u }) refl (omega arith) h
ordered_scalar owner.OfTask id depth slots u es h =
    ordered_other owner.OfTask slots (slots + 1) es (record { id = id; depth = depth; entity = entity.Scalar slots; unsigned = u }) refl (omega arith) h

-- the scope behind a declarator of a form, as far as its order goes
abbrev pub OrderedBehind : Scope → ℕ → Form → Type 0
OrderedBehind s id f = IsOrdered s.owner (taken s f).slots (record { id = id; depth = s.depth; entity = form_entity s f; unsigned = s.unsigned } ∷ s.entries)

ordered_sized : (o : Owner) (s : Scope) (id : ℕ) (size : Option ℕ) → s.owner ≡ o → IsOrdered s.owner s.slots s.entries → OrderedBehind s id (sized_form o size)
ordered_sized owner.OfMain s id size is h =
    subst (λ (o : Owner). IsOrdered o (s.slots + 1) (record { id = id; depth = s.depth; entity = entity.Window s.slots; unsigned = s.unsigned } ∷ s.entries)) (sym is)
    (ordered_slot s.slots s.entries (record { id = id; depth = s.depth; entity = entity.Window s.slots; unsigned = s.unsigned }) refl
    (subst (λ (o : Owner). IsOrdered o s.slots s.entries) is h))
ordered_sized owner.OfFunction s id size is h = ordered_other s.owner s.slots _ s.entries _ refl (omega arith) h
ordered_sized owner.OfTask s id size is h = ordered_other s.owner s.slots _ s.entries _ refl (omega arith) h

pub ordered_form : (s : Scope) (id : ℕ) (stream : Bool) (size : Option tree.IndexTree) → IsOrdered s.owner s.slots s.entries →
    OrderedBehind s id (form_with s stream size)
ordered_form s id false None h = ordered_scalar s.owner id s.depth s.slots s.unsigned s.entries h
ordered_form s id false (Some i) h = ordered_sized s.owner s id (size_of s i.value) refl h
ordered_form s id true None h = ordered_other s.owner s.slots s.slots s.entries _ refl (omega arith) h
ordered_form s id true (Some i) h = ordered_other s.owner s.slots s.slots s.entries _ refl (omega arith) h
