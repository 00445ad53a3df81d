-- Declarations as they are kept, one more and one less.
use Rattle.std.proofs.Common.{◌≡◌, ℕ, suc, ◌+◌, ◌-◌, ◌<◌, ◌≤◌, nat_cmp, List, [], ◌∷◌, ◌++◌, length, drop, refl, ap, subst, sym, ◌∙◌, arith, Option, Some}
use Rattle.std.proofs.lemmas.Grind.{common_steps}
use Rattle.std.specs.BTreeMap.{BTreeMap, get, Updates}
use Rattle.std.specs.Option.{IsSome}
use Rattle.os_ast.specs.Names.{lookup}
use Rattle.os_ast.specs.declared.names.Entry.{Entry}
use Rattle.window_check_names.specs.HidingEntries.{entries, entries_onto, Hides, HidesFrom}
use Rattle.window_check_names.specs.declared.declared.HidingEntry.{HidingEntry}

entries_onto-push : (es : List Entry) (rows : List HidingEntry) (r : HidingEntry) → entries_onto es (rows ++ r ∷ []) ≡ r.entry ∷ entries_onto es rows
entries_onto-push es [] r = refl
entries_onto-push es (x ∷ xs) r = entries_onto-push (x.entry ∷ es) xs r

pub entries_push : (rows : List HidingEntry) (r : HidingEntry) → entries (rows ++ r ∷ []) ≡ r.entry ∷ entries rows
entries_push rows r = entries_onto-push [] rows r

length_onto : (es : List Entry) (rows : List HidingEntry) → length (entries_onto es rows) ≡ length rows + length es
length_onto es [] = omega arith
length_onto es (x ∷ xs) = let h = length_onto (x.entry ∷ es) xs in omega arith

pub length_entries : (rows : List HidingEntry) → length (entries rows) ≡ length rows
length_entries rows = let h = length_onto [] rows in omega arith

hides_onto : (es : List Entry) (rows : List HidingEntry) (r : HidingEntry) →
    HidesFrom es rows → r.hidden ≡ lookup (entries_onto es rows) r.entry.id → HidesFrom es (rows ++ r ∷ [])
hides_onto es [] r h is = (is, tt)
hides_onto es (x ∷ xs) r h is = (h.0, hides_onto (x.entry ∷ es) xs r h.1 is)

pub hides_push : (rows : List HidingEntry) (r : HidingEntry) → Hides rows → r.hidden ≡ lookup (entries rows) r.entry.id → Hides (rows ++ r ∷ [])
hides_push rows r h is = hides_onto [] rows r h is

hides_apart : (es : List Entry) (rows : List HidingEntry) (r : HidingEntry) →
    HidesFrom es (rows ++ r ∷ []) → HidesFrom es rows × (r.hidden ≡ lookup (entries_onto es rows) r.entry.id)
hides_apart es [] r h = (tt, h.0)
hides_apart es (x ∷ xs) r h = let rest = hides_apart (x.entry ∷ es) xs r h.1 in ((h.0, rest.0), rest.1)

pub hides_rest : (rows : List HidingEntry) (r : HidingEntry) → Hides (rows ++ r ∷ []) → Hides rows
hides_rest rows r h = (hides_apart [] rows r h).0

pub hides_last : (rows : List HidingEntry) (r : HidingEntry) → Hides (rows ++ r ∷ []) → r.hidden ≡ lookup (entries rows) r.entry.id
hides_last rows r h = (hides_apart [] rows r h).1

-- one more declaration, and one less, in the map
pub newest_more : (es : List Entry) (e : Entry) (m n : BTreeMap ℕ Entry) →
    ((id : ℕ) → get nat_cmp m id ≡ lookup es id) → Updates nat_cmp m n e.id (Some e) → (id : ℕ) → get nat_cmp n id ≡ lookup (e ∷ es) id
newest_more es e m n is u id = grind (arith, common_steps, is id, u.0 id)

pub newest_less : (es : List Entry) (e : Entry) (m n : BTreeMap ℕ Entry) →
    ((id : ℕ) → get nat_cmp m id ≡ lookup (e ∷ es) id) → Updates nat_cmp m n e.id (lookup es e.id) → (id : ℕ) → get nat_cmp n id ≡ lookup es id
newest_less es e m n is u id = grind (arith, common_steps, is id, u.0 id)

lookup_here : (es : List Entry) (e : Entry) → lookup (e ∷ es) e.id ≡ Some e
lookup_here es e = grind (arith, common_steps)

-- what is kept of rows and a map, by the entries of the rows
pub kept_more : (rows : List HidingEntry) (r : HidingEntry) (m n : BTreeMap ℕ Entry) →
    Hides rows × ((id : ℕ) → get nat_cmp m id ≡ lookup (entries rows) id) →
    Updates nat_cmp m n r.entry.id (Some r.entry) → r.hidden ≡ get nat_cmp m r.entry.id →
    Hides (rows ++ r ∷ []) × ((id : ℕ) → get nat_cmp n id ≡ lookup (entries (rows ++ r ∷ [])) id)
kept_more rows r m n h u old = (
  hides_push rows r h.0 (old ∙ h.1 r.entry.id),
  λ id. newest_more (entries rows) r.entry m n h.1 u id ∙ sym (ap (λ (es : List Entry). lookup es id) (entries_push rows r)),
)

pub kept_less : (all rows : List HidingEntry) (r : HidingEntry) (m n : BTreeMap ℕ Entry) (w : Option Entry) → all ≡ rows ++ r ∷ [] → r.hidden ≡ w →
    Hides all × ((id : ℕ) → get nat_cmp m id ≡ lookup (entries all) id) →
    Updates nat_cmp m n r.entry.id w →
    Hides rows × ((id : ℕ) → get nat_cmp n id ≡ lookup (entries rows) id)
kept_less all rows r m n w is hidden h u =
    let hides : Hides (rows ++ r ∷ []) = subst Hides is h.0 in (
      hides_rest rows r hides,
      newest_less (entries rows) r.entry m n
          (λ id. h.1 id ∙ ap (λ (rs : List HidingEntry). lookup (entries rs) id) is ∙ ap (λ (es : List Entry). lookup es id) (entries_push rows r))
          (subst (λ (x : Option Entry). Updates nat_cmp m n r.entry.id x) (sym hidden ∙ hides_last rows r hides) u),
    )

-- the innermost declaration is in the map
pub kept_there : (all rows : List HidingEntry) (r : HidingEntry) (m : BTreeMap ℕ Entry) → all ≡ rows ++ r ∷ [] →
    ((id : ℕ) → get nat_cmp m id ≡ lookup (entries all) id) → get nat_cmp m r.entry.id ≡ Some r.entry
kept_there all rows r m is h =
    h r.entry.id
    ∙ ap (λ (rs : List HidingEntry). lookup (entries rs) r.entry.id) is
    ∙ ap (λ (es : List Entry). lookup es r.entry.id) (entries_push rows r)
    ∙ lookup_here (entries rows) r.entry

pub is_some : (o : Option Entry) (e : Entry) → o ≡ Some e → IsSome o
is_some o e is = grind (arith, common_steps)

pub entries_less : (all rows : List HidingEntry) (r : HidingEntry) → all ≡ rows ++ r ∷ [] → entries rows ≡ drop 1 (entries all)
entries_less all rows r is = sym (ap (drop 1) (ap entries is ∙ entries_push rows r))

-- the rest of a list that is to get so long

pub drop_one : (n : ℕ) (es fewer : List Entry) → fewer ≡ drop 1 es → n < length es → drop (length fewer - n) fewer ≡ drop (length es - n) es
drop_one n [] fewer is h = absurd (omega arith)
drop_one n (e ∷ es) fewer is h =
    let less : length (e ∷ es) - n ≡ suc (length es - n) = omega arith in
    ap (λ (xs : List Entry). drop (length xs - n) xs) is ∙ sym (ap (λ (k : ℕ). drop k (e ∷ es)) less)

pub shorter : (n : ℕ) (es fewer : List Entry) → fewer ≡ drop 1 es → n < length es → length fewer < length es
shorter n [] fewer is h = absurd (omega arith)
shorter n (e ∷ es) fewer is h = let same = ap length is in omega arith

pub drop_done : (n : ℕ) (es : List Entry) → length es ≤ n → drop (length es - n) es ≡ es
drop_done n es h = let none : length es - n ≡ 0 = omega arith in ap (λ (k : ℕ). drop k es) none
