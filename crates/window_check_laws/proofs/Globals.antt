-- No two constants or functions of a lawful program have one name.
use Rattle.std.proofs.Common.{◌≡◌, ℕ, ◌==◌, ◌||◌, Bool, true, false, if◌then◌else◌, List, [], ◌∷◌, Some, refl, sym, subst, ◌∙◌, eq-eqb}
use Rattle.std.specs.Prelude.{⊤}
use Rattle.os_ast.specs.Names.{Scope, lookup, stands_at}
use Rattle.os_ast.specs.Notes.Programs.{after_item, item_notes, items_notes, file, program_notes}
use Rattle.os_ast.specs.ClauseMembers.{is_in}
use Rattle.os_ast.specs.Trees as tree
use Rattle.os_ast.specs.declared.names.Entry.{Entry}
use Rattle.window_check_laws.proofs.Told.{lawful-rest}
use Rattle.window_check_laws.specs.Globals.{AreApart}
use Rattle.window_check_laws.specs.Told.{AreLawful}

-- the entries of the file's scope stand at depth 0
abbrev IsFlat : List Entry → Type 0
IsFlat [] = ⊤
IsFlat (e ∷ es) = (e.depth ≡ 0) × IsFlat es

abbrev ids : List Entry → List ℕ
ids [] = []
ids (e ∷ es) = e.id ∷ ids es

-- a name that isn't declared in the file stands nowhere in it
not_there : (es : List Entry) (id : ℕ) → IsFlat es → stands_at 0 (lookup es id) ≡ false → is_in id (ids es) ≡ false
not_there [] id flat h = refl
not_there (e ∷ es) id flat h = chosen (e.id == id) flat.0 h (λ k. not_there es id flat.1 k)
  where
    chosen : (t : Bool) → e.depth ≡ 0 → stands_at 0 (if t then Some e else lookup es id) ≡ false → (stands_at 0 (lookup es id) ≡ false → is_in id (ids es) ≡ false) →
        (t || is_in id (ids es)) ≡ false
    chosen true zero k ih = absurd (let yes : (e.depth == 0) ≡ true = eq-eqb e.depth 0 zero in let e : true ≡ false = sym yes ∙ k in cc)
    chosen false zero k ih = ih k

distinct-items : (s : Scope) (is : List tree.ItemTree) → s.depth ≡ 0 → IsFlat s.entries → AreLawful (items_notes s is) → AreApart (ids s.entries) is
distinct-items s [] zero flat h = tt
distinct-items s (tree.Constant c ∷ is) zero flat h =
    let after = after_item s (tree.Constant c) in
    let own = h.0.1.1.0 in (
      not_there s.entries c.name.id flat (subst (λ (d : ℕ). stands_at d (lookup s.entries c.name.id) ≡ false) zero own),
      distinct-items after is zero (zero, flat) h.1,
    )
distinct-items s (tree.Function f ∷ is) zero flat h =
    let after = after_item s (tree.Function f) in
    let own = h.0.1.1.0 in
    let rest = lawful-rest (item_notes s (tree.Function f)) (items_notes after is) h in (
      not_there s.entries f.name.id flat (subst (λ (d : ℕ). stands_at d (lookup s.entries f.name.id) ≡ false) zero own),
      distinct-items after is zero (zero, flat) rest,
    )

pub distinct-program : (p : tree.ProgramTree) → AreLawful (program_notes p) → AreApart [] p
distinct-program p h = distinct-items file p refl tt h
