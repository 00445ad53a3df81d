-- What a task captures is no more than the names that it uses.
use Rattle.std.proofs.Common.{◌≡◌, ◌≢◌, ◌∙◌, ℕ, suc, ◌+◌, ◌≤◌, ◌==◌, ◌||◌, Bool, true, false, if◌then◌else◌, List, [], ◌∷◌, ◌++◌, length, length-append, Option, Some, None, ap, sym, refl, arith, eqb-true, eq-eqb}
use Rattle.std.proofs.lemmas.Bool.{false≢true}
use Rattle.os_ast.specs.Captured.{captured, slots_of}
use Rattle.os_ast.specs.Names.{Scope, entity_of, lookup}
use Rattle.os_ast.specs.Notes.Clauses.{clauses_notes, in_task_body, member_notes, members_notes}
use Rattle.os_ast.specs.Notes.Kinds.{Declared, Parameter, Global, Left, Listed, Note, Pragma, Returned, Sized, Task, Used}
use Rattle.os_ast.specs.Notes.Statements.{stmt_notes}
use Rattle.os_ast.specs.ClauseMembers.{Item, ClauseMember, Private, count_items, is_in, member_name, private_ids}
use Rattle.os_ast.specs.Trees as tree
use Rattle.os_ast.specs.declared.expr.Mark.{Mark}
use Rattle.os_ast.specs.declared.names.Entity.{Entity}
use Rattle.os_ast.specs.declared.names.Entity.TheVariants as entity
use Rattle.os_ast.specs.declared.names.Entry.{Entry}
use Rattle.window_check_laws.proofs.Ascending.{is_in-append}
use Rattle.window_check_laws.proofs.Collected.{captured-ascends}
use Rattle.window_check_laws.proofs.NameCounts.{used_in, used_in-append}
use Rattle.window_check_laws.proofs.Named.{captured-members}
use Rattle.window_check_laws.specs.CapturedByUse.{Ascends, slots_named, used_slots}
use Rattle.window_check_laws.specs.Room.{HasRoom}
use Rattle.window_check_laws.specs.Slots.{control_slots}

-- a list without one number
abbrev without : ℕ → List ℕ → List ℕ
without x [] = []
without x (y ∷ ys) = if y == x then ys else y ∷ without x ys

without_length : (x : ℕ) (ys : List ℕ) → is_in x ys ≡ true → length (without x ys) + 1 ≡ length ys
without_length x [] there = absurd (false≢true there)
without_length x (y ∷ ys) there = by_case (y == x) there (λ h. without_length x ys h)
  where
    by_case : (t : Bool) → (t || is_in x ys) ≡ true → (is_in x ys ≡ true → length (without x ys) + 1 ≡ length ys) →
        length (if t then ys else y ∷ without x ys) + 1 ≡ suc (length ys)
    by_case true h more = omega arith
    by_case false h more = omega (arith, more h)

without_other : (x z : ℕ) (ys : List ℕ) → z ≢ x → is_in z ys ≡ true → is_in z (without x ys) ≡ true
without_other x z [] other there = there
without_other x z (y ∷ ys) other there = by_case (y == x) refl (y == z) refl there (λ h. without_other x z ys other h)
  where
    by_case : (t : Bool) → (y == x) ≡ t → (u : Bool) → (y == z) ≡ u → (u || is_in z ys) ≡ true → (is_in z ys ≡ true → is_in z (without x ys) ≡ true) →
        is_in z (if t then ys else y ∷ without x ys) ≡ true
    by_case true e true f h more = let a : y ≡ x = eqb-true y x e in let b : y ≡ z = eqb-true y z f in absurd (other (sym b ∙ a))
    by_case true e false f h more = h
    by_case false e true f h more = ap (λ b. b || is_in z (without x ys)) f
    by_case false e false f h more = ap (λ b. b || is_in z (without x ys)) f ∙ more h

above : (lo z : ℕ) (xs : List ℕ) → Ascends lo xs → is_in z xs ≡ true → lo ≤ z
above lo z [] a there = absurd (false≢true there)
above lo z (x ∷ xs) a there = by_case (x == z) refl there (λ h. above (x + 1) z xs a.1 h)
  where
    by_case : (t : Bool) → (x == z) ≡ t → (t || is_in z xs) ≡ true → (is_in z xs ≡ true → x + 1 ≤ z) → lo ≤ z
    by_case true e h more = omega (arith, eqb-true x z e, a.0)
    by_case false e h more = omega (arith, a.0, more h)

-- ascending numbers that are all among some are no more than those
no_more : (lo : ℕ) (xs ys : List ℕ) → Ascends lo xs → ((z : ℕ) → is_in z xs ≡ true → is_in z ys ≡ true) → length xs ≤ length ys
no_more lo [] ys a all = omega arith
no_more lo (x ∷ xs) ys a all =
    let here : is_in x ys ≡ true = all x (ap (λ b. b || is_in x xs) (eq-eqb x x refl)) in
    omega (
      arith,
      without_length x ys here,
      no_more (x + 1) xs (without x ys) a.1
          (λ z there. without_other x z ys (λ same. absurd (omega (arith, same, above (x + 1) z xs a.1 there)))
          (all z (or_more (x == z) (is_in z xs) there))),
    )
  where
    or_more : (b c : Bool) → c ≡ true → (b || c) ≡ true
    or_more true c is = refl
    or_more false c is = is

one_slot : (d : Option Entity) → length (control_slots d) ≤ 1
one_slot None = omega arith
one_slot (Some (entity.Constant v)) = omega arith
one_slot (Some (entity.Function n k)) = omega arith
one_slot (Some (entity.Scalar n)) = omega arith
one_slot (Some (entity.Control n)) = omega arith
one_slot (Some entity.InputLength) = omega arith
one_slot (Some (entity.Array n k)) = omega arith
one_slot (Some (entity.Window n)) = omega arith
one_slot (Some (entity.Stream n)) = omega arith
one_slot (Some (entity.Streams n k)) = omega arith
one_slot (Some (entity.Element n d)) = omega arith
one_slot (Some (entity.View n d)) = omega arith

named_few : (es : List Entry) (ids : List ℕ) → length (slots_named es ids) ≤ length ids
named_few es [] = omega arith
named_few es (id ∷ ids) =
    omega (arith, one_slot (entity_of (lookup es id)), named_few es ids, length-append (control_slots (entity_of (lookup es id))) (slots_named es ids))

used_few : (ns : List Note) → length (used_slots ns) ≤ used_in ns
used_few [] = omega arith
used_few (Used s n u ∷ ns) =
    omega (
      arith,
      one_slot (entity_of (lookup s.entries n.id)),
      used_few ns,
      length-append (control_slots (entity_of (lookup s.entries n.id))) (used_slots ns),
    )
used_few (Declared s d ∷ ns) = omega (arith, used_few ns)
used_few (Parameter s n ∷ ns) = omega (arith, used_few ns)
used_few (Sized s n ∷ ns) = omega (arith, used_few ns)
used_few (Global s n ∷ ns) = omega (arith, used_few ns)
used_few (Left s m ∷ ns) = omega (arith, used_few ns)
used_few (Returned s m ∷ ns) = omega (arith, used_few ns)
used_few (Pragma s m ∷ ns) = omega (arith, used_few ns)
used_few (Task s m items caught ∷ ns) = omega (arith, used_few ns)
used_few (Listed before n ∷ ns) = omega (arith, used_few ns)

privates_few : (s : Scope) (before : List ℕ) (ps : List ClauseMember) → length (private_ids ps) ≤ used_in (members_notes s before ps)
privates_few s before [] = omega arith
privates_few s before (Item d i ∷ ps) =
    let again = (member_name (Item d i)).id ∷ before in
    omega (arith, privates_few s again ps, used_in-append (member_notes s before (Item d i)) (members_notes s again ps))
privates_few s before (Private n ∷ ps) = omega (arith, privates_few s (n.id ∷ before) ps)

pub caught_few : (s : Scope) (n : ℕ) (m : Mark) (ps : List ClauseMember) (a : tree.StmtTree) → HasRoom s n →
    length (slots_of (captured s.entries ps a)) ≤ used_in (clauses_notes s m ps a) + used_in (stmt_notes (in_task_body s ps a) a)
caught_few s n m ps a room =
    let caught = slots_of (captured s.entries ps a) in
    let named = slots_named s.entries (private_ids ps) in
    let inner = stmt_notes (in_task_body s ps a) a in
    let note = Task s m (count_items ps) (captured s.entries ps a) ∷ [] in
    omega (
      arith,
      no_more 0 caught (named ++ used_slots inner) (captured-ascends s.entries ps a room.order.top room.order.stacked)
          (λ z there. is_in-append z named (used_slots inner) ∙ sym (captured-members s ps a z) ∙ there),
      length-append named (used_slots inner),
      named_few s.entries (private_ids ps),
      privates_few s [] ps,
      used_few inner,
      used_in-append (members_notes s [] ps) note,
    )
