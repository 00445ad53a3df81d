-- What clauses list is what is said of them: the names, the items and the captured scalars.
use Rattle.std.proofs.Common.{◌≡◌, ℕ, ◌+◌, Bool, List, [], ◌∷◌, ◌++◌, length, Option, Some, None, refl, ap, sym, ◌∙◌, add-one, append_assoc, length-append, arith, eq-eqb, inl, inr}
use Rattle.std.specs.Prelude.{◌==◌, is_some}
use Rattle.std.specs.BTreeMap.{is_at}
use Rattle.std.specs.List.{list_any}
use Rattle.std.specs.Ordering.{nat_cmp, is_eq}
use Rattle.std.proofs.lemmas.Bool.{cases_order, lt-ltb, le-ltb, ne_eqb}
use Rattle.os_ast.specs.Names.{Scope, lookup, entity_of, declare, flagged}
use Rattle.os_ast.specs.Notes.Clauses.{member_notes, members_notes, window_notes, shape_of, with_items, named_entity}
use Rattle.os_ast.specs.Notes.Expressions.{place_notes, index_notes}
use Rattle.os_ast.specs.Notes.Kinds.{Used, Listed}
use Rattle.os_ast.specs.ClauseMembers.{ClauseMember, Item, Private, member_name, is_in, count_items, target_name, item_name, private_ids}
use Rattle.os_ast.specs.Trees as tree
use Rattle.os_ast.specs.declared.expr.Name.{Name}
use Rattle.os_ast.specs.declared.names.Direction.{Direction}
use Rattle.os_ast.specs.declared.names.Entity.{Entity}
use Rattle.os_ast.specs.declared.names.Entity.TheVariants as entity
use Rattle.os_ast.specs.declared.names.Role.TheVariants as role
use Rattle.os_ast.specs.declared.names.Use.TheVariants as usage
use Rattle.os_ast.specs.Rules.{when}
use Rattle.window_check_laws.proofs.Ascending.{is_in-insert_key}
use Rattle.window_check_names.proofs.Noted.{noted-append}
use Rattle.window_check_names.specs.BrokenRules.{least_rule}
use Rattle.os_ast.specs.Violations.{violations_at}
use Rattle.window_check_names.specs.Findings.{note, noted, least_with, pushed}
use Rattle.window_check_names.specs.declared.found.Found.{Found}
use Rattle.window_check_names.specs.declared.found.Found.TheVariants.{Listing, Judging, Collecting}
use Rattle.window_check_laws.specs.CapturedByUse.{slots_named}
use Rattle.window_check_laws.specs.Slots.{with_slot, with_slots, control_slots}
use Rattle.window_check_names.specs.declared.members.ItemName.{ItemName}
use Rattle.window_check_names.specs.Members.{ListedMembers, none_listed, inside, after_member, after_members, listed_notes, after_names}
use Rattle.os_ast.specs.declared.rule.Rule.TheVariants as rule

abbrev SameNames : List ℕ → List ℕ → Type 0
SameNames xs ys = (id : ℕ) → is_in id xs ≡ is_in id ys

equal-is : (id x : ℕ) → is_eq (nat_cmp id x) ≡ (x == id)
equal-is id x = elim (cases_order id x) [
  | inl same ↦ rw (same, le-ltb x x (omega arith), eq-eqb x x refl)
  | inr apart ↦ elim apart [
    | inl less ↦ rw (lt-ltb id x less, ne_eqb x id (λ same. absurd (omega arith)))
    | inr more ↦ rw (le-ltb id x (omega arith), ne_eqb id x (λ same. absurd (omega arith)), ne_eqb x id (λ same. absurd (omega arith)))
  ]
]

-- a search of the names in order
pub list_any-is_in : (id : ℕ) (names : List ℕ) → list_any (is_at (nat_cmp id)) names ≡ is_in id names
list_any-is_in id [] = refl
list_any-is_in id (x ∷ xs) = rw (equal-is id x, list_any-is_in id xs)

-- what is found of a name that is listed, by the names before it
listed-same : (f : Found) (names before : List ℕ) → SameNames names before → (n : Name) → note f (Listed names n) ≡ note f (Listed before n)
listed-same (Listing slots) names before same n = refl
listed-same (Judging j) names before same n =
    ap (λ (b : Bool). Judging (record j { least = least_with j.least n.mark (least_rule (when b rule.ListedTwice ++ [])) })) (same n.id)
listed-same (Collecting vs) names before same n =
    ap (λ (b : Bool). Collecting (pushed vs (violations_at n.mark (when b rule.ListedTwice ++ [])))) (same n.id)

window-same : (f : Found) (s : Scope) (names before : List ℕ) → SameNames names before → (t : tree.TargetTree) (j : Option tree.JoinTree) →
    noted f (window_notes s names t j) ≡ noted f (window_notes s before t j)
window-same f s names before same t None = listed-same f names before same (target_name t)
window-same f s names before same t (Some j) =
    ap (λ (g : Found). noted (note g (Used s j.name (usage.Joined (shape_of j.burst)))) (index_notes s j.burst)) (listed-same f names before same j.name)

member-same : (f : Found) (s : Scope) (names before : List ℕ) → SameNames names before → (p : ClauseMember) → noted f (member_notes s names p) ≡ noted f (member_notes s before p)
member-same f s names before same (Item d i) =
    let stream = place_notes s (role.Flow d) i.stream in
    noted-append f stream (window_notes s names i.stream i.window)
    ∙ window-same (noted f stream) s names before same i.stream i.window
    ∙ sym (noted-append f stream (window_notes s before i.stream i.window))
member-same f s names before same (Private n) = ap (λ (g : Found). note g (Used s n usage.Private)) (listed-same f names before same n)

same-more : (s : Scope) (l : ListedMembers) (before : List ℕ) (p : ClauseMember) → SameNames l.names before → SameNames (after_member s l p).names ((member_name p).id ∷ before)
same-more s l before (Item d i) same id = rw (is_in-insert_key id (item_name i.stream i.window).id l.names, same id)
same-more s l before (Private n) same id = rw (is_in-insert_key id n.id l.names, same id)

listed-from : (f : Found) (s : Scope) (l : ListedMembers) (before : List ℕ) (ps : List ClauseMember) → SameNames l.names before → noted f (listed_notes s l ps) ≡ noted f (members_notes s before ps)
listed-from f s l before [] same = refl
listed-from f s l before (p ∷ ps) same =
    let rest = listed_notes s (after_member s l p) ps in
    noted-append f (member_notes s l.names p) rest
    ∙ ap (λ (g : Found). noted g rest) (member-same f s l.names before same p)
    ∙ listed-from (noted f (member_notes s before p)) s (after_member s l p) ((member_name p).id ∷ before) ps (same-more s l before p same)
    ∙ sym (noted-append f (member_notes s before p) (members_notes s ((member_name p).id ∷ before) ps))

-- what is found of members, by the names that are listed before each
pub listed_notes-all : (f : Found) (s : Scope) (ps : List ClauseMember) → noted f (listed_notes s none_listed ps) ≡ noted f (members_notes s [] ps)
listed_notes-all f s ps = listed-from f s none_listed [] ps (λ id. refl)

inside-named : (e : Option Entity) (item : ℕ) (d : Direction) (j : Option tree.JoinTree) →
    inside e item (is_some j) d ≡ named_entity item d j e
inside-named None item d None = refl
inside-named None item d (Some j) = refl
inside-named (Some (entity.Window slot)) item d None = refl
inside-named (Some (entity.Window slot)) item d (Some j) = refl
inside-named (Some (entity.Constant v)) item d None = refl
inside-named (Some (entity.Constant v)) item d (Some j) = refl
inside-named (Some (entity.Function n ps)) item d None = refl
inside-named (Some (entity.Function n ps)) item d (Some j) = refl
inside-named (Some (entity.Scalar slot)) item d None = refl
inside-named (Some (entity.Scalar slot)) item d (Some j) = refl
inside-named (Some (entity.Control slot)) item d None = refl
inside-named (Some (entity.Control slot)) item d (Some j) = refl
inside-named (Some entity.InputLength) item d None = refl
inside-named (Some entity.InputLength) item d (Some j) = refl
inside-named (Some (entity.Array first size)) item d None = refl
inside-named (Some (entity.Array first size)) item d (Some j) = refl
inside-named (Some (entity.Stream number)) item d None = refl
inside-named (Some (entity.Stream number)) item d (Some j) = refl
inside-named (Some (entity.Streams first count)) item d None = refl
inside-named (Some (entity.Streams first count)) item d (Some j) = refl
inside-named (Some (entity.Element i e)) item d None = refl
inside-named (Some (entity.Element i e)) item d (Some j) = refl
inside-named (Some (entity.View i e)) item d None = refl
inside-named (Some (entity.View i e)) item d (Some j) = refl

pub after_names-append : (s : Scope) (is more : List ItemName) → after_names s (is ++ more) ≡ after_names (after_names s is) more
after_names-append s [] more = refl
after_names-append s (i ∷ is) more = after_names-append (declare (flagged i.unsigned s) i.id i.entity) is more

with_items-more : (s inner : Scope) (l : ListedMembers) (d : Direction) (i : tree.ClauseItemTree) (ps : List ClauseMember) →
    with_items s (after_names inner (after_member s l (Item d i)).items) (length (after_member s l (Item d i)).items) ps
    ≡ with_items s (after_names inner l.items) (length l.items) (Item d i ∷ ps)
with_items-more s inner l d i ps =
    let id = (item_name i.stream i.window).id in
    rw (after_names-append, length-append, add-one, inside-named (entity_of (lookup s.entries id)) (length l.items) d i.window)

items-from : (s inner : Scope) (l : ListedMembers) (ps : List ClauseMember) →
    after_names inner (after_members s l ps).items ≡ with_items s (after_names inner l.items) (length l.items) ps
items-from s inner l [] = refl
items-from s inner l (Item d i ∷ ps) = items-from s inner (after_member s l (Item d i)) ps ∙ with_items-more s inner l d i ps
items-from s inner l (Private n ∷ ps) = items-from s inner (after_member s l (Private n)) ps

-- the scope with the names of the items
pub items-all : (s inner : Scope) (ps : List ClauseMember) → after_names inner (after_members s none_listed ps).items ≡ with_items s inner 0 ps
items-all s inner ps = items-from s inner none_listed ps

pub with_slots-append : (xs ys slots : List ℕ) → with_slots (xs ++ ys) slots ≡ with_slots ys (with_slots xs slots)
with_slots-append [] ys slots = refl
with_slots-append (x ∷ xs) ys slots = with_slots-append xs ys (with_slot x slots)

slots-from : (s : Scope) (l : ListedMembers) (ps : List ClauseMember) → (after_members s l ps).slots ≡ with_slots (slots_named s.entries (private_ids ps)) l.slots
slots-from s l [] = refl
slots-from s l (Item d i ∷ ps) = slots-from s (after_member s l (Item d i)) ps
slots-from s l (Private n ∷ ps) =
    slots-from s (after_member s l (Private n)) ps
    ∙ sym (with_slots-append (control_slots (entity_of (lookup s.entries n.id))) (slots_named s.entries (private_ids ps)) l.slots)

-- the captured scalars that `firstprivate` gave
pub slots-all : (s : Scope) (ps : List ClauseMember) → (after_members s none_listed ps).slots ≡ with_slots (slots_named s.entries (private_ids ps)) []
slots-all s ps = slots-from s none_listed ps

count-from : (s : Scope) (l : ListedMembers) (ps : List ClauseMember) → length (after_members s l ps).items ≡ length l.items + count_items ps
count-from s l [] = omega arith
count-from s l (Item d i ∷ ps) = simp length-append at (count-from s (after_member s l (Item d i)) ps) ∙ omega arith
count-from s l (Private n ∷ ps) = count-from s (after_member s l (Private n)) ps

-- how many the items are
pub count-all : (s : Scope) (ps : List ClauseMember) → length (after_members s none_listed ps).items ≡ count_items ps
count-all s ps = omega (arith, count-from s none_listed ps)

-- the members of two clauses, one after the other
pub after_members-append : (s : Scope) (l : ListedMembers) (ps qs : List ClauseMember) → after_members s l (ps ++ qs) ≡ after_members s (after_members s l ps) qs
after_members-append s l [] qs = refl
after_members-append s l (p ∷ ps) qs = after_members-append s (after_member s l p) ps qs

pub listed_notes-append : (s : Scope) (l : ListedMembers) (ps qs : List ClauseMember) →
    listed_notes s l (ps ++ qs) ≡ listed_notes s l ps ++ listed_notes s (after_members s l ps) qs
listed_notes-append s l [] qs = refl
listed_notes-append s l (p ∷ ps) qs = rw (listed_notes-append s (after_member s l p) ps qs, append_assoc)

pub ruleset listing = (listed_notes-all)

pub ruleset joined_members = (after_members-append, listed_notes-append)
