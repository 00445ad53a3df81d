-- The rest of a task's clauses, one member at a time, and how many items the members add.
use Rattle.std.proofs.Common.{◌≡◌, ℕ, ◌+◌, ◌<◌, ◌≤◌, List, [], ◌∷◌, ◌++◌, length, get_or, drop, add-one, map, subst, arith, length-append}
use Rattle.std.proofs.Math.Seq.{drop-cons}
use Rattle.os_ast.specs.Names.{Scope}
use Rattle.os_ast.specs.Notes.Clauses.{member_notes}
use Rattle.os_ast.specs.ClauseMembers.{ClauseMember, Item, Private}
use Rattle.os_ast.specs.Views.{clause_item_tree}
use Rattle.os_ast.specs.declared.expr.Name.{Name}
use Rattle.os_ast.specs.declared.names.Direction.{Direction}
use Rattle.os_ast.specs.declared.pragma.ClauseItem.{ClauseItem}
use Rattle.window_check_names.specs.Findings.{noted}
use Rattle.window_check_names.specs.declared.found.Found.{Found}
use Rattle.window_check_names.specs.Members.{ListedMembers, after_member, after_members, listed_notes}
use Rattle.window_check_names.proofs.Listing.{after_members-append, listed_notes-append}
use Rattle.window_check_names.proofs.Noted.{noted-append}

pub items-drop : (d : Direction) (xs : List ClauseItem) (i : ℕ) (x : ClauseItem) → i < length xs → x ≡ get_or xs i x →
    map (Item d) (map clause_item_tree (drop i xs)) ≡ Item d (clause_item_tree x) ∷ map (Item d) (map clause_item_tree (drop (i + 1) xs))
items-drop d xs i x h is = rw (drop-cons xs i x h, ← is, add-one)

pub privates-drop : (ns : List Name) (i : ℕ) (n : Name) → i < length ns → n ≡ get_or ns i n →
    map Private (drop i ns) ≡ Private n ∷ map Private (drop (i + 1) ns)
privates-drop ns i n h is = rw (drop-cons ns i n h, ← is, add-one)

-- each member adds an item or none
pub items-member : (s : Scope) (l : ListedMembers) (p : ClauseMember) → length (after_member s l p).items ≤ length l.items + 1
items-member s l (Item d i) = simp length-append (omega arith)
items-member s l (Private n) = omega arith

pub items-members : (s : Scope) (l : ListedMembers) (ps : List ClauseMember) → length (after_members s l ps).items ≤ length l.items + length ps
items-members s l [] = omega arith
items-members s l (p ∷ ps) = omega (arith, items-member s l p, items-members s (after_member s l p) ps)

-- what is found of a member, and of those after it
pub found-member : (s : Scope) (f g : Found) (l m : ListedMembers) (p : ClauseMember) (rest all : List ClauseMember) (whole : Found) →
    all ≡ p ∷ rest → g ≡ noted f (member_notes s l.names p) → m ≡ after_member s l p →
    noted f (listed_notes s l all) ≡ whole → noted g (listed_notes s m rest) ≡ whole
found-member s f g l m p rest all whole split found listed h =
    let both = noted-append f (member_notes s l.names p) (listed_notes s (after_member s l p) rest) in
    let these = subst (λ (ps : List ClauseMember). noted f (listed_notes s l ps) ≡ whole) split h in
    rw (found, listed) (cc (both, these))

-- what is found of the members of a clause, and of those after them
pub found-members : (s : Scope) (f g : Found) (l m : ListedMembers) (ps rest all : List ClauseMember) (whole : Found) →
    all ≡ ps ++ rest → g ≡ noted f (listed_notes s l ps) → m ≡ after_members s l ps →
    noted f (listed_notes s l all) ≡ whole → noted g (listed_notes s m rest) ≡ whole
found-members s f g l m ps rest all whole split found listed h =
    let parts = listed_notes-append s l ps rest in
    let both = noted-append f (listed_notes s l ps) (listed_notes s (after_members s l ps) rest) in
    cc (parts, both)

pub listed-member : (s : Scope) (l m : ListedMembers) (p : ClauseMember) (rest all : List ClauseMember) (whole : ListedMembers) →
    all ≡ p ∷ rest → m ≡ after_member s l p → after_members s l all ≡ whole → after_members s m rest ≡ whole
listed-member s l m p rest all whole split listed h =
    rw listed (subst (λ (ps : List ClauseMember). after_members s l ps ≡ whole) split h)

pub listed-members : (s : Scope) (l m : ListedMembers) (ps rest all : List ClauseMember) (whole : ListedMembers) →
    all ≡ ps ++ rest → m ≡ after_members s l ps → after_members s l all ≡ whole → after_members s m rest ≡ whole
listed-members s l m ps rest all whole split listed h =
    let both = after_members-append s l ps rest in
    cc both

pub ruleset lists = (privates-drop, noted-append)
