-- A task, step by step: the scope of its body, what it captures, and what is found of it.
use Rattle.std.proofs.Common.{◌≡◌, ℕ, ◌+◌, ◌≤◌, List, [], ◌∷◌, ◌++◌, length, refl, ap, sym, subst, ◌∙◌, arith}
use Rattle.os_ast.specs.Captured.{captured, slots_of}
use Rattle.os_ast.specs.Names.{Scope, after_unit}
use Rattle.os_ast.specs.Notes.Clauses.{members_notes, clauses_notes, with_items, in_task, in_task_body, captured_in}
use Rattle.os_ast.specs.Notes.Kinds.{Task}
use Rattle.os_ast.specs.Notes.Statements.{after_stmt, stmt_notes}
use Rattle.os_ast.specs.ClauseMembers.{ClauseMember, count_items}
use Rattle.os_ast.specs.Trees as tree
use Rattle.os_ast.specs.declared.expr.Mark.{Mark}
use Rattle.os_ast.specs.declared.names.Owner.{Owner}
use Rattle.os_ast.specs.declared.names.Owner.TheVariants as owner
use Rattle.window_check_names.proofs.AddedViolations.{started-task}
use Rattle.window_check_laws.proofs.HasRoom.{room_less, room_in_task, room_items, captured_few}
use Rattle.window_check_names.proofs.Listing.{items-all, count-all}
use Rattle.window_check.proofs.Capturing.{listed-captured}
use Rattle.window_check_names.proofs.Noted.{noted-append}
use Rattle.window_check_names.specs.Findings.{note, noted, started, captured_for}
use Rattle.window_check_names.specs.Members.{ListedMembers, none_listed, after_members, after_names}
use Rattle.window_check_laws.specs.Room.{HasRoom, room_end}
use Rattle.window_check.specs.Statements.{in_named_task, listed_for}
use Rattle.window_check_names.specs.declared.found.Found.{Found}
use Rattle.window_check_names.specs.declared.found.Found.TheVariants.{Listing, Judging, Collecting}
use Rattle.window_check_names.specs.declared.members.ItemName.{ItemName}

named-scope : (s : Scope) (slots : List ℕ) (l : ListedMembers) (ps : List ClauseMember) (items : List ItemName) → l ≡ after_members s none_listed ps → items ≡ l.items →
    in_named_task s slots items ≡ with_items s (in_task s slots) 0 ps
named-scope s slots l ps items listing is =
    ap (λ (xs : List ItemName). after_names (in_task s slots) xs) (is ∙ ap (λ (x : ListedMembers). x.items) listing) ∙ items-all s (in_task s slots) ps

-- there is room for the body
pub room-named : (s : Scope) (slots : List ℕ) (l : ListedMembers) (ps : List ClauseMember) (items : List ItemName) (n : ℕ) →
    l ≡ after_members s none_listed ps → items ≡ l.items → length slots ≤ length s.entries → HasRoom s (1 + length ps + n) → HasRoom (in_named_task s slots items) n
room-named s slots l ps items n listing is few room =
    subst (λ (x : Scope). HasRoom x n) (sym (named-scope s slots l ps items listing is))
    (room_items s (in_task s slots) 0 ps n (room_in_task s slots (length ps + n) few (room_less s (1 + length ps + n) (1 + (length ps + n)) room (omega arith))))

-- what the code lists is what the task captures
pub slots-captured : (f : Found) (s : Scope) (l : ListedMembers) (ps : List ClauseMember) (a : tree.StmtTree) (n : ℕ) (slots privates : List ℕ) (items : List ItemName) →
    HasRoom s n → l ≡ after_members s none_listed ps → items ≡ l.items → privates ≡ l.slots → slots ≡ listed_for f s.owner s privates items a →
    slots ≡ captured_for f s.owner (slots_of (captured s.entries ps a))
slots-captured f s l ps a n slots privates items room listing is given listed =
    listed
    ∙ ap (λ (xs : List ℕ). listed_for f s.owner s xs items a) given
    ∙ ap (λ (xs : List ItemName). listed_for f s.owner s l.slots xs a) is
    ∙ listed-captured f s l ps a room.order.top room.order.stacked listing

-- what the body has of it
captured_twice : (o : Owner) (slots : List ℕ) → captured_in o (captured_in o slots) ≡ captured_in o slots
captured_twice owner.OfMain slots = refl
captured_twice owner.OfFunction slots = refl
captured_twice owner.OfTask slots = refl

captured_of : (f : Found) (o : Owner) (slots : List ℕ) → captured_in o (captured_for f o slots) ≡ captured_in o slots
captured_of (Listing listed) o slots = captured_twice o slots
captured_of (Judging j) o slots = captured_twice o slots
captured_of (Collecting vs) o slots = refl

pub body-slots : (f : Found) (s t : Scope) (o : Owner) (ps : List ClauseMember) (a : tree.StmtTree) (slots given : List ℕ) →
    t ≡ s → o ≡ t.owner → given ≡ captured_for f s.owner (slots_of (captured s.entries ps a)) → slots ≡ captured_in o given →
    slots ≡ captured_in s.owner (slots_of (captured s.entries ps a))
body-slots f s t o ps a slots given same whose is of =
    of
    ∙ ap (λ (x : Owner). captured_in x given) (whose ∙ ap (λ (x : Scope). x.owner) same)
    ∙ ap (captured_in s.owner) is
    ∙ captured_of f s.owner (slots_of (captured s.entries ps a))

pub few-captured : (s : Scope) (ps : List ClauseMember) (a : tree.StmtTree) (slots : List ℕ) → slots ≡ captured_in s.owner (slots_of (captured s.entries ps a)) →
    length slots ≤ length s.entries
few-captured s ps a slots is = subst (λ (xs : List ℕ). length xs ≤ length s.entries) (sym is) (captured_few s.owner s.entries ps a)

pub few-slots : (s : Scope) (n k : ℕ) → k ≤ length s.entries → HasRoom s n → k ≤ room_end
few-slots s n k few room = omega (arith, few, room.entries)

-- the scope of the body
pub task-scope : (s t : Scope) (l : ListedMembers) (ps : List ClauseMember) (a : tree.StmtTree) (slots : List ℕ) (items : List ItemName) →
    t ≡ s → l ≡ after_members s none_listed ps → items ≡ l.items → slots ≡ captured_in s.owner (slots_of (captured s.entries ps a)) →
    in_named_task t slots items ≡ in_task_body s ps a
task-scope s t l ps a slots items same listing is given =
    ap (λ (x : Scope). in_named_task x slots items) same
    ∙ ap (λ (xs : List ℕ). in_named_task s xs items) given
    ∙ named-scope s (captured_in s.owner (slots_of (captured s.entries ps a))) l ps items listing is

pub task-scopes : (s t : Scope) (l : ListedMembers) (ps : List ClauseMember) (a : tree.StmtTree) (slots : List ℕ) (items : List ItemName) →
    t ≡ s → l ≡ after_members s none_listed ps → items ≡ l.items → slots ≡ captured_in s.owner (slots_of (captured s.entries ps a)) →
    after_unit t (after_stmt (in_named_task t slots items) a) ≡ after_unit s (after_stmt (in_task_body s ps a) a)
task-scopes s t l ps a slots items same listing is given =
    ap (λ (x : Scope). after_unit x (after_stmt (in_named_task t slots items) a)) same
    ∙ ap (λ (x : Scope). after_unit s (after_stmt x a)) (task-scope s t l ps a slots items same listing is given)

-- what is found of a task
pub task-found : (f g h : Found) (s t : Scope) (m : Mark) (o : Owner) (count : ℕ) (l : ListedMembers) (ps : List ClauseMember) (a : tree.StmtTree) (given slots : List ℕ) (items : List ItemName) →
    t ≡ s → o ≡ t.owner → l ≡ after_members s none_listed ps → items ≡ l.items → count ≡ length items →
    given ≡ captured_for g s.owner (slots_of (captured s.entries ps a)) → slots ≡ captured_in s.owner (slots_of (captured s.entries ps a)) →
    g ≡ noted f (members_notes s [] ps) → h ≡ started g o m count given →
    noted h (stmt_notes (in_named_task t slots items) a) ≡ noted f (clauses_notes s m ps a ++ stmt_notes (in_task_body s ps a) a)
task-found f g h s t m o count l ps a given slots items same whose listing is counted named ordered clauses starting =
    let byname = captured s.entries ps a in
    let front = noted f (members_notes s [] ps) in
    let owned : o ≡ s.owner = whose ∙ ap (λ (x : Scope). x.owner) same in
    let number : count ≡ count_items ps =
    counted ∙ ap (λ (xs : List ItemName). length xs) (is ∙ ap (λ (x : ListedMembers). x.items) listing) ∙ count-all s ps in
    let start : h ≡ note front (Task s m (count_items ps) byname) =
    starting
    ∙ ap (λ (x : Owner). started g x m count given) owned
    ∙ ap (λ (k : ℕ). started g s.owner m k given) number
    ∙ ap (λ (xs : List ℕ). started g s.owner m (count_items ps) xs) named
    ∙ started-task g s m (count_items ps) byname
    ∙ ap (λ (x : Found). note x (Task s m (count_items ps) byname)) clauses in
    ap (λ (x : Found). noted x (stmt_notes (in_named_task t slots items) a)) start
    ∙ ap (λ (x : Scope). noted (note front (Task s m (count_items ps) byname)) (stmt_notes x a)) (task-scope s t l ps a slots items same listing is ordered)
    ∙ ap (λ (x : Found). noted x (stmt_notes (in_task_body s ps a) a)) (sym (noted-append f (members_notes s [] ps) (Task s m (count_items ps) byname ∷ [])))
    ∙ sym (noted-append f (clauses_notes s m ps a) (stmt_notes (in_task_body s ps a) a))
