-- What the walk over a task's body lists is what the task captures.
use Rattle.std.proofs.Common.{◌≡◌, ℕ, List, [], ◌∷◌, refl, ap, sym, ◌∙◌}
use Rattle.os_ast.specs.Captured.{captured, slots_of}
use Rattle.os_ast.specs.FreeNames.{stmt_names, task_names, without}
use Rattle.os_ast.specs.Names.{Scope}
use Rattle.os_ast.specs.Notes.Clauses.{with_items, in_task, captured_in}
use Rattle.os_ast.specs.Notes.Kinds.{Note}
use Rattle.os_ast.specs.Notes.Statements.{stmt_notes}
use Rattle.os_ast.specs.ClauseMembers.{ClauseMember, item_ids, private_ids}
use Rattle.os_ast.specs.Stacked.{Stacked, main_extent}
use Rattle.os_ast.specs.Trees as tree
use Rattle.os_ast.specs.declared.names.Owner.{Owner}
use Rattle.os_ast.specs.declared.names.Owner.TheVariants as owner
use Rattle.window_check_laws.proofs.Collected.{collected}
use Rattle.window_check_laws.proofs.Named.{named-body, slots_named-append}
use Rattle.window_check_laws.specs.CapturedByUse.{used_slots, slots_named}
use Rattle.window_check_laws.specs.Slots.{with_slots, named_slots}
use Rattle.window_check_names.proofs.Listing.{slots-all, items-all, with_slots-append}
use Rattle.window_check_names.specs.Findings.{noted, slots_found, captured_for}
use Rattle.window_check_names.specs.Members.{ListedMembers, none_listed, after_members, after_names}
use Rattle.window_check.specs.Statements.{in_named_task, listed_for, listed_in}
use Rattle.window_check_names.specs.declared.found.Found.{Found}
use Rattle.window_check_names.specs.declared.found.Found.TheVariants.{Listing, Judging, Collecting}

-- what a walk lists
listed-all : (ns : List Note) (slots : List ℕ) → slots_found (noted (Listing slots) ns) ≡ with_slots (used_slots ns) slots
listed-all [] slots = refl
listed-all (n ∷ ns) slots = listed-all ns (with_slots (named_slots n) slots) ∙ sym (with_slots-append (named_slots n) (used_slots ns) slots)

listed-in : (o : Owner) (s : Scope) (l : ListedMembers) (ps : List ClauseMember) (a : tree.StmtTree) (top : ℕ) → Stacked main_extent top s.entries →
    l ≡ after_members s none_listed ps → listed_in o s l.slots l.items a ≡ captured_in o (slots_of (captured s.entries ps a))
listed-in owner.OfFunction s l ps a top st is = refl
listed-in owner.OfTask s l ps a top st is = refl
listed-in owner.OfMain s l ps a top st is =
    let inner = with_items s (in_task s []) 0 ps in
    let outer = slots_named s.entries (private_ids ps) in
    let names = without (item_ids ps) (stmt_names a) in
    let scope : in_named_task s [] l.items ≡ inner = ap (λ (x : ListedMembers). after_names (in_task s []) x.items) is ∙ items-all s (in_task s []) ps in
    let given : l.slots ≡ with_slots outer [] = ap (λ (x : ListedMembers). x.slots) is ∙ slots-all s ps in
    listed-all (stmt_notes (in_named_task s [] l.items) a) l.slots
    ∙ ap (λ (x : Scope). with_slots (used_slots (stmt_notes x a)) l.slots) scope
    ∙ ap (λ (xs : List ℕ). with_slots xs l.slots) (named-body s [] ps a)
    ∙ ap (λ (xs : List ℕ). with_slots (slots_named s.entries names) xs) given
    ∙ sym (with_slots-append outer (slots_named s.entries names) [])
    ∙ ap (λ (xs : List ℕ). with_slots xs []) (sym (slots_named-append s.entries (private_ids ps) names))
    ∙ collected s.entries (task_names ps a) top st

-- what is wanted of a task that captures this, where its clauses list this
pub listed-captured : (f : Found) (s : Scope) (l : ListedMembers) (ps : List ClauseMember) (a : tree.StmtTree) (top : ℕ) → Stacked main_extent top s.entries →
    l ≡ after_members s none_listed ps → listed_for f s.owner s l.slots l.items a ≡ captured_for f s.owner (slots_of (captured s.entries ps a))
listed-captured (Listing slots) s l ps a top st is = listed-in s.owner s l ps a top st is
listed-captured (Judging j) s l ps a top st is = listed-in s.owner s l ps a top st is
listed-captured (Collecting vs) s l ps a top st is = listed-in owner.OfMain s l ps a top st is
