-- What the items of a task claim, a clause at a time.
use Rattle.std.proofs.Common.{◌≡◌, ℕ, List, [], ◌∷◌, ◌++◌, length, get_or, drop, map, suc, ◌<◌, ◌+◌, Ok, Err, refl, ap, ◌∙◌, sym, append_assoc, add-one}
use Rattle.std.proofs.Math.Seq.{drop-cons}
use Rattle.cddf_meaning.specs.Answers.{Answer, Left, and_then, left}
use Rattle.cddf_meaning.specs.File.{File}
use Rattle.cddf_meaning.specs.BodyState.{BodyState}
use Rattle.cddf_meaning_plain_state.specs.Stops.{Stops}
use Rattle.cddf_meaning.specs.Streams.{items_claims, item_claim}
use Rattle.cddf_meaning_plain_state.specs.Claimed.{behind}
use Rattle.cddf_meaning_plain_state.specs.declared.stop.Stop.{Stop}
use Rattle.cddf_meaning_plain_state.specs.declared.stop.Stop.TheVariants as stop
use Rattle.flow_core_laws.specs.declared.claim.Claim.{Claim}
use Rattle.os_ast.specs.ClauseMembers as clause
use Rattle.os_ast.specs.Views.{clause_tree, clause_kind_tree}
use Rattle.os_ast.specs.declared.expr.Name.{Name}
use Rattle.os_ast.specs.declared.pragma.Clause.{Clause}

behind-none : (a : Answer (Left (List Claim))) → behind [] a ≡ a
behind-none (Ok cs) = refl
behind-none (Err ending) = refl

behind-behind : (before more : List Claim) (a : Answer (Left (List Claim))) → behind before (behind more a) ≡ behind (before ++ more) a
behind-behind before more (Ok cs) = ap (λ xs. Ok (left xs cs.turns)) (sym (append_assoc before more cs.value))
behind-behind before more (Err ending) = refl

cons-after : (c : Left Claim) (more : List Claim) (a : Answer (Left (List Claim))) →
    and_then (behind more a) (λ cs. Ok (left (c.value ∷ cs.value) cs.turns)) ≡ behind (c.value ∷ more) a
cons-after c more (Ok cs) = refl
cons-after c more (Err ending) = refl

cons-behind : (c : Left Claim) (a : Answer (Left (List Claim))) (q : ℕ → Answer (Left (List Claim))) →
    and_then (and_then a (λ cs. behind cs.value (q cs.turns))) (λ cs. Ok (left (c.value ∷ cs.value) cs.turns))
    ≡ and_then (and_then a (λ cs. Ok (left (c.value ∷ cs.value) cs.turns))) (λ cs. behind cs.value (q cs.turns))
cons-behind c (Err ending) q = refl
cons-behind c (Ok cs) q = cons-after c cs.value (q cs.turns)

then-same : {A B : Type 0} (a : Answer A) (f g : A → Answer B) → ((v : A) → f v ≡ g v) → and_then a f ≡ and_then a g
then-same (Ok v) f g e = e v
then-same (Err ending) f g e = refl

then-then : (a : Answer (Left Claim)) (f : Left Claim → Answer (Left (List Claim))) (g : Left (List Claim) → Answer (Left (List Claim))) →
    and_then (and_then a f) g ≡ and_then a (λ c. and_then (f c) g)
then-then (Ok v) f g = refl
then-then (Err ending) f g = refl

pub claims-append : (file : File) (ps qs : List clause.ClauseMember) (s : BodyState) (turns : ℕ) →
    items_claims file (ps ++ qs) s turns ≡ and_then (items_claims file ps s turns) (λ cs. behind cs.value (items_claims file qs s cs.turns))
claims-append file [] qs s turns = sym (behind-none (items_claims file qs s turns))
claims-append file (clause.Private n ∷ ps) qs s turns = claims-append file ps qs s turns
claims-append file (clause.Item d i ∷ ps) qs s turns =
    then-same (item_claim file d i s turns)
    (λ c. and_then (items_claims file (ps ++ qs) s c.turns) (λ cs. Ok (left (c.value ∷ cs.value) cs.turns)))
    (λ c. and_then (and_then (items_claims file ps s c.turns) (λ cs. Ok (left (c.value ∷ cs.value) cs.turns)))
    (λ cs. behind cs.value (items_claims file qs s cs.turns)))
    (λ c. ap (λ a. and_then a (λ cs. Ok (left (c.value ∷ cs.value) cs.turns))) (claims-append file ps qs s c.turns)
    ∙ cons-behind c (items_claims file ps s c.turns) (items_claims file qs s))
    ∙ sym (then-then (item_claim file d i s turns) (λ c. and_then (items_claims file ps s c.turns) (λ cs. Ok (left (c.value ∷ cs.value) cs.turns)))
    (λ cs. behind cs.value (items_claims file qs s cs.turns)))

-- where one clause ends the body, all of them do
stopped : (reason : Stop) (before : List Claim) (a : Answer (Left (List Claim))) (next : Left (List Claim) → Answer (Left (List Claim))) →
    Stops reason a → Stops reason (behind before (and_then a next))
stopped (stop.Ended ending) before a next h = ap (λ x. behind before (and_then x next)) h
stopped stop.Memory before a next h = tt

ok-is : {a b : Left (List Claim)} → (let x : Answer (Left (List Claim)) = Ok a in let y : Answer (Left (List Claim)) = Ok b in x ≡ y) → a ≡ b
ok-is h = cc

went-on : (before after : List Claim) (turns : ℕ) (a : Answer (Left (List Claim))) (q : ℕ → Answer (Left (List Claim))) →
    behind before a ≡ Ok (left after turns) → behind before (and_then a (λ cs. behind cs.value (q cs.turns))) ≡ behind after (q turns)
went-on before after turns (Err ending) q h = cc
went-on before after turns (Ok cs) q h =
    let same = ok-is h in
    behind-behind before cs.value (q cs.turns)
    ∙ ap (λ (l : Left (List Claim)). behind l.value (q l.turns)) same

abbrev pub at_clause : List Clause → ℕ → List clause.ClauseMember
at_clause clauses i = clause.members (map clause_tree (drop i clauses))

clause-step : (clauses : List Clause) (i : ℕ) (c : Clause) → i < length clauses → c ≡ get_or clauses i c →
    at_clause clauses i ≡ clause.clause_members (clause_kind_tree c.kind) ++ at_clause clauses (i + 1)
clause-step clauses i c inside is =
    ap (λ cs. clause.members (map clause_tree cs)) (drop-cons clauses i c inside)
    ∙ ap (λ d. clause.members (map clause_tree (d ∷ drop (suc i) clauses))) (sym is)
    ∙ ap (λ k. clause.clause_members (clause_kind_tree c.kind) ++ at_clause clauses k) (sym (add-one i))

pub clause-stops : (file : File) (clauses : List Clause) (i : ℕ) (c : Clause) (s : BodyState) (turns : ℕ) (before : List Claim)
    (all : Answer (Left (List Claim))) (reason : Stop) → i < length clauses → c ≡ get_or clauses i c →
    behind before (items_claims file (at_clause clauses i) s turns) ≡ all →
    Stops reason (items_claims file (clause.clause_members (clause_kind_tree c.kind)) s turns) → Stops reason all
clause-stops file clauses i c s turns before all (stop.Ended ending) inside is inv h =
    let ps = clause.clause_members (clause_kind_tree c.kind) in
    let qs = at_clause clauses (i + 1) in
    sym inv ∙ ap (λ xs. behind before (items_claims file xs s turns)) (clause-step clauses i c inside is)
    ∙ ap (behind before) (claims-append file ps qs s turns)
    ∙ stopped (stop.Ended ending) before (items_claims file ps s turns) (λ cs. behind cs.value (items_claims file qs s cs.turns)) h
clause-stops file clauses i c s turns before all stop.Memory inside is inv h = tt

pub clause-goes : (file : File) (clauses : List Clause) (i : ℕ) (c : Clause) (s : BodyState) (turns left : ℕ) (before after : List Claim)
    (all : Answer (Left (List Claim))) → i < length clauses → c ≡ get_or clauses i c →
    behind before (items_claims file (at_clause clauses i) s turns) ≡ all →
    behind before (items_claims file (clause.clause_members (clause_kind_tree c.kind)) s turns) ≡ Ok (record { value = after; turns = left }) →
    behind after (items_claims file (at_clause clauses (i + 1)) s left) ≡ all
clause-goes file clauses i c s turns left before after all inside is inv h =
    let ps = clause.clause_members (clause_kind_tree c.kind) in
    let qs = at_clause clauses (i + 1) in
    sym (went-on before after left (items_claims file ps s turns) (items_claims file qs s) h)
    ∙ ap (behind before) (sym (claims-append file ps qs s turns))
    ∙ ap (λ xs. behind before (items_claims file xs s turns)) (sym (clause-step clauses i c inside is)) ∙ inv

append_nil : (cs : List Claim) → cs ++ [] ≡ cs
append_nil [] = refl
append_nil (c ∷ cs) = ap (λ ds. c ∷ ds) (append_nil cs)

-- `firstprivate` claims nothing
pub privates-claim : (file : File) (ns : List Name) (s : BodyState) (turns : ℕ) (before : List Claim) →
    behind before (items_claims file (map clause.Private ns) s turns) ≡ Ok (left before turns)
privates-claim file [] s turns before = ap (λ cs. Ok (left cs turns)) (append_nil before)
privates-claim file (n ∷ ns) s turns before = privates-claim file ns s turns before
