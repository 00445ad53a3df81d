-- The code of a task's items gives what they claim.
use Rattle.std.proofs.Common.{◌≡◌, ℕ, ◌+◌, ◌*◌, ◌<◌, ◌≤◌, ◌==◌, ◌&&◌, Bool, true, false, if◌then◌else◌, List, [], ◌∷◌, length, Option, Some, None, Ok, ℤ, pos, negsuc, refl, sym, ap, ◌∙◌, subst, arith, leb, le-leb, eq-eqb, eqb-true, ⊎_elim}
use Rattle.std.proofs.lemmas.Bool.{lt-leb, cases_order}
use Rattle.std.specs.Prelude.{⊤}
use Rattle.c_int.specs.Operators.{is_equal}
use Rattle.c_int.specs.declared.trap.Trap.TheVariants as trap_of
use Rattle.cddf_meaning.specs.Answers.{traps, and_then, Left, left, with_turns}
use Rattle.cddf_meaning.specs.File.{File}
use Rattle.cddf_meaning.specs.Moves.{CallsFall}
use Rattle.cddf_meaning.specs.BodyState.{BodyState}
use Rattle.cddf_meaning.specs.Streams.{horizon_of, output_burst, burst_of, burst, claim_of, joined, item_claim, items_claims}
use Rattle.cddf_meaning.specs.Variables.{find}
use Rattle.cddf_meaning.specs.declared.ending.Ending.TheVariants as ending
use Rattle.flow_core_laws.specs.declared.claim.Claim.{Claim}
use Rattle.os_ast.specs.Names.{Scope}
use Rattle.os_ast.specs.Notes.Clauses.{shape_of, window_notes, member_notes, members_notes}
use Rattle.os_ast.specs.Notes.Expressions.{place_notes, index_notes}
use Rattle.os_ast.specs.ClauseMembers.{ClauseMember, Item, Private, member_name}
use Rattle.os_ast.specs.Trees as tree
use Rattle.os_ast.specs.declared.expr.Name.{Name}
use Rattle.os_ast.specs.declared.names.Direction.{Direction}
use Rattle.os_ast.specs.declared.names.Direction.TheVariants as direction
use Rattle.os_ast.specs.declared.names.Entity.{Entity}
use Rattle.os_ast.specs.declared.names.Entry.{Entry}
use Rattle.os_ast.specs.declared.names.Resolved.{Resolved}
use Rattle.os_ast.specs.declared.names.Role.TheVariants as role
use Rattle.os_ast.specs.declared.names.Shape.{Shape}
use Rattle.os_ast.specs.declared.names.Use.TheVariants as usage
use Rattle.os_ast.specs.declared.names.What.TheVariants as what
use Rattle.os_code.specs.declared.instr.Instr.TheVariants as instr
use Rattle.os_code.specs.declared.parts.Parts.{Parts}
use Rattle.os_code.specs.declared.site.SiteItem.{SiteItem}
use Rattle.os_code.specs.Machine as machine
use Rattle.os_code.specs.Machine.{Frame, Going, stream_of, amount_of, size_of, forbidden_to, or_why, with_claim, spawned_claims, act}
use Rattle.os_code.specs.Parts.{instr_at}
use Rattle.lowering_relation.specs.Alignment.{slot_at}
use Rattle.lowering_relation.specs.Tasks.{HasStream, bursting, HasBurst, HasJoin, HasItems, is_write, slot_of, window_of, site_item, site_items}
use Rattle.lowering_relation.proofs.Context.{Context, means, tells, Agree, agree_first, agree_rest, used}
use Rattle.lowering_relation.proofs.Exprs.{Ready, expr_runs}
use Rattle.lowering_relation.proofs.Functions.{FileFits}
use Rattle.lowering_relation.proofs.MainContexts.{main_context, forbidden, JoinAt, scalar, window, join_at}
use Rattle.lowering_relation.proofs.Names.{pushes}
use Rattle.lowering_relation.proofs.Steps.{Store, at, Behind, onto, Leads, stays, one, stops_at, Meets, gives, halts, meets_then, acts}
use Rattle.lowering_relation.proofs.StreamIndexes.{stream_of_is, amount_is, burst_in, target_stream}
use Rattle.window_check_laws.specs.Order.{InOrder}

-- equal numbers as the machine compares them
equal_pos : (n k : ℕ) → (n == k) ≡ is_equal (pos n) (pos k)
equal_pos n k = ⊎_elim
    (λ e. eq-eqb n k e ∙ sym (ap (λ b. b && leb k n) (le-leb n k (omega (arith, e))) ∙ le-leb k n (omega (arith, e))))
    (λ ne. ⊎_elim
    (λ lt. apart n k (λ e. omega (arith, e, lt)) ∙ sym (ap (λ b. leb n k && b) (lt-leb k n lt) ∙ never (leb n k)))
    (λ gt. apart n k (λ e. omega (arith, e, gt)) ∙ sym (ap (λ b. b && leb k n) (lt-leb n k gt))) ne)
    (cases_order n k)
  where
    never : (b : Bool) → (b && false) ≡ false
    never true = refl
    never false = refl

    apart : (n k : ℕ) → (n ≡ k → ⊥) → (n == k) ≡ false
    apart n k ne = by_case (n == k) refl
      where
        by_case : (t : Bool) → (n == k) ≡ t → t ≡ false
        by_case true e = absurd (ne (eqb-true n k e))
        by_case false e = refl

-- what the machine makes of a burst
abbrev pub burst_by : (write : Bool) → (horizon : ℕ) → ℤ → Option ℕ
burst_by write horizon v = if write then (if is_equal v (pos horizon) then Some horizon else None) else amount_of v

-- the burst of an output item is its horizon
abbrev pub FitsBurst : Direction → (horizon amount : ℕ) → Type 0
FitsBurst direction.Reads horizon amount = ⊤
FitsBurst direction.Writes horizon amount = amount ≡ horizon

abbrev pub claimed : Bool → (stream horizon amount : ℕ) → Claim
claimed write stream horizon amount = record { stream = stream; write = write; horizon = horizon; burst = amount; skip = 0 }

same_claim : (d : Direction) (stream horizon amount : ℕ) → FitsBurst d horizon amount → claimed (is_write d) stream horizon amount ≡ claim_of d stream horizon amount
same_claim direction.Reads stream horizon amount fit = refl
same_claim direction.Writes stream horizon amount fit = ap (claimed true stream horizon) fit

forbids : (d : Direction) → (if is_write d then 0 else 1) ≡ forbidden d
forbids direction.Reads = refl
forbids direction.Writes = refl

one_burst : (d : Direction) → burst_by (is_write d) 1 (pos 1) ≡ Some 1
one_burst direction.Reads = refl
one_burst direction.Writes = refl

one_fits : (d : Direction) → FitsBurst d 1 1
one_fits direction.Reads = tt
one_fits direction.Writes = refl

claim_is : (all : ℕ) (slots : List ℤ) (item : SiteItem) (k : ℕ) (v : ℤ) (stream horizon amount : ℕ) → stream_of all (forbidden_to item) item.stream (pos k) ≡ Some stream → machine.horizon_of slots item.window ≡ Some horizon →
    burst_by item.write horizon v ≡ Some amount → machine.claim_of all slots item (pos k) v ≡ Ok (claimed item.write stream horizon amount)
claim_is all slots item k v stream horizon amount a b e =
    ap (λ o. or_why trap_of.Index o (λ x. or_why trap_of.WindowSize (machine.horizon_of slots item.window) (λ y. or_why (if item.write then trap_of.OutputBurst else trap_of.Move) (burst_by item.write y v) (λ z. Ok (claimed item.write x y z))))) a
    ∙ ap (λ o. or_why trap_of.WindowSize o (λ y. or_why (if item.write then trap_of.OutputBurst else trap_of.Move) (burst_by item.write y v) (λ z. Ok (claimed item.write stream y z)))) b
    ∙ ap (λ o. or_why (if item.write then trap_of.OutputBurst else trap_of.Move) o (λ z. Ok (claimed item.write stream horizon z))) e

size_is : (horizon : ℕ) → 1 ≤ horizon → horizon ≤ 65536 → size_of (pos horizon) ≡ Some horizon
size_is horizon lo hi = ap (λ b. if b && leb horizon 65536 then Some horizon else None) (le-leb 1 horizon lo) ∙ ap (λ b. if b then Some horizon else None) (le-leb horizon 65536 hi)

-- each claims one of `streams` streams
abbrev pub AllBelow : ℕ → List Claim → Type 0
AllBelow streams [] = ⊤
AllBelow streams (x ∷ xs) = (x.stream < streams) × AllBelow streams xs

-- the check of the burst of an output item
module _ (code : Parts) (callers : List Frame) where
  abbrev exact : (v : ℤ) (horizon to : ℕ) → List ℤ → Store → (turns : ℕ) → Behind ℕ
  exact v horizon to stack m turns = record { Known = λ n. (v ≡ pos n) × (n ≡ horizon); state = λ n w. at callers to (v ∷ stack) m turns; created = m.created }

  burst_out : (slot line p horizon : ℕ) (v : ℤ) (stack : List ℤ) (m : Store) (turns : ℕ) → instr_at code p ≡ Some (instr.BurstOut slot line) → slot_at m.slots slot ≡ pos horizon →
      Meets code (at callers p (v ∷ stack) m turns) (exact v horizon (p + 1) stack m turns) (output_burst line horizon v)
  unfolding act
  burst_out slot line p horizon v stack m turns is holds = by_sign v (acts code (at callers p (v ∷ stack) m turns) (instr.BurstOut slot line) is ∙ ap (λ x. tested v (is_equal v x)) holds)
    where
      tested : ℤ → Bool → machine.Progress
      tested x b = if b then Going (at callers (p + 1) (x ∷ stack) m turns) else machine.trap (at callers p (x ∷ stack) m turns) trap_of.OutputBurst line

      by_case : (n : ℕ) (t : Bool) → (n == horizon) ≡ t → machine.step code (at callers p (pos n ∷ stack) m turns) ≡ tested (pos n) t →
          Meets code (at callers p (pos n ∷ stack) m turns) (exact (pos n) horizon (p + 1) stack m turns) (if t then Ok n else traps trap_of.OutputBurst line)
      by_case n true e h = gives n (refl, eqb-true n horizon e) (one code h)
      by_case n false e h = halts (stops_at code (ending.Trapped trap_of.OutputBurst line) h)

      by_sign : (x : ℤ) → machine.step code (at callers p (x ∷ stack) m turns) ≡ tested x (is_equal x (pos horizon)) → Meets code (at callers p (x ∷ stack) m turns) (exact x horizon (p + 1) stack m turns) (output_burst line horizon x)
      by_sign (pos n) h = by_case n (n == horizon) refl (h ∙ ap (tested (pos n)) (sym (equal_pos n horizon)))
      by_sign (negsuc n) h = halts (stops_at code (ending.Trapped trap_of.OutputBurst line) h)

module _ (code : Parts) (file : File) (falls : CallsFall file) (names : List Resolved) (ordered : InOrder names) (file_es : List Entry) (fits : FileFits code file file_es) (streams later : ℕ) (all : streams ≤ code.streams) (callers : List Frame)
    (s : Scope) (es : List Entry) (st : BodyState) (m : Store) (ready : Ready (main_context code file falls names ordered file_es fits streams later) s es st m) where
  abbrev c : Context
  c = main_context code file falls names ordered file_es fits streams later

  -- behind a burst
  abbrev bursted : Direction → (horizon to : ℕ) → List ℤ → Behind (Left ℕ)
  bursted d horizon to stack = record {
    Known = λ b. (v : ℤ) × (burst_by (is_write d) horizon v ≡ Some b.value) × FitsBurst d horizon b.value;
    state = λ b w. at callers to (w.0 ∷ stack) m b.turns;
    created = m.created;
  }

  abbrev Joins : Name → Entity → Shape → Type 0
  Joins n e sh = JoinAt code file falls names ordered file_es fits streams later s es st m ready n.id e sh

  checks_burst : (d : Direction) (slot line horizon p to : ℕ) (n : Left ℤ) (stack : List ℤ) → instr_at code p ≡ Some (bursting d (what.Window slot) line) → p + 1 ≡ to → slot_at m.slots slot ≡ pos horizon →
      Meets code (at callers p (n.value ∷ stack) m n.turns) (bursted d horizon to stack) (with_turns n.turns (burst_of d line horizon n.value))
  checks_burst direction.Reads slot line horizon p to n stack is there holds =
      meets_then code (λ b. Ok (left b n.turns)) refl (burst_in code callers line p n.value stack m n.turns is)
      (λ b w. gives (left b n.turns) (n.value, ap amount_of w.0 ∙ amount_is b w.1, tt) (subst (λ q. Leads code (at callers (p + 1) (n.value ∷ stack) m n.turns) (at callers q (n.value ∷ stack) m n.turns)) there stays))
  checks_burst direction.Writes slot line horizon p to n stack is there holds =
      meets_then code (λ b. Ok (left b n.turns)) refl (burst_out code callers slot line p horizon n.value stack m n.turns is holds)
      (λ b w. gives (left b n.turns)
      (n.value, ap (λ v. if is_equal v (pos horizon) then Some horizon else None) w.0 ∙ ap (λ t. if t then Some horizon else None) (sym (equal_pos b horizon) ∙ eq-eqb b horizon w.1) ∙ ap Some (sym w.1), w.1)
      (subst (λ q. Leads code (at callers (p + 1) (n.value ∷ stack) m n.turns) (at callers q (n.value ∷ stack) m n.turns)) there stays))

  burst_runs : (d : Direction) (n : Name) (e : Entity) (b : Option tree.IndexTree) (from to : ℕ) (stack : List ℤ) (turns : ℕ) → (tells c n.mark.place).what ≡ means c e → Joins n e (shape_of b) → Agree c (index_notes s b) →
      HasBurst code (tells c) d (tells c n.mark.place).what b from to →
      Meets code (at callers from stack m turns) (bursted d (horizon_of (find st.bound n.id)) to stack) (burst file d (horizon_of (find st.bound n.id)) b st turns)
  burst_runs d n e None from to stack turns told (scalar slot is mean) agree h =
      subst (λ k. Meets code (at callers from stack m turns) (bursted d k to stack) (burst file d k None st turns)) (sym (ap horizon_of is))
      (gives (left 1 turns) (pos 1, one_burst d, one_fits d) (pushes code callers (pos 1) from to stack m turns h))
  burst_runs d n e (Some i) from to stack turns told (window slot horizon is mean holds lo hi) agree h =
      subst (λ k. Meets code (at callers from stack m turns) (bursted d k to stack) (burst file d k (Some i) st turns)) (sym (ap horizon_of is))
      (meets_then code (λ x. with_turns x.turns (burst_of d i.mark.line horizon x.value)) refl
      (expr_runs c callers s es st m ready i.value from h.0 stack turns agree h.1)
      (λ x u. checks_burst d slot i.mark.line horizon h.0 to x stack (h.2.0 ∙ ap (λ w. Some (bursting d w i.mark.line)) (told ∙ mean)) h.2.1 holds))

  horizon_is : (n : Name) (e : Entity) (b : Option tree.IndexTree) → (tells c n.mark.place).what ≡ means c e → Joins n e (shape_of b) →
      machine.horizon_of m.slots (slot_of (tells c n.mark.place).what) ≡ Some (horizon_of (find st.bound n.id))
  horizon_is n e None told (scalar slot is mean) = ap (λ w. machine.horizon_of m.slots (slot_of w)) (told ∙ mean) ∙ ap Some (sym (ap horizon_of is))
  horizon_is n e (Some i) told (window slot horizon is mean holds lo hi) =
      ap (λ w. machine.horizon_of m.slots (slot_of w)) (told ∙ mean) ∙ ap size_of holds ∙ size_is horizon lo hi ∙ ap Some (sym (ap horizon_of is))

  -- behind an item
  abbrev itemed : SiteItem → (to : ℕ) → List ℤ → Behind (Left Claim)
  itemed item to stack = record {
    Known = λ x. (k : ℕ) × (v : ℤ) × (machine.claim_of code.streams m.slots item (pos k) v ≡ Ok x.value) × (x.value.stream < streams);
    state = λ x w. at callers to (w.1 ∷ pos w.0 ∷ stack) m x.turns;
    created = m.created;
  }

  abbrev item_of : Direction → ℕ → Option tree.JoinTree → SiteItem
  item_of d first w = record { write = is_write d; stream = first; window = window_of (tells c) w }

  claim_stream : (d : Direction) (stream horizon amount : ℕ) → (claim_of d stream horizon amount).stream ≡ stream
  claim_stream direction.Reads stream horizon amount = refl
  claim_stream direction.Writes stream horizon amount = refl

  picked : (d : Direction) (first k : ℕ) → first + k < streams → (first + k == forbidden d) ≡ false → stream_of code.streams (if is_write d then 0 else 1) first (pos k) ≡ Some (first + k)
  picked d first k lt apart = stream_of_is code.streams (if is_write d then 0 else 1) first k (omega (arith, lt, all)) (ap (λ n. first + k == n) (forbids d) ∙ apart)

  window_runs : (d : Direction) (t : tree.TargetTree) (w : Option tree.JoinTree) (before : List ℕ) (first k stream from to : ℕ) (stack : List ℤ) (turns : ℕ) → stream ≡ first + k → first + k < streams → (first + k == forbidden d) ≡ false →
      Agree c (window_notes s before t w) → HasJoin code (tells c) d w from to → Meets code (at callers from (pos k ∷ stack) m turns) (itemed (item_of d first w) to stack) (joined file d stream w st turns)
  window_runs d t None before first k stream from to stack turns same lt apart agree h =
      let item = item_of d first None in
      gives (left (claim_of d stream 1 1) turns) (
        k,
        pos 1,
        claim_is code.streams m.slots item k (pos 1) (first + k) 1 1 (picked d first k lt apart) refl (one_burst d) ∙ ap Ok (same_claim d (first + k) 1 1 (one_fits d) ∙ ap (λ x. claim_of d x 1 1) (sym same)),
        (let z : (claim_of d stream 1 1).stream ≡ stream = claim_stream d stream 1 1 in omega (arith, z, same, lt)),
      )
      (pushes code callers (pos 1) from to (pos k ∷ stack) m turns h)
  window_runs d t (Some j) before first k stream from to stack turns same lt apart agree h =
      let item = item_of d first (Some j) in
      let horizon = horizon_of (find st.bound j.name.id) in
      let u = used c s es j.name (usage.Joined (shape_of j.burst)) (index_notes s j.burst) ready.scope agree.1 in
      let join = join_at code file falls names ordered file_es fits streams later s es st m ready j.name (shape_of j.burst) u in
      meets_then code (λ b. Ok (left (claim_of d stream horizon b.value) b.turns)) refl
      (burst_runs d j.name u.entity j.burst from to (pos k ∷ stack) turns u.told join agree.1.1 h)
      (λ b w. gives (left (claim_of d stream horizon b.value) b.turns) (
        k,
        w.0,
        claim_is code.streams m.slots item k w.0 (first + k) horizon b.value (picked d first k lt apart) (horizon_is j.name u.entity j.burst u.told join) w.1
            ∙ ap Ok (same_claim d (first + k) horizon b.value w.2 ∙ ap (λ x. claim_of d x horizon b.value) (sym same)),
        (let z : (claim_of d stream horizon b.value).stream ≡ stream = claim_stream d stream horizon b.value in omega (arith, z, same, lt)),
      )
      stays)

  item_runs : (d : Direction) (i : tree.ClauseItemTree) (before : List ℕ) (from mid to : ℕ) (stack : List ℤ) (turns : ℕ) → Agree c (member_notes s before (Item d i)) →
      HasStream code (tells c) i.stream from mid → HasJoin code (tells c) d i.window mid to →
      Meets code (at callers from stack m turns) (itemed (site_item (tells c) d i) to stack) (item_claim file d i st turns)
  item_runs d i before from mid to stack turns agree h join =
      let x = target_stream code file falls names ordered file_es fits streams later callers s es st m ready i.stream d (agree_first c (place_notes s (role.Flow d) i.stream) (window_notes s before i.stream i.window) agree) in
      meets_then code (λ n. joined file d n.value i.window st n.turns) refl (x.runs from mid stack turns h)
      (λ n w.
      subst (λ f. Meets code (at callers mid (pos w.0 ∷ stack) m n.turns) (itemed (item_of d f i.window) to stack) (joined file d n.value i.window st n.turns)) (sym x.first_is)
      (window_runs d i.stream i.window before x.first w.0 n.value mid to stack n.turns w.1 (omega (arith, w.2, x.below)) (x.allowed w.0 w.2)
      (agree_rest c (place_notes s (role.Flow d) i.stream) (window_notes s before i.stream i.window) agree) join))

  -- behind all items
  abbrev pub all_itemed : List SiteItem → (to : ℕ) → List ℤ → Behind (Left (List Claim))
  all_itemed items to stack = record {
    Known = λ xs. (operands : List ℤ) × (spawned_claims code.streams m.slots items operands ≡ Ok xs.value) × (2 * length items ≡ length operands) × AllBelow streams xs.value;
    state = λ xs w. at callers to (onto w.0 stack) m xs.turns;
    created = m.created;
  }

  pub items_run : (ps : List ClauseMember) (before : List ℕ) (from to : ℕ) (stack : List ℤ) (turns : ℕ) → Agree c (members_notes s before ps) → HasItems code (tells c) ps from to →
      Meets code (at callers from stack m turns) (all_itemed (site_items (tells c) ps) to stack) (items_claims file ps st turns)
  items_run [] before from to stack turns agree h =
      gives (left [] turns) ([], refl, refl, tt) (subst (λ q. Leads code (at callers from stack m turns) (at callers q stack m turns)) h stays)
  items_run (Private n ∷ ps) before from to stack turns agree h = items_run ps (n.id ∷ before) from to stack turns agree.1.1 h
  items_run (Item d i ∷ ps) before from to stack turns agree h =
      let first = member_notes s before (Item d i) in
      let later_names = (member_name (Item d i)).id ∷ before in
      let item = site_item (tells c) d i in
      let items = site_items (tells c) ps in
      meets_then code (λ x. and_then (items_claims file ps st x.turns) (λ xs. Ok (left (x.value ∷ xs.value) xs.turns))) refl
      (item_runs d i before from h.0 h.1 stack turns (agree_first c first (members_notes s later_names ps) agree) h.2 h.3)
      (λ x w. meets_then code (λ xs. Ok (left (x.value ∷ xs.value) xs.turns)) refl
      (items_run ps later_names h.1 to (w.1 ∷ pos w.0 ∷ stack) x.turns (agree_rest c first (members_notes s later_names ps) agree) h.4)
      (λ xs z. gives (left (x.value ∷ xs.value) xs.turns) (
        pos w.0 ∷ w.1 ∷ z.0,
        ap (λ r. with_claim r (spawned_claims code.streams m.slots items z.0)) w.2 ∙ ap (with_claim (Ok x.value)) z.1,
        (let n = z.2 in omega (arith, n)),
        (w.3, z.3),
      )
      stays))
