-- The code of a stream's index, and of what a cursor is moved by, gives what an item or a tick names.
use Rattle.std.proofs.Common.{◌≡◌, ℕ, ◌+◌, ◌<◌, ◌≤◌, ◌==◌, Bool, true, false, if◌then◌else◌, List, [], ◌∷◌, Some, None, Ok, ℤ, pos, negsuc, refl, sym, ap, ◌∙◌, subst, arith, leb, leb-true, leb-false, lt-ltb, le-ltb}
use Rattle.c_int.specs.declared.trap.Trap.TheVariants as trap_of
use Rattle.cddf_meaning.specs.Answers.{traps, and_then, Left, left}
use Rattle.cddf_meaning.specs.File.{File}
use Rattle.cddf_meaning.specs.Moves.{CallsFall}
use Rattle.cddf_meaning.specs.BodyState.{BodyState}
use Rattle.cddf_meaning.specs.Streams.{first_stream, stream_count, stream_number, cursor_move}
use Rattle.cddf_meaning.specs.Value.{checked}
use Rattle.cddf_meaning.specs.Variables.{find}
use Rattle.cddf_meaning.specs.declared.ending.Ending.TheVariants as ending
use Rattle.os_ast.specs.Names.{Scope}
use Rattle.os_ast.specs.Notes.Expressions.{expr_notes, place_notes}
use Rattle.os_ast.specs.ClauseMembers.{target_name}
use Rattle.os_ast.specs.Trees as tree
use Rattle.os_ast.specs.declared.names.Direction.{Direction}
use Rattle.os_ast.specs.declared.names.Entry.{Entry}
use Rattle.os_ast.specs.declared.names.Resolved.{Resolved}
use Rattle.os_ast.specs.declared.names.Role.TheVariants as role
use Rattle.os_ast.specs.declared.names.Shape.TheVariants as shape
use Rattle.os_ast.specs.declared.names.Use.TheVariants as usage
use Rattle.os_code.specs.declared.instr.Instr.TheVariants as instr
use Rattle.os_code.specs.declared.parts.Parts.{Parts}
use Rattle.os_code.specs.Machine.{Frame, Going, or_trap, unless_forbidden, stream_of, amount_of, act}
use Rattle.os_code.specs.Machine as machine
use Rattle.os_code.specs.Parts.{instr_at}
use Rattle.lowering_relation.specs.Names.{first_of, count_of}
use Rattle.lowering_relation.specs.Tasks.{HasStream}
use Rattle.lowering_relation.proofs.Context.{Context, tells, Agree, used}
use Rattle.lowering_relation.proofs.Exprs.{Ready, expr_runs}
use Rattle.lowering_relation.proofs.Functions.{FileFits}
use Rattle.lowering_relation.proofs.MainContexts.{main_context, forbidden, stream_at}
use Rattle.lowering_relation.proofs.Names.{pushes, check_at}
use Rattle.lowering_relation.proofs.Steps.{Store, at, Behind, checked_index, Leads, stays, one, stops_at, Meets, gives, halts, meets_then, acts}
use Rattle.window_check_laws.specs.Order.{InOrder}

-- which stream an index picks
pub stream_of_is : (all forbids first k : ℕ) → first + k < all → (first + k == forbids) ≡ false → stream_of all forbids first (pos k) ≡ Some (first + k)
stream_of_is all forbids first k lt apart =
    ap (λ b. unless_forbidden forbids (if b then Some (first + k) else None)) (lt-ltb (first + k) all lt) ∙ ap (λ b. if b then None else Some (first + k)) apart

pub amount_is : (n : ℕ) → n ≤ 65536 → amount_of (pos n) ≡ Some n
amount_is n le = ap (λ b. if b then Some n else None) (lt-ltb n 65537 (omega (arith, le)))

-- behind the check of what a cursor is moved by
abbrev pub amounted : List Frame → ℤ → (to : ℕ) → List ℤ → Store → (turns : ℕ) → Behind ℕ
amounted callers v to stack m turns = record { Known = λ n. (v ≡ pos n) × (n ≤ 65536); state = λ n w. at callers to (v ∷ stack) m turns; created = m.created }

module _ (code : Parts) (callers : List Frame) where
  pub burst_in : (line p : ℕ) (v : ℤ) (stack : List ℤ) (m : Store) (turns : ℕ) → instr_at code p ≡ Some (instr.BurstIn line) →
      Meets code (at callers p (v ∷ stack) m turns) (amounted callers v (p + 1) stack m turns) (cursor_move line v)
  unfolding act
  burst_in line p (negsuc n) stack m turns is = halts (stops_at code (ending.Trapped trap_of.Move line) (acts code (at callers p (negsuc n ∷ stack) m turns) (instr.BurstIn line) is))
  burst_in line p (pos n) stack m turns is = by_case (leb n 65536) refl (acts code (at callers p (pos n ∷ stack) m turns) (instr.BurstIn line) is)
    where
      s : machine.MachineState
      s = at callers p (pos n ∷ stack) m turns

      moved : Bool → machine.Progress
      moved b = or_trap s trap_of.Move line (if b then Some n else None) (λ amount. Going (at callers (p + 1) (pos n ∷ stack) m turns))

      by_case : (t : Bool) → leb n 65536 ≡ t → machine.step code s ≡ or_trap s trap_of.Move line (amount_of (pos n)) (λ amount. Going (at callers (p + 1) (pos n ∷ stack) m turns)) →
          Meets code s (amounted callers (pos n) (p + 1) stack m turns) (if t then Ok n else traps trap_of.Move line)
      by_case true e h = gives n (refl, leb-true n 65536 e) (one code (h ∙ ap moved (lt-ltb n 65537 (let x = leb-true n 65536 e in omega (arith, x)))))
      by_case false e h = halts (stops_at code (ending.Trapped trap_of.Move line) (h ∙ ap moved (le-ltb n 65537 (let x = leb-false n 65536 e in omega (arith, x)))))

module _ (code : Parts) (file : File) (falls : CallsFall file) (names : List Resolved) (ordered : InOrder names) (file_es : List Entry) (fits : FileFits code file file_es) (streams later : ℕ) (callers : List Frame)
    (s : Scope) (es : List Entry) (st : BodyState) (m : Store) (ready : Ready (main_context code file falls names ordered file_es fits streams later) s es st m) where
  abbrev c : Context
  c = main_context code file falls names ordered file_es fits streams later

  -- behind the index of a stream
  abbrev pub indexed : (first count to : ℕ) → List ℤ → Behind (Left ℕ)
  indexed first count to stack = record {
    Known = λ n. (k : ℕ) × (n.value ≡ first + k) × (k < count);
    state = λ n w. at callers to (pos w.0 ∷ stack) m n.turns;
    created = m.created;
  }

  -- the stream that a target names
  pub record TargetStream (t : tree.TargetTree) (dir : Direction) : Type 0 where
    pub first : ℕ
    pub count : ℕ
    pub first_is : first_of (tells c (target_name t).mark.place).what ≡ first
    pub below : first + count ≤ streams
    pub allowed : (k : ℕ) → k < count → (first + k == forbidden dir) ≡ false
    pub runs : (from to : ℕ) (stack : List ℤ) (turns : ℕ) → HasStream code (tells c) t from to →
        Meets code (at callers from stack m turns) (indexed first count to stack) (stream_number file t st turns)

  pub target_stream : (t : tree.TargetTree) (dir : Direction) → Agree c (place_notes s (role.Flow dir) t) → TargetStream t dir
  target_stream (tree.Variable n) dir agree =
      let k = used c s es n (usage.Place (role.Flow dir) shape.Bare) [] ready.scope agree in
      let x = stream_at code file falls names ordered file_es fits streams later s es st m ready n dir shape.Bare k in
      record {
        first = x.first;
        count = x.count;
        first_is = ap first_of (k.told ∙ x.mean);
        below = x.below;
        allowed = x.allowed;
        runs = λ from to stack turns h.
            gives (left (first_stream (find st.bound n.id)) turns) (0, ap first_stream x.is ∙ (let z : x.first ≡ x.first + 0 = omega arith in z), x.alone refl) (pushes code callers (pos 0) from to stack m turns h);
      }
  target_stream (tree.Element n mark e) dir agree =
      let k = used c s es n (usage.Place (role.Flow dir) shape.Indexed) (expr_notes s e) ready.scope agree in
      let x = stream_at code file falls names ordered file_es fits streams later s es st m ready n dir shape.Indexed k in
      let v = find st.bound n.id in
      let size : stream_count v ≡ x.count = ap stream_count x.is in
      record {
        first = x.first;
        count = x.count;
        first_is = ap first_of (k.told ∙ x.mean);
        below = x.below;
        allowed = x.allowed;
        runs = λ from to stack turns h.
            meets_then code (λ i. and_then (checked (stream_count v) mark.line i.value) (λ j. Ok (left (first_stream v + j) i.turns))) refl
            (expr_runs c callers s es st m ready e from h.0 stack turns agree.1 h.1)
            (λ i u. meets_then code (λ j. Ok (left (first_stream v + j) i.turns)) refl
            (subst (λ q. Meets code (at callers h.0 (i.value ∷ stack) m i.turns) (checked_index i.value q (λ j. at callers (h.0 + 1) (i.value ∷ stack) m i.turns) m.created) (checked q mark.line i.value)) (sym size)
            (check_at code callers x.count mark.line h.0 i.value stack m i.turns (h.2.0 ∙ ap (λ w. Some (instr.CheckAt (count_of w) mark.line)) (k.told ∙ x.mean))))
            (λ j w. gives (left (first_stream v + j) i.turns) (j, ap (λ o. first_stream o + j) x.is, subst (λ q. j < q) size w.1)
            (subst (λ q. Leads code (at callers (h.0 + 1) (i.value ∷ stack) m i.turns) (at callers q (pos j ∷ stack) m i.turns)) h.2.1
            (subst (λ y. Leads code (at callers (h.0 + 1) (i.value ∷ stack) m i.turns) (at callers (h.0 + 1) (y ∷ stack) m i.turns)) w.0 stays))));
      }
