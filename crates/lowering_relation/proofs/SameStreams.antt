-- The pragmas of `main` do the same where more is in scope.
use Rattle.std.proofs.Common.{◌≡◌, ℕ, zero, suc, ◌+◌, List, [], ◌∷◌, ◌++◌, map, Option, Some, None, Ok, refl, sym, ap, ◌∙◌, subst}
use Rattle.c_int.specs.declared.control_limit.ControlLimit.{ControlLimit}
use Rattle.cddf_meaning.specs.Answers.{left, and_then, with_turns}
use Rattle.cddf_meaning.specs.Claims.{with_skips, moves_behind, limit}
use Rattle.cddf_meaning.specs.File.{or_in_file}
use Rattle.cddf_meaning.specs.Flow.{with_value}
use Rattle.cddf_meaning.specs.BodyState.{BodyState}
use Rattle.cddf_meaning.specs.Streams.{first_stream, stream_count, stream_number, cursor_move, burst_of, horizon_of, claim_of, burst, joined, item_claim, items_claims, captured_values, with_activation, unless_limited, task_number, captured_by, run_task, moved, tick_turn, run_tick}
use Rattle.cddf_meaning.specs.Value.{scalar_value, value, checked}
use Rattle.cddf_meaning.specs.Variables.{find}
use Rattle.cddf_meaning.specs.declared.ending.Ending.TheVariants.{OverBudget, Limited}
use Rattle.cddf_meaning.specs.declared.site.Site.{Site}
use Rattle.cddf_meaning.specs.declared.variable.Binding.{Binding}
use Rattle.flow_core_laws.specs.declared.claim.Claim.{Claim}
use Rattle.os_ast.specs.Captured.{Scalar, captured}
use Rattle.os_ast.specs.Names.{Scope, lookup, entity_of}
use Rattle.os_ast.specs.Notes.Clauses.{shape_of, window_notes, member_notes, members_notes}
use Rattle.os_ast.specs.Notes.Expressions.{expr_notes, place_notes, index_notes}
use Rattle.os_ast.specs.Notes.Kinds.{Note, Used}
use Rattle.os_ast.specs.ClauseMembers.{ClauseMember, Item, Private, member_name, members}
use Rattle.os_ast.specs.Trees as tree
use Rattle.os_ast.specs.declared.expr.Mark.{Mark}
use Rattle.os_ast.specs.declared.expr.Name.{Name}
use Rattle.os_ast.specs.declared.names.Direction.{Direction}
use Rattle.os_ast.specs.declared.names.Direction.TheVariants as direction
use Rattle.os_ast.specs.declared.names.Entity.{Entity}
use Rattle.os_ast.specs.declared.names.Entry.{Entry}
use Rattle.os_ast.specs.declared.names.Role.TheVariants as role
use Rattle.os_ast.specs.declared.names.Shape.TheVariants as shape
use Rattle.os_ast.specs.declared.names.Use.{Use}
use Rattle.os_ast.specs.declared.names.Use.TheVariants as usage
use Rattle.lowering_relation.specs.FoundNames.{AreElse, with_more}
use Rattle.lowering_relation.proofs.Capturing.{HasSlot, AreScalars, captured_scalars}
use Rattle.lowering_relation.proofs.Context.{Context, Agree, agree_first, agree_rest, In, used}
use Rattle.lowering_relation.proofs.Elsewhere.{same_then}
use Rattle.lowering_relation.proofs.Flows.{exactly}
use Rattle.lowering_relation.proofs.SameChanges.{scalar_more}
use Rattle.lowering_relation.proofs.SameFlows.{SameRan, went, ended, given_same}
use Rattle.lowering_relation.proofs.SameNames.{Seen, same_found, Matches, seen_expr, value_more}

-- all that is declared in a scope is seen
abbrev pub SeesAll : Context → Type 0
SeesAll c =
    (s : Scope) (es : List Entry) (bound : List Binding) (id : ℕ) (d : Entity) → In c s es → Matches c bound es → entity_of (lookup s.entries id) ≡ Some d → Seen c.file bound id

-- what a task of this number captures
abbrev pub IsNamed : List Site → Scope → Mark → List tree.ClauseTree → tree.StmtTree → Type 0
IsNamed sites s m cs a = (number : ℕ) × (task_number sites m ≡ Some number) × (captured_by sites number ≡ map (λ (x : Scalar). x.id) (captured s.entries (members cs) a))

module _ (c : Context) (more : List Binding) (apart : AreElse c.file more) (sees : SeesAll c) (s : Scope) (es : List Entry) (is : In c s es) (st : BodyState) (same : Matches c st.bound es) where
  abbrev st2 : BodyState
  st2 = with_more more st

  found_more : (n : Name) (u : Use) (ns : List Note) → Agree c (Used s n u ∷ ns) → find st.bound n.id ≡ find st2.bound n.id
  found_more n u ns agree = let k = used c s es n u ns is agree in same_found c.file st.bound more n.id apart (sees s es st.bound n.id k.entity is same k.is)

  expr_more : (e : tree.ExprTree) (turns : ℕ) → Agree c (expr_notes s e) → value c.file e st turns ≡ value c.file e st2 turns
  expr_more e turns agree = value_more c.file more apart st e turns (seen_expr c s es is st.bound same e agree)

  stream_more : (t : tree.TargetTree) (d : Direction) (turns : ℕ) → Agree c (place_notes s (role.Flow d) t) → stream_number c.file t st turns ≡ stream_number c.file t st2 turns
  stream_more (tree.Variable n) d turns agree = ap (λ o. Ok (left (first_stream o) turns)) (found_more n (usage.Place (role.Flow d) shape.Bare) [] agree)
  stream_more (tree.Element n m e) d turns agree =
      same_then (value c.file e st turns) (value c.file e st2 turns) (λ i. and_then (checked (stream_count (find st.bound n.id)) m.line i.value) (λ k. Ok (left (first_stream (find st.bound n.id) + k) i.turns)))
      (λ i. and_then (checked (stream_count (find st2.bound n.id)) m.line i.value) (λ k. Ok (left (first_stream (find st2.bound n.id) + k) i.turns))) (expr_more e turns agree.1)
      (λ i. ap (λ v. and_then (checked (stream_count v) m.line i.value) (λ k. Ok (left (first_stream v + k) i.turns))) (found_more n (usage.Place (role.Flow d) shape.Indexed) (expr_notes s e) agree))

  burst_more : (d : Direction) (horizon : ℕ) (b : Option tree.IndexTree) (turns : ℕ) → Agree c (index_notes s b) → burst c.file d horizon b st turns ≡ burst c.file d horizon b st2 turns
  burst_more d horizon None turns agree = refl
  burst_more d horizon (Some i) turns agree = ap (λ a. and_then a (λ n. with_turns n.turns (burst_of d i.mark.line horizon n.value))) (expr_more i.value turns agree)

  joined_more : (d : Direction) (stream : ℕ) (t : tree.TargetTree) (before : List ℕ) (w : Option tree.JoinTree) (turns : ℕ) → Agree c (window_notes s before t w) → joined c.file d stream w st turns ≡ joined c.file d stream w st2 turns
  joined_more d stream t before None turns agree = refl
  joined_more d stream t before (Some j) turns agree =
      ap (λ h. and_then (burst c.file d h j.burst st turns) (λ b. Ok (left (claim_of d stream h b.value) b.turns))) (ap horizon_of (found_more j.name (usage.Joined (shape_of j.burst)) (index_notes s j.burst) agree.1))
      ∙ ap (λ a. and_then a (λ b. Ok (left (claim_of d stream (horizon_of (find st2.bound j.name.id)) b.value) b.turns))) (burst_more d (horizon_of (find st2.bound j.name.id)) j.burst turns agree.1.1)

  item_more : (d : Direction) (i : tree.ClauseItemTree) (before : List ℕ) (turns : ℕ) → Agree c (member_notes s before (Item d i)) → item_claim c.file d i st turns ≡ item_claim c.file d i st2 turns
  item_more d i before turns agree =
      let front = place_notes s (role.Flow d) i.stream in
      let rest = window_notes s before i.stream i.window in
      same_then (stream_number c.file i.stream st turns) (stream_number c.file i.stream st2 turns) (λ n. joined c.file d n.value i.window st n.turns) (λ n. joined c.file d n.value i.window st2 n.turns)
      (stream_more i.stream d turns (agree_first c front rest agree)) (λ n. joined_more d n.value i.stream before i.window n.turns (agree_rest c front rest agree))

  items_more : (ps : List ClauseMember) (before : List ℕ) (turns : ℕ) → Agree c (members_notes s before ps) → items_claims c.file ps st turns ≡ items_claims c.file ps st2 turns
  items_more [] before turns agree = refl
  items_more (Private n ∷ ps) before turns agree = items_more ps (n.id ∷ before) turns agree.1.1
  items_more (Item d i ∷ ps) before turns agree =
      let front = member_notes s before (Item d i) in
      let rest = members_notes s ((member_name (Item d i)).id ∷ before) ps in
      same_then (item_claim c.file d i st turns) (item_claim c.file d i st2 turns) (λ x. and_then (items_claims c.file ps st x.turns) (λ xs. Ok (left (x.value ∷ xs.value) xs.turns)))
      (λ x. and_then (items_claims c.file ps st2 x.turns) (λ xs. Ok (left (x.value ∷ xs.value) xs.turns))) (item_more d i before turns (agree_first c front rest agree))
      (λ x. ap (λ a. and_then a (λ xs. Ok (left (x.value ∷ xs.value) xs.turns))) (items_more ps ((member_name (Item d i)).id ∷ before) x.turns (agree_rest c front rest agree)))

  captured_more : (xs : List Scalar) → AreScalars s.entries xs → captured_values c.file st (map (λ (x : Scalar). x.id) xs) ≡ captured_values c.file st2 (map (λ (x : Scalar). x.id) xs)
  captured_more [] h = refl
  captured_more (x ∷ xs) h =
      ap (λ v. v ∷ captured_values c.file st (map (λ (y : Scalar). y.id) xs)) (scalar_more c.file more apart st x.id (by_entity (entity_of (lookup s.entries x.id)) refl h.0))
      ∙ ap (λ vs. scalar_value st2 (or_in_file c.file x.id (find st2.bound x.id)) ∷ vs) (captured_more xs h.1)
    where
      by_entity : (o : Option Entity) → entity_of (lookup s.entries x.id) ≡ o → HasSlot o x.slot → Seen c.file st.bound x.id
      by_entity None there has = absurd (cc)
      by_entity (Some d) there has = sees s es st.bound x.id d is same there

  pub task_same : (sites : List Site) (mark : Mark) (cs : List tree.ClauseTree) (a : tree.StmtTree) (turns : ℕ) → Agree c (members_notes s [] (members cs)) → IsNamed sites s mark cs a →
      SameRan c more (exactly es) es (run_task c.file sites (task_number sites mark) (members cs) st turns) (run_task c.file sites (task_number sites mark) (members cs) st2 turns)
  task_same sites mark cs a turns agree (number, is_number, captures) =
      subst (λ o. SameRan c more (exactly es) es (run_task c.file sites o (members cs) st turns) (run_task c.file sites o (members cs) st2 turns)) (sym is_number)
      (given_same c more st (items_claims c.file (members cs) st turns) (items_claims c.file (members cs) st2 turns)
      (λ x. unless_limited (limit st.activations x.value) st x.turns (with_activation c.file number names x.value st))
      (λ x. unless_limited (limit st.activations x.value) st2 x.turns (with_activation c.file number names x.value st2)) (items_more (members cs) [] turns agree)
      (λ x q. created x.value x.turns (limit st.activations x.value)))
    where
      names : List ℕ
      names = captured_by sites number

      values : captured_values c.file st names ≡ captured_values c.file st2 names
      values =
          ap (captured_values c.file st) captures ∙ captured_more (captured s.entries (members cs) a) (captured_scalars s.entries _) ∙ ap (captured_values c.file st2) (sym captures)

      created : (claims : List Claim) (left_turns : ℕ) (o : Option ControlLimit) →
          SameRan c more (exactly es) es (unless_limited o st left_turns (with_activation c.file number names claims st)) (unless_limited o st2 left_turns (with_activation c.file number names claims st2))
      created claims left_turns (Some n) = ended (Limited n) st.activations
      created claims left_turns None =
          subst (λ vs. SameRan c more (exactly es) es (unless_limited None st left_turns (with_activation c.file number names claims st))
          (unless_limited None st2 left_turns
          (record st2 { activations = st.activations ++ record { site = number; captured = vs; claims = with_skips st.moves claims } ∷ []; moves = moves_behind st.moves claims }))) values
          (went (with_activation c.file number names claims st) left_turns same)

  pub tick_same : (t : tree.TargetTree) (arrow : Mark) (e : tree.ExprTree) (turns : ℕ) → Agree c (place_notes s (role.Flow direction.Reads) t ++ expr_notes s e) →
      SameRan c more (exactly es) es (run_tick c.file t arrow e st turns) (run_tick c.file t arrow e st2 turns)
  tick_same t arrow e turns agree =
      let front = place_notes s (role.Flow direction.Reads) t in
      given_same c more st (stream_number c.file t st turns) (stream_number c.file t st2 turns)
      (λ n. with_value (value c.file e st n.turns) st (λ v. with_value (cursor_move arrow.line v.value) st (λ amount. tick_turn n.value amount st v.turns)))
      (λ n. with_value (value c.file e st2 n.turns) st2 (λ v. with_value (cursor_move arrow.line v.value) st2 (λ amount. tick_turn n.value amount st2 v.turns))) (stream_more t direction.Reads turns (agree_first c front (expr_notes s e) agree))
      (λ n q. given_same c more st (value c.file e st n.turns) (value c.file e st2 n.turns) (λ v. with_value (cursor_move arrow.line v.value) st (λ amount. tick_turn n.value amount st v.turns))
      (λ v. with_value (cursor_move arrow.line v.value) st2 (λ amount. tick_turn n.value amount st2 v.turns)) (expr_more e n.turns (agree_rest c front (expr_notes s e) agree))
      (λ v r. given_same c more st (cursor_move arrow.line v.value) (cursor_move arrow.line v.value) (λ amount. tick_turn n.value amount st v.turns) (λ amount. tick_turn n.value amount st2 v.turns) refl
      (λ amount z. turned n.value amount v.turns)))
    where
      turned : (stream amount left_turns : ℕ) → SameRan c more (exactly es) es (tick_turn stream amount st left_turns) (tick_turn stream amount st2 left_turns)
      turned stream amount zero = ended OverBudget st.activations
      turned stream amount (suc left_turns) = went (moved stream amount st) left_turns same
