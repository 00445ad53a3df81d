-- The outermost block of `main`: streams are declared in it alone, in the order of the text, so that the run has at each
-- place as many as the text before it.
use Rattle.std.proofs.Common.{◌≡◌, ℕ, ◌+◌, ◌-◌, ◌≤◌, Bool, true, false, List, [], ◌∷◌, ◌++◌, length, Option, Some, None, ℤ, pos, refl, sym, ap, ◌∙◌, subst, arith}
use Rattle.std.specs.Prelude.{unwrap_or}
use Rattle.window_check_laws.proofs.NamePlaces.{or-first}
use Rattle.window_check_laws.proofs.Known.{not-false}
use Rattle.cddf_meaning.specs.File.{File}
use Rattle.cddf_meaning.specs.Flow.{Ran, Went, Ended, Runs, with_value, goes_on, flows}
use Rattle.cddf_meaning.specs.Moves.{CallsFall}
use Rattle.cddf_meaning.specs.Run.{Around, array_size, with_streams, run_declarator, run_declarators, run_all}
use Rattle.cddf_meaning.specs.Skips.{skips_of}
use Rattle.cddf_meaning.specs.BodyState.{BodyState}
use Rattle.cddf_meaning.specs.declared.flow.Flow.TheVariants.{GoesOn, Breaks, Continues, Returns}
use Rattle.cddf_meaning.specs.declared.site.Site.{Site}
use Rattle.cddf_meaning.specs.declared.variable.Binding.{Binding}
use Rattle.cddf_meaning.specs.declared.variable.Variable.{Variable}
use Rattle.cddf_meaning.specs.declared.variable.Variable.TheVariants as variable
use Rattle.os_ast.specs.Leveled.{IsStmt, AreStmts}
use Rattle.os_ast.specs.Limits.{is_size}
use Rattle.os_ast.specs.Meanings.{what_declared}
use Rattle.os_ast.specs.Names.{Scope, typed}
use Rattle.os_ast.specs.Notes.Declarators.{size_value, size_of, limited, form, form_with, taken, after_declarator, after_declarators, declarator_notes, declarators_notes}
use Rattle.os_ast.specs.Notes.Kinds.{Note}
use Rattle.os_ast.specs.Notes.Statements.{after_stmt, after_stmts, stmt_notes, stmts_notes}
use Rattle.os_ast.specs.Rules.{has_no_size, has_too_many}
use Rattle.os_ast.specs.Trees as tree
use Rattle.os_ast.specs.declared.expr.Name.{Name}
use Rattle.os_ast.specs.declared.names.Entity.{Entity}
use Rattle.os_ast.specs.declared.names.Entry.{Entry}
use Rattle.os_ast.specs.declared.names.Resolved.{Resolved}
use Rattle.os_ast.specs.declared.names.What.{What}
use Rattle.os_ast.specs.declared.names.What.TheVariants as what
use Rattle.os_ast.specs.declared.ty.Ty.{Ty}
use Rattle.os_code.specs.declared.instr.Instr.TheVariants as instr
use Rattle.os_code.specs.declared.parts.Parts.{Parts}
use Rattle.os_code.specs.Parts.{instr_at}
use Rattle.lowering_relation.specs.Alignment.{Stacked, Holds, Aligned}
use Rattle.lowering_relation.specs.Declarators.{HasDeclared, HasDeclarators}
use Rattle.lowering_relation.specs.Names.{told_at}
use Rattle.lowering_relation.specs.Statements.{Body, HasStmts}
use Rattle.lowering_relation.specs.Tasks.{TaskTree}
use Rattle.lowering_relation.proofs.Alignment.{stacked_more}
use Rattle.lowering_relation.proofs.Context.{InMain, resources, Kept, Context, means, tells, Agree, in_typed}
use Rattle.lowering_relation.proofs.Declarators.{DeclaratorRuns, told, scalar_done}
use Rattle.lowering_relation.proofs.Declares.{size_known, size_small, limit_kept, in_behind, stacked_behind, size_runs}
use Rattle.lowering_relation.proofs.Exprs.{Ready}
use Rattle.lowering_relation.proofs.Files.{agrees}
use Rattle.lowering_relation.proofs.Flows.{AlignedIn, exactly}
use Rattle.lowering_relation.proofs.Functions.{FileFits}
use Rattle.lowering_relation.proofs.MainContexts.{main_context}
use Rattle.lowering_relation.proofs.MainEnds.{MainEnds, at_end, flow_ends}
use Rattle.lowering_relation.proofs.Owning.{OwnsAll}
use Rattle.lowering_relation.proofs.Spawns.{IsSite, task_does}
use Rattle.lowering_relation.proofs.Static.{entry, declarator_unsigned, made, declarator_onward, declarators_onward, stmt_onward, stmts_onward}
use Rattle.lowering_relation.proofs.Steps.{Store, at, stays}
use Rattle.lowering_relation.proofs.Stmts.{HasRest, last, more, has_rest, stmt_does}
use Rattle.lowering_relation.proofs.StreamCounts.{sized_streams, stmt_streams}
use Rattle.lowering_relation.proofs.Ticks.{tick_does}
use Rattle.lowering_relation.proofs.Windows.{control_does, window_done}
use Rattle.window_check_laws.specs.Order.{InOrder}
use Rattle.window_check_laws.specs.Told.{Tells, AreLawful}
use Rattle.window_check_laws.proofs.Summed.{stays_in}
use Rattle.window_check_laws.proofs.Told.{tells-first, tells-rest, lawful-first, lawful-rest}

flows_on : (next first : Runs) (r : Ran) → flows next (flows first r) ≡ flows (λ st turns. flows next (first st turns)) r
flows_on next first (Went GoesOn st turns) = refl
flows_on next first (Went Breaks st turns) = refl
flows_on next first (Went Continues st turns) = refl
flows_on next first (Went (Returns v) st turns) = refl
flows_on next first (Ended e activations) = refl

-- with more streams what there was is there
holds_later : (streams later now less : ℕ) (slots : List ℤ) (v : Variable) (w : What) → streams ≤ now → Holds (resources (InMain streams later)) slots v w → Holds (resources (InMain now less)) slots v w
holds_later streams later now less slots (variable.Constant x) w le h = h
holds_later streams later now less slots (variable.Function f) w le h = h
holds_later streams later now less slots (variable.Scalar x) w le h = h
holds_later streams later now less slots (variable.Array vs) w le h = h
holds_later streams later now less slots (variable.Window x) w le h = h
holds_later streams later now less slots (variable.Stream first count) w le h = (h.0, (let b = h.1 in omega (arith, b, le)))
holds_later streams later now less slots (variable.Item k) w le h = elim h.0 [ ]

aligned_later : (streams later now less : ℕ) (means_of : Entity → What) (slots : List ℤ) (bound : List Binding) (es : List Entry) → streams ≤ now →
    Aligned (resources (InMain streams later)) means_of slots bound es → Aligned (resources (InMain now less)) means_of slots bound es
aligned_later streams later now less means_of slots [] [] le h = tt
aligned_later streams later now less means_of slots [] (e ∷ es) le h = elim h [ ]
aligned_later streams later now less means_of slots (b ∷ bound) [] le h = elim h [ ]
aligned_later streams later now less means_of slots (b ∷ bound) (e ∷ es) le h =
    (h.0, h.1, holds_later streams later now less slots b.variable (means_of e.entity) le h.2, aligned_later streams later now less means_of slots bound es le h.3)

plain_streams : (s : Scope) (size : Option tree.IndexTree) → (taken s (form_with s false size)).streams ≡ s.streams
plain_streams s None = refl
plain_streams s (Some i) = sized_streams s.owner s (size_of s i.value)

module _ (code : Parts) (file : File) (falls : CallsFall file) (names : List Resolved) (ordered : InOrder names) (file_es : List Entry) (fits : FileFits code file file_es) (total : ℕ) (sites : List Site) (tasks : List TaskTree)
    (end : ℕ) (at_the_end : instr_at code end ≡ Some instr.End) where
  abbrev pub context : (streams later : ℕ) → Context
  context streams later = main_context code file falls names ordered file_es fits streams later

  abbrev pub u : Around
  u = record { file = file; is_control = true; sites = sites }

  abbrev pub b : Body
  b = record { tells = told_at names; tasks = tasks; leaves = instr.End }

  -- A place of the outermost block: the run has as many streams so far as the text; the code's others come later.
  pub record Outer (s : Scope) (es : List Entry) (st : BodyState) (m : Store) : Type 0 where
    pub streams : ℕ
    pub later : ℕ
    pub ready : Ready (context streams later) s es st m
    pub depth : s.depth ≡ 2
    pub counted : streams ≡ 2 + s.streams
    pub all : streams + later ≡ code.streams
    pub stacked : Stacked (means (context streams later)) s.slots (es ++ [])
    pub long : length m.slots ≡ total

  no_rule : (streams later : ℕ) (ns : List Note) → AreLawful ns → Tells names ns → Agree (context streams later) ns
  no_rule streams later ns lawful tells = agrees (context streams later) ns lawful tells (λ n. tt)

  -- behind the declaration of `count` streams
  streams_behind : (s : Scope) (es : List Entry) (st : BodyState) (m : Store) (d : tree.DeclaratorTree) (count : ℕ) → Outer s es st m → (entry s d).id ≡ d.name.id → what_declared (entry s d).entity ≡ what.Stream (2 + s.streams) count →
      (after_declarator s d).streams ≡ s.streams + count → 2 + (after_declarator s d).streams ≤ code.streams →
      Outer (after_declarator s d) (entry s d ∷ es) (with_streams d.name.id s.unsigned count st) m
  streams_behind s es st m d count o same mean taken_so few =
      let now = o.streams + count in
      let less = o.later - count in
      let room : count ≤ o.later = omega (arith, few, taken_so, o.counted, o.all) in
      let first : st.streams ≡ 2 + s.streams = o.ready.kept.1 ∙ o.counted in
      let enough : o.later ≡ count + less = omega (arith, room) in
      let as_many : o.streams + o.later ≡ now + less = omega (arith, enough) in
      record {
        streams = now;
        later = less;
        ready = record {
          scope = (let i = in_behind (context o.streams o.later) s es d o.ready.scope in record { owner = i.owner; captured = i.captured; entries = i.entries; deep = i.deep; arrays = i.arrays });
          aligned = (
            sym same,
            sym (declarator_unsigned s d),
            (mean ∙ ap (λ k. what.Stream k count) (sym first), (let k = o.ready.kept.1 in omega (arith, k))),
            aligned_later o.streams o.later now less (means (context o.streams o.later)) m.slots st.bound (es ++ []) (omega arith) o.ready.aligned,
          );
          kept = (
            o.ready.kept.0,
            ap (λ n. n + count) o.ready.kept.1,
            o.ready.kept.2 ∙ ap (λ n. skips_of n st.moves) as_many,
          );
        };
        depth = (declarator_onward s d).depth ∙ o.depth;
        counted = omega (arith, o.counted, taken_so);
        all = omega (arith, enough, o.all);
        stacked = stacked_behind (context o.streams o.later) s (es ++ []) d o.ready.scope.owner o.stacked;
        long = o.long;
      }

  -- behind any other declarator
  other_behind : (s : Scope) (es : List Entry) (st st1 : BodyState) (m m1 : Store) (d : tree.DeclaratorTree) (o : Outer s es st m) → (after_declarator s d).streams ≡ s.streams → length m1.slots ≡ total → Kept (InMain o.streams o.later) st1 m1 →
      AlignedIn (context o.streams o.later) [] instr.End total m1 st1.bound (entry s d ∷ es) → Outer (after_declarator s d) (entry s d ∷ es) st1 m1
  other_behind s es st st1 m m1 d o same len kept al = record {
    streams = o.streams;
    later = o.later;
    ready = record { scope = in_behind (context o.streams o.later) s es d o.ready.scope; aligned = al; kept = kept };
    depth = (declarator_onward s d).depth ∙ o.depth;
    counted = omega (arith, o.counted, same);
    all = o.all;
    stacked = stacked_behind (context o.streams o.later) s (es ++ []) d o.ready.scope.owner o.stacked;
    long = len;
  }

  -- One declarator, and what follows it.
  abbrev Follows : Scope → List Entry → ℕ → Runs → Type 0
  Follows s es p next = (st : BodyState) (m : Store) (turns : ℕ) → Outer s es st m → MainEnds code (at [] p [] m turns) (next st turns)

  abbrev DeclaratorEnds : tree.DeclaratorTree → Type 0
  DeclaratorEnds d =
      (s : Scope) (es : List Entry) (st : BodyState) (m : Store) (from to turns : ℕ) (next : Runs) → Outer s es st m → (after_declarator s d).slots ≤ total → 2 + (after_declarator s d).streams ≤ code.streams →
      AreLawful (declarator_notes s d) → Tells names (declarator_notes s d) → HasDeclared code (told_at names) (told_at names d.name.mark.place).what d from to → Follows (after_declarator s d) (entry s d ∷ es) to next →
      MainEnds code (at [] from [] m turns) (flows next (run_declarator u s.unsigned d st turns))

  by_runs : (d : tree.DeclaratorTree) → d.stream ≡ false → ((streams later : ℕ) → DeclaratorRuns (context streams later) [] instr.End total sites d) → (plain : (s : Scope) → (after_declarator s d).streams ≡ s.streams) → DeclaratorEnds d
  by_runs d none runs plain s es st m from to turns next o fits2 few lawful tells h go =
      flow_ends (context o.streams o.later) o.streams o.later total to end (exactly es) (entry s d ∷ es) next refl at_the_end
      (runs o.streams o.later s es st m end end from to [] turns (exactly es) o.ready o.stacked fits2 o.long (no_rule o.streams o.later (declarator_notes s d) lawful tells) h)
      (λ st1 m1 t1 len kept al. go st1 m1 t1 (other_behind s es st st1 m m1 d o (plain s) len kept al))

  stays_at : (from to : ℕ) (m : Store) (turns : ℕ) (r : Ran) → from ≡ to → MainEnds code (at [] to [] m turns) r → MainEnds code (at [] from [] m turns) r
  stays_at from to m turns r e h = subst (λ q. MainEnds code (at [] q [] m turns) r) (sym e) h

  one_stream : (n : Name) (first : Option tree.ExprTree) → DeclaratorEnds (record { name = n; size = None; stream = true; first = first })
  one_stream n first s es st m from to turns next o fits2 few lawful tells h go =
      let d : tree.DeclaratorTree = record { name = n; size = None; stream = true; first = first } in
      let says : (told_at names n.mark.place).what ≡ what.Stream (2 + s.streams) 1 = told (context o.streams o.later) [] instr.End total sites s d (no_rule o.streams o.later (declarator_notes s d) lawful tells) in
      let nothing : from ≡ to = subst (λ w. HasDeclared code (told_at names) w d from to) says h in
      stays_at from to m turns (next (with_streams n.id s.unsigned 1 st) turns) nothing (go (with_streams n.id s.unsigned 1 st) m turns (streams_behind s es st m d 1 o refl refl refl few))

  array_of_streams : (n : Name) (i : tree.IndexTree) (first : Option tree.ExprTree) → DeclaratorEnds (record { name = n; size = Some i; stream = true; first = first })
  array_of_streams n i first s es st m from to turns next o fits2 few lawful tells h go =
      let d : tree.DeclaratorTree = record { name = n; size = Some i; stream = true; first = first } in
      let c = context o.streams o.later in
      let agree = no_rule o.streams o.later (declarator_notes s d) lawful tells in
      let kind = or-first (has_no_size (form s d) (size_value s i.value)) (has_too_many (after_declarator s d) (form s d)) lawful.0.1.1.1.1.1.0 in
      let known = size_known (size_value s i.value) (not-false (is_size (size_value s i.value)) kind) in
      let k = known.size in
      let sized : size_of s i.value ≡ Some k = ap limited known.is ∙ limit_kept k known.within in
      let count : unwrap_or (size_of s i.value) 0 ≡ k = ap (λ x. unwrap_or x 0) sized in
      let size : array_size (pos k) ≡ k = ap (λ x. unwrap_or x 0) (limit_kept k known.within) in
      let says : (told_at names n.mark.place).what ≡ what.Stream (2 + s.streams) (unwrap_or (size_of s i.value) 0) = told c [] instr.End total sites s d agree in
      let nothing : from ≡ to = subst (λ w. HasDeclared code (told_at names) w d from to) says h in
      subst (λ a. MainEnds code (at [] from [] m turns) (flows next (with_value a st (λ x. goes_on (with_streams n.id s.unsigned (array_size x.value) st) x.turns)))) (sym (size_runs c i.value s es st m (pos k) k turns refl (size_small k known.within) o.ready known.is))
      (subst (λ j. MainEnds code (at [] from [] m turns) (next (with_streams n.id s.unsigned j st) turns)) (sym size)
      (stays_at from to m turns (next (with_streams n.id s.unsigned k st) turns) nothing
      (go (with_streams n.id s.unsigned k st) m turns (streams_behind s es st m d k o refl (ap (what.Stream (2 + s.streams)) count) (ap (λ j. s.streams + j) count) few))))

  declarator_ends : (d : tree.DeclaratorTree) → DeclaratorEnds d
  declarator_ends d = by_parts d.name d.size d.stream d.first
    where
      by_parts : (n : Name) (size : Option tree.IndexTree) (stream : Bool) (first : Option tree.ExprTree) → DeclaratorEnds (record { name = n; size = size; stream = stream; first = first })
      by_parts n None true first = one_stream n first
      by_parts n (Some i) true first = array_of_streams n i first
      by_parts n None false first =
          by_runs (record { name = n; size = None; stream = false; first = first }) refl (λ streams later. scalar_done (context streams later) [] instr.End total sites n first) (λ s. refl)
      by_parts n (Some i) false first =
          by_runs (record { name = n; size = Some i; stream = false; first = first }) refl (λ streams later. window_done code file falls names ordered file_es fits streams later [] instr.End total sites n i first) (λ s. plain_streams s (Some i))

  declarators_end : (ds : List tree.DeclaratorTree) (s : Scope) (es : List Entry) (st : BodyState) (m : Store) (from to mid turns : ℕ) (next : Runs) → Outer s es st m → (after_declarators s ds).slots ≤ total → 2 + (after_declarators s ds).streams ≤ code.streams →
      AreLawful (declarators_notes s ds) → Tells names (declarators_notes s ds) → HasDeclarators code (told_at names) ds from to → mid ≡ to → Follows (after_declarators s ds) (made s ds es) mid next →
      MainEnds code (at [] from [] m turns) (flows next (run_declarators u s.unsigned ds st turns))
  declarators_end [] s es st m from to mid turns next o fits2 few lawful tells h there go = stays_at from mid m turns (next st turns) (h ∙ sym there) (go st m turns o)
  declarators_end (d ∷ ds) s es st m from to mid turns next o fits2 few lawful tells h there go =
      let s1 = after_declarator s d in
      let on = declarators_onward ds s1 in
      subst (MainEnds code (at [] from [] m turns)) (sym (flows_on next (run_declarators u s.unsigned ds) (run_declarator u s.unsigned d st turns)))
      (declarator_ends d s es st m from h.0 turns (λ st1 t1. flows next (run_declarators u s.unsigned ds st1 t1)) o (omega (arith, fits2, on.slots)) (omega (arith, few, on.streams))
      (lawful-first (declarator_notes s d) (declarators_notes s1 ds) lawful) (tells-first names (declarator_notes s d) (declarators_notes s1 ds) tells) h.1
      (λ st1 m1 t1 o1. subst (λ w. MainEnds code (at [] h.0 [] m1 t1) (flows next (run_declarators u w ds st1 t1))) (declarator_unsigned s d)
      (declarators_end ds s1 (entry s d ∷ es) st1 m1 h.0 to mid t1 next o1 fits2 few (lawful-rest (declarator_notes s d) (declarators_notes s1 ds) lawful) (tells-rest names (declarator_notes s d) (declarators_notes s1 ds) tells) h.2 there go)))

  -- a declaration of a type begins
  outer_typed : (ty : Ty) (s : Scope) (es : List Entry) (st : BodyState) (m : Store) → Outer s es st m → Outer (typed ty s) es st m
  outer_typed ty s es st m o = record {
    streams = o.streams;
    later = o.later;
    ready = record { scope = in_typed (context o.streams o.later) ty s es o.ready.scope; aligned = o.ready.aligned; kept = o.ready.kept };
    depth = o.depth;
    counted = o.counted;
    all = o.all;
    stacked = o.stacked;
    long = o.long;
  }

  -- behind a statement that declares nothing
  stmt_behind : {a : tree.StmtTree} (is : IsStmt a) (s : Scope) (es : List Entry) (st st1 : BodyState) (m m1 : Store) (o : Outer s es st m) → AreLawful (stmt_notes s a) → length m1.slots ≡ total → Kept (InMain o.streams o.later) st1 m1 →
      AlignedIn (context o.streams o.later) [] instr.End total m1 st1.bound es → Outer (after_stmt s a) es st1 m1
  stmt_behind {a = a} is s es st st1 m m1 o lawful len kept al =
      let on = stmt_onward a s in
      let same : (after_stmt s a).streams ≡ s.streams = stmt_streams is s (λ e. omega (arith, o.depth)) lawful in
      let i = o.ready.scope in
      record {
        streams = o.streams;
        later = o.later;
        ready = record {
          scope = record { owner = on.owner ∙ i.owner; captured = on.captured ∙ i.captured; entries = stays_in is s ∙ i.entries; deep = (let d = i.deep in omega (arith, d, on.depth)); arrays = i.arrays };
          aligned = al;
          kept = kept;
        };
        depth = on.depth ∙ o.depth;
        counted = omega (arith, o.counted, same);
        all = o.all;
        stacked = stacked_more (resources (InMain o.streams o.later)) (means (context o.streams o.later)) s.slots (after_stmt s a).slots (es ++ []) on.slots o.stacked;
        long = len;
      }

  abbrev StmtsEnd : tree.Stmts → Type 0
  StmtsEnd ss =
      (s : Scope) (es : List Entry) (st : BodyState) (m : Store) (from to turns : ℕ) → Outer s es st m → (after_stmts s ss).slots ≤ total → 2 + (after_stmts s ss).streams ≤ code.streams → AreLawful (stmts_notes s ss) →
      Tells names (stmts_notes s ss) → OwnsAll (IsSite code (told_at names) sites tasks) s ss → HasStmts code b ss end end end from to → MainEnds code (at [] from [] m turns) (run_all u ss st turns)

  rest_ends : (ss : tree.Stmts) (s : Scope) (es : List Entry) (st : BodyState) (m : Store) (mid from to turns : ℕ) → Outer s es st m → HasRest code b ss end end end mid from to →
      (HasStmts code b ss end end end from to → MainEnds code (at [] from [] m turns) (run_all u ss st turns)) → MainEnds code (at [] mid [] m turns) (run_all u ss st turns)
  rest_ends ss s es st m mid from to turns o (last none) go =
      subst (λ x. MainEnds code (at [] end [] m turns) (run_all u x st turns)) (sym none) (at_end GoesOn st m end [] turns turns stays at_the_end o.ready.kept.0)
  rest_ends ss s es st m mid from to turns o (more has) go = go has

  pub stmts_end : {ss : tree.Stmts} → AreStmts ss → StmtsEnd ss
  stmts_end AreStmts.no_stmts s es st m from to turns o fits2 few lawful tells own h =
      stays_at from end m turns (goes_on st turns) (h.0 ∙ sym h.1) (at_end GoesOn st m end [] turns turns stays at_the_end o.ready.kept.0)
  stmts_end (AreStmts.declare {t = ty} {ds = ds} {ss = ss} _ rest) s0 es st m from to turns before fits2 few lawful tells own h =
      let s = typed ty s0 in
      let o = outer_typed ty s0 es st m before in
      let s1 = after_declarators s ds in
      let on = stmts_onward ss s1 in
      let p = has_rest code b (tree.StmtTree.Declare ty ds) ss end end end from to h in
      declarators_end ds s es st m from p.1 p.0 turns (run_all u ss) o (omega (arith, fits2, on.slots)) (omega (arith, few, on.streams))
      (lawful-first (declarators_notes s ds) (stmts_notes s1 ss) lawful) (tells-first names (declarators_notes s ds) (stmts_notes s1 ss) tells) p.2.0 p.2.1
      (λ st1 m1 t1 o1. rest_ends ss s1 (made s ds es) st1 m1 p.0 p.1 to t1 o1 p.3
      (λ has. stmts_end rest s1 (made s ds es) st1 m1 p.1 to t1 o1 fits2 few (lawful-rest (declarators_notes s ds) (stmts_notes s1 ss) lawful) (tells-rest names (declarators_notes s ds) (stmts_notes s1 ss) tells) own.1 has))
  stmts_end (AreStmts.stmt {s = a} {ss = ss} is rest) s es st m from to turns o fits2 few lawful tells own h =
      let s1 = after_stmt s a in
      let on = stmts_onward ss s1 in
      let p = has_rest code b a ss end end end from to h in
      let c = context o.streams o.later in
      let lawful1 = lawful-first (stmt_notes s a) (stmts_notes s1 ss) lawful in
      let tells1 = tells-first names (stmt_notes s a) (stmts_notes s1 ss) tells in
      let within : o.streams ≤ code.streams = omega (arith, o.all) in
      flow_ends c o.streams o.later total p.0 end (exactly es) es (run_all u ss) refl at_the_end
      (stmt_does c [] instr.End total sites tasks (IsSite code (told_at names) sites tasks)
      (control_does code file falls names ordered file_es fits o.streams o.later [] instr.End total sites)
      (λ e mark cs x. task_does code file falls names ordered file_es fits o.streams o.later within [] instr.End total sites tasks mark cs x)
      (λ e mark t arrow x. tick_does code file falls names ordered file_es fits o.streams o.later within [] instr.End total sites tasks (IsSite code (told_at names) sites tasks) mark t arrow x)
      is s es st m end end p.0 from p.1 [] turns o.ready o.stacked (omega (arith, fits2, on.slots)) o.long (no_rule o.streams o.later (stmt_notes s a) lawful1 tells1) own.0 p.2)
      (λ st1 m1 t1 len kept al.
      let o1 = stmt_behind is s es st st1 m m1 o lawful1 len kept al in
      rest_ends ss s1 es st1 m1 p.0 p.1 to t1 o1 p.3
      (λ has. stmts_end rest s1 es st1 m1 p.1 to t1 o1 fits2 few (lawful-rest (stmt_notes s a) (stmts_notes s1 ss) lawful) (tells-rest names (stmt_notes s a) (stmts_notes s1 ss) tells) own.1 has))
