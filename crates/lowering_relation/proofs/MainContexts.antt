-- What is known of names in `main`: its scalars, windows and streams so far, and what stands before it in the file.
use Rattle.std.proofs.Common.{◌≡◌, ℕ, ◌+◌, ◌≤◌, ◌<◌, ◌==◌, Bool, true, false, if◌then◌else◌, List, [], ◌∷◌, ◌++◌, length, Option, Some, ℤ, pos, refl, sym, ap, ◌∙◌, subst, inl, inr, arith, append-nil, ne_eqb}
use Rattle.std.specs.Prelude.{⊤, ◌⊎◌}
use Rattle.cddf_meaning.specs.File.{File}
use Rattle.cddf_meaning.specs.Moves.{CallsFall}
use Rattle.cddf_meaning.specs.BodyState.{BodyState}
use Rattle.cddf_meaning.specs.Variables.{find}
use Rattle.cddf_meaning.specs.declared.variable.Variable.{Variable}
use Rattle.cddf_meaning.specs.declared.variable.Variable.TheVariants as variable
use Rattle.os_ast.specs.Names.{Scope, lookup, entity_of}
use Rattle.os_ast.specs.Rules.{is_wrong_kind, is_wrong_end}
use Rattle.os_ast.specs.declared.expr.Name.{Name}
use Rattle.os_ast.specs.declared.names.Direction.TheVariants as direction
use Rattle.os_ast.specs.declared.names.Direction.{Direction}
use Rattle.os_ast.specs.declared.names.Entity.{Entity}
use Rattle.os_ast.specs.declared.names.Entity.TheVariants as entity
use Rattle.os_ast.specs.declared.names.Entry.{Entry}
use Rattle.os_ast.specs.declared.names.Owner.TheVariants as owner
use Rattle.os_ast.specs.declared.names.Resolved.{Resolved}
use Rattle.os_ast.specs.declared.names.Role.TheVariants as role
use Rattle.os_ast.specs.declared.names.Shape.{Shape}
use Rattle.os_ast.specs.declared.names.Shape.TheVariants as shape
use Rattle.os_ast.specs.declared.names.Use.TheVariants as usage
use Rattle.os_ast.specs.declared.names.What.TheVariants as what
use Rattle.os_code.specs.declared.parts.Parts.{Parts}
use Rattle.lowering_relation.specs.Alignment.{Resources, slot_at, Holds}
use Rattle.lowering_relation.proofs.Alignment.{found}
use Rattle.lowering_relation.proofs.Context.{InMain, resources, Context, means, AreBehindFirst, IsBehindFirst, IsUsed, kept_rule, split}
use Rattle.lowering_relation.proofs.Exprs.{Ready}
use Rattle.lowering_relation.proofs.Functions.{Known, known_has, FileFits}
use Rattle.lowering_relation.proofs.Steps.{Store}
use Rattle.lowering_relation.proofs.TaskTexts.{IsOfMain}
use Rattle.window_check_laws.specs.Order.{InOrder}

-- the file declares nothing that only `main` does
known_apart : (code : Parts) (file : File) (v : Option Variable) (d : Entity) → IsOfMain d → Known code file v d → ⊥
known_apart code file v (entity.Constant x) is h = is
known_apart code file v (entity.Function number params) is h = is
known_apart code file v (entity.Scalar slot) is h = h
known_apart code file v (entity.Control slot) is h = h
known_apart code file v entity.InputLength is h = h
known_apart code file v (entity.Array first size) is h = h
known_apart code file v (entity.Window slot) is h = h
known_apart code file v (entity.Stream number) is h = h
known_apart code file v (entity.Streams first count) is h = h
known_apart code file v (entity.Element item x) is h = h
known_apart code file v (entity.View item x) is h = h

behind_first : (xs : List Entry) (id : ℕ) (d : Entity) → AreBehindFirst xs → entity_of (lookup xs id) ≡ Some d → IsBehindFirst d
behind_first [] id d all is = absurd (cc)
behind_first (e ∷ xs) id d all is = by_case (e.id == id) is (behind_first xs id d all.1)
  where
    by_case : (t : Bool) → entity_of (if t then Some e else lookup xs id) ≡ Some d → (entity_of (lookup xs id) ≡ Some d → IsBehindFirst d) → IsBehindFirst d
    by_case true k next = let same : e.entity ≡ d = cc in subst IsBehindFirst same all.0
    by_case false k next = next k

-- which variable is held where a stream, a window or a scalar is meant
stream_held : (has : Resources) (slots : List ℤ) (v : Variable) (first count : ℕ) → Holds has slots v (what.Stream first count) → (v ≡ variable.Stream first count) × has.streams first count
stream_held has slots (variable.Constant x) first count h = elim h [ ]
stream_held has slots (variable.Function f) first count h = elim h [ ]
stream_held has slots (variable.Scalar x) first count h = let e : what.Stream first count ≡ what.Scalar h.0 = h.1 in absurd (cc)
stream_held has slots (variable.Array vs) first count h = let e : what.Stream first count ≡ what.Array h.0 (length vs) = h.1 in absurd (cc)
stream_held has slots (variable.Window x) first count h = let e : what.Stream first count ≡ what.Window h.0 = h.1 in absurd (cc)
stream_held has slots (variable.Stream a b) first count h =
    let e : what.Stream first count ≡ what.Stream a b = h.0 in
    let x : a ≡ first = cc in
    let y : b ≡ count = cc in
    (ap (λ k. variable.Stream k b) x ∙ ap (variable.Stream first) y, subst (has.streams first) y (subst (λ k. has.streams k b) x h.1))
stream_held has slots (variable.Item k) first count (_, inl f) = let e : what.Stream first count ≡ what.Element k = f in absurd (cc)
stream_held has slots (variable.Item k) first count (_, inr f) = let e : what.Stream first count ≡ what.View k = f in absurd (cc)

pub scalar_held : (has : Resources) (slots : List ℤ) (v : Variable) (slot : ℕ) → Holds has slots v (what.Scalar slot) → (x : ℤ) × (v ≡ variable.Scalar x) × (slot_at slots slot ≡ x)
scalar_held has slots (variable.Constant x) slot h = elim h [ ]
scalar_held has slots (variable.Function f) slot h = elim h [ ]
scalar_held has slots (variable.Scalar x) slot h = let e : what.Scalar slot ≡ what.Scalar h.0 = h.1 in let y : slot ≡ h.0 = cc in (x, refl, ap (slot_at slots) y ∙ h.2)
scalar_held has slots (variable.Array vs) slot h = let e : what.Scalar slot ≡ what.Array h.0 (length vs) = h.1 in absurd (cc)
scalar_held has slots (variable.Window x) slot h = let e : what.Scalar slot ≡ what.Window h.0 = h.1 in absurd (cc)
scalar_held has slots (variable.Stream a b) slot h = let e : what.Scalar slot ≡ what.Stream a b = h.0 in absurd (cc)
scalar_held has slots (variable.Item k) slot (_, inl f) = let e : what.Scalar slot ≡ what.Element k = f in absurd (cc)
scalar_held has slots (variable.Item k) slot (_, inr f) = let e : what.Scalar slot ≡ what.View k = f in absurd (cc)

pub window_held : (has : Resources) (slots : List ℤ) (v : Variable) (slot : ℕ) → Holds has slots v (what.Window slot) →
    (horizon : ℕ) × (v ≡ variable.Window horizon) × (slot_at slots slot ≡ pos horizon) × (1 ≤ horizon) × (horizon ≤ 65536)
window_held has slots (variable.Constant x) slot h = elim h [ ]
window_held has slots (variable.Function f) slot h = elim h [ ]
window_held has slots (variable.Scalar x) slot h = let e : what.Window slot ≡ what.Scalar h.0 = h.1 in absurd (cc)
window_held has slots (variable.Array vs) slot h = let e : what.Window slot ≡ what.Array h.0 (length vs) = h.1 in absurd (cc)
window_held has slots (variable.Window x) slot h = let e : what.Window slot ≡ what.Window h.0 = h.1 in let y : slot ≡ h.0 = cc in (x, refl, ap (slot_at slots) y ∙ h.2, h.3, h.4)
window_held has slots (variable.Stream a b) slot h = let e : what.Window slot ≡ what.Stream a b = h.0 in absurd (cc)
window_held has slots (variable.Item k) slot (_, inl f) = let e : what.Window slot ≡ what.Element k = f in absurd (cc)
window_held has slots (variable.Item k) slot (_, inr f) = let e : what.Window slot ≡ what.View k = f in absurd (cc)

-- the stream that an arrow of this direction may not name
abbrev pub forbidden : Direction → ℕ
forbidden direction.Reads = 1
forbidden direction.Writes = 0

end_allowed : (id : ℕ) (dir : Direction) (sh : Shape) (number : ℕ) → is_wrong_end id (usage.Place (role.Flow dir) sh) (entity.Stream number) ≡ false → (number == forbidden dir) ≡ false
end_allowed id direction.Reads sh number h = h
end_allowed id direction.Writes sh number h = h

array_allowed : (dir : Direction) (first k : ℕ) → 2 ≤ first → (first + k == forbidden dir) ≡ false
array_allowed direction.Reads first k h = ne_eqb (first + k) 1 (λ e. omega (arith, e, h))
array_allowed direction.Writes first k h = ne_eqb (first + k) 0 (λ e. omega (arith, e, h))

module _ (code : Parts) (file : File) (falls : CallsFall file) (names : List Resolved) (ordered : InOrder names) (file_es : List Entry) (fits : FileFits code file file_es) where
  -- the body of `main`, where it has `streams` streams so far, and `later` streams come later
  abbrev pub main_context : (streams later : ℕ) → Context
  main_context streams later = record {
    code = code;
    file = file;
    falls = falls;
    names = names;
    ordered = ordered;
    owner = owner.OfMain;
    captured = [];
    side = InMain streams later;
    floor = 2;
    round = file_es;
    bound = [];
    besides = λ n. ⊤;
    reaches = λ s n u d plain lawful b is same. inr (refl, known_has code file (find file.names n.id) d (fits.known n.id d (ap entity_of (sym same) ∙ is)));
    flagged = λ s n u d plain lawful b is same. fits.flag n.id;
    constants = λ id v is. inr (refl, known_has code file (find file.names id) (entity.Constant v) (fits.known id (entity.Constant v) is));
  }

  module _ (streams later : ℕ) (s : Scope) (es : List Entry) (st : BodyState) (m : Store) (ready : Ready (main_context streams later) s es st m) where
    abbrev c : Context
    c = main_context streams later

    -- what only `main` declares is declared in its body
    pub declared_here : (id : ℕ) (d : Entity) → IsOfMain d → entity_of (lookup s.entries id) ≡ Some d → entity_of (lookup (es ++ []) id) ≡ Some d
    declared_here id d own is = by_split (split es file_es [] id)
      where
        in_text : entity_of (lookup (es ++ file_es) id) ≡ Some d
        in_text = subst (λ xs. entity_of (lookup xs id) ≡ Some d) ready.scope.entries is

        by_split : (lookup (es ++ file_es) id ≡ lookup (es ++ []) id) ⊎ ((lookup (es ++ file_es) id ≡ lookup file_es id) × (lookup (es ++ []) id ≡ lookup [] id)) → entity_of (lookup (es ++ []) id) ≡ Some d
        by_split (inl same) = ap entity_of (sym same) ∙ in_text
        by_split (inr both) = absurd (known_apart code file (find file.names id) d own (fits.known id d (ap entity_of (sym both.0) ∙ in_text)))

    -- what it is in the run
    pub record Held (id : ℕ) (d : Entity) : Type 0 where
      pub variable : Variable
      pub is : find st.bound id ≡ Some variable
      pub holds : Holds (resources (InMain streams later)) m.slots variable (means c d)

    pub held : (id : ℕ) (d : Entity) → IsOfMain d → entity_of (lookup s.entries id) ≡ Some d → Held id d
    held id d own is =
        let f = found (resources (InMain streams later)) (means c) m.slots st.bound (es ++ []) id d ready.aligned (declared_here id d own is) in
        record { variable = f.0; is = f.1; holds = f.2 }

    -- the stream of an item or of a tick
    pub record StreamAt (id : ℕ) (d : Entity) (dir : Direction) (sh : Shape) : Type 0 where
      pub first : ℕ
      pub count : ℕ
      pub is : find st.bound id ≡ Some (variable.Stream first count)
      pub mean : means c d ≡ what.Stream first count
      pub below : first + count ≤ streams
      pub allowed : (k : ℕ) → k < count → (first + k == forbidden dir) ≡ false
      pub alone : sh ≡ shape.Bare → 0 < count

    stream_by : (id : ℕ) (dir : Direction) (sh : Shape) (d : Entity) → entity_of (lookup s.entries id) ≡ Some d → is_wrong_kind id (usage.Place (role.Flow dir) sh) d ≡ false →
        is_wrong_end id (usage.Place (role.Flow dir) sh) d ≡ false → StreamAt id d dir sh
    stream_by id dir sh (entity.Stream number) is kind end =
        let h = held id (entity.Stream number) tt is in
        let v = stream_held (resources (InMain streams later)) m.slots h.variable number 1 h.holds in
        record {
          first = number;
          count = 1;
          is = h.is ∙ ap Some v.0;
          mean = refl;
          below = v.1;
          allowed = λ k lt. let z : number + k ≡ number = omega (arith, lt) in ap (λ n. n == forbidden dir) z ∙ end_allowed id dir sh number end;
          alone = λ e. omega arith;
        }
    stream_by id dir sh (entity.Streams first count) is kind end =
        let h = held id (entity.Streams first count) tt is in
        let v = stream_held (resources (InMain streams later)) m.slots h.variable first count h.holds in
        let behind : 2 ≤ first = behind_first (es ++ []) id (entity.Streams first count) (subst AreBehindFirst (sym (append-nil es)) ready.scope.arrays) (declared_here id (entity.Streams first count) tt is) in
        record {
          first = first;
          count = count;
          is = h.is ∙ ap Some v.0;
          mean = refl;
          below = v.1;
          allowed = λ k lt. array_allowed dir first k behind;
          alone = λ e. let bad : is_wrong_kind id (usage.Place (role.Flow dir) shape.Bare) (entity.Streams first count) ≡ false = subst (λ x. is_wrong_kind id (usage.Place (role.Flow dir) x) (entity.Streams first count) ≡ false) e kind in absurd (cc);
        }
    stream_by id dir sh (entity.Constant v) is kind end = absurd (cc)
    stream_by id dir sh (entity.Function number params) is kind end = absurd (cc)
    stream_by id dir sh (entity.Scalar slot) is kind end = absurd (cc)
    stream_by id dir sh (entity.Control slot) is kind end = absurd (cc)
    stream_by id dir sh entity.InputLength is kind end = absurd (cc)
    stream_by id dir sh (entity.Array first size) is kind end = absurd (cc)
    stream_by id dir sh (entity.Window slot) is kind end = absurd (cc)
    stream_by id dir sh (entity.Element item x) is kind end = absurd (cc)
    stream_by id dir sh (entity.View item x) is kind end = absurd (cc)

    pub stream_at : (n : Name) (dir : Direction) (sh : Shape) (k : IsUsed c s n (usage.Place (role.Flow dir) sh)) → StreamAt n.id k.entity dir sh
    stream_at n dir sh k =
        stream_by n.id dir sh k.entity k.is k.kind (kept_rule is_wrong_end s n (usage.Place (role.Flow dir) sh) k.entity k.is k.lawful.1.1.1.1.1.1.1.1.1.1.0)

    -- what stands behind an arrow: a scalar without a burst, or a window with one
    pub data JoinAt (id : ℕ) (d : Entity) : Shape → Type 0 where
      scalar : {x : ℤ} (slot : ℕ) → find st.bound id ≡ Some (variable.Scalar x) → means c d ≡ what.Scalar slot → JoinAt id d shape.Bare
      window : (slot horizon : ℕ) → find st.bound id ≡ Some (variable.Window horizon) → means c d ≡ what.Window slot → slot_at m.slots slot ≡ pos horizon → 1 ≤ horizon → horizon ≤ 65536 →
          JoinAt id d shape.Indexed

    join_by : (id : ℕ) (sh : Shape) (d : Entity) → entity_of (lookup s.entries id) ≡ Some d → is_wrong_kind id (usage.Joined sh) d ≡ false → JoinAt id d sh
    join_by id shape.Bare (entity.Control slot) is kind =
        let h = held id (entity.Control slot) tt is in
        let v = scalar_held (resources (InMain streams later)) m.slots h.variable slot h.holds in
        scalar slot (h.is ∙ ap Some v.1) refl
    join_by id shape.Indexed (entity.Control slot) is kind = absurd (cc)
    join_by id shape.Indexed (entity.Window slot) is kind =
        let h = held id (entity.Window slot) tt is in
        let v = window_held (resources (InMain streams later)) m.slots h.variable slot h.holds in
        window slot v.0 (h.is ∙ ap Some v.1) refl v.2 v.3 v.4
    join_by id shape.Bare (entity.Window slot) is kind = absurd (cc)
    join_by id sh (entity.Constant v) is kind = absurd (cc)
    join_by id sh (entity.Function number params) is kind = absurd (cc)
    join_by id sh (entity.Scalar slot) is kind = absurd (cc)
    join_by id sh entity.InputLength is kind = absurd (cc)
    join_by id sh (entity.Array first size) is kind = absurd (cc)
    join_by id sh (entity.Stream number) is kind = absurd (cc)
    join_by id sh (entity.Streams first count) is kind = absurd (cc)
    join_by id sh (entity.Element item x) is kind = absurd (cc)
    join_by id sh (entity.View item x) is kind = absurd (cc)

    pub join_at : (n : Name) (sh : Shape) (k : IsUsed c s n (usage.Joined sh)) → JoinAt n.id k.entity sh
    join_at n sh k = join_by n.id sh k.entity k.is k.kind
