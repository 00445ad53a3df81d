-- The code of declarations does what they say.
use Rattle.std.proofs.Common.{◌≡◌, ℕ, ◌+◌, ◌==◌, ◌&&◌, Bool, true, false, if◌then◌else◌, List, [], ◌∷◌, ◌++◌, length, leb, Option, Some, None, Ok, ℤ, pos, negsuc, refl, sym, ap, ◌∙◌, subst, inl, inr, arith, eq-eqb, ◌<◌, ◌≤◌, ◌^◌, leb-true}
use Rattle.std.proofs.lemmas.Int.{to_z_pos}
use Rattle.std.specs.Int.{w32, cast_signed}
use Rattle.std.specs.Prelude.{◌⊎◌, unwrap_or}
use Rattle.cddf_meaning.specs.Answers.{left}
use Rattle.cddf_meaning.specs.File.{variable, or_in_file}
use Rattle.cddf_meaning.specs.BodyState.{BodyState, declared, stored_in, stored}
use Rattle.cddf_meaning.specs.Value.{scalar_value, value}
use Rattle.cddf_meaning.specs.Variables.{bind, find, assign}
use Rattle.cddf_meaning.specs.declared.variable.Variable.{Variable}
use Rattle.cddf_meaning.specs.declared.variable.Variable.TheVariants as variable_of
use Rattle.cddf_meaning.specs.declared.variable.Variable.TheVariants.{Scalar, Array}
use Rattle.os_ast.specs.Limits.{size_limit, is_size}
use Rattle.os_ast.specs.Meanings.{what_declared, meaning_in}
use Rattle.os_ast.specs.Names.{Scope, lookup, entity_of}
use Rattle.os_ast.specs.Notes.Declarators.{scalar_entity, size_value, within_limit, constant_of, form, form_entity, taken, after_declarator, after_declarators}
use Rattle.os_ast.specs.Trees as tree
use Rattle.os_ast.specs.declared.names.Entity.{Entity}
use Rattle.os_ast.specs.declared.names.Entity.TheVariants as entity
use Rattle.os_ast.specs.declared.names.Entry.{Entry}
use Rattle.os_ast.specs.declared.names.Form.{Form}
use Rattle.os_ast.specs.declared.names.Form.TheVariants as form_of
use Rattle.os_ast.specs.declared.names.Owner.{Owner}
use Rattle.os_ast.specs.declared.names.Owner.TheVariants as owner
use Rattle.os_ast.specs.declared.names.What.{What}
use Rattle.os_ast.specs.declared.names.What.TheVariants as what
use Rattle.lowering_relation.specs.Alignment.{Stacked, Takes, Resources, Holds}
use Rattle.lowering_relation.proofs.Alignment.{found, missed, stacked_scalar, stacked_window, stacked_array}
use Rattle.lowering_relation.proofs.Context.{resources, Context, means, IsBehindFirst, In, Reaches, split}
use Rattle.lowering_relation.proofs.Exprs.{Ready}
use Rattle.lowering_relation.proofs.Names.{means_constant}
use Rattle.lowering_relation.proofs.Static.{entry, made, declarator_entries, declarator_onward}
use Rattle.lowering_relation.proofs.Steps.{Store}

pub means_scalar : (o : Owner) (xs : List ℕ) (slot : ℕ) → meaning_in o xs (scalar_entity o slot) ≡ what.Scalar slot
means_scalar owner.OfFunction xs slot = refl
means_scalar owner.OfTask xs slot = refl
means_scalar owner.OfMain xs slot = refl

pub scalar_behind : (o : Owner) (slot : ℕ) → IsBehindFirst (scalar_entity o slot)
scalar_behind owner.OfFunction slot = tt
scalar_behind owner.OfTask slot = tt
scalar_behind owner.OfMain slot = tt

pub means_array : (o : Owner) (xs : List ℕ) (first size : ℕ) → meaning_in o xs (entity.Array first size) ≡ what.Array first size
means_array owner.OfFunction xs first size = refl
means_array owner.OfTask xs first size = refl
means_array owner.OfMain xs first size = refl

pub means_window : (o : Owner) (xs : List ℕ) (slot : ℕ) → meaning_in o xs (entity.Window slot) ≡ what.Window slot
means_window owner.OfFunction xs slot = refl
means_window owner.OfTask xs slot = refl
means_window owner.OfMain xs slot = refl

means_stream : (o : Owner) (xs : List ℕ) (number : ℕ) → meaning_in o xs (entity.Stream number) ≡ what.Stream number 1
means_stream owner.OfFunction xs number = refl
means_stream owner.OfTask xs number = refl
means_stream owner.OfMain xs number = refl

means_streams : (o : Owner) (xs : List ℕ) (first size : ℕ) → meaning_in o xs (entity.Streams first size) ≡ what.Stream first size
means_streams owner.OfFunction xs first size = refl
means_streams owner.OfTask xs first size = refl
means_streams owner.OfMain xs first size = refl

pub means_in_text : (o : Owner) (slot : ℕ) → what_declared (scalar_entity o slot) ≡ what.Scalar slot
means_in_text owner.OfFunction slot = refl
means_in_text owner.OfTask slot = refl
means_in_text owner.OfMain slot = refl

no_constant : (has : Resources) (slots : List ℤ) (v : Variable) (x : ℤ) (w : What) → w ≡ what.Constant x → Holds has slots v w → ⊥
no_constant has slots (variable_of.Constant y) x w e h = h
no_constant has slots (variable_of.Function f) x w e h = h
no_constant has slots (variable_of.Scalar y) x w e h = let z : what.Constant x ≡ what.Scalar h.0 = sym e ∙ h.1 in absurd (cc)
no_constant has slots (variable_of.Array vs) x w e h = let z : what.Constant x ≡ what.Array h.0 (length vs) = sym e ∙ h.1 in absurd (cc)
no_constant has slots (variable_of.Window y) x w e h = let z : what.Constant x ≡ what.Window h.0 = sym e ∙ h.1 in absurd (cc)
no_constant has slots (variable_of.Stream y n) x w e h = let z : what.Constant x ≡ what.Stream y n = sym e ∙ h.0 in absurd (cc)
no_constant has slots (variable_of.Item k) x w e (_, inl f) = let z : what.Constant x ≡ what.Element k = sym e ∙ f in absurd (cc)
no_constant has slots (variable_of.Item k) x w e (_, inr f) = let z : what.Constant x ≡ what.View k = sym e ∙ f in absurd (cc)

-- a size that is one
pub record IsSize (told : Option ℤ) : Type 0 where
  pub size : ℕ
  pub is : told ≡ Some (pos size)
  pub within : (leb 1 size && leb size size_limit) ≡ true

pub size_known : (told : Option ℤ) → is_size told ≡ true → IsSize told
size_known None h = absurd (cc)
size_known (Some (negsuc n)) h = absurd (cc)
size_known (Some (pos n)) h = record { size = n; is = refl; within = h }

pub limit_kept : (n : ℕ) → (leb 1 n && leb n size_limit) ≡ true → within_limit (pos n) ≡ Some n
limit_kept n h = ap (λ t. if t then Some n else None) h

pub size_small : (n : ℕ) → (leb 1 n && leb n size_limit) ≡ true → n < 2 ^ 31
size_small n h = by_case (leb 1 n) h
  where
    by_case : (t : Bool) → (t && leb n size_limit) ≡ true → n < 2 ^ 31
    by_case true k = let le : n ≤ 65536 = leb-true n 65536 k in omega (arith, le)
    by_case false k = absurd (cc)

-- a wide number that is an `int` has its bits
small_bits : (n : ℕ) → n < 2 ^ 31 → cast_signed w32 n ≡ pos n
small_bits n small = to_z_pos w32 n small

pub constant_known : (o : Option Entity) (v : ℤ) → constant_of o ≡ Some v → o ≡ Some (entity.Constant v)
constant_known None v h = absurd (cc)
constant_known (Some (entity.Constant x)) v h = let e : x ≡ v = cc in ap (λ y. Some (entity.Constant y)) e
constant_known (Some (entity.Function n k)) v h = absurd (cc)
constant_known (Some (entity.Scalar n)) v h = absurd (cc)
constant_known (Some (entity.Control n)) v h = absurd (cc)
constant_known (Some entity.InputLength) v h = absurd (cc)
constant_known (Some (entity.Array n k)) v h = absurd (cc)
constant_known (Some (entity.Window n)) v h = absurd (cc)
constant_known (Some (entity.Stream n)) v h = absurd (cc)
constant_known (Some (entity.Streams n k)) v h = absurd (cc)
constant_known (Some (entity.Element n d)) v h = absurd (cc)
constant_known (Some (entity.View n d)) v h = absurd (cc)

pub stored_own : (id : ℕ) (w : Bool) (y x : ℤ) (st : BodyState) → stored (declared id w (Scalar y) st) id x ≡ declared id w (Scalar x) st
stored_own id w y x st =
    let e : (id == id) ≡ true = eq-eqb id id refl in
    ap (λ t. stored_in (if t then Some (Scalar y) else find st.bound id) (declared id w (Scalar y) st) id x) e
    ∙ ap (λ t. record st { bound = if t then bind id w (Scalar x) st.bound else record { id = id; variable = Scalar y; unsigned = w } ∷ assign st.bound id (Scalar x) }) e

form_behind : (s : Scope) (f : Form) → IsBehindFirst (form_entity s f)
form_behind s form_of.Scalar = scalar_behind s.owner s.slots
form_behind s (form_of.Array size) = tt
form_behind s form_of.Window = tt
form_behind s form_of.Stream = tt
form_behind s (form_of.Streams size) = omega arith

module _ (c : Context) where
  -- the scope behind a declarator
  pub in_behind : (s : Scope) (es : List Entry) (d : tree.DeclaratorTree) → In c s es → In c (after_declarator s d) (entry s d ∷ es)
  in_behind s es d is =
      let o = declarator_onward s d in
      record {
        owner = o.owner ∙ is.owner;
        captured = o.captured ∙ is.captured;
        entries = declarator_entries s d ∙ ap (λ xs. entry s d ∷ xs) is.entries;
        deep = omega (arith, o.depth, is.deep);
        arrays = (form_behind s (form s d), is.arrays);
      }

  stacked_form : (s : Scope) (es : List Entry) (id : ℕ) (f : Form) (b : Bool) → s.owner ≡ c.owner → Stacked (means c) s.slots es →
      Stacked (means c) (taken s f).slots (record { id = id; depth = (taken s f).depth; entity = form_entity s f; unsigned = b } ∷ es)
  stacked_form s es id form_of.Scalar b own st =
      stacked_scalar (resources c.side) (means c) s.slots es (record { id = id; depth = s.depth; entity = scalar_entity s.owner s.slots; unsigned = b }) (ap (λ o. meaning_in c.owner c.captured (scalar_entity o s.slots)) own ∙ means_scalar c.owner c.captured s.slots) st
  stacked_form s es id (form_of.Array size) b own st =
      stacked_array (resources c.side) (means c) s.slots (unwrap_or size 0) es (record { id = id; depth = s.depth; entity = entity.Array s.slots (unwrap_or size 0); unsigned = b }) (means_array c.owner c.captured s.slots (unwrap_or size 0)) st
  stacked_form s es id form_of.Window b own st =
      stacked_window (resources c.side) (means c) s.slots es (record { id = id; depth = s.depth; entity = entity.Window s.slots; unsigned = b }) (means_window c.owner c.captured s.slots) st
  stacked_form s es id form_of.Stream b own st =
      (s.slots, subst (λ w. Takes w s.slots s.slots) (sym (means_stream c.owner c.captured (2 + s.streams))) (omega arith), st)
  stacked_form s es id (form_of.Streams size) b own st =
      (s.slots, subst (λ w. Takes w s.slots s.slots) (sym (means_streams c.owner c.captured (2 + s.streams) (unwrap_or size 0))) (omega arith), st)

  pub stacked_behind : (s : Scope) (es : List Entry) (d : tree.DeclaratorTree) → s.owner ≡ c.owner → Stacked (means c) s.slots es → Stacked (means c) (after_declarator s d).slots (entry s d ∷ es)
  stacked_behind s es d own st = stacked_form s es d.name.id (form s d) (taken s (form s d)).unsigned own st

  -- the size of a local array, which is an `int` also where it is wide
  pub size_runs : (e : tree.ExprTree) (s : Scope) (es : List Entry) (st : BodyState) (m : Store) (v : ℤ) (k turns : ℕ) → v ≡ pos k → k < 2 ^ 31 → Ready c s es st m → size_value s e ≡ Some v → value c.file e st turns ≡ Ok (left v turns)
  size_runs (tree.Number n) s es st m v k turns is_k small ready h = let e : pos n ≡ v = cc in ap (λ x. Ok (left x turns)) e
  size_runs (tree.Wide n) s es st m v k turns is_k small ready h =
      let e : pos n ≡ v = cc in
      let same : pos n ≡ pos k = e ∙ is_k in
      let same_k : n ≡ k = cc in
      ap (λ x. Ok (left x turns)) (small_bits n (omega (arith, same_k, small)) ∙ e)
  size_runs (tree.Place (tree.Variable n)) s es st m v k turns is_k small ready h = ap (λ x. Ok (left x turns)) (ap (scalar_value st) constant)
    where
      in_text : entity_of (lookup (es ++ c.round) n.id) ≡ Some (entity.Constant v)
      in_text = subst (λ xs. entity_of (lookup xs n.id) ≡ Some (entity.Constant v)) ready.scope.entries (constant_known (entity_of (lookup s.entries n.id)) v h)

      not_bound : entity_of (lookup (es ++ c.bound) n.id) ≡ Some (entity.Constant v) → ⊥
      not_bound is =
          let f = found (resources c.side) (means c) m.slots st.bound (es ++ c.bound) n.id (entity.Constant v) ready.aligned is in
          no_constant (resources c.side) m.slots f.0 v (means c (entity.Constant v)) (means_constant c.owner c.captured v) f.2

      by_reach : lookup (es ++ c.bound) n.id ≡ lookup c.bound n.id → Reaches c.code c.file c.bound n.id (entity.Constant v) → variable c.file st n.id ≡ Some (variable_of.Constant v)
      by_reach same (inl r) = absurd (not_bound (ap entity_of same ∙ r))
      by_reach same (inr (none, there)) =
          ap (or_in_file c.file n.id) (missed (resources c.side) (means c) m.slots st.bound (es ++ c.bound) n.id ready.aligned (same ∙ none)) ∙ there

      by_split : (lookup (es ++ c.round) n.id ≡ lookup (es ++ c.bound) n.id) ⊎ ((lookup (es ++ c.round) n.id ≡ lookup c.round n.id) × (lookup (es ++ c.bound) n.id ≡ lookup c.bound n.id)) →
          variable c.file st n.id ≡ Some (variable_of.Constant v)
      by_split (inl same) = absurd (not_bound (ap entity_of (sym same) ∙ in_text))
      by_split (inr (text, run)) = by_reach run (c.constants n.id v (ap entity_of (sym text) ∙ in_text))

      constant : variable c.file st n.id ≡ Some (variable_of.Constant v)
      constant = by_split (split es c.round c.bound n.id)
  size_runs (tree.Place (tree.Element n mark e)) s es st m v k turns is_k small ready h = absurd (cc)
  size_runs (tree.ExprTree.Call f args) s es st m v k turns is_k small ready h = absurd (cc)
  size_runs (tree.Paren e) s es st m v k turns is_k small ready h = absurd (cc)
  size_runs (tree.Unary op mark e) s es st m v k turns is_k small ready h = absurd (cc)
  size_runs (tree.Chain l first links) s es st m v k turns is_k small ready h = absurd (cc)
  size_runs (tree.Choice x a b) s es st m v k turns is_k small ready h = absurd (cc)

  pub declarators_in : (ds : List tree.DeclaratorTree) (s : Scope) (es : List Entry) → In c s es → In c (after_declarators s ds) (made s ds es)
  declarators_in [] s es is = is
  declarators_in (d ∷ ds) s es is = declarators_in ds (after_declarator s d) (entry s d ∷ es) (in_behind s es d is)

  pub declarators_stacked : (ds : List tree.DeclaratorTree) (s : Scope) (es : List Entry) → In c s es → Stacked (means c) s.slots (es ++ c.bound) → Stacked (means c) (after_declarators s ds).slots (made s ds es ++ c.bound)
  declarators_stacked [] s es is st = st
  declarators_stacked (d ∷ ds) s es is st =
      declarators_stacked ds (after_declarator s d) (entry s d ∷ es) (in_behind s es d is) (stacked_behind s (es ++ c.bound) d is.owner st)
