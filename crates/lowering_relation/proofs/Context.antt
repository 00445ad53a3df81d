-- What is known of a body's names, and what it does beside its slots.
use Rattle.std.proofs.Common.{◌≡◌, ℕ, zero, suc, ◌+◌, ◌<◌, ◌≤◌, ◌==◌, Bool, true, false, if◌then◌else◌, List, [], ◌∷◌, ◌++◌, length, map, Option, Some, None, ℤ, refl, sym, ap, ◌∙◌, subst, inl, inr, arith, eq-eqb, eqb-true}
use Rattle.std.specs.Prelude.{⊤, ◌⊎◌, Contains}
use Rattle.cddf_meaning.specs.File.{File, flags}
use Rattle.cddf_meaning.specs.Moves.{CallsFall}
use Rattle.cddf_meaning.specs.Skips.{skips_of}
use Rattle.cddf_meaning.specs.BodyState.{BodyState}
use Rattle.cddf_meaning.specs.Variables.{find, flag_or}
use Rattle.cddf_meaning.specs.declared.variable.Variable.{Variable}
use Rattle.cddf_meaning.specs.declared.variable.Variable.TheVariants as variable
use Rattle.flow_core_laws.specs.declared.activation.Activation.{Activation}
use Rattle.flow_core_laws.specs.declared.claim.Claim.{Claim}
use Rattle.os_ast.specs.Meanings.{meaning_in, resolved}
use Rattle.os_ast.specs.Names.{Scope, lookup, entity_of, flag_of, typed}
use Rattle.os_ast.specs.Notes.Kinds.{Note, Used}
use Rattle.os_ast.specs.Rules.{UseRule, violates, if_declared, is_wrong_kind, has_other_count}
use Rattle.os_ast.specs.Violations.{resolutions_of}
use Rattle.os_ast.specs.declared.expr.Name.{Name}
use Rattle.os_ast.specs.declared.names.Entity.{Entity}
use Rattle.os_ast.specs.declared.names.Entity.TheVariants as entity
use Rattle.os_ast.specs.declared.names.Entry.{Entry}
use Rattle.os_ast.specs.declared.names.Owner.{Owner}
use Rattle.os_ast.specs.declared.names.Resolved.{Resolved}
use Rattle.os_ast.specs.declared.names.Role.TheVariants as role
use Rattle.os_ast.specs.declared.names.Use.{Use}
use Rattle.os_ast.specs.declared.names.Use.TheVariants as usage
use Rattle.os_ast.specs.declared.names.What.{What}
use Rattle.os_ast.specs.declared.ty.Ty.{Ty}
use Rattle.os_code.specs.declared.instr.Instr.TheVariants as instr
use Rattle.os_code.specs.declared.parts.Parts.{Parts}
use Rattle.os_code.specs.Machine.{Frame, TaskWindow}
use Rattle.os_code.specs.Parts.{instr_at}
use Rattle.lowering_relation.specs.Alignment.{Resources, Aligned}
use Rattle.lowering_relation.specs.Names.{told_at, flags_by}
use Rattle.lowering_relation.proofs.Alignment.{Found, flag_or_of, found, missed, flag_found}
use Rattle.lowering_relation.proofs.Steps.{Store, at, pushed, onto, Meets}
use Rattle.window_check_laws.specs.Order.{IsBelowNext, InOrder}
use Rattle.window_check_laws.specs.Told.{AreIn, KeepsAll, rules}
use Rattle.window_check_laws.proofs.Told.{told-use, declared-use, in-order-tail}

told_first : (r : Resolved) (rs : List Resolved) (p : ℕ) (w : What) (b : Bool) → r ≡ resolved p w b → told_at (r ∷ rs) p ≡ resolved p w b
told_first r rs p w b e =
    ap (λ (x : Resolved). told_at (x ∷ rs) p) e ∙ ap (λ t. if t then resolved p w b else told_at rs p) (eq-eqb p p refl)

is_behind : (lo : ℕ) (rs : List Resolved) (p : ℕ) (w : What) (b : Bool) → IsBelowNext lo rs → Contains rs (resolved p w b) → lo < p
is_behind lo [] p w b o (k, lt, e) = absurd (omega (arith, lt))
is_behind lo (r ∷ rs) p w b o (zero, lt, e) =
    let here : r.place ≡ p = ap (λ (x : Resolved). x.place) e in
    omega (arith, o.0, here)
is_behind lo (r ∷ rs) p w b o (suc k, lt, e) = omega (arith, o.0, is_behind r.place rs p w b o.1 (k, omega (arith, lt), e))

pub told_is : (rs : List Resolved) (p : ℕ) (w : What) (b : Bool) → InOrder rs → Contains rs (resolved p w b) → told_at rs p ≡ resolved p w b
told_is [] p w b o (k, lt, e) = absurd (omega (arith, lt))
told_is (r ∷ rs) p w b o (zero, lt, e) = told_first r rs p w b e
told_is (r ∷ rs) p w b o (suc k, lt, e) = by_case (r.place == p) refl (told_is rs p w b (in-order-tail r.place rs o) (k, omega (arith, lt), e))
  where
    by_case : (t : Bool) → (r.place == p) ≡ t → told_at rs p ≡ resolved p w b → (if t then r else told_at rs p) ≡ resolved p w b
    by_case false _ next = next
    by_case true same next =
        let here : r.place ≡ p = eqb-true r.place p same in
        absurd (omega (arith, here, is_behind r.place rs p w b o (k, omega (arith, lt), e)))

-- What a body works on beside its slots: a function has nothing, and leaves what its caller has; a task has items with
-- these claims; `main` creates activations, and has some of the code's streams so far.
pub data Side : Type 0 where
  InFunction : List TaskWindow → List Activation → List ℕ → Side
  InTask : List Claim → Side
  InMain : (streams later : ℕ) → Side

abbrev pub resources : Side → Resources
resources (InFunction windows created skips) = record { item = λ item. ⊥; streams = λ first count. ⊥ }
resources (InTask claims) = record { item = λ item. item < length claims; streams = λ first count. ⊥ }
resources (InMain streams later) = record { item = λ item. ⊥; streams = λ first count. first + count ≤ streams }

abbrev pub HasItem : Side → ℕ → Type 0
HasItem side item = (resources side).item item

-- windows with the elements of items
abbrev pub Windows : List TaskWindow → List (List ℤ) → Type 0
Windows [] [] = ⊤
Windows [] (vs ∷ items) = ⊥
Windows (w ∷ ws) [] = ⊥
Windows (w ∷ ws) (vs ∷ items) = (w.elements ≡ vs) × (w.claim.horizon ≡ length vs) × (1 ≤ length vs) × Windows ws items

abbrev pub Kept : Side → BodyState → Store → Type 0
Kept (InFunction windows created skips) s m = (m.windows ≡ windows) × (m.created ≡ created) × (m.skips ≡ skips)
Kept (InTask claims) s m = (map (λ (w : TaskWindow). w.claim) m.windows ≡ claims) × Windows m.windows s.items
Kept (InMain streams later) s m = (s.activations ≡ m.created) × (s.streams ≡ streams) × (m.skips ≡ skips_of (streams + later) s.moves)

-- where a body has ended: what was created
abbrev pub Made : Side → List Activation → List Activation → Type 0
Made (InFunction windows created skips) activations made = made ≡ created
Made (InTask claims) activations made = ⊤
Made (InMain streams later) activations made = made ≡ activations

-- The code of a call of the function with this place and number.
abbrev pub IsCallable : Parts → File → (place number params : ℕ) → Type 0
IsCallable code file place number params =
    (callers : List Frame) (args : List ℤ) (p : ℕ) (stack : List ℤ) (m : Store) (turns : ℕ) → length args ≡ params →
    instr_at code p ≡ Some instr.Turn → instr_at code (p + 1) ≡ Some (instr.Call number) →
    Meets code (at callers p (onto args stack) m turns) (pushed callers (p + 1 + 1) stack m) (file.calls place args turns)

-- what the file has for a name that is declared in it
abbrev pub FileHas : Parts → File → Option Variable → Entity → Type 0
FileHas code file v (entity.Constant c) = v ≡ Some (variable.Constant c)
FileHas code file v (entity.Function number params) = (place : ℕ) × (v ≡ Some (variable.Function place)) × IsCallable code file place number params
FileHas code file v _ = ⊥

-- What a name means that isn't declared in the body itself: it is declared round the body, or in the file.
abbrev pub Reaches : Parts → File → List Entry → ℕ → Entity → Type 0
Reaches code file bound id d = (entity_of (lookup bound id) ≡ Some d) ⊎ ((lookup bound id ≡ None) × FileHas code file (find file.names id) d)

-- the type of what such a name means
abbrev pub flag_round : File → List Entry → ℕ → Bool
flag_round file bound id = flag_or_of (flag_or false file.names id) (lookup bound id)

-- How a name is used in a body, beside its pragmas.
abbrev pub IsPlain : Use → Type 0
IsPlain (usage.Place role.Value s) = ⊤
IsPlain (usage.Place role.Changed s) = ⊤
IsPlain (usage.Called args) = ⊤
IsPlain _ = ⊥

pub record Context : Type 1 where
  pub code : Parts
  pub file : File
  pub falls : CallsFall file
  -- the list of names
  pub names : List Resolved
  pub ordered : InOrder names
  pub owner : Owner
  pub captured : List ℕ
  pub side : Side
  -- how many scopes are round it
  pub floor : ℕ
  -- what is in scope round the body in the text, and of it what is in scope round it in the run
  pub round : List Entry
  pub bound : List Entry
  -- what is known besides of what stands in the body
  pub besides : Note → Type 0
  pub reaches : (s : Scope) (n : Name) (u : Use) (d : Entity) → IsPlain u → KeepsAll rules (Used s n u) → besides (Used s n u) → entity_of (lookup s.entries n.id) ≡ Some d →
      lookup s.entries n.id ≡ lookup round n.id → Reaches code file bound n.id d
  -- and it is of the type that it has there
  pub flagged : (s : Scope) (n : Name) (u : Use) (d : Entity) → IsPlain u → KeepsAll rules (Used s n u) → besides (Used s n u) → entity_of (lookup s.entries n.id) ≡ Some d →
      lookup s.entries n.id ≡ lookup round n.id → flag_round file bound n.id ≡ flag_of (lookup round n.id)
  -- constants are the file's
  pub constants : (id : ℕ) (v : ℤ) → entity_of (lookup round id) ≡ Some (entity.Constant v) → Reaches code file bound id (entity.Constant v)

abbrev pub means : Context → Entity → What
means c d = meaning_in c.owner c.captured d

abbrev pub tells : Context → ℕ → Resolved
tells c = told_at c.names

abbrev pub Agree : Context → List Note → Type 0
Agree c [] = ⊤
Agree c (n ∷ ns) = (KeepsAll rules n × AreIn c.names (resolutions_of n) × c.besides n) × Agree c ns

pub agree_first : (c : Context) (xs ys : List Note) → Agree c (xs ++ ys) → Agree c xs
agree_first c [] ys h = tt
agree_first c (x ∷ xs) ys h = (h.0, agree_first c xs ys h.1)

pub agree_rest : (c : Context) (xs ys : List Note) → Agree c (xs ++ ys) → Agree c ys
agree_rest c [] ys h = h
agree_rest c (x ∷ xs) ys h = agree_rest c xs ys h.1

-- `osin` and `osout` are the first streams, and are no arrays
abbrev pub IsBehindFirst : Entity → Type 0
IsBehindFirst (entity.Streams first count) = 2 ≤ first
IsBehindFirst _ = ⊤

abbrev pub AreBehindFirst : List Entry → Type 0
AreBehindFirst [] = ⊤
AreBehindFirst (e ∷ es) = IsBehindFirst e.entity × AreBehindFirst es

-- a scope of the body: what the body declared, within what is round it
pub record In (c : Context) (s : Scope) (es : List Entry) : Type 0 where
  pub owner : s.owner ≡ c.owner
  pub captured : s.captured ≡ c.captured
  pub entries : s.entries ≡ es ++ c.round
  pub deep : c.floor ≤ s.depth
  pub arrays : AreBehindFirst es

-- a declaration of a type begins
pub in_typed : (c : Context) (ty : Ty) (s : Scope) (es : List Entry) → In c s es → In c (typed ty s) es
in_typed c ty s es is = record { owner = is.owner; captured = is.captured; entries = is.entries; deep = is.deep; arrays = is.arrays }

-- a used name
pub record IsUsed (c : Context) (s : Scope) (n : Name) (u : Use) : Type 0 where
  pub entity : Entity
  pub is : entity_of (lookup s.entries n.id) ≡ Some entity
  pub told : (tells c n.mark.place).what ≡ means c entity
  pub flag : flags_by (tells c) n ≡ flag_of (lookup s.entries n.id)
  pub kind : is_wrong_kind n.id u entity ≡ false
  pub count : has_other_count n.id u entity ≡ false
  pub lawful : KeepsAll rules (Used s n u)
  pub besides : c.besides (Used s n u)

pub kept_rule : (rule : UseRule) (s : Scope) (n : Name) (u : Use) (d : Entity) → entity_of (lookup s.entries n.id) ≡ Some d →
    violates rule (Used s n u) ≡ false → rule n.id u d ≡ false
kept_rule rule s n u d is h = sym (ap (if_declared (rule n.id u)) is) ∙ h

pub used : (c : Context) (s : Scope) (es : List Entry) (n : Name) (u : Use) (ns : List Note) → In c s es → Agree c (Used s n u ∷ ns) → IsUsed c s n u
used c s es n u ns is h =
    let d = declared-use s n u (h.0.0, tt) in
    let w = told-use c.names s n u d.0 d.1 (h.0.1, tt) in
    let t = told_is c.names n.mark.place (meaning_in s.owner s.captured d.0) (flag_of (lookup s.entries n.id)) c.ordered w in
    record {
      entity = d.0;
      is = d.1;
      told = ap (λ (r : Resolved). r.what) t ∙ ap (λ o. meaning_in o s.captured d.0) is.owner ∙ ap (λ xs. meaning_in c.owner xs d.0) is.captured;
      flag = ap (λ (r : Resolved). r.unsigned) t;
      kind = kept_rule is_wrong_kind s n u d.0 d.1 h.0.0.1.0;
      count = kept_rule has_other_count s n u d.0 d.1 h.0.0.1.1.1.0;
      lawful = h.0.0;
      besides = h.0.2;
    }

-- What is found in scope is declared in the body, or round it, or in the file.
abbrev pub Named : Context → List Entry → List ℤ → BodyState → Name → Entity → Type 0
Named c es slots st n d =
    ((entity_of (lookup (es ++ c.bound) n.id) ≡ Some d) × Found (resources c.side) (means c) slots (find st.bound n.id) d) ⊎ ((find st.bound n.id ≡ None) × FileHas c.code c.file (find c.file.names n.id) d)

-- either a name is declared in the front of a list, or what is behind it counts
pub split : (es xs ys : List Entry) (id : ℕ) →
    (lookup (es ++ xs) id ≡ lookup (es ++ ys) id) ⊎ ((lookup (es ++ xs) id ≡ lookup xs id) × (lookup (es ++ ys) id ≡ lookup ys id))
split [] xs ys id = inr (refl, refl)
split (e ∷ es) xs ys id = by_case (e.id == id) (split es xs ys id)
  where
    by_case : (t : Bool) → (lookup (es ++ xs) id ≡ lookup (es ++ ys) id) ⊎ ((lookup (es ++ xs) id ≡ lookup xs id) × (lookup (es ++ ys) id ≡ lookup ys id)) →
        ((if t then Some e else lookup (es ++ xs) id) ≡ (if t then Some e else lookup (es ++ ys) id))
        ⊎ (((if t then Some e else lookup (es ++ xs) id) ≡ lookup xs id) × ((if t then Some e else lookup (es ++ ys) id) ≡ lookup ys id))
    by_case true next = inl refl
    by_case false next = next

pub name : (c : Context) (s : Scope) (es : List Entry) (st : BodyState) (slots : List ℤ) (n : Name) (u : Use) → IsPlain u → In c s es → (k : IsUsed c s n u) →
    Aligned (resources c.side) (means c) slots st.bound (es ++ c.bound) → Named c es slots st n k.entity
name c s es st slots n u plain is k al = by_split (split es c.round c.bound n.id)
  where
    in_text : entity_of (lookup (es ++ c.round) n.id) ≡ Some k.entity
    in_text = subst (λ xs. entity_of (lookup xs n.id) ≡ Some k.entity) is.entries k.is

    by_reach : lookup (es ++ c.bound) n.id ≡ lookup c.bound n.id → Reaches c.code c.file c.bound n.id k.entity → Named c es slots st n k.entity
    by_reach same (inl r) = inl (ap entity_of same ∙ r, found (resources c.side) (means c) slots st.bound (es ++ c.bound) n.id k.entity al (ap entity_of same ∙ r))
    by_reach same (inr r) = inr (missed (resources c.side) (means c) slots st.bound (es ++ c.bound) n.id al (same ∙ r.0), r.1)

    by_split : (lookup (es ++ c.round) n.id ≡ lookup (es ++ c.bound) n.id) ⊎ ((lookup (es ++ c.round) n.id ≡ lookup c.round n.id) × (lookup (es ++ c.bound) n.id ≡ lookup c.bound n.id)) →
        Named c es slots st n k.entity
    by_split (inl same) = inl (ap entity_of (sym same) ∙ in_text, found (resources c.side) (means c) slots st.bound (es ++ c.bound) n.id k.entity al (ap entity_of (sym same) ∙ in_text))
    by_split (inr same) =
        by_reach same.1 (c.reaches s n u k.entity plain k.lawful k.besides k.is (ap (λ xs. lookup xs n.id) is.entries ∙ same.0))

-- Where something is declared, nothing is said of it elsewhere.
pub declared_flag : (elsewhere : Bool) (found : Option Entry) (d : Entity) → entity_of found ≡ Some d → flag_or_of elsewhere found ≡ flag_of found
declared_flag elsewhere None d is = absurd (cc)
declared_flag elsewhere (Some e) d is = refl

-- A name is of the type that the list of names tells.
pub name_flag : (c : Context) (s : Scope) (es : List Entry) (st : BodyState) (slots : List ℤ) (n : Name) (u : Use) → IsPlain u → In c s es → IsUsed c s n u →
    Aligned (resources c.side) (means c) slots st.bound (es ++ c.bound) → flags_by (tells c) n ≡ flags c.file st n
name_flag c s es st slots n u plain is k al = k.flag ∙ ap (λ xs. flag_of (lookup xs n.id)) is.entries ∙ sym (seen ∙ by_split (split es c.round c.bound n.id))
  where
    elsewhere : Bool
    elsewhere = flag_or false c.file.names n.id

    seen : flags c.file st n ≡ flag_or_of elsewhere (lookup (es ++ c.bound) n.id)
    seen = flag_found (resources c.side) (means c) slots st.bound (es ++ c.bound) n.id elsewhere al

    in_text : entity_of (lookup (es ++ c.round) n.id) ≡ Some k.entity
    in_text = subst (λ xs. entity_of (lookup xs n.id) ≡ Some k.entity) is.entries k.is

    by_split : (lookup (es ++ c.round) n.id ≡ lookup (es ++ c.bound) n.id) ⊎ ((lookup (es ++ c.round) n.id ≡ lookup c.round n.id) × (lookup (es ++ c.bound) n.id ≡ lookup c.bound n.id)) →
        flag_or_of elsewhere (lookup (es ++ c.bound) n.id) ≡ flag_of (lookup (es ++ c.round) n.id)
    by_split (inl same) =
        declared_flag elsewhere (lookup (es ++ c.bound) n.id) k.entity (ap entity_of (sym same) ∙ in_text) ∙ ap flag_of (sym same)
    by_split (inr same) =
        ap (flag_or_of elsewhere) same.1
        ∙ c.flagged s n u k.entity plain k.lawful k.besides k.is (ap (λ xs. lookup xs n.id) is.entries ∙ same.0)
        ∙ ap flag_of (sym same.0)
