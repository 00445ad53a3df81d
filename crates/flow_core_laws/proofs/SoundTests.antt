-- Tests that show a written-out plan to be sound.
use Rattle.std.proofs.Common.{◌≡◌, ◌≢◌, ℕ, zero, suc, ◌+◌, ◌-◌, ◌<◌, ◌≤◌, ℤ, List, [], ◌∷◌, Option, Some, None, Bool, true, false, length, set, refl, sym, ap, ◌∙◌, subst, ◌⊎◌, inl, inr, arith}
use Rattle.std.specs.Prelude.{slice_get, is_none, ◌&&◌, ◌||◌, ◌==◌, if◌then◌else◌, IsTrue, nat_le, nat_lt, ◌↔◌, sum_by}
use Rattle.std.specs.Option.{option_map_or}
use Rattle.std.proofs.lemmas.Bool.{and_parts, eq-eqb, eqb-true, le-leb, leb-true, lt-ltb, ltb-true, cases_lt}
use Rattle.std.proofs.lemmas.Bool.Decides.{nat_tests}
use Rattle.std.proofs.lemmas.Option.{slice_get_within}
use Rattle.flow_core_laws.specs.declared.plan.FramePlan.{FramePlan}
use Rattle.flow_core_laws.specs.declared.plan.Piece.{Piece}
use Rattle.flow_core_laws.specs.declared.plan.Plan.{Plan}
use Rattle.flow_core_laws.specs.declared.elem.Elem.{Elem}
use Rattle.flow_core_laws.specs.Plans.{frame_at, number_at, held_at, missing_of}
use Rattle.flow_core_laws.specs.declared.task_end.TaskEnd.{TaskEnd}
use Rattle.flow_core_laws.specs.declared.task_end.TaskEnd.TheVariants.{Done, Trapped, OverBudget, Poisoned}
use Rattle.flow_core_laws.specs.declared.outcome.Outcome.{Outcome}
use Rattle.flow_core_laws.specs.Outcome.{outcome_of}
use Rattle.flow_core_laws.specs.Serves.{Serves}
use Rattle.flow_core_laws.specs.IsSound.{HasCell, Covers, IsSound, IsSoundPiece}

-- whether each number below one passes
abbrev pub all_below : (ℕ → Bool) → ℕ → Bool
all_below test zero = true
all_below test (suc n) = test n && all_below test n

below : (test : ℕ → Bool) (n k : ℕ) → all_below test n ≡ true → k < n → test k ≡ true
below test zero k h lt = absurd (omega arith)
below test (suc n) k h lt = at (cases_lt k n) (and_parts (test n) (all_below test n) h) (below test n k)
  where
    at : (k < n) ⊎ (n ≤ k) → (test n ≡ true) × (all_below test n ≡ true) → (all_below test n ≡ true → k < n → test k ≡ true) → test k ≡ true
    at (inl less) parts rest = rest parts.1 less
    at (inr more) parts rest = ap test (let e : k ≡ n = omega arith in e) ∙ parts.0

-- whether each piece passes
abbrev pub all_pieces : Plan → (ℕ → Piece → Bool) → Bool
all_pieces plan test = all_below (λ number. option_map_or (test number) (slice_get plan.pieces number) true) (length plan.pieces)

piece_passes : (plan : Plan) (test : ℕ → Piece → Bool) (number : ℕ) (p : Piece) → all_pieces plan test ≡ true → slice_get plan.pieces number ≡ Some p → test number p ≡ true
piece_passes plan test number p h is = sym (ap (λ (o : Option Piece). option_map_or (test number) o true) is) ∙ below (λ k. option_map_or (test k) (slice_get plan.pieces k) true) (length plan.pieces) number h (slice_get_within plan.pieces number p is)

-- whether two stretches have nothing in common
abbrev pub is_apart : ℕ → ℕ → ℕ → ℕ → Bool
is_apart a n b m = nat_le (a + n) b || nat_le (b + m) a

apart_stretches : (a n b m c : ℕ) → is_apart a n b m ≡ true → a ≤ c → c < a + n → b ≤ c → c < b + m → ⊥
apart_stretches a n b m c h low high from to = grind (arith, nat_tests)

abbrev pub piece_test : Plan → ℕ → Piece → Bool
piece_test plan number p =
    nat_lt p.from (length plan.frames) && (nat_le p.to (length plan.frames) && (nat_le 1 p.count && (nat_le (p.first + p.count) (frame_at plan p.from).outputs && (nat_le (frame_at plan p.to).cell p.at && nat_le (p.at + p.count) ((frame_at plan p.to).cell + (frame_at plan p.to).inputs)))))

piece_sound : (plan : Plan) (number : ℕ) (p : Piece) → piece_test plan number p ≡ true → IsSoundPiece plan p
piece_sound plan number p h =
    let a = and_parts (nat_lt p.from (length plan.frames)) _ h in
    let b = and_parts (nat_le p.to (length plan.frames)) _ a.1 in
    let d = and_parts (nat_le 1 p.count) _ b.1 in
    let e = and_parts (nat_le (p.first + p.count) (frame_at plan p.from).outputs) _ d.1 in
    let f = and_parts (nat_le (frame_at plan p.to).cell p.at) _ e.1 in
    record {
      comes_from_a_frame = ltb-true _ _ a.0;
      goes_to_a_frame = leb-true _ _ b.0;
      has_elements = leb-true _ _ d.0;
      takes_outputs = leb-true _ _ e.0;
      fills_from_its_cells = leb-true _ _ f.0;
      fills_to_its_cells = leb-true _ _ f.1;
    }

-- the tests on frames
abbrev pub outputs_test : Plan → ℕ → Bool
outputs_test plan f = nat_le (frame_at plan f).outputs 4194304

abbrev pub exist_test : Plan → ℕ → Bool
exist_test plan f = nat_le ((frame_at plan f).cell + (frame_at plan f).inputs) (length plan.filled)

abbrev pub apart_test : Plan → ℕ → Bool
apart_test plan f = all_below (λ g. f == g || is_apart (frame_at plan f).cell (frame_at plan f).inputs (frame_at plan g).cell (frame_at plan g).inputs) (suc (length plan.frames))

abbrev pub wait_test : Plan → ℕ → Bool
wait_test plan f = (frame_at plan f).wait == missing_of plan plan.filled f

abbrev pub pieces_test : Plan → ℕ → Bool
pieces_test plan f = nat_le ((frame_at plan f).piece + (frame_at plan f).pieces) (length plan.pieces)

-- whether two tests agree
abbrev pub agree : Bool → Bool → Bool
agree true b = b
agree false true = false
agree false false = true

abbrev pub is_own : Plan → ℕ → ℕ → Bool
is_own plan f number = nat_le (frame_at plan f).piece number && nat_lt number ((frame_at plan f).piece + (frame_at plan f).pieces)

abbrev pub together_test : Plan → ℕ → Bool
together_test plan f = all_pieces plan (λ number p. agree (p.from == f) (is_own plan f number))

agreed : (a b : Bool) → agree a b ≡ true → a ≡ b
agreed true true h = refl
agreed true false h = absurd (cc)
agreed false true h = absurd (cc)
agreed false false h = refl

together : (plan : Plan) (f number : ℕ) (p : Piece) → agree (p.from == f) (is_own plan f number) ≡ true → (p.from ≡ f) ↔ (((frame_at plan f).piece ≤ number) × (number < (frame_at plan f).piece + (frame_at plan f).pieces))
together plan f number p h = (there, back)
  where
    same : (p.from == f) ≡ is_own plan f number
    same = agreed (p.from == f) (is_own plan f number) h

    there : p.from ≡ f → ((frame_at plan f).piece ≤ number) × (number < (frame_at plan f).piece + (frame_at plan f).pieces)
    there e =
        let t : is_own plan f number ≡ true = sym same ∙ eq-eqb p.from f e in
        let parts = and_parts (nat_le (frame_at plan f).piece number) (nat_lt number ((frame_at plan f).piece + (frame_at plan f).pieces)) t in
        (leb-true _ _ parts.0, ltb-true _ _ parts.1)

    back : ((frame_at plan f).piece ≤ number) × (number < (frame_at plan f).piece + (frame_at plan f).pieces) → p.from ≡ f
    back (low, high) =
        let l : nat_le (frame_at plan f).piece number ≡ true = le-leb _ _ low in
        let u : nat_lt number ((frame_at plan f).piece + (frame_at plan f).pieces) ≡ true = lt-ltb _ _ high in
        let t : is_own plan f number ≡ true = ap (λ (b : Bool). b && nat_lt number ((frame_at plan f).piece + (frame_at plan f).pieces)) l ∙ u in
        eqb-true p.from f (same ∙ t)

-- the tests on pairs of pieces, and on what cells hold at opening
abbrev pub pairs_test : Plan → Bool
pairs_test plan = all_pieces plan (λ i p. all_pieces plan (λ j q. i == j || is_apart p.at p.count q.at q.count))

abbrev pub spares_test : Plan → Bool
spares_test plan = all_pieces plan (λ i p. all_below (λ k. is_none (held_at plan.filled (p.at + k))) p.count)

-- the test on the numbers of two frames
abbrev pub ascend_test : Plan → ℕ → Bool
ascend_test plan g = all_below (λ f. nat_lt (number_at plan f) (number_at plan g)) g

-- either of two tests
either : (a b : Bool) → (a || b) ≡ true → (a ≡ true) ⊎ (b ≡ true)
either true b h = inl refl
either false b h = inr h

is_none-true : (o : Option Elem) → is_none o ≡ true → o ≡ None
is_none-true None h = refl
is_none-true (Some v) h = absurd (cc)

pub IsSound-from_tests : (plan : Plan) → nat_le (length plan.frames) 65536 ≡ true → nat_le (length plan.filled) 4194304 ≡ true → all_below (outputs_test plan) (suc (length plan.frames)) ≡ true → nat_le (sum_by (λ (p : FramePlan). p.outputs) plan.frames) 4194304 ≡ true → (length plan.numbers == length plan.frames) ≡ true → all_below (ascend_test plan) (length plan.frames) ≡ true → all_below (exist_test plan) (suc (length plan.frames)) ≡ true → all_below (apart_test plan) (suc (length plan.frames)) ≡ true → all_below (wait_test plan) (suc (length plan.frames)) ≡ true → all_pieces plan (piece_test plan) ≡ true → all_below (pieces_test plan) (suc (length plan.frames)) ≡ true → all_below (together_test plan) (suc (length plan.frames)) ≡ true → pairs_test plan ≡ true → spares_test plan ≡ true → IsSound plan
IsSound-from_tests plan few cells outputs together_few numbers ascend exist apart wait sound pieces stand pairs spares = record {
  frames_are_few = leb-true _ _ few;
  cells_are_few = leb-true _ _ cells;
  outputs_are_few = λ f le. leb-true _ _ (below (outputs_test plan) (suc (length plan.frames)) f outputs (omega arith));
  all_outputs_are_few = leb-true _ _ together_few;
  numbers_are_of_frames = eqb-true _ _ numbers;
  numbers_ascend = λ f g less lt. ltb-true _ _ (below (λ h. nat_lt (number_at plan h) (number_at plan g)) g f (below (ascend_test plan) (length plan.frames) g ascend lt) less);
  cells_exist = λ f le. leb-true _ _ (below (exist_test plan) (suc (length plan.frames)) f exist (omega arith));
  cells_are_apart = λ f g c f_le g_le f_has g_has. one_frame f g c f_has g_has (either (f == g) _ (below (λ h. f == h || is_apart (frame_at plan f).cell (frame_at plan f).inputs (frame_at plan h).cell (frame_at plan h).inputs) (suc (length plan.frames)) g (below (apart_test plan) (suc (length plan.frames)) f apart (omega arith)) (omega arith)));
  wait_counts = λ f le. eqb-true _ _ (below (wait_test plan) (suc (length plan.frames)) f wait (omega arith));
  pieces_are_sound = λ number p is. piece_sound plan number p (piece_passes plan (piece_test plan) number p sound is);
  pieces_exist = λ f le. leb-true _ _ (below (pieces_test plan) (suc (length plan.frames)) f pieces (omega arith));
  pieces_stand_together = λ f number p le is. together plan f number p (piece_passes plan (λ n q. agree (q.from == f) (is_own plan f n)) number p (below (together_test plan) (suc (length plan.frames)) f stand (omega arith)) is);
  pieces_are_apart = λ i j c i_covers j_covers. one_piece i j c i_covers j_covers;
  pieces_spare_the_filled = λ number c covers. spared number c covers;
}
  where
    one_frame : (f g c : ℕ) → HasCell plan f c → HasCell plan g c → ((f == g) ≡ true) ⊎ (is_apart (frame_at plan f).cell (frame_at plan f).inputs (frame_at plan g).cell (frame_at plan g).inputs ≡ true) → f ≡ g
    one_frame f g c (low, high) (from, to) (inl same) = eqb-true f g same
    one_frame f g c (low, high) (from, to) (inr different) = absurd (apart_stretches (frame_at plan f).cell (frame_at plan f).inputs (frame_at plan g).cell (frame_at plan g).inputs c different low high from to)

    one_piece : (i j c : ℕ) → Covers plan i c → Covers plan j c → i ≡ j
    one_piece i j c (p, p_is, low, high) (q, q_is, from, to) = decide (either (i == j) (is_apart p.at p.count q.at q.count) (piece_passes plan (λ k r. i == k || is_apart p.at p.count r.at r.count) j q (piece_passes plan (λ k r. all_pieces plan (λ l t. k == l || is_apart r.at r.count t.at t.count)) i p pairs p_is) q_is))
      where
        decide : ((i == j) ≡ true) ⊎ (is_apart p.at p.count q.at q.count ≡ true) → i ≡ j
        decide (inl same) = eqb-true i j same
        decide (inr different) = absurd (apart_stretches p.at p.count q.at q.count c different low high from to)

    spared : (number c : ℕ) → Covers plan number c → held_at plan.filled c ≡ None
    spared number c (p, p_is, low, high) =
        let t : is_none (held_at plan.filled (p.at + (c - p.at))) ≡ true = below (λ k. is_none (held_at plan.filled (p.at + k))) p.count (c - p.at) (piece_passes plan (λ i r. all_below (λ k. is_none (held_at plan.filled (r.at + k))) r.count) number p spares p_is) (omega arith) in
        let e : p.at + (c - p.at) ≡ c = omega arith in
        is_none-true (held_at plan.filled c) (ap (λ (k : ℕ). is_none (held_at plan.filled k)) (sym e) ∙ t)

-- whether an end is one of a body: no trap of another code than 1 to 8, and no poison
abbrev pub end_test : TaskEnd → Bool
end_test Done = true
end_test (Trapped code line) = nat_le 1 code && nat_le code 8
end_test OverBudget = true
end_test (Poisoned root) = false

code_between : (e : TaskEnd) (code line : ℕ) → end_test e ≡ true → e ≡ Trapped code line → (1 ≤ code) × (code ≤ 8)
code_between Done code line h is = absurd (cc)
code_between (Trapped c l) code line h is =
    let parts = and_parts (nat_le 1 c) (nat_le c 8) h in
    let e : c ≡ code = cc in
    subst (λ (k : ℕ). (1 ≤ k) × (k ≤ 8)) e (leb-true _ _ parts.0, leb-true _ _ parts.1)
code_between OverBudget code line h is = absurd (cc)
code_between (Poisoned root) code line h is = absurd (cc)

no_poison : (e : TaskEnd) (root : ℕ) → end_test e ≡ true → e ≢ Poisoned root
no_poison e root h is = let z : true ≡ false = sym h ∙ ap end_test is in absurd (cc)

-- the parts of an outcome
pub outcome_of-end : (e : TaskEnd) (outputs : List ℤ) → (outcome_of e outputs).end ≡ e
outcome_of-end Done outputs = refl
outcome_of-end (Trapped code line) outputs = refl
outcome_of-end OverBudget outputs = refl
outcome_of-end (Poisoned root) outputs = refl

pub outcome_of-outputs : (e : TaskEnd) (outputs : List ℤ) → e ≡ Done → (outcome_of e outputs).outputs ≡ outputs
outcome_of-outputs Done outputs h = refl
outcome_of-outputs (Trapped code line) outputs h = absurd (cc)
outcome_of-outputs OverBudget outputs h = absurd (cc)
outcome_of-outputs (Poisoned root) outputs h = absurd (cc)

-- bodies that copy their inputs or give one value, by a rule for each frame
abbrev pub counts_test : Plan → (ℕ → Bool) → ℕ → Bool
counts_test plan copies f = if copies f then (frame_at plan f).inputs == (frame_at plan f).outputs else (frame_at plan f).outputs == 1

outputs_fit : (b : Bool) (i o : ℕ) (inputs : List ℤ) (v : ℤ) → (if b then i == o else o == 1) ≡ true → length inputs ≡ i → length (if b then inputs else v ∷ []) ≡ o
outputs_fit true i o inputs v h len = len ∙ eqb-true i o h
outputs_fit false i o inputs v h len = sym (eqb-true o 1 h)

pub Serves-from_rules : (plan : Plan) (count : ℕ) (ends : ℕ → TaskEnd) (copies : ℕ → Bool) (v : ℤ) → nat_le (length plan.frames) count ≡ true → all_below (counts_test plan copies) (length plan.frames) ≡ true → all_below (λ f. end_test (ends f)) (length plan.frames) ≡ true → Serves plan (λ f inputs. outcome_of (ends f) (if copies f then inputs else v ∷ [])) (λ f i o. (f < count) × IsTrue (if copies f then i == o else o == 1))
Serves-from_rules plan count ends copies v few counts codes = record {
  takes_each = λ f lt. (let l = leb-true (length plan.frames) count few in omega arith, below (counts_test plan copies) (length plan.frames) f counts lt);
  fills_outputs = λ f inputs lt len done. ap length (outcome_of-outputs (ends f) (if copies f then inputs else v ∷ []) (sym (outcome_of-end (ends f) (if copies f then inputs else v ∷ [])) ∙ done)) ∙ outputs_fit (copies f) (frame_at plan f).inputs (frame_at plan f).outputs inputs v (below (counts_test plan copies) (length plan.frames) f counts lt) len;
  traps_have_codes = λ f inputs code line lt len is. code_between (ends f) code line (below (λ g. end_test (ends g)) (length plan.frames) f codes lt) (sym (outcome_of-end (ends f) (if copies f then inputs else v ∷ [])) ∙ is);
  are_never_poisoned = λ f inputs root lt len is. no_poison (ends f) root (below (λ g. end_test (ends g)) (length plan.frames) f codes lt) (sym (outcome_of-end (ends f) (if copies f then inputs else v ∷ [])) ∙ is);
}

pub Serves-at : {outcome : ℕ → List ℤ → Outcome} {takes : ℕ → ℕ → ℕ → Type 0} (p q : Plan) → p ≡ q → Serves q outcome takes → Serves p outcome takes
Serves-at {outcome = outcome} {takes = takes} p q e s = subst (λ (r : Plan). Serves r outcome takes) (sym e) s

-- a list of one element after a write
one_element : (xs : List ℤ) (v : ℤ) → (length xs == 1) ≡ true → set xs 0 v ≡ v ∷ []
one_element [] v h = absurd (cc)
one_element (x ∷ []) v h = refl
one_element (x ∷ y ∷ xs) v h = let e : length (x ∷ y ∷ xs) ≡ 1 = eqb-true _ 1 h in absurd (omega arith)

-- what a body that gives one value writes
pub gives_one : (b : Bool) (inputs outputs : List ℤ) (v : ℤ) → b ≡ false → IsTrue (if b then length inputs == length outputs else length outputs == 1) → set outputs 0 v ≡ (if b then inputs else v ∷ [])
gives_one true inputs outputs v is h = absurd (cc)
gives_one false inputs outputs v is h = one_element outputs v h
