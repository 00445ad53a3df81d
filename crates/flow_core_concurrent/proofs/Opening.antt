-- What opening says of a frame later on.
use Rattle.std.proofs.Common.{[], ◌≡◌, ℕ, ◌+◌, ◌<◌, ◌≤◌, ◌≢◌, Bool, true, false, List, ◌∷◌, ◌++◌, Option, Some, length, get_or, refl, sym, ap, ◌∙◌, ◌⊎◌, inl, inr, arith, eq-eqb, zero, suc, count_by}
use Rattle.std.specs.Prelude.{slice_get, is_none, not, ◌&&◌, ◌||◌, ◌==◌, if◌then◌else◌}
use Rattle.std.proofs.lemmas.Bool.{eqb-true, cases_lt, or_cases, and_parts}
use Rattle.std.proofs.lemmas.List.{get_or-map, get_or_append_left, get_or_push, get_or_past, length_push, length-map}
use Rattle.flow_core_laws.specs.declared.plan.FramePlan.{FramePlan}
use Rattle.flow_core_concurrent.specs.declared.view.FrameRun.{FrameRun}
use Rattle.flow_core_concurrent.specs.States.{times, has, CoreState, IsSeat, runs_of, knows}
use Rattle.flow_core_concurrent.proofs.Sums.{sum_by-has}
use Rattle.flow_core_concurrent.proofs.Words.{one_is_true, full_waits}
use Rattle.flow_core_laws.specs.declared.plan.Plan.{Plan}
use Rattle.flow_core_laws.specs.IsSound.{IsSound}
use Rattle.flow_core_laws.specs.Plans.{frame_at, held_at, cells_of, missing_of}
use Rattle.flow_core_concurrent.specs.declared.known.Known.{Known}
use Rattle.flow_core_concurrent.specs.declared.view.View.{View}
use Rattle.flow_core_concurrent.specs.declared.word.Word.{Word}
use Rattle.flow_core_concurrent.specs.declared.word.Word.TheVariants.{Wait, Open, Taken, Ended}
use Rattle.flow_core_concurrent.specs.Words.{word_at, opening_word, opening_words, amount, waits, is_open}
use Rattle.flow_core_concurrent.specs.Counted.{counted_at, lacks_cell, lacking, one}
use Rattle.flow_core_concurrent.specs.IsGood.{IsGood}
use Rattle.std.proofs.lemmas.List.Sums.{sum_by-cons}

-- counts by a test that implies another
pub count_by-fewer : {X : Type 0} (p q : X → Bool) (xs : List X) → ((x : X) → p x ≡ true → q x ≡ true) → count_by p xs ≤ count_by q xs
count_by-fewer p q [] implies = omega arith
count_by-fewer p q (x ∷ xs) implies =
    let a = sum_by-cons (λ y. one (p y)) x xs in
    let b = sum_by-cons (λ y. one (q y)) x xs in
    let r : count_by p xs ≤ count_by q xs = count_by-fewer p q xs implies in
    let h : one (p x) ≤ one (q x) = at_most (p x) (q x) (implies x) in
    omega (arith, a, b, r, h)
  where
    at_most : (a b : Bool) → (a ≡ true → b ≡ true) → one a ≤ one b
    at_most false b f = omega arith
    at_most true true f = omega arith
    at_most true false f = let n : false ≡ true = f refl in absurd (cc)

pub has_times : (xs : List ℕ) (f : ℕ) → has xs f ≡ true → 1 ≤ times f xs
has_times xs f h = by (times f xs) h
  where
    by : (n : ℕ) → not (n == 0) ≡ true → 1 ≤ n
    by zero h = absurd (cc)
    by (suc n) h = omega arith

-- the word of a frame at opening
pub opening_at : (plan : Plan) (f : ℕ) → f ≤ length plan.frames → word_at (opening_words plan) f ≡ opening_word (frame_at plan f)
opening_at plan f le =
    get_or-map opening_word (plan.frames ++ plan.sink ∷ []) f plan.sink Open (let e = length_push plan.frames plan.sink in omega (arith, e, le))
    ∙ ap opening_word (by (cases_lt f (length plan.frames)))
  where
    by : (f < length plan.frames) ⊎ (length plan.frames ≤ f) → get_or (plan.frames ++ plan.sink ∷ []) f plan.sink ≡ frame_at plan f
    by (inl lt) = get_or_append_left plan.frames (plan.sink ∷ []) plan.sink f lt
    by (inr ge) = get_or_push plan.frames plan.sink plan.sink f (omega arith) ∙ sym (get_or_past plan.frames f plan.sink ge)

pub opening_length : (plan : Plan) → length (opening_words plan) ≡ length plan.frames + 1
opening_length plan = length-map (plan.frames ++ plan.sink ∷ []) opening_word ∙ length_push plan.frames plan.sink

pub opening_amount : (frame : FramePlan) → amount (opening_word frame) ≡ frame.wait
opening_amount frame = by (frame.wait == 0) refl
  where
    by : (b : Bool) → (frame.wait == 0) ≡ b → amount (if b then Open else Wait frame.wait) ≡ frame.wait
    by true e = sym (eqb-true frame.wait 0 e)
    by false e = refl

pub opening_is_some : (frame : FramePlan) → opening_word frame ≢ Wait 0
opening_is_some frame = by (frame.wait == 0) refl
  where
    by : (b : Bool) → (frame.wait == 0) ≡ b → (if b then Open else Wait frame.wait) ≢ Wait 0
    by true e = λ h. cc
    by false e = λ h. let z : frame.wait ≡ 0 = ap amount h in let t : (frame.wait == 0) ≡ true = eq-eqb frame.wait 0 z in cc

-- a frame misses at most what it missed at opening
pub lacking_at_most : (plan : Plan) (words : List Word) (runs : List (Option FrameRun)) (f : ℕ) → IsSound plan → f ≤ length plan.frames → lacking plan words runs f ≤ (frame_at plan f).wait
lacking_at_most plan words runs f sound le =
    let w : (frame_at plan f).wait ≡ missing_of plan plan.filled f = sound.wait_counts f le in
    let c : lacking plan words runs f ≤ missing_of plan plan.filled f = count_by-fewer (lacks_cell plan words runs) (λ c. is_none (held_at plan.filled c)) (cells_of plan f) (λ c h. (and_parts (is_none (held_at plan.filled c)) (counted_at plan words runs c == 0) h).0) in
    omega (arith, w, c)

-- a frame that was Open at opening doesn't wait
pub opened_waits_no_more : (known : Known) (s : CoreState) (f : ℕ) → IsSound known.plan → IsGood known s → is_open (word_at (opening_words known.plan) f) ≡ true → waits (word_at s.words f) ≡ false
opened_waits_no_more known s f sound g open_then = by (cases_lt (length known.plan.frames) f)
  where
    nothing : (w : Word) → is_open w ≡ true → amount w ≡ 0
    nothing (Wait n) h = absurd (cc)
    nothing Open h = refl
    nothing Taken h = refl
    nothing (Ended e) h = refl

    by : (length known.plan.frames < f) ⊎ (f ≤ length known.plan.frames) → waits (word_at s.words f) ≡ false
    by (inl behind) = ap waits (get_or_past s.words f Open (let e = g.words_of_plan in omega (arith, e, behind)))
    by (inr le) =
        let a : amount (word_at s.words f) ≡ lacking known.plan s.words (runs_of s) f = g.words_count f le in
        let b = lacking_at_most known.plan s.words (runs_of s) f sound le in
        let c : (frame_at known.plan f).wait ≡ 0 = sym (opening_amount (frame_at known.plan f)) ∙ ap amount (sym (opening_at known.plan f le)) ∙ nothing (word_at (opening_words known.plan) f) open_then in
        full_waits (word_at s.words f) (g.waits_for_some f) (omega (arith, a, b, c))

-- a frame that was made doesn't wait
pub made_waits_no_more : (known : Known) (s : CoreState) (i : ℕ) (v : View) (f : ℕ) → IsGood known s → slice_get s.seats i ≡ Some v → 1 ≤ times f v.made → waits (word_at s.words f) ≡ false
made_waits_no_more known s i v f g sees made =
    let a = sum_by-has (λ (v : View). times f v.made) s.seats i v sees in
    let b = g.made_once f in
    let c = one_is_true (waits (word_at (opening_words known.plan) f) && not (waits (word_at s.words f))) (omega (arith, a, b, made)) in
    no (waits (word_at s.words f)) (and_parts (waits (word_at (opening_words known.plan) f)) (not (waits (word_at s.words f))) c).1
  where
    no : (b : Bool) → not b ≡ true → b ≡ false
    no true h = absurd (cc)
    no false h = refl

-- a frame that a seat knows doesn't wait
pub known_waits_no_more : (known : Known) (s : CoreState) (i : ℕ) (v : View) (f : ℕ) → IsSound known.plan → IsGood known s → IsSeat s i v → knows v f ≡ true → waits (word_at s.words f) ≡ false
known_waits_no_more known s i v f sound g seat h = by (or_cases (is_open (word_at (opening_words v.about.plan) f) || has v.made f) (has v.found f) h)
  where
    about : v.about ≡ known
    about = (g.views_are_sound i v seat.sees).knows_the_run seat.is_not_spent

    early : (is_open (word_at (opening_words v.about.plan) f) ≡ true) ⊎ (has v.made f ≡ true) → waits (word_at s.words f) ≡ false
    early (inl opened) = opened_waits_no_more known s f sound g (sym (ap (λ (k : Known). is_open (word_at (opening_words k.plan) f)) about) ∙ opened)
    early (inr made) = made_waits_no_more known s i v f g seat.sees (has_times v.made f made)

    by : ((is_open (word_at (opening_words v.about.plan) f) || has v.made f) ≡ true) ⊎ (has v.found f ≡ true) → waits (word_at s.words f) ≡ false
    by (inl e) = early (or_cases (is_open (word_at (opening_words v.about.plan) f)) (has v.made f) e)
    by (inr found) = g.found_waits_no_more i f v seat.sees (has_times v.found f found)
