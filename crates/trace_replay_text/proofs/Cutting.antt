-- A text is cut in one way at the first byte of a kind, and so at the spaces between numbers.
use Rattle.std.proofs.Common.{◌≡◌, ℕ, zero, suc, ◌^◌, ◌<◌, List, [], ◌∷◌, ◌++◌, length, take, drop, refl, subst, sym, ap, ◌∙◌, append_assoc, append-nil, arith}
use Rattle.std.specs.List.{flat_map}
use Rattle.std.specs.Fmt.{decimal}
use Rattle.std.proofs.lemmas.Fmt.{decimal_is_IsNumeral, decimal_injective}
use Rattle.std.proofs.lemmas.Grind.{get_or_default_zero, flat_map-append}
use Rattle.std.proofs.lemmas.Str.Parse.{numerals_by_value, tells_digits, not_in_digits}
use Rattle.trace_replay_text.specs.Fields.{Begins, IsFree, IsCutAt}
use Rattle.os_io.specs.Lines.{field}
use Rattle.trace_replay_text.specs.Trace.{AreNumbers}

pub record Cells (m n : ℕ) (a b : List ℕ) : Type 0 where
  pub first : m ≡ n
  pub rest : a ≡ b

pub cells : (m n : ℕ) (a b : List ℕ) → m ∷ a ≡ n ∷ b → Cells m n a b
cells m n a b e = record { first = cc; rest = cc }

-- a text is what stands before a place and what stands from there on
pub front_and_rest : (place : ℕ) (text : List ℕ) → take place text ++ drop place text ≡ text
front_and_rest zero text = refl
front_and_rest (suc n) [] = refl
front_and_rest (suc n) (b ∷ text) = ap (λ (t : List ℕ). b ∷ t) (front_and_rest n text)

pub tail_free : (c b : ℕ) (xs : List ℕ) → IsFree c (b ∷ xs) → IsFree c xs
tail_free c b xs free k d inside = free (suc k) d (omega arith)

pub cut_once : (c : ℕ) (a b x y : List ℕ) → IsFree c a → IsFree c b → Begins c x → Begins c y → a ++ x ≡ b ++ y → (a ≡ b) × (x ≡ y)
cut_once c [] [] x y fa fb bx by e = (refl, e)
cut_once c [] (b ∷ vs) x y fa fb bx by e = absurd (fb 0 0 (omega arith) (subst (Begins c) e bx))
cut_once c (a ∷ us) [] x y fa fb bx by e = absurd (fa 0 0 (omega arith) (subst (Begins c) (sym e) by))
cut_once c (a ∷ us) (b ∷ vs) x y fa fb bx by e =
    let both = cells a b (us ++ x) (vs ++ y) e in
    let rest = cut_once c us vs x y (tail_free c a us fa) (tail_free c b vs fb) bx by both.rest in
    ((λ i. both.first i ∷ rest.0 i), rest.1)

pub free_decimal : (c n : ℕ) → c < 48 → n < 2 ^ 32 → IsFree c (decimal n)
free_decimal c n low small k d inside is =
    let digits = (decimal_is_IsNumeral n (omega arith)).0.1 in
    not_in_digits (numerals_by_value _ tells_digits) (decimal n) c digits (λ range. omega (arith, low, range.0)) k inside
    (sym (get_or_default_zero (decimal n) k d inside) ∙ is)

pub begins_fields : (frames : List ℕ) → Begins 32 (flat_map field frames)
begins_fields [] = tt
begins_fields (frame ∷ frames) = refl

-- two numbers, each behind a space, before what can stand behind one
pub field_once : (m n : ℕ) (x y : List ℕ) → m < 2 ^ 32 → n < 2 ^ 32 → Begins 32 x → Begins 32 y → field m ++ x ≡ field n ++ y → (m ≡ n) × (x ≡ y)
field_once m n x y small few bx by e =
    let tails = cells 32 32 (decimal m ++ x) (decimal n ++ y) e in
    let both = cut_once 32 (decimal m) (decimal n) x y (free_decimal 32 m (omega arith) small) (free_decimal 32 n (omega arith) few) bx by tails.rest in
    (decimal_injective m n (omega arith) (omega arith) both.0, both.1)

pub fields_once : (fs gs : List ℕ) → AreNumbers fs → AreNumbers gs → flat_map field fs ≡ flat_map field gs → fs ≡ gs
fields_once [] [] p q e = refl
fields_once [] (g ∷ gs) p q e = absurd (cc)
fields_once (f ∷ fs) [] p q e = absurd (cc)
fields_once (f ∷ fs) (g ∷ gs) p q e =
    let both = field_once f g (flat_map field fs) (flat_map field gs) p.0 q.0 (begins_fields fs) (begins_fields gs) e in
    let rest = fields_once fs gs p.1 q.1 both.1 in
    (λ i. both.0 i ∷ rest i)

-- where no number stands before a place at which the text is cut, no number stands at its front
pub no_field : (digits : List ℕ) (place : ℕ) → IsCutAt 32 digits place
    → ((n : ℕ) → n < 2 ^ 32 → take place digits ≡ decimal n → ⊥)
    → (n : ℕ) (rest : List ℕ) → n < 2 ^ 32 → Begins 32 rest → digits ≡ decimal n ++ rest → ⊥
no_field digits place cut none n rest small begins is =
    let both = cut_once 32 (take place digits) (decimal n) (drop place digits) rest cut.free (free_decimal 32 n (omega arith) small) cut.begins begins
    (front_and_rest place digits ∙ is) in
    none n small both.0

pub none_onwards : (text rest : List ℕ) → ((frames : List ℕ) → AreNumbers frames → text ≡ flat_map field frames → (others : List ℕ) × AreNumbers others × (rest ≡ flat_map field others))
    → 0 < length rest
    → ((n : ℕ) (behind : List ℕ) → n < 2 ^ 32 → Begins 32 behind → rest ≡ field n ++ behind → ⊥)
    → (frames : List ℕ) → AreNumbers frames → text ≡ flat_map field frames → ⊥
none_onwards text rest onwards some none frames fit is = by_others (onwards frames fit is)
  where
    by_others : (others : List ℕ) × AreNumbers others × (rest ≡ flat_map field others) → ⊥
    by_others ([], p, e) = let z : length rest ≡ 0 = ap length e in omega (arith, z, some)
    by_others (n ∷ others, p, e) = none n (flat_map field others) p.0 (begins_fields others) e

pub more_onwards : (text rest after : List ℕ) (frame : ℕ)
    → ((frames : List ℕ) → AreNumbers frames → text ≡ flat_map field frames → (others : List ℕ) × AreNumbers others × (rest ≡ flat_map field others))
    → frame < 2 ^ 32 → rest ≡ field frame ++ after → Begins 32 after
    → (frames : List ℕ) → AreNumbers frames → text ≡ flat_map field frames → (others : List ℕ) × AreNumbers others × (after ≡ flat_map field others)
more_onwards text rest after frame onwards small here begins frames fit is = by_others (onwards frames fit is)
  where
    by_others : (others : List ℕ) × AreNumbers others × (rest ≡ flat_map field others) → (others : List ℕ) × AreNumbers others × (after ≡ flat_map field others)
    by_others ([], p, e) = absurd (let z : length rest ≡ 0 = ap length e in let some = ap length here in omega (arith, z, some))
    by_others (n ∷ others, p, e) =
        let both = field_once frame n after (flat_map field others) small p.0 begins (begins_fields others) (sym here ∙ e) in
        (others, p.1, both.1)

-- numbers with one more behind them
pub fields_push : (text rest after frames new : List ℕ) (frame : ℕ) → text ≡ flat_map field frames ++ rest → rest ≡ field frame ++ after
    → new ≡ frames ++ frame ∷ [] → text ≡ flat_map field new ++ after
fields_push text rest after frames new frame spelled here is =
    let one = flat_map-append field frames (frame ∷ []) in
    spelled ∙ ap (λ (r : List ℕ). flat_map field frames ++ r) here
    ∙ ap (λ (r : List ℕ). flat_map field frames ++ (r ++ after)) (sym (append-nil (field frame)))
    ∙ sym (append_assoc (flat_map field frames) (flat_map field (frame ∷ [])) after)
    ∙ ap (λ (r : List ℕ). r ++ after) (sym one) ∙ ap (λ (fs : List ℕ). flat_map field fs ++ after) (sym is)

pub frames_push : (frames new : List ℕ) (frame : ℕ) → AreNumbers frames → frame < 2 ^ 32 → new ≡ frames ++ frame ∷ [] → AreNumbers new
frames_push frames new frame fit small is = subst AreNumbers (sym is) (pushed frames fit)
  where
    pushed : (fs : List ℕ) → AreNumbers fs → AreNumbers (fs ++ frame ∷ [])
    pushed [] p = (small, tt)
    pushed (f ∷ fs) p = (p.0, pushed fs p.1)
