-- What a body that is done writes to the output are bytes.
use Rattle.std.proofs.Common.{◌≡◌, ℕ, ℤ, pos, negsuc, zero, suc, ◌+◌, ◌<◌, Bool, true, false, cond, not, List, [], ◌∷◌, ◌++◌, Some, length, map, slice_get, take, refl, sym, ap, ◌∙◌, subst, arith, zero-add}
use Rattle.std.specs.Prelude.{◌==◌, ◌&&◌, ◌||◌, filter, sum_by}
use Rattle.std.specs.Bool.{beq}
use Rattle.std.specs.List.{list_all}
use Rattle.std.proofs.lemmas.Bool.{and_parts, ltb-true}
use Rattle.std.proofs.lemmas.Int.{ints}
use Rattle.std.proofs.lemmas.List.Sums.{sum_by-cons}
use Rattle.cddf_meaning.proofs.Written.{first-of, others-of}
use Rattle.flow_core_laws.proofs.Stretches.{slice_get-append_left}
use Rattle.flow_core_laws.specs.Byte.{IsByte, is_byte}
use Rattle.cddf_meaning.specs.Body.{gives_bytes, writes_output, outputs_of}
use Rattle.flow_core_laws.specs.Window.{is_alike, offset_after}
use Rattle.flow_core_laws.specs.declared.claim.Claim.{Claim}

slice_get-second : {A : Type 0} (xs ys : List A) (i : ℕ) → slice_get (xs ++ ys) (length xs + i) ≡ slice_get ys i
slice_get-second [] ys i = ap (slice_get ys) (zero-add i)
slice_get-second (x ∷ xs) ys i = ap (slice_get (x ∷ (xs ++ ys))) (let e : suc (length xs) + i ≡ suc (length xs + i) = omega arith in e) ∙ slice_get-second xs ys i

byte : (value : ℤ) → is_byte value ≡ true → IsByte value
byte (pos n) h = let lt : n < 256 = ltb-true n 256 h in (omega (arith, ints), omega (arith, ints, lt))
byte (negsuc n) h = absurd (cc)

-- an element of a list of bytes
byte_at : (vs : List ℤ) (j : ℕ) (value : ℤ) → list_all is_byte vs ≡ true → slice_get vs j ≡ Some value → IsByte value
byte_at [] j value all at = absurd (cc)
byte_at (v ∷ vs) zero value all at = byte value (subst (λ w. is_byte w ≡ true) (let e : v ≡ value = cc in e) (and_parts (is_byte v) (list_all is_byte vs) all).0)
byte_at (v ∷ vs) (suc j) value all at = byte_at vs j value (and_parts (is_byte v) (list_all is_byte vs) all).1 at

-- a claim that writes to the output gives bytes
claim_gives : (c : Claim) (vs : List ℤ) → c.write ≡ true → c.stream ≡ 1 → (not (writes_output c) || list_all is_byte vs) ≡ true → list_all is_byte vs ≡ true
claim_gives c vs write stream h =
    let e : writes_output c ≡ true = ap (λ w. w && (c.stream == 1)) write ∙ ap (λ s. s == 1) stream in
    ap (λ w. not w || list_all is_byte vs) (sym e) ∙ h

abbrev horizons : List Claim → List ℕ
horizons claims = map (λ (c : Claim). c.horizon) claims

pub bytes_written : (claims : List Claim) (items : List (List ℤ)) → map length items ≡ horizons claims → gives_bytes claims items ≡ true
    → (k j : ℕ) (c : Claim) (value : ℤ) → slice_get claims k ≡ Some c → c.write ≡ true → c.stream ≡ 1 → j < c.horizon
    → slice_get (outputs_of claims items) (offset_after (take k claims) c + j) ≡ Some value → IsByte value
bytes_written [] items long gives k j c value at write stream lt is = absurd (cc)
bytes_written (d ∷ ds) [] long gives k j c value at write stream lt is = absurd (cc)
bytes_written (d ∷ ds) (vs ∷ items) long gives zero j c value at write stream lt is =
    let same : d ≡ c = cc in
    let parts = and_parts (not (writes_output d) || list_all is_byte vs) (gives_bytes ds items) gives in
    let bytes = claim_gives c vs write stream (subst (λ (e : Claim). (not (writes_output e) || list_all is_byte vs) ≡ true) same parts.0) in
    let size : length vs ≡ c.horizon = first-of long ∙ ap (λ (e : Claim). e.horizon) same in
    let writes : d.write ≡ true = ap (λ (e : Claim). e.write) same ∙ write in
    let at_j : slice_get vs j ≡ Some value = sym (slice_get-append_left vs (outputs_of ds items) j (omega (arith, size, lt))) ∙ ap (slice_get (vs ++ outputs_of ds items)) (sym (zero-add j)) ∙ ap (λ b. slice_get (cond b (vs ++ outputs_of ds items) (outputs_of ds items)) (0 + j)) (sym writes) ∙ is in
    byte_at vs j value bytes at_j
bytes_written (d ∷ ds) (vs ∷ items) long gives (suc k) j c value at write stream lt is =
    bytes_written ds items (others-of long) (and_parts (not (writes_output d) || list_all is_byte vs) (gives_bytes ds items) gives).1 k j c value at write stream lt (behind d.write refl)
  where
    rest : List ℤ
    rest = outputs_of ds items

    -- a write claim before it takes its elements, and a read claim none
    behind : (w : Bool) → d.write ≡ w → slice_get rest (offset_after (take k ds) c + j) ≡ Some value
    behind true is_w =
        let alike : is_alike c d ≡ true = ap (λ b. beq b d.write) write ∙ ap (beq true) is_w in
        let offset : offset_after (d ∷ take k ds) c ≡ d.horizon + offset_after (take k ds) c =
        ap (λ b. sum_by (λ (e : Claim). e.horizon) (cond b (d ∷ filter (is_alike c) (take k ds)) (filter (is_alike c) (take k ds)))) alike
        ∙ sum_by-cons (λ (e : Claim). e.horizon) d (filter (is_alike c) (take k ds)) in
        let size : length vs ≡ d.horizon = first-of long in
        sym (slice_get-second vs rest (offset_after (take k ds) c + j))
        ∙ ap (slice_get (vs ++ rest)) (let e : length vs + (offset_after (take k ds) c + j) ≡ offset_after (d ∷ take k ds) c + j = omega (arith, offset, size) in e)
        ∙ ap (λ b. slice_get (cond b (vs ++ rest) rest) (offset_after (d ∷ take k ds) c + j)) (sym is_w)
        ∙ is
    behind false is_w =
        let alike : is_alike c d ≡ false = ap (λ b. beq b d.write) write ∙ ap (beq true) is_w in
        let offset : offset_after (d ∷ take k ds) c ≡ offset_after (take k ds) c =
        ap (λ b. sum_by (λ (e : Claim). e.horizon) (cond b (d ∷ filter (is_alike c) (take k ds)) (filter (is_alike c) (take k ds)))) alike in
        ap (λ n. slice_get rest (n + j)) (sym offset)
        ∙ ap (λ b. slice_get (cond b (vs ++ rest) rest) (offset_after (d ∷ take k ds) c + j)) (sym is_w)
        ∙ is
