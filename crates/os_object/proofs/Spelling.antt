-- Numbers and their bytes.
use Rattle.std.proofs.Common.{◌≡◌, ℕ, ◌+◌, ◌*◌, ◌/◌, ◌%◌, ◌<◌, ◌≤◌, List, [], ◌∷◌, ◌++◌, length, get_or, take, drop, refl, sym, ap, ◌∙◌, append_assoc, append-nil, arith, length-append}
use Rattle.std.specs.List.{flat_map}
use Rattle.std.proofs.lemmas.Grind.{flat_map-append}
use Rattle.std.proofs.lemmas.List.{take_more}
use Rattle.os_object.specs.Object.{number, object, parts_numbers, OneReading}
use Rattle.os_object.proofs.Parts.{one-parts}

abbrev at : List ℕ → ℕ → ℕ
at ns k = get_or ns k 0

abbrev value : List ℕ → ℕ
value bytes = at bytes 0 + 256 * at bytes 1 + 65536 * at bytes 2 + 16777216 * at bytes 3

digits : (n : ℕ) → n ≡ n % 256 + 256 * (n / 256 % 256) + 65536 * (n / 65536 % 256) + 16777216 * (n / 16777216)
digits n = omega arith

value-number : (n : ℕ) (rest : List ℕ) → value (number n ++ rest) ≡ n
unfolding number
value-number n rest = sym (digits n)

behind-number : (n : ℕ) (rest : List ℕ) → drop 4 (number n ++ rest) ≡ rest
unfolding number
behind-number n rest = refl

pub length-number : (n : ℕ) → length (number n) ≡ 4
unfolding number
length-number n = refl

pub length-numbers : (ns : List ℕ) → length (flat_map number ns) ≡ 4 * length ns
length-numbers [] = refl
length-numbers (n ∷ ns) =
    let rest = length-numbers ns in
    let here = length-number n in
    let both = length-append (number n) (flat_map number ns) in
    omega (arith, rest, here, both)

-- bytes are those of one list of numbers
pub one-numbers : (ms ns : List ℕ) → flat_map number ms ≡ flat_map number ns → ms ≡ ns
one-numbers [] [] e = refl
one-numbers [] (n ∷ ns) e =
    let lengths = ap length e in
    let all = length-numbers (n ∷ ns) in
    absurd (omega (arith, lengths, all))
one-numbers (m ∷ ms) [] e =
    let lengths = ap length e in
    let all = length-numbers (m ∷ ms) in
    absurd (omega (arith, lengths, all))
one-numbers (m ∷ ms) (n ∷ ns) e =
    let here : m ≡ n = sym (value-number m (flat_map number ms)) ∙ ap value e ∙ value-number n (flat_map number ns) in
    let behind : flat_map number ms ≡ flat_map number ns = sym (behind-number m (flat_map number ms)) ∙ ap (λ (bytes : List ℕ). drop 4 bytes) e ∙ behind-number n (flat_map number ns) in
    ap (λ (k : ℕ). k ∷ ms) here ∙ ap (λ (ks : List ℕ). n ∷ ks) (one-numbers ms ns behind)

pub one_reading : OneReading
one_reading bytes parts other spells also =
    let same : object parts ≡ object other = sym spells.are_object ∙ also.are_object in
    let numbers : flat_map number (parts_numbers parts) ≡ flat_map number (parts_numbers other) = ap (λ (all : List ℕ). drop 4 all) same in
    one-parts parts other spells.instrs also.instrs (one-numbers (parts_numbers parts) (parts_numbers other) numbers)

-- the number that four bytes are
pub four-bytes : (n a b c d : ℕ) → n ≡ a + 256 * b + 65536 * c + 16777216 * d → a < 256 → b < 256 → c < 256 → d < 256
    → number n ≡ a ∷ b ∷ c ∷ d ∷ []
unfolding number
four-bytes n a b c d is p q r s =
    let first : n % 256 ≡ a = omega arith in
    let second : n / 256 % 256 ≡ b = omega arith in
    let third : n / 65536 % 256 ≡ c = omega arith in
    let fourth : n / 16777216 ≡ d = omega arith in
    cc

-- one more number behind some
pub with_number : (bytes rest after : List ℕ) (ns new : List ℕ) (n : ℕ) → bytes ≡ flat_map number ns ++ rest → rest ≡ number n ++ after
    → new ≡ ns ++ n ∷ [] → bytes ≡ flat_map number new ++ after
with_number bytes rest after ns new n parts here is =
    parts ∙ ap (λ (r : List ℕ). flat_map number ns ++ r) here ∙ sym (append_assoc (flat_map number ns) (number n) after)
    ∙ ap (λ (f : List ℕ). f ++ after) (sym (flat_map_one ns n)) ∙ ap (λ (l : List ℕ). flat_map number l ++ after) (sym is)
  where
    flat_map_one : (xs : List ℕ) (y : ℕ) → flat_map number (xs ++ y ∷ []) ≡ flat_map number xs ++ number y
    flat_map_one [] y = append-nil (number y)
    flat_map_one (x ∷ xs) y = ap (λ (r : List ℕ). number x ++ r) (flat_map_one xs y) ∙ sym (append_assoc (number x) (flat_map number xs) (number y))

-- bytes that are left over are of no number
pub left_over : (bytes rest : List ℕ) (ns : List ℕ) → bytes ≡ flat_map number ns ++ rest → 1 ≤ length rest → length rest < 4
    → (ms : List ℕ) → bytes ≡ flat_map number ms → ⊥
left_over bytes rest ns parts some few ms e =
    let lengths = ap length (sym parts ∙ e) in
    let both = length-append (flat_map number ns) rest in
    let here = length-numbers ns in
    let there = length-numbers ms in
    omega (arith, lengths, both, here, there, some, few)

-- numbers that are written behind others
pub joined : (start a b : List ℕ) → (start ++ flat_map number a) ++ flat_map number b ≡ start ++ flat_map number (a ++ b)
joined start a b = append_assoc start (flat_map number a) (flat_map number b) ∙ ap (λ (bytes : List ℕ). start ++ bytes) (sym (flat_map-append number a b))

pub one_more : (start items new ns : List ℕ) (i : ℕ) → i < length ns → items ≡ start ++ flat_map number (take i ns)
    → new ≡ items ++ number (get_or ns i 0) → new ≡ start ++ flat_map number (take (i + 1) ns)
one_more start items new ns i low before is =
    let single : number (get_or ns i 0) ≡ flat_map number (get_or ns i 0 ∷ []) = sym (append-nil (number (get_or ns i 0))) in
    is ∙ ap (λ (l : List ℕ). l ++ number (get_or ns i 0)) before ∙ ap (λ (l : List ℕ). (start ++ flat_map number (take i ns)) ++ l) single
    ∙ joined start (take i ns) (get_or ns i 0 ∷ []) ∙ ap (λ (l : List ℕ). start ++ flat_map number l) (sym (take_more ns i 0 low))

pub members_more : {A : Type 0} (member : A → List ℕ) (start items new : List ℕ) (count : ℕ) (xs : List A) (i : ℕ) (x : A)
    → take (i + 1) xs ≡ take i xs ++ x ∷ [] → items ≡ start ++ flat_map number (count ∷ flat_map member (take i xs))
    → new ≡ items ++ flat_map number (member x) → new ≡ start ++ flat_map number (count ∷ flat_map member (take (i + 1) xs))
members_more {A = A} member start items new count xs i x taken before is =
    let more : flat_map member (take (i + 1) xs) ≡ flat_map member (take i xs) ++ member x =
    ap (λ (l : List A). flat_map member l) taken ∙ flat_map-append member (take i xs) (x ∷ []) ∙ ap (λ (l : List ℕ). flat_map member (take i xs) ++ l) (append-nil (member x)) in
    is ∙ ap (λ (l : List ℕ). l ++ flat_map number (member x)) before ∙ joined start (count ∷ flat_map member (take i xs)) (member x)
    ∙ ap (λ (l : List ℕ). start ++ flat_map number (count ∷ l)) (sym more)
