-- Bytes are divided in one way.
use Rattle.std.proofs.Common.{◌≡◌, ℕ, ◌+◌, ◌/◌, ◌%◌, ◌<◌, ◌≤◌, Option, None, Some, List, [], ◌∷◌, ◌++◌, length, take, drop, refl, sym, ap, ◌∙◌, subst, inl, inr, append_assoc, length-append, take_at, drop_at, arith}
use Rattle.ospack_slots.specs.Slots.{IsSlotOf, IsPieceOf, HasLength, AreParts, piece}
use Rattle.ospack_slots.specs.Slots.AreParts.{none, more}
use Rattle.ospack_slots.specs.Formats.{packing, unpacking}
use Rattle.ospack_slots.specs.Laws.{IsEnd, DividesOnce}
use Rattle.ospack_slots.specs.declared.errors.SlotFault.{SlotFault}
use Rattle.ospack_slots.specs.declared.errors.SlotFault.TheVariants.{EndsEarly, TooLong}
use Rattle.ospack_slots.proofs.Parts.{slot_length}

same_length : (n m : ℕ) (b c : List ℕ) → n % 256 ∷ n / 256 ∷ b ≡ m % 256 ∷ m / 256 ∷ c → n ≡ m
same_length n m b c e =
    let low : n % 256 ≡ m % 256 = cc in
    let high : n / 256 ≡ m / 256 = cc in
    omega arith

-- what begins as a piece does has one payload
same_payload : (p q i j : List ℕ)
    → length p % 256 ∷ length p / 256 ∷ (p ++ i) ≡ length q % 256 ∷ length q / 256 ∷ (q ++ j) → p ≡ q
same_payload p q i j e =
    let rest : p ++ i ≡ q ++ j = cc in
    let same : length p ≡ length q = same_length (length p) (length q) (p ++ i) (q ++ j) e in
    sym (take_at p i (length p) refl) ∙ ap (take (length p)) rest ∙ take_at q j (length p) (sym same)

-- no part stands at the front
abbrev Stuck : (List ℕ → List ℕ → Type 0) → List ℕ → Type 0
Stuck Is rest = (p q x : List ℕ) → Is p q → rest ≡ p ++ x → ⊥

-- the part at the front is one
abbrev IsOne : (List ℕ → List ℕ → Type 0) → Type 0
IsOne Is = (p q p' q' x y : List ℕ) → Is p q → Is p' q' → p ++ x ≡ p' ++ y → (q ≡ q') × (x ≡ y)

parts_once : (Is : List ℕ → List ℕ → Type 0) → IsOne Is → {w w' : List ℕ} {one other : List (List ℕ)} → AreParts Is w one
    → AreParts Is w' other → (r r' : List ℕ) → w ++ r ≡ w' ++ r' → Stuck Is r → Stuck Is r' → (one ≡ other) × (r ≡ r')
parts_once Is is none none r r' same s s' = (refl, same)
parts_once Is is none (more p q w qs here parts) r r' same s s' = absurd (s p q (w ++ r') here (same ∙ append_assoc p w r'))
parts_once Is is (more p q w qs here parts) none r r' same s s' = absurd (s' p q (w ++ r) here (sym same ∙ append_assoc p w r))
parts_once Is is (more p q w qs here parts) (more p' q' w' qs' here' parts') r r' same s s' =
    let front : (q ≡ q') × (w ++ r ≡ w' ++ r') =
    is p q p' q' (w ++ r) (w' ++ r') here here' (sym (append_assoc p w r) ∙ same ∙ append_assoc p' w' r') in
    let rest : (qs ≡ qs') × (r ≡ r') = parts_once Is is parts parts' r r' front.1 s s' in
    (ap (λ (x : List ℕ). x ∷ qs) front.0 ∙ ap (λ (xs : List (List ℕ)). q' ∷ xs) rest.0, rest.1)

slot_once : (size : ℕ) → IsOne (IsSlotOf size)
slot_once size p q p' q' x y here here' same =
    let front : p ≡ p' = sym (take_at p x size here.long) ∙ ap (take size) same ∙ take_at p' y size here'.long in
    let behind : x ≡ y = sym (drop_at p x size here.long) ∙ ap (drop size) same ∙ drop_at p' y size here'.long in
    (same_payload q q' here.ignored here'.ignored (sym here.holds ∙ front ∙ here'.holds), behind)

piece_once : (size : ℕ) → IsOne (IsPieceOf size)
piece_once size p q p' q' x y here here' same =
    let pieces : piece q ++ x ≡ piece q' ++ y =
    ap (λ (z : List ℕ). z ++ x) (sym here.holds) ∙ same ∙ ap (λ (z : List ℕ). z ++ y) here'.holds in
    let payload : q ≡ q' = same_payload q q' x y pieces in
    let long : length (piece q') ≡ length (piece q) = ap (λ (z : List ℕ). length (piece z)) (sym payload) in
    (payload, sym (drop_at (piece q) x (length (piece q)) refl) ∙ ap (drop (length (piece q))) pieces ∙ drop_at (piece q') y (length (piece q)) long)

at_least_two : (rest : List ℕ) (n : ℕ) → HasLength rest n → 2 ≤ length rest
at_least_two rest n has =
    let long : length rest ≡ length (n % 256 ∷ n / 256 ∷ has.behind) = ap length has.holds in
    omega arith

front_long : (rest p x : List ℕ) → rest ≡ p ++ x → length p ≤ length rest
front_long rest p x is =
    let long : length rest ≡ length (p ++ x) = ap length is in
    let parts : length (p ++ x) ≡ length p + length x = length-append p x in
    omega arith

slot_stuck : (size : ℕ) → 2 ≤ size → (rest : List ℕ) (end : Option SlotFault) → IsEnd (packing size) rest end → Stuck (IsSlotOf size) rest
slot_stuck size least rest None is p q x here same =
    let short : length rest ≡ 0 = ap length is in
    let front : length p ≤ length rest = front_long rest p x same in
    let long : length p ≡ size = here.long in
    omega arith
slot_stuck size least rest (Some EndsEarly) is p q x here same =
    let short : length rest < size = is.1 in
    let front : length p ≤ length rest = front_long rest p x same in
    let long : length p ≡ size = here.long in
    omega arith
slot_stuck size least rest (Some (TooLong n)) is p q x here same =
    let count : n ≡ length q = same_length n (length q) is.1.behind ((q ++ here.ignored) ++ x) (sym is.1.holds ∙ same ∙ ap (λ (z : List ℕ). z ++ x) here.holds) in
    let fits : length q + 2 ≤ size = slot_length size p q here in
    let passes : size < n + 2 = is.2 in
    omega arith

piece_front : (size n : ℕ) (rest p q x : List ℕ) → HasLength rest n → IsPieceOf size p q → rest ≡ p ++ x → n ≡ length q
piece_front size n rest p q x has here same =
    same_length n (length q) has.behind (q ++ x) (sym has.holds ∙ same ∙ ap (λ (z : List ℕ). z ++ x) here.holds)

piece_long : (size : ℕ) (rest p q x : List ℕ) → IsPieceOf size p q → rest ≡ p ++ x → length q + 2 ≤ length rest
piece_long size rest p q x here same =
    let front : length p ≤ length rest = front_long rest p x same in
    let long : length p ≡ length (piece q) = ap length here.holds in
    omega arith

piece_stuck : (size : ℕ) (rest : List ℕ) (end : Option SlotFault) → IsEnd (unpacking size) rest end → Stuck (IsPieceOf size) rest
piece_stuck size rest None is p q x here same =
    let short : length rest ≡ 0 = ap length is in
    let long : length q + 2 ≤ length rest = piece_long size rest p q x here same in
    omega arith
piece_stuck size rest (Some EndsEarly) (inl one) p q x here same =
    let long : length q + 2 ≤ length rest = piece_long size rest p q x here same in
    omega arith
piece_stuck size rest (Some EndsEarly) (inr is) p q x here same =
    let long : length q + 2 ≤ length rest = piece_long size rest p q x here same in
    let count : is.0 ≡ length q = piece_front size is.0 rest p q x is.1 here same in
    let short : length rest < is.0 + 2 = is.3 in
    omega arith
piece_stuck size rest (Some (TooLong n)) is p q x here same =
    let count : n ≡ length q = piece_front size n rest p q x is.0 here same in
    let fits : length q + 2 ≤ size = here.fits in
    let passes : size < n + 2 = is.1 in
    omega arith

same_lengths : (rest : List ℕ) (n m : ℕ) → HasLength rest n → HasLength rest m → n ≡ m
same_lengths rest n m one other = same_length n m one.behind other.behind (sym one.holds ∙ other.holds)

slot_end : (size : ℕ) → 2 ≤ size → (rest : List ℕ) (one other : Option SlotFault) → IsEnd (packing size) rest one
    → IsEnd (packing size) rest other → one ≡ other
slot_end size least rest None None is is' = refl
slot_end size least rest None (Some EndsEarly) is is' =
    let none : length rest ≡ 0 = ap length is in let some : 0 < length rest = is'.0 in absurd (omega arith)
slot_end size least rest None (Some (TooLong n)) is is' =
    let none : length rest ≡ 0 = ap length is in let some : size ≤ length rest = is'.0 in absurd (omega arith)
slot_end size least rest (Some EndsEarly) None is is' =
    let none : length rest ≡ 0 = ap length is' in let some : 0 < length rest = is.0 in absurd (omega arith)
slot_end size least rest (Some EndsEarly) (Some EndsEarly) is is' = refl
slot_end size least rest (Some EndsEarly) (Some (TooLong n)) is is' =
    let short : length rest < size = is.1 in let long : size ≤ length rest = is'.0 in absurd (omega arith)
slot_end size least rest (Some (TooLong n)) None is is' =
    let none : length rest ≡ 0 = ap length is' in let some : size ≤ length rest = is.0 in absurd (omega arith)
slot_end size least rest (Some (TooLong n)) (Some EndsEarly) is is' =
    let short : length rest < size = is'.1 in let long : size ≤ length rest = is.0 in absurd (omega arith)
slot_end size least rest (Some (TooLong n)) (Some (TooLong m)) is is' = ap (λ (k : ℕ). Some (TooLong k)) (same_lengths rest n m is.1 is'.1)

none_and_length : (rest : List ℕ) (n : ℕ) → rest ≡ [] → HasLength rest n → ⊥
none_and_length rest n is has =
    let none : length rest ≡ 0 = ap length is in let some : 2 ≤ length rest = at_least_two rest n has in omega arith

one_and_length : (rest : List ℕ) (n : ℕ) → length rest ≡ 1 → HasLength rest n → ⊥
one_and_length rest n is has = let some : 2 ≤ length rest = at_least_two rest n has in omega arith

early_and_long : (size n m : ℕ) (rest : List ℕ) → HasLength rest n → n + 2 ≤ size → HasLength rest m → size < m + 2 → ⊥
early_and_long size n m rest one fits other passes = let same : n ≡ m = same_lengths rest n m one other in omega arith

piece_end : (size : ℕ) (rest : List ℕ) (one other : Option SlotFault) → IsEnd (unpacking size) rest one
    → IsEnd (unpacking size) rest other → one ≡ other
piece_end size rest None None is is' = refl
piece_end size rest None (Some EndsEarly) is (inl one) =
    let none : length rest ≡ 0 = ap length is in absurd (omega arith)
piece_end size rest None (Some EndsEarly) is (inr is') = absurd (none_and_length rest is'.0 is is'.1)
piece_end size rest None (Some (TooLong n)) is is' = absurd (none_and_length rest n is is'.0)
piece_end size rest (Some EndsEarly) None (inl one) is' =
    let none : length rest ≡ 0 = ap length is' in absurd (omega arith)
piece_end size rest (Some EndsEarly) None (inr is) is' = absurd (none_and_length rest is.0 is' is.1)
piece_end size rest (Some EndsEarly) (Some EndsEarly) is is' = refl
piece_end size rest (Some EndsEarly) (Some (TooLong n)) (inl one) is' = absurd (one_and_length rest n one is'.0)
piece_end size rest (Some EndsEarly) (Some (TooLong n)) (inr is) is' = absurd (early_and_long size is.0 n rest is.1 is.2 is'.0 is'.1)
piece_end size rest (Some (TooLong n)) None is is' = absurd (none_and_length rest n is' is.0)
piece_end size rest (Some (TooLong n)) (Some EndsEarly) is (inl one) = absurd (one_and_length rest n one is.0)
piece_end size rest (Some (TooLong n)) (Some EndsEarly) is (inr is') = absurd (early_and_long size is'.0 n rest is'.1 is'.2 is.0 is.1)
piece_end size rest (Some (TooLong n)) (Some (TooLong m)) is is' = ap (λ (k : ℕ). Some (TooLong k)) (same_lengths rest n m is.0 is'.0)

pub slots_once : DividesOnce packing
slots_once size least bytes one other end end' a b =
    let parts : (one ≡ other) × (a.rest ≡ b.rest) =
    parts_once (IsSlotOf size) (slot_once size) a.parts b.parts a.rest b.rest (sym a.holds ∙ b.holds) (slot_stuck size least a.rest end a.ends) (slot_stuck size least b.rest end' b.ends) in
    (parts.0, slot_end size least b.rest end end' (subst (λ (r : List ℕ). IsEnd (packing size) r end) parts.1 a.ends) b.ends)

pub pieces_once : DividesOnce unpacking
pieces_once size least bytes one other end end' a b =
    let parts : (one ≡ other) × (a.rest ≡ b.rest) =
    parts_once (IsPieceOf size) (piece_once size) a.parts b.parts a.rest b.rest (sym a.holds ∙ b.holds) (piece_stuck size a.rest end a.ends) (piece_stuck size b.rest end' b.ends) in
    (parts.0, piece_end size b.rest end end' (subst (λ (r : List ℕ). IsEnd (unpacking size) r end) parts.1 a.ends) b.ends)
