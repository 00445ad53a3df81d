-- A piece that was read, and the slot that is unpacked of it.
use Rattle.std.proofs.Common.{◌≡◌, ℕ, ◌+◌, ◌-◌, ◌/◌, ◌%◌, ◌<◌, ◌≤◌, Option, List, [], ◌∷◌, ◌++◌, length, take, drop, replicate, refl, sym, ap, ◌∙◌, subst, take-append-drop, take-take, length-append, length-drop, length-take-le, arith}
use Rattle.std.specs.Io.KnownBytes.{append_known, prepend_known}
use Rattle.os_io.specs.Counts.{raised}
use Rattle.ospack_slots.specs.Slots.{IsPieceOf, HasLength, length_bytes, piece, slot_of}
use Rattle.ospack_slots.specs.Answers.{Moment, Went}
use Rattle.ospack_slots.proofs.Turns.{append_nothing, read_went, went_then, wrote, read_then_wrote}

front_is : (n begun : ℕ) (buffer : List ℕ) (h : HasLength buffer n) → begun ≡ 2 → take begun buffer ≡ length_bytes n
front_is n begun buffer h two = ap (λ (k : ℕ). take k buffer) two ∙ ap (take 2) h.holds

rest_long : (filled : ℕ) (buffer : List ℕ) → filled ≤ length buffer → length (drop 2 (take filled buffer)) ≡ filled - 2
rest_long filled buffer within = length-drop 2 (take filled buffer) ∙ ap (λ (k : ℕ). k - 2) (length-take-le filled buffer within)

-- the two reads of a piece
pub two_reads : (begun filled g h i : ℕ) (told mid left taken : Option (List ℕ)) (one two : List ℕ)
    → told ≡ prepend_known (drop 0 (take begun one)) mid → raised h 0 ≡ raised g (begun - 0) → begun ≤ length one
    → mid ≡ prepend_known (drop 2 (take filled two)) left → raised i 0 ≡ raised h (filled - 2) → filled ≤ length two
    → Went (take begun one ++ drop 2 (take filled two)) []
    (record { left = told; given = g; taken = taken }) (record { left = left; given = i; taken = taken })
two_reads begun filled g h i told mid left taken one two read given within read' given' within' =
    went_then (read_went 0 begun g h told mid taken one read given within) (read_went 2 filled h i mid left taken two read' given' within')

-- the first read of a piece, and what was read before a read failed
pub read_and_lost : (begun g h i : ℕ) (told mid left taken : Option (List ℕ)) (one rest : List ℕ)
    → told ≡ prepend_known (drop 0 (take begun one)) mid → raised h 0 ≡ raised g (begun - 0) → begun ≤ length one
    → mid ≡ prepend_known rest left → raised i 0 ≡ raised h (length rest)
    → Went (take begun one ++ rest) [] (record { left = told; given = g; taken = taken }) (record { left = left; given = i; taken = taken })
read_and_lost begun g h i told mid left taken one rest read given within read' given' =
    let b : Moment = record { left = mid; given = h; taken = taken } in
    let c : Moment = record { left = left; given = i; taken = taken } in
    let went : Went rest [] b c = record { left = read'; given = given'; taken = append_nothing taken } in
    went_then (read_went 0 begun g h told mid taken one read given within) went

-- a piece that ends early has its length all the same
pub has_length : (n begun filled : ℕ) (one two : List ℕ) (h : HasLength one n) → begun ≡ 2
    → HasLength (take begun one ++ drop 2 (take filled two)) n
has_length n begun filled one two h is =
    record { behind = drop 2 (take filled two); holds = ap (λ (x : List ℕ). x ++ drop 2 (take filled two)) (front_is n begun one h is) }

pub is_short : (n begun filled : ℕ) (one two : List ℕ) (h : HasLength one n) → begun ≡ 2 → 2 ≤ filled → filled ≤ length two → filled < n + 2
    → length (take begun one ++ drop 2 (take filled two)) < n + 2
is_short n begun filled one two h is low within short =
    let rest : List ℕ = drop 2 (take filled two) in
    let long : length (drop 2 (take filled two)) ≡ filled - 2 = rest_long filled two within in
    let front : length (take begun one) ≡ 2 = ap length (front_is n begun one h is) in
    let all : length (take begun one ++ drop 2 (take filled two)) ≡ length (take begun one) + length (drop 2 (take filled two)) =
    length-append (take begun one) (drop 2 (take filled two)) in
    omega arith

pub piece_is : (size n begun filled : ℕ) (one two : List ℕ) (h : HasLength one n) → begun ≡ 2 → filled ≡ n + 2
    → filled ≤ length two → n + 2 ≤ size → IsPieceOf size (take begun one ++ drop 2 (take filled two)) (drop 2 (take filled two))
piece_is size n begun filled one two h is full within fits =
    let long : length (drop 2 (take filled two)) ≡ filled - 2 = rest_long filled two within in
    let count : length (drop 2 (take filled two)) ≡ n = omega arith in
    record {
      fits = omega arith;
      holds = ap (λ (x : List ℕ). x ++ drop 2 (take filled two)) (front_is n begun one h is)
          ∙ ap (λ (k : ℕ). k % 256 ∷ k / 256 ∷ drop 2 (take filled two)) (sym count);
    }

pub slot_is : (size n filled : ℕ) (one two bytes : List ℕ) (h : HasLength one n) → take 2 two ≡ take 2 one → filled ≡ n + 2
    → filled ≤ length two → length two ≡ size → bytes ≡ take (n + 2) two ++ replicate (length two - (n + 2)) 0
    → bytes ≡ slot_of size (drop 2 (take filled two))
slot_is size n filled one two bytes h same full within long is =
    let rest : List ℕ = drop 2 (take filled two) in
    let all : length (drop 2 (take filled two)) ≡ filled - 2 = rest_long filled two within in
    let count : length (drop 2 (take filled two)) ≡ n = omega arith in
    let low : 2 ≤ filled = omega arith in
    let front : take filled two ≡ piece (drop 2 (take filled two)) =
    sym (take-append-drop 2 (take filled two))
    ∙ ap (λ (x : List ℕ). x ++ drop 2 (take filled two)) (take-take 2 filled two low ∙ same ∙ front_is n 2 one h refl)
    ∙ ap (λ (k : ℕ). k % 256 ∷ k / 256 ∷ drop 2 (take filled two)) (sym count) in
    let zeros : length two - (n + 2) ≡ size - length (piece (drop 2 (take filled two))) = omega arith in
    is
    ∙ ap (λ (k : ℕ). take k two ++ replicate {A = ℕ} (length two - (n + 2)) 0) (sym full)
    ∙ ap (λ (x : List ℕ). x ++ replicate {A = ℕ} (length two - (n + 2)) 0) front
    ∙ ap (λ (k : ℕ). piece (drop 2 (take filled two)) ++ replicate {A = ℕ} k 0) zeros

-- the piece was read, and its slot written
pub unpacked_turn : (size g h : ℕ) (told left before after : Option (List ℕ)) (part payload bytes : List ℕ)
    → IsPieceOf size part payload → bytes ≡ slot_of size payload
    → Went part [] (record { left = told; given = g; taken = before }) (record { left = left; given = h; taken = before })
    → after ≡ append_known before bytes
    → (part : List ℕ) × (payload : List ℕ) × IsPieceOf size part payload
    × Went part (slot_of size payload) (record { left = told; given = g; taken = before }) (record { left = left; given = h; taken = after })
unpacked_turn size g h told left before after part payload bytes has is went taken =
    let a : Moment = record { left = told; given = g; taken = before } in
    let c : Moment = record { left = left; given = h; taken = after } in
    (part, payload, has, subst (λ (w : List ℕ). Went part w a c) is (read_then_wrote went (wrote left before after h bytes taken)))
