-- Turn by turn to the answer.
use Rattle.std.proofs.Common.{◌≡◌, ℕ, ◌+◌, Option, None, Some, Result, Ok, Err, List, [], ◌∷◌, ◌++◌, length, take, refl, sym, ap, ◌∙◌, subst, ◌-◌, ◌≤◌, drop, IsErrAnd, append_assoc, append-nil, length-append, length-drop, length-take-le, arith}
use Rattle.std.proofs.lemmas.List.{flat_map_more, length_push}
use Rattle.std.proofs.lemmas.Result.{err_from_is_err_and}
use Rattle.std.specs.Io.KnownBytes.{append_known, prepend_known, IsAtEnd}
use Rattle.os_io.proofs.Pieces.{prepend_known-prepend}
use Rattle.os_io.specs.Counts.{raised, last_count}
use Rattle.os_io.specs.Writing.{TookProperPrefix}
use Rattle.os_io.specs.declared.writing.WriteError.{WriteError}
use Rattle.ospack_slots.specs.Slots.AreParts.{none}
use Rattle.ospack_slots.specs.Formats.{Format, IsUnended}
use Rattle.ospack_slots.specs.Answers.{Moment, Went, Reached, AnswersFor}
use Rattle.ospack_slots.specs.Turns.{IsTurn, WentSoFar}
use Rattle.ospack_slots.specs.declared.errors.PackError.{PackError}
use Rattle.ospack_slots.specs.declared.errors.PackError.TheVariants.{Slot, Read, Write, Memory, Uncounted}
use Rattle.ospack_slots.specs.declared.turn.Turn.{Turn}
use Rattle.ospack_slots.specs.declared.turn.Turn.TheVariants.{Done, End}
use Rattle.ospack_slots.proofs.Filled.{prepend_nothing}
use Rattle.ospack_slots.proofs.Parts.{parts_then}

pub append_nothing : (known : Option (List ℕ)) → known ≡ append_known known []
append_nothing None = refl
append_nothing (Some xs) = ap Some (sym (append-nil xs))

append_then : (known : Option (List ℕ)) (xs ys : List ℕ) → append_known (append_known known xs) ys ≡ append_known known (xs ++ ys)
append_then None xs ys = refl
append_then (Some zs) xs ys = ap Some (append_assoc zs xs ys)

-- nothing was read or written
pub stayed : (m : Moment) → Went [] [] m m
stayed m = record { left = prepend_nothing m.left; given = refl; taken = append_nothing m.taken }

given_then : (a b c m n : ℕ) → raised b 0 ≡ raised a m → raised c 0 ≡ raised b n → raised c 0 ≡ raised a (m + n)
given_then a b c m n one two = omega arith

pub went_then : {r w s v : List ℕ} {a b c : Moment} → Went r w a b → Went s v b c → Went (r ++ s) (w ++ v) a c
went_then {r = r} {w = w} {s = s} {v = v} {a = a} {b = b} {c = c} one two = record {
  left = one.left ∙ ap (prepend_known r) two.left ∙ prepend_known-prepend r s c.left;
  given = given_then a.given b.given c.given (length r) (length s) one.given two.given ∙ ap (raised a.given) (sym (length-append r s));
  taken = two.taken ∙ ap (λ (t : Option (List ℕ)). append_known t v) one.taken ∙ append_then a.taken w v;
}

-- before the first turn
pub first : (f : Format) (m : Moment) → WentSoFar f 0 m m
first f m = record { payloads = []; whole = []; parts = none; counted = refl; went = stayed m }

-- after one more turn
pub next : (f : Format) (n : ℕ) (a b c : Moment) → WentSoFar f n a b
    → (part : List ℕ) × (payload : List ℕ) × f.IsPart part payload × Went part (f.written payload) b c → WentSoFar f (n + 1) a c
next f n a b c so_far turn =
    let part = turn.0 in
    let payload = turn.1 in
    record {
      payloads = so_far.payloads ++ payload ∷ [];
      whole = so_far.whole ++ part;
      parts = parts_then so_far.parts part payload turn.2;
      counted = length_push so_far.payloads payload ∙ ap (λ (k : ℕ). k + 1) so_far.counted;
      went = subst (λ (w : List ℕ). Went (so_far.whole ++ part) w a c) (flat_map_more f.written [] so_far.payloads payload) (went_then so_far.went turn.3);
    }

reach : (f : Format) (n : ℕ) (a b c : Moment) (so_far : WentSoFar f n a b) (rest more : List ℕ) → Went rest more b c
    → Reached f a c so_far.payloads rest more
reach f n a b c so_far rest more went =
    record { whole = so_far.whole; parts = so_far.parts; went = went_then so_far.went went }

-- the turn that finds the end
pub at_end : {A : Type 0} (x : A) (f : Format) (n : ℕ) (a b c : Moment) → WentSoFar f n a b
    → Went [] [] b c × IsAtEnd c.left → AnswersFor {A = A} f a c (Ok x)
at_end x f n a b c so_far turn = (so_far.payloads, reach f n a b c so_far [] [] turn.0, turn.1)

-- as many turns as there are
pub at_last : (A : Type 0) (f : Format) (n : ℕ) (a b : Moment) → n ≡ last_count → WentSoFar f n a b → AnswersFor {A = A} f a b (Err Uncounted)
at_last A f n a b last so_far = (so_far.payloads, reach f n a b b so_far [] [] (stayed b), so_far.counted ∙ last)

-- a turn that fails
fault : (A : Type 0) (e : PackError) (f : Format) (n : ℕ) (a b c : Moment) → WentSoFar f n a b → IsTurn f n b c (Err e)
    → AnswersFor {A = A} f a c (Err e)
fault A (Slot number why) f n a b c so_far turn =
    (so_far.payloads, turn.0, reach f n a b c so_far turn.0 [] turn.2, turn.1, turn.3 ∙ sym so_far.counted, turn.4)
fault A Read f n a b c so_far turn = (so_far.payloads, turn.0, reach f n a b c so_far turn.0 [] turn.2, turn.1)
fault A (Write e) f n a b c so_far turn =
    (so_far.payloads, turn.0, turn.1, turn.2, reach f n a b c so_far turn.0 (take turn.2 (f.written turn.1)) turn.5, turn.3, turn.4)
fault A Memory f n a b c so_far turn = absurd turn
fault A Uncounted f n a b c so_far turn = absurd turn

pub at_fault : {A : Type 0} {Q : PackError → Type 0} (e : PackError) (f : ℕ → Format) (n size other : ℕ) (a b c : Moment)
    (r : Result A PackError) → other ≡ size → IsErrAnd r Q → ((y : PackError) → Q y → y ≡ e) → WentSoFar (f size) n a b
    → IsTurn (f other) n b c (Err e) → AnswersFor {A = A} (f size) a c r
at_fault {A = A} {Q = Q} e f n size other a b c r same is one so_far turn =
    let p = err_from_is_err_and {Q = Q} r is in
    let here : IsTurn (f size) n b c (Err e) = subst (λ (k : ℕ). IsTurn (f k) n b c (Err e)) same turn in
    subst (λ (r : Result A PackError). AnswersFor {A = A} (f size) a c r) (sym (p.1 ∙ ap Err (one p.0 p.2))) (fault A e (f size) n a b c so_far here)

-- a turn that is done, and one that finds the end
pub done : (t : Turn) (f : ℕ → Format) (n size other : ℕ) (a b c : Moment) → other ≡ size → t ≡ Done → WentSoFar (f size) n a b
    → IsTurn (f other) n b c (Ok t) → WentSoFar (f size) (n + 1) a c
done t f n size other a b c same is so_far turn =
    let here : IsTurn (f size) n b c (Ok t) = subst (λ (k : ℕ). IsTurn (f k) n b c (Ok t)) same turn in
    let ran : IsTurn (f size) n b c (Ok Done) = subst (λ (t : Turn). IsTurn (f size) n b c (Ok t)) is here in
    next (f size) n a b c so_far ran

pub ended : {A : Type 0} (x : A) (t : Turn) (f : ℕ → Format) (n size other : ℕ) (a b c : Moment) → other ≡ size → t ≡ End
    → WentSoFar (f size) n a b → IsTurn (f other) n b c (Ok t) → AnswersFor {A = A} (f size) a c (Ok x)
ended {A = A} x t f n size other a b c same is so_far turn =
    let here : IsTurn (f size) n b c (Ok t) = subst (λ (k : ℕ). IsTurn (f k) n b c (Ok t)) same turn in
    let ran : IsTurn (f size) n b c (Ok End) = subst (λ (t : Turn). IsTurn (f size) n b c (Ok t)) is here in
    at_end x (f size) n a b c so_far ran

-- what a fill of a buffer read
pub read_went : (from past g h : ℕ) (told left taken : Option (List ℕ)) (buffer : List ℕ)
    → told ≡ prepend_known (drop from (take past buffer)) left → raised h 0 ≡ raised g (past - from) → past ≤ length buffer
    → Went (drop from (take past buffer)) [] (record { left = told; given = g; taken = taken }) (record { left = left; given = h; taken = taken })
read_went from past g h told left taken buffer read given within =
    let long : length (drop from (take past buffer)) ≡ past - from =
    length-drop from (take past buffer) ∙ ap (λ (k : ℕ). k - from) (length-take-le past buffer within) in
    record { left = read; given = given ∙ ap (raised g) (sym long); taken = append_nothing taken }

-- what was written
pub wrote : (left before after : Option (List ℕ)) (given : ℕ) (bytes : List ℕ) → after ≡ append_known before bytes
    → Went [] bytes (record { left = left; given = given; taken = before }) (record { left = left; given = given; taken = after })
wrote left before after given bytes taken = record { left = prepend_nothing left; given = refl; taken = taken }

pub read_then_wrote : {r w : List ℕ} {a b c : Moment} → Went r [] a b → Went [] w b c → Went r w a c
read_then_wrote {r = r} {w = w} {a = a} {b = b} {c = c} one two =
    subst (λ (x : List ℕ). Went x w a c) (append-nil r) (went_then one two)

-- a turn in which not all of a part was written
pub cut : {Q : PackError → Type 0} (e : WriteError) (f : Format) (number : ℕ) (left told before after : Option (List ℕ)) (g h : ℕ)
    (r : Result Turn PackError) (part payload bytes : List ℕ) → IsErrAnd r Q → ((y : PackError) → Q y → y ≡ Write e)
    → f.IsPart part payload → bytes ≡ f.written payload
    → Went part [] (record { left = told; given = g; taken = before }) (record { left = left; given = h; taken = before })
    → TookProperPrefix before after bytes
    → IsTurn f number (record { left = told; given = g; taken = before }) (record { left = left; given = h; taken = after }) r
cut {Q = Q} e f number left told before after g h r part payload bytes is one has all went took =
    let p = err_from_is_err_and {Q = Q} r is in
    let front : TookProperPrefix before after (f.written payload) = subst (λ (w : List ℕ). TookProperPrefix before after w) all took in
    let a : Moment = record { left = told; given = g; taken = before } in
    let c : Moment = record { left = left; given = h; taken = after } in
    let turn : IsTurn f number a c (Err (Write e)) =
    (part, payload, front.0, has, front.1, read_then_wrote went (wrote left before after h (take front.0 (f.written payload)) front.2)) in
    subst (λ (r : Result Turn PackError). IsTurn f number a c r) (sym (p.1 ∙ ap Err (one p.0 p.2))) turn

-- a turn in which a read failed
pub lost : {Q : PackError → Type 0} (f : Format) (number : ℕ) (a c : Moment) (r : Result Turn PackError) → IsErrAnd r Q
    → ((y : PackError) → Q y → y ≡ Read) → (rest : List ℕ) → IsUnended f rest → Went rest [] a c → IsTurn f number a c r
lost {Q = Q} f number a c r is one rest unended went =
    let p = err_from_is_err_and {Q = Q} r is in
    let turn : IsTurn f number a c (Err Read) = (rest, unended, went) in
    subst (λ (r : Result Turn PackError). IsTurn f number a c r) (sym (p.1 ∙ ap Err (one p.0 p.2))) turn

-- what was read before a read failed
pub lost_went : (g h : ℕ) (told left taken : Option (List ℕ)) (read : List ℕ) → told ≡ prepend_known read left → raised h 0 ≡ raised g (length read)
    → Went read [] (record { left = told; given = g; taken = taken }) (record { left = left; given = h; taken = taken })
lost_went g h told left taken read is given = record { left = is; given = given; taken = append_nothing taken }
