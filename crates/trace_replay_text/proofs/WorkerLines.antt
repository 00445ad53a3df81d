-- The line of a worker stands at the front of a text in one way.
use Rattle.std.proofs.Common.{◌≡◌, ◌≢◌, ℕ, zero, suc, ◌^◌, ◌<◌, List, [], ◌∷◌, ◌++◌, take, drop, refl, sym, ap, ◌∙◌, append_assoc, arith, codes}
use Rattle.std.specs.List.{flat_map}
use Rattle.std.specs.Fmt.{decimal}
use Rattle.trace_replay_text.specs.Fields.{Begins, IsFree, IsCutAt}
use Rattle.os_io.specs.Lines.{field}
use Rattle.trace_replay_text.specs.Trace.{AreNumbers, NoLine, worker_line}
use Rattle.trace_replay_text.proofs.Cutting.{cut_once, tail_free, free_decimal, begins_fields, fields_once, field_once, front_and_rest, cells}

free_cons : (c b : ℕ) (xs : List ℕ) → b ≢ c → IsFree c xs → IsFree c (b ∷ xs)
free_cons c b xs other free zero d inside = other
free_cons c b xs other free (suc k) d inside = free k d (omega arith)

free_append : (c : ℕ) (xs ys : List ℕ) → IsFree c xs → IsFree c ys → IsFree c (xs ++ ys)
free_append c [] ys p q = q
free_append c (x ∷ xs) ys p q = free_cons c x (xs ++ ys) (p 0 0 (omega arith)) (free_append c xs ys (tail_free c x xs p) q)

free_nil : (c : ℕ) → IsFree c []
free_nil c k d inside = absurd (omega arith)

free_fields : (frames : List ℕ) → AreNumbers frames → IsFree 10 (flat_map field frames)
free_fields [] p = free_nil 10
free_fields (f ∷ fs) p =
    free_cons 10 32 (decimal f ++ flat_map field fs) (λ e. omega (arith, e))
    (free_append 10 (decimal f) (flat_map field fs) (free_decimal 10 f (omega arith) p.0) (free_fields fs p.1))

-- what a line has before its line feed
abbrev pub before_feed : ℕ → List ℕ → List ℕ
before_feed worker frames = codes "worker" ++ flat_map field (worker ∷ frames)

free_line : (worker : ℕ) (frames : List ℕ) → worker < 2 ^ 32 → AreNumbers frames → IsFree 10 (before_feed worker frames)
free_line worker frames small p =
    let numbers = free_fields (worker ∷ frames) (small, p) in
    let rest = flat_map field (worker ∷ frames) in
    free_cons 10 119 (111 ∷ 114 ∷ 107 ∷ 101 ∷ 114 ∷ rest) (λ e. omega (arith, e))
    (free_cons 10 111 (114 ∷ 107 ∷ 101 ∷ 114 ∷ rest) (λ e. omega (arith, e))
    (free_cons 10 114 (107 ∷ 101 ∷ 114 ∷ rest) (λ e. omega (arith, e))
    (free_cons 10 107 (101 ∷ 114 ∷ rest) (λ e. omega (arith, e))
    (free_cons 10 101 (114 ∷ rest) (λ e. omega (arith, e))
    (free_cons 10 114 rest (λ e. omega (arith, e)) numbers)))))

line_apart : (worker : ℕ) (frames after : List ℕ) → worker_line worker frames ++ after ≡ before_feed worker frames ++ 10 ∷ after
line_apart worker frames after =
    let numbers = flat_map field (worker ∷ frames) in
    append_assoc (codes "worker") (numbers ++ codes "\n") after
    ∙ ap (λ (t : List ℕ). codes "worker" ++ t) (append_assoc numbers (codes "\n") after)
    ∙ sym (append_assoc (codes "worker") numbers (10 ∷ after))

-- where a text is cut at its first line feed, the line is what stands before
pub line_at : (text : List ℕ) (place : ℕ) → IsCutAt 10 text place → (worker : ℕ) (frames after : List ℕ) → worker < 2 ^ 32 → AreNumbers frames
    → text ≡ worker_line worker frames ++ after → (take place text ≡ before_feed worker frames) × (drop place text ≡ 10 ∷ after)
line_at text place cut worker frames after small fit is =
    cut_once 10 (take place text) (before_feed worker frames) (drop place text) (10 ∷ after) cut.free (free_line worker frames small fit) cut.begins refl
    (front_and_rest place text ∙ is ∙ line_apart worker frames after)

pub line_once : (worker : ℕ) (frames others x y : List ℕ) → worker < 2 ^ 32 → AreNumbers frames → AreNumbers others
    → worker_line worker frames ++ x ≡ worker_line worker others ++ y → (frames ≡ others) × (x ≡ y)
line_once worker frames others x y small fit also is =
    let both = cut_once 10 (before_feed worker frames) (before_feed worker others) (10 ∷ x) (10 ∷ y) (free_line worker frames small fit) (free_line worker others small also)
    refl refl (sym (line_apart worker frames x) ∙ is ∙ line_apart worker others y) in
    let numbers = field_once worker worker (flat_map field frames) (flat_map field others) small small (begins_fields frames) (begins_fields others)
    (ap (λ (t : List ℕ). drop 6 t) both.0) in
    (fields_once frames others fit also numbers.1, (cells 10 10 x y both.1).rest)

-- a text without a line feed has no line
pub no_feed : (text : List ℕ) (place : ℕ) → IsCutAt 10 text place → drop place text ≡ [] → (worker : ℕ) → worker < 2 ^ 32 → NoLine worker text
no_feed text place cut ends worker small frames after fit is =
    let z : [] ≡ 10 ∷ after = sym ends ∙ (line_at text place cut worker frames after small fit is).1 in
    cc

-- nor has one whose line doesn't name the worker,
pub no_worker : (text : List ℕ) (place : ℕ) → IsCutAt 10 text place → (worker : ℕ) → worker < 2 ^ 32
    → ((frames : List ℕ) → AreNumbers frames → take place text ≡ before_feed worker frames → ⊥) → NoLine worker text
no_worker text place cut worker small none frames after fit is = none frames fit (line_at text place cut worker frames after small fit is).0

-- or has something else behind it than numbers
pub no_numbers : (text : List ℕ) (place : ℕ) → IsCutAt 10 text place → (worker : ℕ) (numbers : List ℕ) → worker < 2 ^ 32
    → take place text ≡ codes "worker" ++ field worker ++ numbers → Begins 32 numbers
    → ((frames : List ℕ) → AreNumbers frames → numbers ≡ flat_map field frames → ⊥) → NoLine worker text
no_numbers text place cut worker numbers small here begins none frames after fit is =
    let line = (line_at text place cut worker frames after small fit is).0 in
    let both = field_once worker worker numbers (flat_map field frames) small small begins (begins_fields frames)
    (ap (λ (t : List ℕ). drop 6 t) (sym here ∙ line)) in
    none frames fit both.1

pub line_read : (text : List ℕ) (place worker : ℕ) (numbers frames after : List ℕ) → take place text ≡ codes "worker" ++ field worker ++ numbers
    → numbers ≡ flat_map field frames → drop place text ≡ 10 ∷ after → text ≡ worker_line worker frames ++ after
line_read text place worker numbers frames after here are behind =
    sym (front_and_rest place text) ∙ ap (λ (t : List ℕ). t ++ drop place text) (here ∙ ap (λ (t : List ℕ). codes "worker" ++ field worker ++ t) are)
    ∙ ap (λ (t : List ℕ). before_feed worker frames ++ t) behind ∙ sym (line_apart worker frames after)
