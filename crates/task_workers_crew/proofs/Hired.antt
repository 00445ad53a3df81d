-- Workers that are hired one after another.
use Rattle.std.proofs.Common.{◌≡◌, ℕ, ◌+◌, ◌<◌, ◌≤◌, List, [], ◌∷◌, ◌++◌, length, drop, get_or, sym, ap, ◌∙◌, ◌⊎◌, inl, inr, arith, length-append, append_assoc, append-nil}
use Rattle.std.proofs.lemmas.Bool.{cases_lt}
use Rattle.std.proofs.lemmas.List.{map-append, get_or_append_left, get_or_push}
use Rattle.steal_pool.specs.declared.hand.Hand.{Hand}
use Rattle.task_workers_crew.specs.declared.crew.Worker.{Worker}
use Rattle.task_workers_crew.specs.Dealt.{hands_of, AreNumbered}

-- the hands of those that are hired, and the hands that are left, are all hands
pub next_hired : {S : Type 0} (crew : List (Worker S)) (w : Worker S) (hands all : List Hand) (d : Hand) → hands_of crew ++ hands ≡ all → 0 < length hands → w.hand ≡ get_or hands 0 d → hands_of (crew ++ w ∷ []) ++ drop 1 hands ≡ all
next_hired crew w [] all d is some mine = absurd (omega (arith, some))
next_hired {S} crew w (h ∷ hands) all d is some mine = ap (λ xs. xs ++ hands) (map-append (λ (v : Worker S). v.hand) crew (w ∷ [])) ∙ append_assoc (hands_of crew) (w.hand ∷ []) hands ∙ (λ i. hands_of crew ++ mine i ∷ hands) ∙ is

pub all_hired : {S : Type 0} (crew : List (Worker S)) (hands all : List Hand) → hands_of crew ++ hands ≡ all → length hands ≡ 0 → hands_of crew ≡ all
all_hired crew [] all is none = sym (append-nil (hands_of crew)) ∙ is
all_hired crew (h ∷ hands) all is none = absurd (omega (arith, none))

pub next_number : {S : Type 0} (crew : List (Worker S)) (w : Worker S) (n : ℕ) → AreNumbered crew → length crew ≡ n → w.log.worker ≡ n → AreNumbered (crew ++ w ∷ [])
next_number {S} crew w n old long mine = λ i d lt. by i d (let l = length-append crew (w ∷ []) in omega (arith, l, lt)) (cases_lt i (length crew))
  where
    by : (i : ℕ) (d : Worker S) → i < length crew + 1 → (i < length crew) ⊎ (length crew ≤ i) → (get_or (crew ++ w ∷ []) i d).log.worker ≡ i
    by i d lt (inl low) = ap (λ (v : Worker S). v.log.worker) (get_or_append_left crew (w ∷ []) d i low) ∙ old i d low
    by i d lt (inr ge) =
        let same : length crew ≡ i = omega (arith, lt, ge) in
        let e : n ≡ i = omega (arith, same, long) in
        ap (λ (v : Worker S). v.log.worker) (get_or_push crew w d i same) ∙ mine ∙ e
