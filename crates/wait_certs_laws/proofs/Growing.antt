-- Walks as they grow: each member but the first is what follows the one before it, and isn't there yet.
use Rattle.std.proofs.Common.{◌≡◌, ℕ, zero, suc, ◌+◌, ◌-◌, ◌<◌, ◌≤◌, ◌||◌, Bool, true, false, List, [], ◌∷◌, ◌++◌, Option, Some, None, length, get_or, refl, sym, ap, ◌∙◌, subst, ◌⊎◌, inl, inr, arith}
use Rattle.std.specs.Prelude.{slice_get, Contains, ◌==◌}
use Rattle.std.specs.List.{list_any, IsDistinct}
use Rattle.std.proofs.lemmas.Bool.{cases_lt, eqb-true}
use Rattle.std.proofs.lemmas.Cmp.{nat_eq_equiv}
use Rattle.std.proofs.lemmas.List.{get_or_append_left, get_or_push, length_push}
use Rattle.std.proofs.lemmas.Map.Keys.{IsDistinct-push, IsDistinct-from_apart}
use Rattle.std.proofs.lemmas.Map.Steps.{length-le_from_distinct_below}

-- what a list that has a number by the test contains
pub contained : (b : ℕ) (xs : List ℕ) → list_any (λ x. b == x) xs ≡ true → Contains xs b
contained b [] h = absurd (cc)
contained b (x ∷ xs) h = by (b == x) refl h (contained b xs)
  where
    by : (t : Bool) → (b == x) ≡ t → (t || list_any (λ y. b == y) xs) ≡ true → (list_any (λ y. b == y) xs ≡ true → Contains xs b) → Contains (x ∷ xs) b
    by true e h rest = (0, omega arith, sym (eqb-true b x e))
    by false e h rest = let (k, lt, at) = rest h in (suc k, omega arith, at)

-- each number for which a fact holds at each place of a list
each_of : (P : ℕ → Type 0) (xs : List ℕ) → ((k : ℕ) → k < length xs → P (get_or xs k 0)) → (q : ℕ) → list_any (λ x. q == x) xs ≡ true → P q
each_of P xs each q h =
    let (k, lt, at) = contained q xs h in
    subst P (other_default xs k lt q ∙ at) (each k lt)
  where
    other_default : (ys : List ℕ) (i : ℕ) → i < length ys → (d : ℕ) → get_or ys i 0 ≡ get_or ys i d
    other_default [] i l d = absurd (omega arith)
    other_default (y ∷ ys) zero l d = refl
    other_default (y ∷ ys) (suc i) l d = other_default ys i (omega arith) d

module _ (next : ℕ → Option ℕ) (first : ℕ) where
  -- A walk so far: it begins with the first one, and the last one may be followed.
  pub record IsGrown (members : List ℕ) (last : ℕ) : Type 0 where
    pub has_members : 1 ≤ length members
    pub begins : slice_get members 0 ≡ Some first
    pub ends : get_or members (length members - 1) 0 ≡ last
    pub distinct : IsDistinct (λ x y. x == y) members
    pub follows : (k : ℕ) → k + 1 < length members → next (get_or members k 0) ≡ Some (get_or members (k + 1) 0)

  pub grown_first : IsGrown (first ∷ []) first
  grown_first = record {
    has_members = omega arith;
    begins = refl;
    ends = refl;
    distinct = IsDistinct-from_apart (λ x y. x == y) (first ∷ []) (λ i j d less within. absurd (omega arith));
    follows = λ k lt. absurd (omega arith);
  }

  pub grown_more : (members : List ℕ) (last b : ℕ) → IsGrown members last → next last ≡ Some b → list_any (λ x. b == x) members ≡ false → IsGrown (members ++ b ∷ []) b
  grown_more members last b so_far is unseen = record {
    has_members = omega (arith, l);
    begins = front members so_far.has_members so_far.begins;
    ends = get_or_push members b 0 (length (members ++ b ∷ []) - 1) (omega (arith, l));
    distinct = IsDistinct-push nat_eq_equiv members b so_far.distinct unseen;
    follows = λ k lt. steps k lt (cases_lt (k + 1) (length members));
  }
    where
      l : length (members ++ b ∷ []) ≡ length members + 1
      l = length_push members b

      front : (xs : List ℕ) → 1 ≤ length xs → slice_get xs 0 ≡ Some first → slice_get (xs ++ b ∷ []) 0 ≡ Some first
      front [] h e = absurd (omega arith)
      front (x ∷ xs) h e = e

      steps : (k : ℕ) → k + 1 < length (members ++ b ∷ []) → (k + 1 < length members) ⊎ (length members ≤ k + 1) → next (get_or (members ++ b ∷ []) k 0) ≡ Some (get_or (members ++ b ∷ []) (k + 1) 0)
      steps k lt (inl within) =
          ap next (get_or_append_left members (b ∷ []) 0 k (omega arith)) ∙ so_far.follows k within ∙ ap Some (sym (get_or_append_left members (b ∷ []) 0 (k + 1) within))
      steps k lt (inr past) =
          let at : length members ≡ k + 1 = omega (arith, l) in
          let before : length members - 1 ≡ k = omega arith in
          ap next (get_or_append_left members (b ∷ []) 0 k (omega arith) ∙ ap (λ j. get_or members j 0) (sym before) ∙ so_far.ends)
          ∙ is
          ∙ ap Some (sym (get_or_push members b 0 (k + 1) at))

  -- what holds of the first one and goes on holds of each
  pub each_member : (P : ℕ → Type 0) → P first → ((x b : ℕ) → P x → next x ≡ Some b → P b) → (members : List ℕ) (last : ℕ) → IsGrown members last → (k : ℕ) → k < length members → P (get_or members k 0)
  each_member P holds step members last grown zero lt = subst P (at members lt grown.begins) holds
    where
      at : (xs : List ℕ) → 0 < length xs → slice_get xs 0 ≡ Some first → first ≡ get_or xs 0 0
      at [] h e = absurd (omega arith)
      at (x ∷ xs) h e = cc
  each_member P holds step members last grown (suc k) lt =
      let more : k + 1 < length members = omega arith in
      let e : k + 1 ≡ suc k = omega arith in
      subst (λ j. P (get_or members j 0)) e (step (get_or members k 0) (get_or members (k + 1) 0) (each_member P holds step members last grown k (omega arith)) (grown.follows k more))

  -- so there are no more members than numbers below a bound, where each lies below it
  pub few_members : (bound : ℕ) (P : ℕ → Type 0) → ((x : ℕ) → P x → x < bound) → P first → ((x b : ℕ) → P x → next x ≡ Some b → P b) → (members : List ℕ) (last : ℕ) → IsGrown members last → length members ≤ bound
  few_members bound P below holds step members last grown =
      length-le_from_distinct_below members bound grown.distinct
      (each_of (λ q. q < bound) members (λ k lt. below (get_or members k 0) (each_member P holds step members last grown k lt)))

  -- A walk that is whole.
  pub record IsWhole (members : List ℕ) : Type 0 where
    pub last : ℕ
    pub grown : IsGrown members last
    pub goes_as_far : (b : ℕ) → next last ≡ Some b → list_any (λ x. b == x) members ≡ true

  -- There is one.
  pub whole : (bound : ℕ) (P : ℕ → Type 0) → ((x : ℕ) → P x → x < bound) → P first → ((x b : ℕ) → P x → next x ≡ Some b → P b) → (members : List ℕ) × IsWhole members
  whole bound P below holds step = from bound (first ∷ []) first grown_first (omega arith)
    where
      from : (left : ℕ) (members : List ℕ) (last : ℕ) → IsGrown members last → bound + 1 ≤ length members + left → (all : List ℕ) × IsWhole all
      from zero members last grown enough = absurd (omega (arith, few_members bound P below holds step members last grown))
      from (suc left) members last grown enough = by (next last) refl (from left)
        where
          by_test : (b : ℕ) → next last ≡ Some b → (t : Bool) → list_any (λ x. b == x) members ≡ t
              → ((ms : List ℕ) (l : ℕ) → IsGrown ms l → bound + 1 ≤ length ms + left → (all : List ℕ) × IsWhole all)
              → (all : List ℕ) × IsWhole all
          by_test b is true seen go = (
            members,
            record {
              last = last;
              grown = grown;
              goes_as_far = λ other also.
                  let same : other ≡ b = let both : Some other ≡ Some b = sym also ∙ is in cc in
                  ap (λ c. list_any (λ x. c == x) members) same ∙ seen;
            },
          )
          by_test b is false unseen go = go (members ++ b ∷ []) b (grown_more members last b grown is unseen) (omega (arith, length_push members b))

          by : (o : Option ℕ) → next last ≡ o
              → ((ms : List ℕ) (l : ℕ) → IsGrown ms l → bound + 1 ≤ length ms + left → (all : List ℕ) × IsWhole all)
              → (all : List ℕ) × IsWhole all
          by None is go = (members, record { last = last; grown = grown; goes_as_far = λ b also. absurd (let both : None ≡ Some b = sym is ∙ also in cc) })
          by (Some b) is go = by_test b is (list_any (λ x. b == x) members) refl go
