-- Marks of names that items begin with, where some of the tokens were gone over.
use Rattle.std.proofs.Common.{◌≡◌, ◌≢◌, ℕ, ◌+◌, ◌<◌, ◌⊎◌, inl, inr, Bool, true, false, List, [], ◌∷◌, zero, suc, ◌≤◌, length, get_or, set, replicate, Some, refl, sym, ap, ◌∙◌, arith, length-set}
use Rattle.std.proofs.lemmas.Bool.{cases_eq}
use Rattle.std.proofs.lemmas.List.{get_or-set_same, get_or-set_other, length-replicate}
use Rattle.os_io.proofs.Repeated.{get_or-repeated}
use Rattle.os_lexer.specs.declared.token.Kind.{Kind}
use Rattle.os_lexer.specs.declared.token.Kind.TheVariants as kind
use Rattle.os_lexer.specs.declared.token.Token.{Token}
use Rattle.oscheck_warnings.specs.Open.{open_in}
use Rattle.oscheck_warnings.specs.Streams.{clause_place_at, clause_place_past, BeginsItem, IsInClauses, AreInClauses}
use Rattle.oscheck_warnings.specs.Warnings.{kind_at}
use Rattle.oscheck_warnings.specs.declared.clause_place.ClausePlace.{ClausePlace}
use Rattle.oscheck_warnings.specs.declared.clause_place.ClausePlace.TheVariants as places

-- the names of the items that begin at the first places are marked, and the clause place behind these places is known
pub record AreMarked (tokens : List Token) (word : ℕ) (marks : List Bool) (here : ClausePlace) (count : ℕ) : Type 0 where
  pub counted : length marks ≡ 12 + length tokens
  pub sound : (name : ℕ) → get_or marks name false ≡ true → IsInClauses tokens word name
  pub complete : (name place : ℕ) → name < 12 + length tokens → place < count → BeginsItem tokens word place name → get_or marks name false ≡ true
  pub stands : here ≡ clause_place_at tokens count
  pub few : open_in here ≤ count

-- none were gone over
pub named-none : (tokens : List Token) (word : ℕ) (marks : List Bool) → marks ≡ replicate (12 + length tokens) false → AreMarked tokens word marks places.Outside 0
named-none tokens word marks is = record {
  counted = ap length is ∙ length-replicate (12 + length tokens) false;
  sound = λ name m. let none = get_or-repeated (12 + length tokens) name false in let these = ap (λ (l : List Bool). get_or l name false) is in cc;
  complete = λ name place l before e. absurd (omega (arith, before));
  stands = refl;
  few = omega arith;
}

-- the clause place behind the next token
stands_next : (tokens : List Token) (here behind : ClausePlace) (count : ℕ) → here ≡ clause_place_at tokens count → behind ≡ clause_place_past here (kind_at tokens count) →
    behind ≡ clause_place_at tokens (count + 1)
stands_next tokens here behind count h next =
    let step : count + 1 ≡ suc count = omega arith in
    next ∙ ap (λ (p : ClausePlace). clause_place_past p (kind_at tokens count)) h ∙ sym (ap (clause_place_at tokens) step)

-- an item begins, with a name
pub named-set : (tokens : List Token) (word : ℕ) (marks : List Bool) (here behind : ClausePlace) (count name : ℕ) → AreMarked tokens word marks here count →
    here ≡ places.Start word → kind_at tokens count ≡ Some (kind.Name name) → name < length marks →
    behind ≡ clause_place_past here (kind_at tokens count) → open_in behind ≤ open_in here + 1 → AreMarked tokens word (set marks name true) behind (count + 1)
named-set tokens word marks here behind count first h start is low next few = record {
  counted = length-set marks first true ∙ h.counted;
  sound = λ name m. sound_of name m (cases_eq name first);
  complete = λ name place l before e. complete_of name place l before e (cases_eq name first) (cases_eq place count);
  stands = stands_next tokens here behind count h.stands next;
  few = let some = h.few in omega (arith, some, few);
}
  where
    sound_of : (name : ℕ) → get_or (set marks first true) name false ≡ true → (name ≡ first) ⊎ (name ≢ first) → IsInClauses tokens word name
    sound_of name m (inl e) = (count, (sym h.stands ∙ start, is ∙ ap (λ (n : ℕ). Some (kind.Name n)) (sym e)))
    sound_of name m (inr e) = h.sound name (sym (get_or-set_other marks first name true false e) ∙ m)

    set_at : (name : ℕ) → name ≡ first → get_or (set marks first true) name false ≡ true
    set_at name e = ap (λ (p : ℕ). get_or (set marks first true) p false) e ∙ get_or-set_same marks first true false low

    complete_of : (name place : ℕ) → name < 12 + length tokens → place < count + 1 → BeginsItem tokens word place name →
        (name ≡ first) ⊎ (name ≢ first) → (place ≡ count) ⊎ (place ≢ count) → get_or (set marks first true) name false ≡ true
    complete_of name place l before e (inl p) _ = set_at name p
    complete_of name place l before e (inr p) (inl o) =
        let these : Some (kind.Name first) ≡ Some (kind.Name name) = sym is ∙ ap (kind_at tokens) (sym o) ∙ e.1 in
        let numbers : first ≡ name = cc these in
        absurd (p (sym numbers))
    complete_of name place l before e (inr p) (inr o) =
        get_or-set_other marks first name true false p ∙ h.complete name place l (omega (arith, before, o)) e

-- a name that is behind the marks
pub named-past : (tokens : List Token) (word : ℕ) (marks : List Bool) (here behind : ClausePlace) (count name : ℕ) → AreMarked tokens word marks here count →
    kind_at tokens count ≡ Some (kind.Name name) → (name < length marks → ⊥) →
    behind ≡ clause_place_past here (kind_at tokens count) → open_in behind ≤ open_in here + 1 → AreMarked tokens word marks behind (count + 1)
named-past tokens word marks here behind count first h is high next few = record {
  counted = h.counted;
  sound = h.sound;
  complete = λ name place l before e. complete_of name place l before e (cases_eq place count);
  stands = stands_next tokens here behind count h.stands next;
  few = let some = h.few in omega (arith, some, few);
}
  where
    complete_of : (name place : ℕ) → name < 12 + length tokens → place < count + 1 → BeginsItem tokens word place name →
        (place ≡ count) ⊎ (place ≢ count) → get_or marks name false ≡ true
    complete_of name place l before e (inl o) =
        let these : Some (kind.Name first) ≡ Some (kind.Name name) = sym is ∙ ap (kind_at tokens) (sym o) ∙ e.1 in
        let numbers : first ≡ name = cc these in
        let long = h.counted in
        absurd (high (omega (arith, numbers, l, long)))
    complete_of name place l before e (inr o) = h.complete name place l (omega (arith, before, o)) e

-- no item begins
pub named-same : (tokens : List Token) (word : ℕ) (marks : List Bool) (here behind : ClausePlace) (count : ℕ) → AreMarked tokens word marks here count →
    ((name : ℕ) → here ≡ places.Start word → kind_at tokens count ≡ Some (kind.Name name) → ⊥) →
    behind ≡ clause_place_past here (kind_at tokens count) → open_in behind ≤ open_in here + 1 → AreMarked tokens word marks behind (count + 1)
named-same tokens word marks here behind count h none next few = record {
  counted = h.counted;
  sound = h.sound;
  complete = λ name place l before e. complete_of name place l before e (cases_eq place count);
  stands = stands_next tokens here behind count h.stands next;
  few = let some = h.few in omega (arith, some, few);
}
  where
    complete_of : (name place : ℕ) → name < 12 + length tokens → place < count + 1 → BeginsItem tokens word place name →
        (place ≡ count) ⊎ (place ≢ count) → get_or marks name false ≡ true
    complete_of name place l before e (inl o) =
        absurd (none name (h.stands ∙ ap (clause_place_at tokens) (sym o) ∙ e.0) (ap (kind_at tokens) (sym o) ∙ e.1))
    complete_of name place l before e (inr o) = h.complete name place l (omega (arith, before, o)) e

-- a token that is there stands among the tokens
pub kind_within : (tokens : List Token) (place : ℕ) (k : Kind) → kind_at tokens place ≡ Some k → place < length tokens
kind_within [] place k is = cc
kind_within (t ∷ ts) zero k is = omega arith
kind_within (t ∷ ts) (suc place) k is = let rest = kind_within ts place k is in omega (arith, rest)

-- all tokens were gone over
pub named-all : (tokens : List Token) (word : ℕ) (marks : List Bool) (here : ClausePlace) (count : ℕ) → AreMarked tokens word marks here count → length tokens ≤ count →
    AreInClauses tokens word marks
named-all tokens word marks here count h all = record {
  counted = h.counted;
  sound = h.sound;
  complete = λ name l some. complete_of name l some.0 some.1;
}
  where
    complete_of : (name : ℕ) → name < 12 + length tokens → (place : ℕ) → BeginsItem tokens word place name → get_or marks name false ≡ true
    complete_of name l place e =
        let within = kind_within tokens place (kind.Name name) e.1 in
        h.complete name place l (omega (arith, all, within)) e

pub ruleset named = (named-none, named-set, named-past, named-same, named-all)
