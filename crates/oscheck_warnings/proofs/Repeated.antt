-- Marks of names that are spelled twice, where some of the tokens were gone over.
use Rattle.std.proofs.Common.{◌≡◌, ◌≢◌, ℕ, ◌+◌, ◌<◌, ◌⊎◌, inl, inr, Bool, true, false, List, ◌≤◌, length, get_or, set, replicate, Some, sym, ap, ◌∙◌, arith, length-set}
use Rattle.std.proofs.lemmas.Bool.{cases_eq}
use Rattle.std.proofs.lemmas.List.{get_or-set_same, get_or-set_other, length-replicate}
use Rattle.os_io.proofs.Repeated.{get_or-repeated}
use Rattle.oscheck_warnings.proofs.Named.{kind_within}
use Rattle.os_lexer.specs.declared.token.Kind.TheVariants as kind
use Rattle.os_lexer.specs.declared.token.Token.{Token}
use Rattle.oscheck_warnings.specs.Warnings.{kind_at, StandsElsewhere, AreRepeated}

-- the name that stands first at a place stands at another one too
abbrev pub Again : List Token → ℕ → Type 0
Again tokens place = StandsElsewhere tokens place (kind.Name (12 + place))

pub record AreMarked (tokens : List Token) (marks : List Bool) (count : ℕ) : Type 0 where
  pub counted : length marks ≡ length tokens
  pub sound : (place : ℕ) → get_or marks place false ≡ true → Again tokens place
  pub complete : (place other : ℕ) → place < length tokens → other < count → other ≢ place → kind_at tokens other ≡ Some (kind.Name (12 + place)) → get_or marks place false ≡ true

-- none were gone over
pub marks-none : (tokens : List Token) (marks : List Bool) → marks ≡ replicate (length tokens) false → AreMarked tokens marks 0
marks-none tokens marks is = record {
  counted = ap length is ∙ length-replicate (length tokens) false;
  sound = λ place m. let none = get_or-repeated (length tokens) place false in let these = ap (λ (l : List Bool). get_or l place false) is in cc;
  complete = λ place other l before e k. absurd (omega (arith, before));
}

pub marks-set : (tokens : List Token) (marks : List Bool) (count first : ℕ) → AreMarked tokens marks count → first ≢ count →
    kind_at tokens count ≡ Some (kind.Name (12 + first)) → first < length marks → AreMarked tokens (set marks first true) (count + 1)
marks-set tokens marks count first h apart is low = record {
  counted = length-set marks first true ∙ h.counted;
  sound = λ place m. sound_of place m (cases_eq place first);
  complete = λ place other l before e k. complete_of place other l before e k (cases_eq place first) (cases_eq other count);
}
  where
    sound_of : (place : ℕ) → get_or (set marks first true) place false ≡ true → (place ≡ first) ⊎ (place ≢ first) → Again tokens place
    sound_of place m (inl e) = (count, (λ same. apart (sym (same ∙ e))), is ∙ ap (λ (p : ℕ). Some (kind.Name (12 + p))) (sym e))
    sound_of place m (inr e) = h.sound place (sym (get_or-set_other marks first place true false e) ∙ m)

    set_at : (place : ℕ) → place ≡ first → get_or (set marks first true) place false ≡ true
    set_at place e = ap (λ (p : ℕ). get_or (set marks first true) p false) e ∙ get_or-set_same marks first true false low

    complete_of : (place other : ℕ) → place < length tokens → other < count + 1 → other ≢ place → kind_at tokens other ≡ Some (kind.Name (12 + place)) →
        (place ≡ first) ⊎ (place ≢ first) → (other ≡ count) ⊎ (other ≢ count) → get_or (set marks first true) place false ≡ true
    complete_of place other l before e k (inl p) _ = set_at place p
    complete_of place other l before e k (inr p) (inl o) =
        let these : Some (kind.Name (12 + first)) ≡ Some (kind.Name (12 + place)) = sym is ∙ ap (kind_at tokens) (sym o) ∙ k in
        let numbers : 12 + first ≡ 12 + place = cc these in
        absurd (p (omega (arith, numbers)))
    complete_of place other l before e k (inr p) (inr o) =
        get_or-set_other marks first place true false p ∙ h.complete place other l (omega (arith, before, o)) e k

-- a token that isn't such a name, or one whose first place is behind the tokens
pub marks-past : (tokens : List Token) (marks : List Bool) (count first : ℕ) → AreMarked tokens marks count →
    kind_at tokens count ≡ Some (kind.Name (12 + first)) → (first < length marks → ⊥) → AreMarked tokens marks (count + 1)
marks-past tokens marks count first h is high = record {
  counted = h.counted;
  sound = h.sound;
  complete = λ place other l before e k. complete_of place other l before e k (cases_eq other count);
}
  where
    complete_of : (place other : ℕ) → place < length tokens → other < count + 1 → other ≢ place → kind_at tokens other ≡ Some (kind.Name (12 + place)) →
        (other ≡ count) ⊎ (other ≢ count) → get_or marks place false ≡ true
    complete_of place other l before e k (inl o) =
        let these : Some (kind.Name (12 + first)) ≡ Some (kind.Name (12 + place)) = sym is ∙ ap (kind_at tokens) (sym o) ∙ k in
        let numbers : 12 + first ≡ 12 + place = cc these in
        let long = h.counted in
        absurd (high (omega (arith, numbers, l, long)))
    complete_of place other l before e k (inr o) = h.complete place other l (omega (arith, before, o)) e k

pub marks-same : (tokens : List Token) (marks : List Bool) (count : ℕ) → AreMarked tokens marks count →
    ((first : ℕ) → first ≢ count → kind_at tokens count ≡ Some (kind.Name (12 + first)) → ⊥) → AreMarked tokens marks (count + 1)
marks-same tokens marks count h none = record {
  counted = h.counted;
  sound = h.sound;
  complete = λ place other l before e k. complete_of place other l before e k (cases_eq other count);
}
  where
    complete_of : (place other : ℕ) → place < length tokens → other < count + 1 → other ≢ place → kind_at tokens other ≡ Some (kind.Name (12 + place)) →
        (other ≡ count) ⊎ (other ≢ count) → get_or marks place false ≡ true
    complete_of place other l before e k (inl o) = absurd (none place (λ same. e (o ∙ sym same)) (ap (kind_at tokens) (sym o) ∙ k))
    complete_of place other l before e k (inr o) = h.complete place other l (omega (arith, before, o)) e k

-- all tokens were gone over
pub marks-all : (tokens : List Token) (marks : List Bool) (count : ℕ) → AreMarked tokens marks count → length tokens ≤ count → AreRepeated tokens marks
marks-all tokens marks count h all = record {
  counted = h.counted;
  sound = h.sound;
  complete = λ place l again. complete_of place l again.0 again.1 again.2;
}
  where
    complete_of : (place : ℕ) → place < length tokens → (other : ℕ) → other ≢ place → kind_at tokens other ≡ Some (kind.Name (12 + place)) → get_or marks place false ≡ true
    complete_of place l other e k =
        let within = kind_within tokens other (kind.Name (12 + place)) k in
        h.complete place other l (omega (arith, all, within)) e k

pub ruleset repeated = (marks-none, marks-set, marks-past, marks-same, marks-all)
