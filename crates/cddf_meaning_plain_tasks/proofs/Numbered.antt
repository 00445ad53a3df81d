-- The numbers of the tasks by the places of their pragmas, with one task more.
use Rattle.std.proofs.Common.{◌≡◌, ◌==◌, ℕ, nat_cmp, cond, List, [], ◌∷◌, ◌++◌, length, Option, Some, position, unwrap_or, sym, ◌∙◌, arith}
use Rattle.std.proofs.lemmas.Grind.{common_steps}
use Rattle.std.specs.BTreeMap.{BTreeMap, get, Updates}
use Rattle.cddf_meaning.specs.declared.site.Site.{Site}
use Rattle.os_lexer.proofs.Positions.{position-push}

one-more : (numbers : ℕ → Option ℕ) (len number key : ℕ) (m n : BTreeMap ℕ ℕ) → ((place : ℕ) → get nat_cmp m place ≡ numbers place) →
    Updates nat_cmp m n key (Some number) → number ≡ unwrap_or (numbers key) len → (place : ℕ) →
    get nat_cmp n place ≡ cond (key == place) (Some (unwrap_or (numbers place) len)) (numbers place)
one-more numbers len number key m n is u h place = grind (arith, common_steps, is place, u.0 place, h)

pub numbered : (sites : List Site) (site : Site) (number : ℕ) (m n : BTreeMap ℕ ℕ) →
    ((place : ℕ) → get nat_cmp m place ≡ position (λ (t : Site). t.place == place) sites) →
    Updates nat_cmp m n site.place (Some number) →
    number ≡ unwrap_or (position (λ (t : Site). t.place == site.place) sites) (length sites) → (place : ℕ) →
    get nat_cmp n place ≡ position (λ (t : Site). t.place == place) (sites ++ site ∷ [])
numbered sites site number m n is u h place =
    one-more (λ place. position (λ (t : Site). t.place == place) sites) (length sites) number site.place m n is u h place
    ∙ sym (position-push (λ (t : Site). t.place == place) sites site)
