-- What lawful activations leave room for.
use Rattle.std.proofs.Common.{◌≡◌, ℕ, ◌+◌, ◌^◌, ◌<◌, ◌≤◌, Bool, List, [], ◌∷◌, ◌++◌, All, length, get_or, refl, sym, ap, ◌∙◌, subst, arith}
use Rattle.std.specs.Prelude.{filter, sum_by, not}
use Rattle.std.proofs.lemmas.List.{length-append, length-map, get_or_append_left, get_or-append-add}
use Rattle.std.proofs.lemmas.Grind.{flat_map-append}
use Rattle.std.proofs.lemmas.List.Elements.{All-head, All-tail}
use Rattle.std.proofs.lemmas.List.Filters.{sum_by-filter_both}
use Rattle.std.proofs.lemmas.List.FromFn.{length-map-range_with_len}
use Rattle.std.proofs.lemmas.List.Sums.{sum_by-append, sum_by-cons}
use Rattle.flow_core_laws.specs.declared.claim.Claim.{Claim}
use Rattle.flow_core_laws.specs.declared.activation.Activation.{Activation}
use Rattle.flow_core_laws.specs.FirstPosition.{is_read_of, is_write_to, read_cursor, write_cursor}
use Rattle.flow_core_laws.specs.Window.{Window, claims_of}
use Rattle.stream_match_layouts.specs.declared.layout.Layout.{Layout}
use Rattle.stream_match_layouts.specs.Lawful.{IsLawfulClaim, AreLawful}
use Rattle.stream_match_layouts.specs.Layout.{span_of, claims_in, IsOfWindows}
use Rattle.stream_match_layouts.specs.Adding.{HasRoom}
use Rattle.stream_match_layouts.proofs.Pushing.{read_at, write_at}

-- ---- the first of lawful activations are lawful

All-front : {X : Type 0} (P : X → Type 0) (xs ys : List X) → All P (xs ++ ys) → All P xs
All-front P xs ys h k d lt = subst P (get_or_append_left xs ys d k lt) (h k d (omega (arith, length-append xs ys)))

pub lawful-front : (n : ℕ) (xs ys : List Activation) → AreLawful n (xs ++ ys) → AreLawful n xs
lawful-front n xs ys l =
    let cs : claims_of (xs ++ ys) ≡ claims_of xs ++ claims_of ys = flat_map-append (λ (x : Activation). x.claims) xs ys in
    let h = ap (sum_by (λ (c : Claim). c.horizon)) cs ∙ sum_by-append (λ (c : Claim). c.horizon) (claims_of xs) (claims_of ys) in
    let b = ap (sum_by (λ (c : Claim). c.skip + c.burst)) cs ∙ sum_by-append (λ (c : Claim). c.skip + c.burst) (claims_of xs) (claims_of ys) in
    let few = l.activations_are_few in
    let positions = l.positions_are_few in
    let cursors = l.cursors_are_small in
    record {
      activations_are_few = omega (arith, length-append xs ys);
      claims_are_lawful = All-front (IsLawfulClaim n) (claims_of xs) (claims_of ys) (subst (All (IsLawfulClaim n)) cs l.claims_are_lawful);
      positions_are_few = omega (arith, h);
      cursors_are_small = omega (arith, b);
    }

-- ---- sums over some of the claims

pub read_cursor-le : (s : ℕ) (cs : List Claim) → read_cursor s cs ≤ sum_by (λ (c : Claim). c.skip + c.burst) cs
read_cursor-le s cs = omega (arith, sum_by-filter_both (is_read_of s) (λ c. not (is_read_of s c)) (λ c. refl) (λ (c : Claim). c.skip + c.burst) cs)

pub write_cursor-le : (s : ℕ) (cs : List Claim) → write_cursor s cs ≤ sum_by (λ (c : Claim). c.horizon) cs
write_cursor-le s cs = omega (arith, sum_by-filter_both (is_write_to s) (λ c. not (is_write_to s c)) (λ c. refl) (λ (c : Claim). c.horizon) cs)

pub filtered-le : (p : Claim → Bool) (cs : List Claim) → sum_by (λ (c : Claim). c.horizon) (filter p cs) ≤ sum_by (λ (c : Claim). c.horizon) cs
filtered-le p cs = omega (arith, sum_by-filter_both p (λ c. not (p c)) (λ c. refl) (λ (c : Claim). c.horizon) cs)

-- each claim covers a position
pub length-claims-le : (n : ℕ) (cs : List Claim) → All (IsLawfulClaim n) cs → length cs ≤ sum_by (λ (c : Claim). c.horizon) cs
length-claims-le n [] h = omega arith
length-claims-le n (c ∷ cs) h =
    let one = (All-head (IsLawfulClaim n) c cs h).smallest in
    let rest = length-claims-le n cs (All-tail (IsLawfulClaim n) c cs h) in
    omega (arith, sum_by-cons (λ (d : Claim). d.horizon) c cs)

-- ---- room for one more claim

pub has_room : (layout : Layout) (ws : List Window) (claim : Claim) (rest : List Claim) → IsOfWindows layout ws → All (IsLawfulClaim (length layout.writers)) (claims_in ws ++ claim ∷ rest)
    → sum_by (λ (c : Claim). c.horizon) (claims_in ws ++ claim ∷ rest) ≤ 4194304 → sum_by (λ (c : Claim). c.skip + c.burst) (claims_in ws ++ claim ∷ rest) < 2 ^ 62 → HasRoom layout claim
has_room layout ws claim rest of lawful positions cursors =
    let cs = claims_in ws in
    let n = length layout.writers in
    let here : IsLawfulClaim n claim = subst (IsLawfulClaim n) (ap (λ k. get_or (cs ++ claim ∷ rest) k claim) (let e : length cs ≡ length cs + 0 = omega arith in e) ∙ get_or-append-add cs (claim ∷ rest) 0 claim) (lawful (length cs) claim (omega (arith, length-append cs (claim ∷ rest)))) in
    let exists = here.stream_exists in
    let h = sum_by-append (λ (c : Claim). c.horizon) cs (claim ∷ rest) in
    let h' = sum_by-cons (λ (c : Claim). c.horizon) claim rest in
    let b = sum_by-append (λ (c : Claim). c.skip + c.burst) cs (claim ∷ rest) in
    let b' = sum_by-cons (λ (c : Claim). c.skip + c.burst) claim rest in
    let count = length-claims-le n cs (All-front (IsLawfulClaim n) cs (claim ∷ rest) lawful) in
    let spans : length layout.spans ≡ length cs = ap length of.spans ∙ length-map ws span_of ∙ sym (length-map ws (λ (w : Window). w.claim)) in
    record {
      stream_exists = exists;
      cursors = record {
        read_cursor_exists = omega (arith, exists, ap length of.reads ∙ length-map-range_with_len (λ s. read_cursor s cs) 0 n);
        write_cursor_exists = omega (arith, exists, ap length of.writes ∙ length-map-range_with_len (λ s. write_cursor s cs) 0 n);
        read_cursor_fits = omega (arith, read_at layout ws of claim exists, read_cursor-le claim.stream cs, b, b');
        write_cursor_fits = omega (arith, write_at layout ws of claim exists, write_cursor-le claim.stream cs, h, h');
      };
      spans_are_few = omega (arith, spans, count, h);
    }
