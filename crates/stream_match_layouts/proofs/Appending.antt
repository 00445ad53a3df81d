-- Adding the claims of an activation, one after the other.
use Rattle.std.proofs.Common.{◌≡◌, ℕ, zero, suc, ◌+◌, ◌-◌, ◌^◌, ◌<◌, ◌≤◌, Bool, cond, List, [], ◌∷◌, ◌++◌, All, length, take, drop, map, get_or, replicate, refl, sym, ap, ◌∙◌, subst, arith, zero-add}
use Rattle.std.specs.Prelude.{sum_by}
use Rattle.std.specs.Bool.{beq}
use Rattle.std.specs.List.{range_with_len}
use Rattle.std.proofs.Math.Seq.{drop-cons}
use Rattle.std.proofs.lemmas.Grind.{flat_map-append}
use Rattle.std.proofs.lemmas.List.{append-nil, append_assoc, length-append, length-map, length-replicate, take-append-drop, take-append-le, take_all, take_more}
use Rattle.std.proofs.lemmas.List.FromFn.{length-map-range_with_len, map-range_with_len_more}
use Rattle.std.proofs.lemmas.List.Sums.{sum_by-append, sum_by_more_le}
use Rattle.flow_core_laws.specs.declared.claim.Claim.{Claim}
use Rattle.flow_core_laws.specs.declared.activation.Activation.{Activation}
use Rattle.flow_core_laws.specs.FirstPosition.{first_position}
use Rattle.flow_core_laws.specs.Window.{Window, windows, window_of, claims_of, claim_at, no_claim, offset_after}
use Rattle.flow_core_laws.proofs.Windows.{length-windows}
use Rattle.stream_match_layouts.specs.declared.cursors.Cursors.{Cursors}
use Rattle.stream_match_layouts.specs.declared.layout.Layout.{Layout}
use Rattle.stream_match_layouts.specs.Lawful.{IsLawfulClaim, AreLawful}
use Rattle.stream_match_layouts.specs.Layout.{span_of, claims_in, IsOfWindows, IsLayoutOf, starts_of}
use Rattle.stream_match_layouts.specs.Layout.{TakesMore}
use Rattle.stream_match_layouts.specs.Adding.{HasRoom, with_claim}
use Rattle.stream_match_layouts.proofs.Pushing.{map-range-same, is_of_push}
use Rattle.stream_match_layouts.proofs.Windows.{windows-push, claims_in-windows, claims_in-append, claims_in-first, first_windows, first_windows-more, alike, alike-push}
use Rattle.stream_match_layouts.proofs.Bounds.{has_room, filtered-le, length-claims-le, lawful-front}

-- the claims of one more activation
pub claims_of-push : (xs : List Activation) (x : Activation) → claims_of (xs ++ x ∷ []) ≡ claims_of xs ++ x.claims
claims_of-push xs x = flat_map-append (λ (y : Activation). y.claims) xs (x ∷ []) ∙ ap (λ cs. claims_of xs ++ cs) (append-nil x.claims)

-- the claims so far
claims_so_far : (ws : List Window) (a : ℕ) (cl : List Claim) (k : ℕ) → k ≤ length cl → claims_in (ws ++ first_windows a (claims_in ws) cl k) ≡ claims_in ws ++ take k cl
claims_so_far ws a cl k le = claims_in-append ws (first_windows a (claims_in ws) cl k) ∙ ap (λ cs. claims_in ws ++ cs) (claims_in-first a (claims_in ws) cl k le)

-- ---- the bounds at a claim

module _ (layout : Layout) (x : Activation) (t : TakesMore layout (x ∷ [])) where
  positions : sum_by (λ (c : Claim). c.horizon) (claims_of t.before) + sum_by (λ (c : Claim). c.horizon) x.claims ≤ 4194304
  positions = let l = t.lawful.positions_are_few in omega (arith, ap (sum_by (λ (c : Claim). c.horizon)) (claims_of-push t.before x) ∙ sum_by-append (λ (c : Claim). c.horizon) (claims_of t.before) x.claims)

  pub alike_fits : (b : Bool) (k : ℕ) → k < length x.claims → alike b (take k x.claims) + (claim_at x.claims k).horizon ≤ 4194304
  alike_fits b k lt = omega (arith, positions, filtered-le (λ (c : Claim). beq b c.write) (take k x.claims), sum_by_more_le (λ (c : Claim). c.horizon) x.claims k no_claim lt)

  -- there are as many activations before as the layout has starts but one
  pub length-before : length layout.starts ≡ length t.before + 1
  length-before = ap length t.is_of.starts ∙ length-map-range_with_len (λ a. length (claims_of (take a t.before))) 0 (length t.before + 1)

  pub before_few : length t.before + 1 ≤ 65536
  before_few = let f = t.lawful.activations_are_few in omega (arith, length-append t.before (x ∷ []))

  pub room_at : (now : Layout) (a k : ℕ) → k < length x.claims → length now.writers ≡ length layout.writers → ((ws : List Window) → IsOfWindows layout ws → IsOfWindows now (ws ++ first_windows a (claims_in ws) x.claims k)) → HasRoom now (claim_at x.claims k)
  room_at now a k lt streams added =
      let ws : List Window = windows t.before in
      let all = ws ++ first_windows a (claims_in ws) x.claims k in
      let c : Claim = claim_at x.claims k in
      let whole : claims_of (t.before ++ x ∷ []) ≡ claims_in all ++ c ∷ drop (suc k) x.claims =
      claims_of-push t.before x
      ∙ ap (λ cs. claims_of t.before ++ cs) (sym (take-append-drop k x.claims) ∙ ap (λ cs. take k x.claims ++ cs) (drop-cons x.claims k no_claim lt))
      ∙ sym (append_assoc (claims_of t.before) (take k x.claims) (c ∷ drop (suc k) x.claims))
      ∙ ap (λ cs. (cs ++ take k x.claims) ++ c ∷ drop (suc k) x.claims) (sym (claims_in-windows t.before))
      ∙ ap (λ cs. cs ++ c ∷ drop (suc k) x.claims) (sym (claims_so_far ws a x.claims k (omega arith))) in
      has_room now all c (drop (suc k) x.claims) (added ws t.is_of.of_windows)
      (subst (λ n. All (IsLawfulClaim n) (claims_in all ++ c ∷ drop (suc k) x.claims)) (sym streams) (subst (All (IsLawfulClaim (length layout.writers))) whole t.lawful.claims_are_lawful))
      (subst (λ cs. sum_by (λ (d : Claim). d.horizon) cs ≤ 4194304) whole t.lawful.positions_are_few)
      (subst (λ cs. sum_by (λ (d : Claim). d.skip + d.burst) cs < 2 ^ 62) whole t.lawful.cursors_are_small)

  pub spans_few : (now : Layout) (a : ℕ) → ((ws : List Window) → IsOfWindows layout ws → IsOfWindows now (ws ++ first_windows a (claims_in ws) x.claims (length x.claims))) → length now.writers ≡ length layout.writers → length now.spans ≤ 4194304
  spans_few now a added streams =
      let ws : List Window = windows t.before in
      let all = ws ++ first_windows a (claims_in ws) x.claims (length x.claims) in
      let of = added ws t.is_of.of_windows in
      let cs = claims_so_far ws a x.claims (length x.claims) (omega arith) ∙ ap (λ ds. claims_in ws ++ ds) (take_all (length x.claims) x.claims (omega arith)) ∙ ap (λ ds. ds ++ x.claims) (claims_in-windows t.before) ∙ sym (claims_of-push t.before x) in
      let spans : length now.spans ≡ length (claims_of (t.before ++ x ∷ [])) = ap length of.spans ∙ length-map all span_of ∙ sym (length-map all (λ (w : Window). w.claim)) ∙ ap length cs in
      let l = t.lawful.positions_are_few in
      omega (arith, spans, length-claims-le (length layout.writers) (claims_of (t.before ++ x ∷ [])) t.lawful.claims_are_lawful)

-- ---- one more claim

pub added_claim : (layout now : Layout) (a k offset : ℕ) (cl : List Claim) (claim : Claim) → claim ≡ claim_at cl k → k < length cl → claim.stream < length now.writers → offset ≡ alike claim.write (take k cl)
    → ((ws : List Window) → IsOfWindows layout ws → IsOfWindows now (ws ++ first_windows a (claims_in ws) cl k))
    → (ws : List Window) → IsOfWindows layout ws → IsOfWindows (with_claim now a claim offset) (ws ++ first_windows a (claims_in ws) cl (k + 1))
added_claim layout now a k offset cl claim is lt exists offset_is added ws of =
    let all = ws ++ first_windows a (claims_in ws) cl k in
    let w : Window = window_of a (claims_in ws) cl k in
    let at : w ≡ record { activation = a; claim = claim; first = first_position (claims_in all) claim; offset = offset } =
    ap (λ (c : Claim). record { activation = a; claim = c; first = first_position (claims_in ws ++ take k cl) c; offset = offset_after (take k cl) c }) (sym is)
    ∙ ap (λ cs. record { activation = a; claim = claim; first = first_position cs claim; offset = offset_after (take k cl) claim }) (sym (claims_so_far ws a cl k (omega arith)))
    ∙ ap (λ n. record { activation = a; claim = claim; first = first_position (claims_in all) claim; offset = n }) (sym offset_is) in
    subst (IsOfWindows (with_claim now a claim offset)) (append_assoc ws (first_windows a (claims_in ws) cl k) (w ∷ []) ∙ ap (λ vs. ws ++ vs) (sym (first_windows-more a (claims_in ws) cl k)))
    (is_of_push now all (added ws of) claim exists a offset w at)

-- the horizons of the claims so far
pub alike-more : (b : Bool) (cl : List Claim) (k n m : ℕ) (claim : Claim) → k < length cl → claim ≡ claim_at cl k → n ≡ alike b (take k cl) → m ≡ n + cond (beq b claim.write) claim.horizon 0 → m ≡ alike b (take (k + 1) cl)
alike-more b cl k n m claim lt is n_is m_is =
    let e : alike b (take (k + 1) cl) ≡ alike b (take k cl) + cond (beq b (claim_at cl k).write) (claim_at cl k).horizon 0 = ap (alike b) (take_more cl k no_claim lt) ∙ alike-push b (take k cl) (claim_at cl k) in
    let f : cond (beq b claim.write) claim.horizon 0 ≡ cond (beq b (claim_at cl k).write) (claim_at cl k).horizon 0 = ap (λ (c : Claim). cond (beq b c.write) c.horizon 0) is in
    omega (arith, e, f, n_is, m_is)

-- ---- the whole activation

starts-push : (before : List Activation) (x : Activation) → starts_of (before ++ x ∷ []) ≡ starts_of before ++ length (claims_of (before ++ x ∷ [])) ∷ []
starts-push before x =
    let all = before ++ x ∷ [] in
    let n = length before + 1 in
    let f : ℕ → ℕ = λ a. length (claims_of (take a all)) in
    let len = length-append before (x ∷ []) in
    ap (λ m. map f (range_with_len 0 (m + 1))) len
    ∙ map-range_with_len_more f 0 n n (zero-add n)
    ∙ ap (λ xs. xs ++ f n ∷ []) (map-range-same f (λ a. length (claims_of (take a before))) 0 n (λ k l u. ap (λ ys. length (claims_of ys)) (take-append-le k before (x ∷ []) (omega arith))))
    ∙ ap (λ ys. starts_of before ++ length (claims_of ys) ∷ []) (take_all n all (omega (arith, len)))

pub added_activation : (layout now : Layout) (x : Activation) (frame : ℕ) (starts : List ℕ) → frame ≡ length layout.starts - 1 → starts ≡ layout.starts ++ length now.spans ∷ []
    → ((ws : List Window) → IsOfWindows layout ws → IsOfWindows now (ws ++ first_windows frame (claims_in ws) x.claims (length x.claims)))
    → (before : List Activation) → IsLayoutOf layout before
    → IsLayoutOf (record { spans = now.spans; starts = starts; writers = now.writers; cursors = now.cursors; input_len = now.input_len }) (before ++ x ∷ [])
added_activation layout now x frame starts frame_is starts_is added before is_of =
    let count : length layout.starts ≡ length before + 1 = ap length is_of.starts ∙ length-map-range_with_len (λ a. length (claims_of (take a before))) 0 (length before + 1) in
    let f : frame ≡ length before = omega arith in
    let ws : windows before ++ first_windows frame (claims_in (windows before)) x.claims (length x.claims) ≡ windows (before ++ x ∷ []) =
    ap (λ cs. windows before ++ first_windows frame cs x.claims (length x.claims)) (claims_in-windows before)
    ∙ ap (λ n. windows before ++ first_windows n (claims_of before) x.claims (length x.claims)) f
    ∙ sym (windows-push before x) in
    let of : IsOfWindows now (windows (before ++ x ∷ [])) = subst (IsOfWindows now) ws (added (windows before) is_of.of_windows) in
    let spans : length now.spans ≡ length (claims_of (before ++ x ∷ [])) = ap length of.spans ∙ length-map (windows (before ++ x ∷ [])) span_of ∙ length-windows (before ++ x ∷ []) in
    record {
      of_windows = record { spans = of.spans; writers = of.writers; reads = of.reads; writes = of.writes };
      starts = starts_is ∙ ap (λ xs. xs ++ length now.spans ∷ []) is_of.starts ∙ ap (λ n. starts_of before ++ n ∷ []) spans ∙ sym (starts-push before x);
    }

-- ---- the next activation of several

pub take_next : (before acts : List Activation) (k : ℕ) (x : Activation) → k < length acts → x ≡ get_or acts k x → (before ++ take k acts) ++ x ∷ [] ≡ before ++ take (k + 1) acts
take_next before acts k x lt is = append_assoc before (take k acts) (x ∷ []) ∙ ap (λ ys. before ++ ys) (ap (λ y. take k acts ++ y ∷ []) is ∙ sym (take_more acts k x lt))

pub takes_next : (layout now : Layout) (acts : List Activation) (k : ℕ) (x : Activation) → TakesMore layout acts → k < length acts → x ≡ get_or acts k x → length now.writers ≡ length layout.writers
    → ((before : List Activation) → IsLayoutOf layout before → IsLayoutOf now (before ++ take k acts)) → TakesMore now (x ∷ [])
takes_next layout now acts k x t lt is streams added =
    let whole : t.before ++ acts ≡ ((t.before ++ take k acts) ++ x ∷ []) ++ drop (k + 1) acts =
    ap (λ ys. t.before ++ ys) (sym (take-append-drop (k + 1) acts)) ∙ sym (append_assoc t.before (take (k + 1) acts) (drop (k + 1) acts)) ∙ ap (λ ys. ys ++ drop (k + 1) acts) (sym (take_next t.before acts k x lt is)) in
    record {
      before = t.before ++ take k acts;
      is_of = added t.before t.is_of;
      lawful = subst (λ n. AreLawful n ((t.before ++ take k acts) ++ x ∷ [])) (sym streams) (lawful-front (length layout.writers) ((t.before ++ take k acts) ++ x ∷ []) (drop (k + 1) acts) (subst (AreLawful (length layout.writers)) whole t.lawful));
    }

-- ---- the layout of no activation

pub replicate-is : {X : Type 0} (a n : ℕ) (x : X) → replicate n x ≡ map (λ k. x) (range_with_len a n)
replicate-is a zero x = refl
replicate-is a (suc n) x = ap (λ xs. x ∷ xs) (replicate-is (a + 1) n x)

pub is_empty : (layout : Layout) (n : ℕ) → layout.spans ≡ [] → layout.starts ≡ 0 ∷ [] → layout.writers ≡ replicate n []
    → layout.cursors ≡ record { reads = replicate n 0; writes = replicate n 0 } → IsLayoutOf layout []
unfolding windows
is_empty layout n spans starts writers cursors =
    let len : length layout.writers ≡ n = ap length writers ∙ length-replicate n [] in
    record {
      of_windows = record {
        spans = spans;
        writers = writers ∙ replicate-is 0 n [] ∙ ap (λ m. map (λ k. []) (range_with_len 0 m)) (sym len);
        reads = ap (λ (c : Cursors). c.reads) cursors ∙ replicate-is 0 n 0 ∙ ap (λ m. map (λ k. 0) (range_with_len 0 m)) (sym len);
        writes = ap (λ (c : Cursors). c.writes) cursors ∙ replicate-is 0 n 0 ∙ ap (λ m. map (λ k. 0) (range_with_len 0 m)) (sym len);
      };
      starts = starts;
    }
