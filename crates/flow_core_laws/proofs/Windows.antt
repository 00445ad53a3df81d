-- Each window by its activation and claim, and that no two write claims meet.
use Rattle.std.proofs.Common.{◌≡◌, ℕ, zero, suc, ◌+◌, ◌-◌, ◌<◌, ◌≤◌, List, [], ◌∷◌, ◌++◌, Some, None, Bool, true, cond, length, get_or, take, drop, refl, sym, ap, ◌∙◌, ◌⊎◌, inl, inr, arith}
use Rattle.std.specs.Prelude.{slice_get, filter, sum_by, IsTrue, ◌&&◌, ◌==◌, nat_le, nat_lt, option_and_then}
use Rattle.std.specs.Option.{option_map_or}
use Rattle.std.specs.List.{flat_map, range_with_len, position_or_len}
use Rattle.std.proofs.Math.Seq.{take-append-add, take-add}
use Rattle.std.proofs.lemmas.Bool.{cases_lt, cases_order, and_parts, eqb-true, lt-ltb, le-ltb}
use Rattle.std.proofs.lemmas.Bool.Decides.{nat_tests}
use Rattle.std.proofs.lemmas.Grind.{flat_map-append}
use Rattle.std.proofs.lemmas.List.{append-nil, append_assoc, take-append-le, take-append-drop, take_more, take_all, length-append}
use Rattle.std.proofs.lemmas.List.Elements.{filter-append}
use Rattle.std.proofs.lemmas.List.FromFn.{get_or-map-range_with_len, length-map-range_with_len}
use Rattle.std.proofs.lemmas.List.Sums.{sum_by-append}
use Rattle.std.proofs.lemmas.Option.{slice_get_within, get_or_from_slice_get, slice_get-get_or, slice_get_past}
use Rattle.std.proofs.lemmas.List.Folds.{find_at}
use Rattle.flow_core_laws.specs.declared.claim.Claim.{Claim}
use Rattle.flow_core_laws.specs.declared.activation.Activation.{Activation}
use Rattle.flow_core_laws.specs.FirstPosition.{is_write_to, read_cursor, write_cursor, first_position}
use Rattle.flow_core_laws.specs.Window.{Window, window_of, windows_behind, windows_of, windows, claims_of, claims_at, claim_at, no_claim, offset_after, is_written_by, producer, producer_number}
use Rattle.flow_core_laws.proofs.Sources.{find_only}
use Rattle.flow_core_laws.proofs.Stretches.{flat_map-range_more, slice_get-append_left, slice_get-append_right, stands_in, stands_at}

-- the claims of the first activations, and of one more
pub claims_of-take_more : (activations : List Activation) (a : ℕ) → claims_of (take (a + 1) activations) ≡ claims_of (take a activations) ++ claims_at activations a
claims_of-take_more [] a = ap claims_of (take_nil (a + 1)) ∙ sym (ap (λ xs. claims_of xs ++ []) (take_nil a))
  where
    take_nil : (n : ℕ) → take {A = Activation} n [] ≡ []
    take_nil zero = refl
    take_nil (suc n) = refl
claims_of-take_more (x ∷ xs) zero = ap (λ k. claims_of (take k (x ∷ xs))) (let e : 0 + 1 ≡ 1 = omega arith in e) ∙ append-nil x.claims
claims_of-take_more (x ∷ xs) (suc a) =
    ap (λ k. claims_of (take k (x ∷ xs))) (let e : suc a + 1 ≡ suc (a + 1) = omega arith in e)
    ∙ ap (λ cs. x.claims ++ cs) (claims_of-take_more xs a)
    ∙ sym (append_assoc x.claims (claims_of (take a xs)) (claims_at xs a))

-- the claims of an activation stand behind those of the activations before it
pub claims_split : (activations : List Activation) (a : ℕ) → claims_of activations ≡ claims_of (take a activations) ++ claims_at activations a ++ claims_of (drop (a + 1) activations)
claims_split activations a =
    ap claims_of (sym (take-append-drop (a + 1) activations))
    ∙ flat_map-append (λ (x : Activation). x.claims) (take (a + 1) activations) (drop (a + 1) activations)
    ∙ ap (λ cs. cs ++ claims_of (drop (a + 1) activations)) (claims_of-take_more activations a)

pub length-windows_behind : (a : ℕ) (earlier claims : List Claim) → length (windows_behind a earlier claims) ≡ length claims
length-windows_behind a earlier claims = length-map-range_with_len (window_of a earlier claims) 0 (length claims)

-- the windows before an activation are as many as the claims
pub length-windows_before : (activations : List Activation) (a : ℕ) → length (flat_map (windows_of activations) (range_with_len 0 a)) ≡ length (claims_of (take a activations))
length-windows_before activations zero = refl
length-windows_before activations (suc a) =
    let n : suc a ≡ a + 1 = omega arith in
    let more : flat_map (windows_of activations) (range_with_len 0 (suc a)) ≡ flat_map (windows_of activations) (range_with_len 0 a) ++ windows_of activations a = ap (λ k. flat_map (windows_of activations) (range_with_len 0 k)) n ∙ flat_map-range_more (windows_of activations) 0 a ∙ ap (λ k. flat_map (windows_of activations) (range_with_len 0 a) ++ windows_of activations k) (let z : 0 + a ≡ a = omega arith in z) in
    let l = ap length more ∙ length-append (flat_map (windows_of activations) (range_with_len 0 a)) (windows_of activations a) in
    let here = length-windows_behind a (claims_of (take a activations)) (claims_at activations a) in
    let rest = length-windows_before activations a in
    let r = ap length (ap (λ k. claims_of (take k activations)) n ∙ claims_of-take_more activations a) ∙ length-append (claims_of (take a activations)) (claims_at activations a) in
    omega (arith, l, here, rest, r)

pub length-windows : (activations : List Activation) → length (windows activations) ≡ length (claims_of activations)
unfolding windows
length-windows activations = length-windows_before activations (length activations) ∙ ap (λ xs. length (claims_of xs)) (take_all (length activations) activations (omega arith))

-- the claims of an activation that is there
pub claims_at-slice_get : (activations : List Activation) (a : ℕ) (x : Activation) → slice_get activations a ≡ Some x → claims_at activations a ≡ x.claims
claims_at-slice_get activations a x h = ap (λ o. option_map_or (λ (y : Activation). y.claims) o []) h

-- The window of a number: the activation and the claim to which it belongs.
pub record IsWindow (activations : List Activation) (i : ℕ) (w : Window) : Type 0 where
  pub a : ℕ
  pub k : ℕ
  pub exists : a < length activations
  pub within : k < length (claims_at activations a)
  pub is : w ≡ window_of a (claims_of (take a activations)) (claims_at activations a) k
  pub behind : i ≡ length (claims_of (take a activations)) + k

pub is_window : (activations : List Activation) (i : ℕ) (w : Window) → slice_get (windows activations) i ≡ Some w → IsWindow activations i w
unfolding windows
is_window activations i w h =
    let s = stands_in (windows_of activations) 0 (length activations) i w h in
    let cs = claims_at activations s.part in
    let f = window_of s.part (claims_of (take s.part activations)) cs in
    let within : s.place < length cs = let l = slice_get_within (windows_of activations s.part) s.place w s.at in omega (arith, l, length-map-range_with_len f 0 (length cs)) in
    let before = ap (λ n. length (flat_map (windows_of activations) (range_with_len 0 n))) (let z : s.part - 0 ≡ s.part = omega arith in z) ∙ length-windows_before activations s.part in
    record {
      a = s.part;
      k = s.place;
      exists = let e = s.high in omega arith;
      within = within;
      is = sym (get_or_from_slice_get (windows_of activations s.part) s.place w w s.at) ∙ get_or-map-range_with_len f 0 (length cs) s.place s.place w within (omega arith);
      behind = let b = s.behind in omega arith;
    }

-- claim k of activation a has its window behind those of the claims before it
pub window_stands : (activations : List Activation) (a k : ℕ) (x : Activation) (c : Claim) → slice_get activations a ≡ Some x → slice_get x.claims k ≡ Some c → slice_get (windows activations) (length (claims_of (take a activations)) + k) ≡ Some (record { activation = a; claim = c; first = first_position (claims_of (take a activations) ++ take k x.claims) c; offset = offset_after (take k x.claims) c })
unfolding windows
window_stands activations a k x c a_is k_is =
    let earlier = claims_of (take a activations) in
    let cs : claims_at activations a ≡ x.claims = claims_at-slice_get activations a x a_is in
    let within : k < length x.claims = slice_get_within x.claims k c k_is in
    let d : claim_at x.claims k ≡ c = get_or_from_slice_get x.claims k c no_claim k_is in
    let f = window_of a earlier x.claims in
    let w : Window = record { activation = a; claim = c; first = first_position (earlier ++ take k x.claims) c; offset = offset_after (take k x.claims) c } in
    let is : f k ≡ w = ap (λ (e : Claim). record { activation = a; claim = e; first = first_position (earlier ++ take k x.claims) e; offset = offset_after (take k x.claims) e }) d in
    let at : slice_get (windows_of activations a) k ≡ Some w =
    ap (λ ds. slice_get (windows_behind a earlier ds) k) cs
    ∙ slice_get-get_or (windows_behind a earlier x.claims) k w (omega (arith, length-map-range_with_len f 0 (length x.claims)))
    ∙ ap Some (get_or-map-range_with_len f 0 (length x.claims) k k w within (omega arith) ∙ is) in
    let before = ap (λ n. length (flat_map (windows_of activations) (range_with_len 0 n))) (let z : a - 0 ≡ a = omega arith in z) ∙ length-windows_before activations a in
    ap (λ n. slice_get (flat_map (windows_of activations) (range_with_len 0 (length activations))) (n + k)) (sym before)
    ∙ stands_at (windows_of activations) 0 (length activations) a k w (omega arith) (let l = slice_get_within activations a x a_is in omega arith) at

-- a window stands where its claim does, and begins after all the claims before it
pub record StandsAt (claims : List Claim) (i : ℕ) (w : Window) : Type 0 where
  pub is_claim : slice_get claims i ≡ Some w.claim
  pub begins : w.first ≡ first_position (take i claims) w.claim

-- the window of a number, by all claims before it
pub window_at : (activations : List Activation) (i : ℕ) (w : Window) → slice_get (windows activations) i ≡ Some w → StandsAt (claims_of activations) i w
window_at activations i w h =
    let s = is_window activations i w h in
    let earlier = claims_of (take s.a activations) in
    let cs = claims_at activations s.a in
    let rest = claims_of (drop (s.a + 1) activations) in
    let split : claims_of activations ≡ earlier ++ (cs ++ rest) = claims_split activations s.a ∙ append_assoc earlier cs rest in
    let claim : w.claim ≡ claim_at cs s.k = ap (λ (v : Window). v.claim) s.is in
    let within = s.within in
    let before : take i (claims_of activations) ≡ earlier ++ take s.k cs =
    ap (λ n. take n (claims_of activations)) s.behind ∙ ap (take (length earlier + s.k)) split ∙ take-append-add earlier (cs ++ rest) s.k ∙ ap (λ ds. earlier ++ ds) (take-append-le s.k cs rest (omega arith)) in
    record {
      is_claim = ap (slice_get (claims_of activations)) s.behind ∙ ap (λ ds. slice_get ds (length earlier + s.k)) split ∙ slice_get-append_right earlier (cs ++ rest) s.k ∙ slice_get-append_left cs rest s.k within ∙ slice_get-get_or cs s.k no_claim within ∙ ap Some (sym claim);
      begins = ap (λ (v : Window). v.first) s.is ∙ ap (first_position (earlier ++ take s.k cs)) (sym claim) ∙ ap (λ ds. first_position ds w.claim) (sym before);
    }

-- how far the write cursor has moved, over joined lists
pub write_cursor-append : (s : ℕ) (xs ys : List Claim) → write_cursor s (xs ++ ys) ≡ write_cursor s xs + write_cursor s ys
write_cursor-append s xs ys = ap (sum_by (λ (c : Claim). c.horizon)) (filter-append (is_write_to s) xs ys) ∙ sum_by-append (λ (c : Claim). c.horizon) (filter (is_write_to s) xs) (filter (is_write_to s) ys)

-- what it means that a window writes an element
pub record Writes (s p : ℕ) (w : Window) : Type 0 where
  pub on_stream : is_write_to s w.claim ≡ true
  pub from : w.first ≤ p
  pub to : p < w.first + w.claim.horizon

pub written : (s p : ℕ) (w : Window) → IsTrue (is_written_by s p w) → Writes s p w
written s p w h =
    let outer = and_parts (is_write_to s w.claim && nat_le w.first p) (nat_lt p (w.first + w.claim.horizon)) h in
    let inner = and_parts (is_write_to s w.claim) (nat_le w.first p) outer.0 in
    let low = inner.1 in
    let high = outer.1 in
    record { on_stream = inner.0; from = grind (arith, nat_tests); to = grind (arith, nat_tests) }

-- the first position of a write claim
pub first_of_write : (s : ℕ) (earlier : List Claim) (c : Claim) → is_write_to s c ≡ true → first_position earlier c ≡ write_cursor s earlier
first_of_write s earlier c h =
    let parts = and_parts c.write (c.stream == s) h in
    ap (λ (b : Bool). cond b (write_cursor c.stream earlier) (c.skip + read_cursor c.stream earlier)) parts.0 ∙ ap (λ (t : ℕ). write_cursor t earlier) (eqb-true c.stream s parts.1)

-- a write claim moves the cursor by its horizon
pub write_cursor-one : (s : ℕ) (c : Claim) → is_write_to s c ≡ true → write_cursor s (c ∷ []) ≡ c.horizon
write_cursor-one s c h = ap (λ (b : Bool). sum_by (λ (d : Claim). d.horizon) (cond b (c ∷ []) [])) h ∙ (let e : 0 + c.horizon ≡ c.horizon = omega arith in e)

-- of two write claims on a stream the later one begins behind the earlier one
pub apart : (activations : List Activation) (s i j : ℕ) (v w : Window) → slice_get (windows activations) i ≡ Some v → slice_get (windows activations) j ≡ Some w → is_write_to s v.claim ≡ true → is_write_to s w.claim ≡ true → i < j → v.first + v.claim.horizon ≤ w.first
apart activations s i j v w v_at w_at v_writes w_writes lt =
    let cs = claims_of activations in
    let p = window_at activations i v v_at in
    let q = window_at activations j w w_at in
    let begin_v : v.first ≡ write_cursor s (take i cs) = p.begins ∙ first_of_write s (take i cs) v.claim v_writes in
    let begin_w : w.first ≡ write_cursor s (take j cs) = q.begins ∙ first_of_write s (take j cs) w.claim w_writes in
    let within : i < length cs = slice_get_within cs i v.claim p.is_claim in
    let at : get_or cs i v.claim ≡ v.claim = get_or_from_slice_get cs i v.claim v.claim p.is_claim in
    let next : take (i + 1) cs ≡ take i cs ++ v.claim ∷ [] = take_more cs i v.claim within ∙ ap (λ (c : Claim). take i cs ++ c ∷ []) at in
    let rest : take j cs ≡ take (i + 1) cs ++ take (j - (i + 1)) (drop (i + 1) cs) = ap (λ (k : ℕ). take k cs) (let e : j ≡ i + 1 + (j - (i + 1)) = omega arith in e) ∙ take-add (i + 1) (j - (i + 1)) cs in
    let whole : write_cursor s (take j cs) ≡ write_cursor s (take (i + 1) cs) + write_cursor s (take (j - (i + 1)) (drop (i + 1) cs)) = ap (write_cursor s) rest ∙ write_cursor-append s (take (i + 1) cs) (take (j - (i + 1)) (drop (i + 1) cs)) in
    let one : write_cursor s (take (i + 1) cs) ≡ write_cursor s (take i cs) + write_cursor s (v.claim ∷ []) = ap (write_cursor s) next ∙ write_cursor-append s (take i cs) (v.claim ∷ []) in
    let h : write_cursor s (v.claim ∷ []) ≡ v.claim.horizon = write_cursor-one s v.claim v_writes in
    omega (arith, begin_v, begin_w, whole, one, h)

-- no two write claims cover one position
pub one_writer_of : (activations : List Activation) (stream position i j : ℕ) (v w : Window) → slice_get (windows activations) i ≡ Some v → slice_get (windows activations) j ≡ Some w → IsTrue (is_written_by stream position v) → IsTrue (is_written_by stream position w) → i ≡ j
one_writer_of activations s p i j v w v_at w_at v_writes w_writes = by_order (cases_order i j) (written s p v v_writes) (written s p w w_writes)
  where
    by_order : (i ≡ j) ⊎ ((i < j) ⊎ (j < i)) → Writes s p v → Writes s p w → i ≡ j
    by_order (inl same) a b = same
    by_order (inr (inl lt)) a b = let d = apart activations s i j v w v_at w_at a.on_stream b.on_stream lt in let x = a.to in let y = b.from in absurd (omega arith)
    by_order (inr (inr lt)) a b = let d = apart activations s j i w v w_at v_at b.on_stream a.on_stream lt in let x = b.to in let y = a.from in absurd (omega arith)

-- the write claim that covers a position is its producer
pub producer_of : (activations : List Activation) (stream position i : ℕ) (w : Window) → slice_get (windows activations) i ≡ Some w → IsTrue (is_written_by stream position w) → producer activations stream position ≡ Some w
producer_of activations stream position i w at writes = find_only (is_written_by stream position) (windows activations) i w at writes (λ j v v_at v_writes. one_writer_of activations stream position j i v w v_at at v_writes writes)

-- the producer is the window of its number
pub producer_by_number : (activations : List Activation) (stream position : ℕ) → producer activations stream position ≡ option_and_then (λ number. slice_get (windows activations) number) (producer_number activations stream position)
producer_by_number activations stream at = find_at (is_written_by stream at) all ∙ by_length (cases_lt first (length all))
  where
    all : List Window
    all = windows activations

    first : ℕ
    first = position_or_len (is_written_by stream at) (windows activations)

    by_length : (first < length all) ⊎ (length all ≤ first) → slice_get (windows activations) (position_or_len (is_written_by stream at) (windows activations)) ≡ option_and_then (λ number. slice_get (windows activations) number) (producer_number activations stream at)
    by_length (inl lt) = sym (ap (λ b. option_and_then (λ number. slice_get (windows activations) number) (cond b (Some (position_or_len (is_written_by stream at) (windows activations))) None)) (lt-ltb first (length all) lt))
    by_length (inr ge) = slice_get_past (windows activations) (position_or_len (is_written_by stream at) (windows activations)) ge ∙ sym (ap (λ b. option_and_then (λ number. slice_get (windows activations) number) (cond b (Some (position_or_len (is_written_by stream at) (windows activations))) None)) (le-ltb first (length all) ge))
