-- Where frames and later activations read.
use Rattle.std.proofs.Common.{◌≡◌, ℕ, zero, suc, ◌+◌, ◌-◌, ◌<◌, ◌≤◌, List, [], ◌∷◌, ◌++◌, Some, Bool, true, false, cond, map, length, take, refl, sym, ap, ◌∙◌, subst, ◌⊎◌, inl, inr, arith}
use Rattle.std.specs.Prelude.{filter, fold, sum_by, min, not, ◌==◌, ◌&&◌, Contains}
use Rattle.std.specs.List.{range_with_len, flat_map}
use Rattle.std.proofs.lemmas.Bool.{cases_lt, eq-eqb, eqb-true, and_parts}
use Rattle.std.proofs.lemmas.Grind.{flat_map-append}
use Rattle.std.proofs.lemmas.List.Elements.{filter-append}
use Rattle.std.proofs.lemmas.List.Sums.{sum_by-append}
use Rattle.std.proofs.lemmas.Option.{slice_get-get_or}
use Rattle.std.proofs.Math.Seq.{take-append-add}
use Rattle.flow_core_laws.specs.declared.claim.Claim.{Claim}
use Rattle.flow_core_laws.specs.declared.activation.Activation.{Activation}
use Rattle.flow_core_laws.specs.declared.place.Place.{Place}
use Rattle.flow_core_laws.specs.FirstPosition.{is_read_of, read_cursor, write_cursor, first_position}
use Rattle.flow_core_laws.specs.Window.{Window, window_of, windows_behind, windows_of, claims_of, claims_at, claim_at}
use Rattle.flow_core_laws.specs.Place.{places_of, input_places}
use Rattle.flow_core_epochs.specs.Epoch.{read_from}
use Rattle.flow_core_epochs.proofs.Members.{Has, of_map, in_map, of_filter, in_filter, of_flat_map, in_flat_map, has_tail}
use Rattle.flow_core_epochs.proofs.Prefixes.{take_more, claims_at_more}
use Rattle.flow_core_epochs.proofs.Written.{LiesIn, lies_in}

-- the least of numbers
fold-min_le : (b : ℕ) (xs : List ℕ) → fold min b xs ≤ b
fold-min_le b [] = omega arith
fold-min_le b (x ∷ xs) = let r = fold-min_le (min b x) xs in omega arith

fold-min_each : (b : ℕ) (xs : List ℕ) (x : ℕ) → Has xs x → fold min b xs ≤ x
fold-min_each b [] x (i, at) = absurd (cc)
fold-min_each b (y ∷ xs) x (zero, at) = let r = fold-min_le (min b y) xs in let e : y ≡ x = cc in omega arith
fold-min_each b (y ∷ xs) x (suc i, at) = fold-min_each (min b y) xs x (i, at)

fold-min_least : (n b : ℕ) (xs : List ℕ) → n ≤ b → ((x : ℕ) → Has xs x → n ≤ x) → n ≤ fold min b xs
fold-min_least n b [] le each = le
fold-min_least n b (x ∷ xs) le each = let l = each x (0, refl) in fold-min_least n (min b x) xs (omega arith) (λ y h. each y (has_tail x xs y h))

-- `read_from` is the least of the cursor and the frames' read claims
pub read_from_cursor : (activations : List Activation) (frames : List ℕ) (stream : ℕ) → read_from activations frames stream ≤ read_cursor stream (claims_of activations)
read_from_cursor activations frames stream = fold-min_le (read_cursor stream (claims_of activations)) (map (λ (w : Window). w.first) (filter (λ (w : Window). is_read_of stream w.claim) (flat_map (windows_of activations) frames)))

pub read_from_frame : (activations : List Activation) (frames : List ℕ) (stream a : ℕ) (w : Window) → Has frames a → Has (windows_of activations a) w → is_read_of stream w.claim ≡ true → read_from activations frames stream ≤ w.first
read_from_frame activations frames stream a w h at reads =
    fold-min_each (read_cursor stream (claims_of activations)) (map (λ (w : Window). w.first) (filter (λ (w : Window). is_read_of stream w.claim) (flat_map (windows_of activations) frames))) w.first (in_map (λ (w : Window). w.first) (filter (λ (w : Window). is_read_of stream w.claim) (flat_map (windows_of activations) frames)) w (in_filter (λ (w : Window). is_read_of stream w.claim) (flat_map (windows_of activations) frames) w (in_flat_map (windows_of activations) frames a w h at) reads))

pub read_from_least : (n : ℕ) (activations : List Activation) (frames : List ℕ) (stream : ℕ) → n ≤ read_cursor stream (claims_of activations) → ((a : ℕ) (w : Window) → Has frames a → Has (windows_of activations a) w → is_read_of stream w.claim ≡ true → n ≤ w.first) → n ≤ read_from activations frames stream
read_from_least n activations frames stream le each = fold-min_least n (read_cursor stream (claims_of activations)) (map (λ (w : Window). w.first) (filter (λ (w : Window). is_read_of stream w.claim) (flat_map (windows_of activations) frames))) le at
  where
    at : (x : ℕ) → Has (map (λ (w : Window). w.first) (filter (λ (w : Window). is_read_of stream w.claim) (flat_map (windows_of activations) frames))) x → n ≤ x
    at x h =
        let (w, there, same) = of_map (λ (w : Window). w.first) (filter (λ (w : Window). is_read_of stream w.claim) (flat_map (windows_of activations) frames)) x h in
        let f = of_filter (λ (w : Window). is_read_of stream w.claim) (flat_map (windows_of activations) frames) w there in
        let (a, in_frames, in_windows) = of_flat_map (windows_of activations) frames w f.0 in
        let l = each a w in_frames in_windows f.1 in
        omega (arith, l, same)

-- how far a read cursor has moved, over joined lists
read_cursor-append : (s : ℕ) (xs ys : List Claim) → read_cursor s (xs ++ ys) ≡ read_cursor s xs + read_cursor s ys
read_cursor-append s xs ys = ap (sum_by (λ (c : Claim). c.skip + c.burst)) (filter-append (is_read_of s) xs ys) ∙ sum_by-append (λ (c : Claim). c.skip + c.burst) (filter (is_read_of s) xs) (filter (is_read_of s) ys)

claims_of-append : (xs ys : List Activation) → claims_of (xs ++ ys) ≡ claims_of xs ++ claims_of ys
claims_of-append xs ys = flat_map-append (λ (x : Activation). x.claims) xs ys

pub cursor_grows : (s : ℕ) (xs ys : List Activation) → read_cursor s (claims_of xs) ≤ read_cursor s (claims_of (xs ++ ys))
cursor_grows s xs ys = let e = ap (read_cursor s) (claims_of-append xs ys) ∙ read_cursor-append s (claims_of xs) (claims_of ys) in omega arith

-- the windows of an activation stay
pub windows_of_more : (activations more : List Activation) (a : ℕ) → a < length activations → windows_of (activations ++ more) a ≡ windows_of activations a
windows_of_more activations more a lt =
    ap (λ (ys : List Activation). windows_behind a (claims_of ys) (claims_at (activations ++ more) a)) (take_more activations more a (omega arith)) ∙ ap (windows_behind a (claims_of (take a activations))) (claims_at_more activations more a lt)

-- a later read claim begins at the cursor or behind
pub later_reads : (activations more : List Activation) (stream a : ℕ) (w : Window) → length activations ≤ a → Has (windows_of (activations ++ more) a) w → is_read_of stream w.claim ≡ true → read_cursor stream (claims_of activations) ≤ w.first
later_reads activations more stream a w ge h reads =
    let earlier = claims_of (take a (activations ++ more)) in
    let cs = claims_at (activations ++ more) a in
    let (k, at, same) = of_map (window_of a earlier cs) (range_with_len 0 (length cs)) w h in
    let claim : w.claim ≡ claim_at cs k = ap (λ (v : Window). v.claim) (sym same) in
    let split : take a (activations ++ more) ≡ activations ++ take (a - length activations) more = ap (λ n. take n (activations ++ more)) (let e : a ≡ length activations + (a - length activations) = omega arith in e) ∙ take-append-add activations more (a - length activations) in
    let grows = cursor_grows stream activations (take (a - length activations) more) in
    let same_cursor : read_cursor stream earlier ≡ read_cursor stream (claims_of (activations ++ take (a - length activations) more)) = ap (λ (ys : List Activation). read_cursor stream (claims_of ys)) split in
    let joined = read_cursor-append stream earlier (take k cs) in
    let first : w.first ≡ first_position (earlier ++ take k cs) w.claim = ap (λ (v : Window). v.first) (sym same) ∙ ap (first_position (earlier ++ take k cs)) (sym claim) in
    let begins : first_position (earlier ++ take k cs) w.claim ≡ w.claim.skip + read_cursor stream (earlier ++ take k cs) = first_of_read stream (earlier ++ take k cs) w.claim reads in
    omega (arith, grows, same_cursor, joined, first, begins)
  where
    not_write : (b : Bool) → not b ≡ true → b ≡ false
    not_write true e = absurd (cc)
    not_write false e = refl

    first_of_read : (s : ℕ) (earlier : List Claim) (c : Claim) → is_read_of s c ≡ true → first_position earlier c ≡ c.skip + read_cursor s earlier
    first_of_read s earlier c h =
        let parts = and_parts (not c.write) (c.stream == s) h in
        ap (λ (b : Bool). cond b (write_cursor c.stream earlier) (c.skip + read_cursor c.stream earlier)) (not_write c.write parts.0) ∙ ap (λ (t : ℕ). c.skip + read_cursor t earlier) (eqb-true c.stream s parts.1)

-- a place that an activation reads lies in one of its input windows
pub read_in : (activations : List Activation) (a : ℕ) (p : Place) → Has (input_places activations a) p → (w : Window) × (Has (windows_of activations a) w) × (is_read_of p.stream w.claim ≡ true) × (LiesIn w p)
unfolding input_places
read_in activations a p h =
    let (w, at, there) = of_flat_map places_of (filter (λ (w : Window). not w.claim.write) (windows_of activations a)) p h in
    let f = of_filter (λ (w : Window). not w.claim.write) (windows_of activations a) w at in
    let l = lies_in w p there in
    (w, f.0, ap (λ (b : Bool). b && (w.claim.stream == p.stream)) f.1 ∙ ap (λ (b : Bool). true && b) (eq-eqb w.claim.stream p.stream (sym l.stream)), l)

-- what a frame or a later activation reads lies where `read_from` says, or behind
pub reads_behind : (activations more : List Activation) (frames : List ℕ) (a : ℕ) (p : Place) → (Has frames a) ⊎ (length activations ≤ a) → Has (input_places (activations ++ more) a) p → read_from activations frames p.stream ≤ p.position
reads_behind activations more frames a p who h =
    let (w, at, reads, l) = read_in (activations ++ more) a p h in
    by_who w at reads l who (cases_lt a (length activations))
  where
    by_who : (w : Window) → Has (windows_of (activations ++ more) a) w → is_read_of p.stream w.claim ≡ true → LiesIn w p → (Has frames a) ⊎ (length activations ≤ a) → (a < length activations) ⊎ (length activations ≤ a) → read_from activations frames p.stream ≤ p.position
    by_who w at reads l who (inr ge) =
        let c = read_from_cursor activations frames p.stream in
        let d = later_reads activations more p.stream a w ge at reads in
        let e = l.from in
        omega arith
    by_who w at reads l (inr ge) (inl lt) = absurd (omega arith)
    by_who w at reads l (inl frame) (inl lt) =
        let c = read_from_frame activations frames p.stream a w frame (subst (λ (ws : List Window). Has ws w) (windows_of_more activations more a lt) at) reads in
        let e = l.from in
        omega arith

pub has_contained : {A : Type 0} (xs : List A) (x : A) → Contains xs x → Has xs x
has_contained xs x (k, lt, is) = (k, slice_get-get_or xs k x lt ∙ ap Some is)
