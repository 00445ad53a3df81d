-- How cursors move by the claims of activations.
use Rattle.std.proofs.Common.{◌≡◌, ℕ, suc, ◌+◌, ◌^◌, ◌<◌, ◌≤◌, Bool, List, [], ◌∷◌, ◌++◌, All, length, take, drop, map, get_or, replicate, refl, sym, ap, ◌∙◌, subst, arith}
use Rattle.std.specs.Prelude.{sum_by}
use Rattle.std.specs.Bool.{beq}
use Rattle.std.specs.List.{range_with_len}
use Rattle.std.specs.Option.{option_map_or}
use Rattle.std.specs.Prelude.{slice_get}
use Rattle.std.proofs.Math.Seq.{drop-cons}
use Rattle.std.proofs.lemmas.List.{append-nil, append_assoc, length-append, map-append, take-append-drop, take-append-le, take_all, take_more}
use Rattle.std.proofs.lemmas.List.Elements.{All-head, All-tail}
use Rattle.std.proofs.lemmas.List.FromFn.{length-map-range_with_len}
use Rattle.std.proofs.lemmas.List.Sums.{sum_by-append, sum_by_more_le}
use Rattle.flow_core_laws.specs.declared.claim.Claim.{Claim}
use Rattle.flow_core_laws.specs.declared.activation.Activation.{Activation}
use Rattle.flow_core_laws.specs.FirstPosition.{first_position, read_cursor, write_cursor}
use Rattle.flow_core_laws.specs.Window.{Window, claim_at, claims_of, no_claim, offset_after, window_of, windows_behind, windows_of}
use Rattle.flow_core_laws.proofs.Stretches.{slice_get-append_right}
use Rattle.stream_match_layouts.specs.declared.cursors.Cursors.{Cursors}
use Rattle.stream_match_layouts.specs.declared.layout.Layout.{Layout}
use Rattle.stream_match_layouts.specs.declared.span.Span.{Span}
use Rattle.stream_match_layouts.specs.Adding.{with_claim}
use Rattle.stream_match_layouts.specs.Cursors.{HasCursors, first_of, moved_by, span_by}
use Rattle.stream_match_layouts.specs.Lawful.{AreLawful, IsLawfulClaim}
use Rattle.stream_match_layouts.specs.Layout.{IsOfWindows, claims_in, span_of, writers_of}
use Rattle.stream_match_layouts.proofs.Appending.{claims_of-push, replicate-is, take_next}
use Rattle.stream_match_layouts.proofs.Bounds.{filtered-le, has_room, lawful-front}
use Rattle.stream_match_layouts.proofs.Pushing.{first_of-is, is_of_push, length-writers_after}
use Rattle.stream_match_layouts.proofs.Windows.{alike, claims_in-append, first_windows, first_windows-more}
use Rattle.epoch_run_portions.specs.Positions.{HasTaken, HavePassed, PassMore}
use Rattle.epoch_run_portions.specs.declared.positions.Positions.{Positions}

-- ---- lists

pub All-back : {X : Type 0} (P : X → Type 0) (xs ys : List X) → All P (xs ++ ys) → All P ys
All-back P [] ys h = h
All-back P (x ∷ xs) ys h = All-back P xs ys (All-tail P x (xs ++ ys) h)

-- ---- a layout with these cursors

abbrev window_by : Claim → Window
window_by c = record { activation = 0; claim = c; first = 0; offset = 0 }

claims_in-windows_by : (cs : List Claim) → claims_in (map window_by cs) ≡ cs
claims_in-windows_by [] = refl
claims_in-windows_by (c ∷ cs) = ap (λ ds. c ∷ ds) (claims_in-windows_by cs)

module _ (streams : ℕ) (cs : List Claim) (cursors : Cursors) (reads_are : cursors.reads ≡ map (λ s. read_cursor s cs) (range_with_len 0 streams))
    (writes_are : cursors.writes ≡ map (λ s. write_cursor s cs) (range_with_len 0 streams)) where
  abbrev ws : List Window
  ws = map window_by cs

  abbrev layout : Layout
  layout = record { spans = map span_of ws; starts = []; writers = map (writers_of ws) (range_with_len 0 streams); cursors = cursors; input_len = 0 }

  as_many : length layout.writers ≡ streams
  as_many = length-map-range_with_len (writers_of ws) 0 streams

  of : IsOfWindows layout ws
  of = record {
    spans = refl;
    writers = ap (λ n. map (writers_of ws) (range_with_len 0 n)) (sym as_many);
    reads = reads_are ∙ ap (λ ds. map (λ s. read_cursor s ds) (range_with_len 0 streams)) (sym (claims_in-windows_by cs)) ∙ ap (λ n. map (λ s. read_cursor s (claims_in ws)) (range_with_len 0 n)) (sym as_many);
    writes = writes_are ∙ ap (λ ds. map (λ s. write_cursor s ds) (range_with_len 0 streams)) (sym (claims_in-windows_by cs)) ∙ ap (λ n. map (λ s. write_cursor s (claims_in ws)) (range_with_len 0 n)) (sym as_many);
  }

  -- one more claim
  module _ (claim : Claim) (exists : claim.stream < streams) where
    there : claim.stream < length layout.writers
    there = omega (arith, exists, as_many)

    abbrev w : Window
    w = record { activation = 0; claim = claim; first = first_position (claims_in ws) claim; offset = 0 }

    next : IsOfWindows (with_claim layout 0 claim 0) (ws ++ w ∷ [])
    next = is_of_push layout ws of claim there 0 0 w refl

    claims_next : claims_in (ws ++ w ∷ []) ≡ cs ++ claim ∷ []
    claims_next = claims_in-append ws (w ∷ []) ∙ ap (λ ds. ds ++ claim ∷ []) (claims_in-windows_by cs)

    streams_next : length (with_claim layout 0 claim 0).writers ≡ streams
    streams_next = length-writers_after layout claim ∙ as_many

    pub reads_move : (moved_by cursors claim).reads ≡ map (λ s. read_cursor s (cs ++ claim ∷ [])) (range_with_len 0 streams)
    reads_move = next.reads ∙ ap (λ ds. map (λ s. read_cursor s ds) (range_with_len 0 (length (with_claim layout 0 claim 0).writers))) claims_next ∙ ap (λ n. map (λ s. read_cursor s (cs ++ claim ∷ [])) (range_with_len 0 n)) streams_next

    pub writes_move : (moved_by cursors claim).writes ≡ map (λ s. write_cursor s (cs ++ claim ∷ [])) (range_with_len 0 streams)
    writes_move = next.writes ∙ ap (λ ds. map (λ s. write_cursor s ds) (range_with_len 0 (length (with_claim layout 0 claim 0).writers))) claims_next ∙ ap (λ n. map (λ s. write_cursor s (cs ++ claim ∷ [])) (range_with_len 0 n)) streams_next

    pub begins : first_of cursors claim ≡ first_position cs claim
    begins = first_of-is layout ws of claim there ∙ ap (λ ds. first_position ds claim) (claims_in-windows_by cs)

    -- no cursor passes the end of its type, where the claims are lawful
    pub has_cursors : (rest : List Claim) → All (IsLawfulClaim streams) (cs ++ claim ∷ rest) → sum_by (λ (c : Claim). c.horizon) (cs ++ claim ∷ rest) ≤ 4194304
        → sum_by (λ (c : Claim). c.skip + c.burst) (cs ++ claim ∷ rest) < 2 ^ 62 → HasCursors cursors claim
    has_cursors rest lawful positions small =
        let same : cs ≡ claims_in ws = sym (claims_in-windows_by cs) in
        (has_room layout ws claim rest of
        (subst (λ n. All (IsLawfulClaim n) (claims_in ws ++ claim ∷ rest)) (sym as_many) (subst (λ ds. All (IsLawfulClaim streams) (ds ++ claim ∷ rest)) same lawful))
        (subst (λ ds. sum_by (λ (c : Claim). c.horizon) (ds ++ claim ∷ rest) ≤ 4194304) same positions)
        (subst (λ ds. sum_by (λ (c : Claim). c.skip + c.burst) (ds ++ claim ∷ rest) < 2 ^ 62) same small)).cursors

-- ---- the claims of an activation, one by one

-- Behind earlier claims, the first `k` of an activation were added: the cursors stand behind them, and their spans are there.
pub record HaveAdded (streams frame : ℕ) (earlier claims : List Claim) (k : ℕ) (now : Positions) : Type 0 where
  pub reads : now.cursors.reads ≡ map (λ s. read_cursor s (earlier ++ take k claims)) (range_with_len 0 streams)
  pub writes : now.cursors.writes ≡ map (λ s. write_cursor s (earlier ++ take k claims)) (range_with_len 0 streams)
  pub spans : now.spans.items ≡ map span_of (first_windows frame earlier claims k)

pub length-reads : (streams : ℕ) (passed : List Activation) (positions : Positions) → HavePassed streams passed positions → length positions.cursors.reads ≡ streams
length-reads streams passed positions h = ap length h.reads ∙ length-map-range_with_len (λ s. read_cursor s (claims_of passed)) 0 streams

pub length-writes : (streams : ℕ) (passed : List Activation) (positions : Positions) → HavePassed streams passed positions → length positions.cursors.writes ≡ streams
length-writes streams passed positions h = ap length h.writes ∙ length-map-range_with_len (λ s. write_cursor s (claims_of passed)) 0 streams

module _ (streams frame : ℕ) (earlier claims : List Claim) (k : ℕ) (now : Positions) (added : HaveAdded streams frame earlier claims k now) (claim : Claim) (is : claim ≡ claim_at claims k)
    (lt : k < length claims) (exists : claim.stream < streams) where
  abbrev so_far : List Claim
  so_far = earlier ++ take k claims

  one_more : so_far ++ claim ∷ [] ≡ earlier ++ take (k + 1) claims
  one_more = append_assoc earlier (take k claims) (claim ∷ []) ∙ ap (λ cs. earlier ++ cs) (ap (λ c. take k claims ++ c ∷ []) is ∙ sym (take_more claims k no_claim lt))

  -- one more of them
  pub added_next : (offset : ℕ) (after : Positions) → offset ≡ alike claim.write (take k claims) → HasTaken now frame claim offset after → HaveAdded streams frame earlier claims (k + 1) after
  added_next offset after offset_is taken =
      let begin : first_of now.cursors claim ≡ first_position so_far claim = begins streams so_far now.cursors added.reads added.writes claim exists in
      let span : span_by now.cursors frame claim offset ≡ span_of (window_of frame earlier claims k) =
      ap (λ n. record { frame = frame; stream = claim.stream; write = claim.write; first = n; count = claim.horizon; offset = offset }) begin
      ∙ ap (λ n. record { frame = frame; stream = claim.stream; write = claim.write; first = first_position so_far claim; count = claim.horizon; offset = n }) offset_is
      ∙ ap (λ (c : Claim). record { frame = frame; stream = c.stream; write = c.write; first = first_position so_far c; count = c.horizon; offset = offset_after (take k claims) c }) is in
      record {
        reads = ap (λ (c : Cursors). c.reads) taken.cursors ∙ reads_move streams so_far now.cursors added.reads added.writes claim exists ∙ ap (λ cs. map (λ s. read_cursor s cs) (range_with_len 0 streams)) one_more;
        writes = ap (λ (c : Cursors). c.writes) taken.cursors ∙ writes_move streams so_far now.cursors added.reads added.writes claim exists ∙ ap (λ cs. map (λ s. write_cursor s cs) (range_with_len 0 streams)) one_more;
        spans =
            taken.spans ∙ ap (λ (s : Span). now.spans.items ++ s ∷ []) span ∙ ap (λ (ss : List Span). ss ++ span_of (window_of frame earlier claims k) ∷ []) added.spans
            ∙ sym (map-append span_of (first_windows frame earlier claims k) (window_of frame earlier claims k ∷ []))
            ∙ ap (map span_of) (sym (first_windows-more frame earlier claims k));
      }

-- ---- the next activation

pub windows_of-last : (xs : List Activation) (x : Activation) → windows_of (xs ++ x ∷ []) (length xs) ≡ windows_behind (length xs) (claims_of xs) x.claims
windows_of-last xs x =
    ap (λ ys. windows_behind (length xs) (claims_of ys) (option_map_or (λ (y : Activation). y.claims) (slice_get (xs ++ x ∷ []) (length xs)) [])) (take-append-le (length xs) xs (x ∷ []) (omega arith) ∙ take_all (length xs) xs (omega arith))
    ∙ ap (λ o. windows_behind (length xs) (claims_of xs) (option_map_or (λ (y : Activation). y.claims) o [])) (ap (slice_get (xs ++ x ∷ [])) (let e : length xs ≡ length xs + 0 = omega arith in e) ∙ slice_get-append_right xs (x ∷ []) 0)

module _ (positions : Positions) (x : Activation) (more : PassMore positions (x ∷ [])) where
  abbrev cl : List Claim
  cl = x.claims

  abbrev earlier_ones : List Claim
  earlier_ones = claims_of more.passed

  all_claims : claims_of (more.passed ++ x ∷ []) ≡ earlier_ones ++ cl
  all_claims = claims_of-push more.passed x

  horizons : sum_by (λ (c : Claim). c.horizon) earlier_ones + sum_by (λ (c : Claim). c.horizon) cl ≤ 4194304
  horizons = let l = more.lawful.positions_are_few in omega (arith, ap (sum_by (λ (c : Claim). c.horizon)) all_claims ∙ sum_by-append (λ (c : Claim). c.horizon) earlier_ones cl)

  pub alike_fits : (b : Bool) (k : ℕ) → k < length cl → alike b (take k cl) + (claim_at cl k).horizon ≤ 4194304
  alike_fits b k lt = omega (arith, horizons, filtered-le (λ (c : Claim). beq b c.write) (take k cl), sum_by_more_le (λ (c : Claim). c.horizon) cl k no_claim lt)

  pub count_few : positions.count + 1 ≤ 65536
  count_few = let f = more.lawful.activations_are_few in let c = more.have_passed.count in omega (arith, f, c, length-append more.passed (x ∷ []))

  whole : (k : ℕ) → k < length cl → claims_of (more.passed ++ x ∷ []) ≡ (earlier_ones ++ take k cl) ++ claim_at cl k ∷ drop (suc k) cl
  whole k lt =
      all_claims
      ∙ ap (λ cs. earlier_ones ++ cs) (sym (take-append-drop k cl) ∙ ap (λ cs. take k cl ++ cs) (drop-cons cl k no_claim lt))
      ∙ sym (append_assoc earlier_ones (take k cl) (claim_at cl k ∷ drop (suc k) cl))

  lawful_all : (k : ℕ) → k < length cl → All (IsLawfulClaim more.streams) ((earlier_ones ++ take k cl) ++ claim_at cl k ∷ drop (suc k) cl)
  lawful_all k lt = subst (All (IsLawfulClaim more.streams)) (whole k lt) more.lawful.claims_are_lawful

  -- the streams are those of whatever was passed
  pub same_streams : (streams : ℕ) (passed : List Activation) → HavePassed streams passed positions → more.streams ≡ streams
  same_streams streams passed h = sym (length-reads more.streams more.passed positions more.have_passed) ∙ length-reads streams passed positions h

  pub stream_exists : (k : ℕ) → k < length cl → (claim_at cl k).stream < more.streams
  stream_exists k lt =
      let cs = earlier_ones ++ take k cl in
      let h = lawful_all k lt in
      (at cs (claim_at cl k) (drop (suc k) cl) h).stream_exists
    where
      at : (cs : List Claim) (c : Claim) (rest : List Claim) → All (IsLawfulClaim more.streams) (cs ++ c ∷ rest) → IsLawfulClaim more.streams c
      at cs c rest h = All-head (IsLawfulClaim more.streams) c rest (All-back (IsLawfulClaim more.streams) cs (c ∷ rest) h)

  pub cursors_at : (k : ℕ) → (lt : k < length cl) → (frame : ℕ) (now : Positions) → HaveAdded more.streams frame earlier_ones cl k now → HasCursors now.cursors (claim_at cl k)
  cursors_at k lt frame now added =
      has_cursors more.streams (earlier_ones ++ take k cl) now.cursors added.reads added.writes (claim_at cl k) (stream_exists k lt) (drop (suc k) cl) (lawful_all k lt)
      (subst (λ cs. sum_by (λ (c : Claim). c.horizon) cs ≤ 4194304) (whole k lt) more.lawful.positions_are_few)
      (subst (λ cs. sum_by (λ (c : Claim). c.skip + c.burst) cs < 2 ^ 62) (whole k lt) more.lawful.cursors_are_small)

-- before the first claim
pub none_added : (streams frame : ℕ) (passed : List Activation) (claims : List Claim) (positions now : Positions) → HavePassed streams passed positions → now.cursors.reads ≡ positions.cursors.reads → now.cursors.writes ≡ positions.cursors.writes → now.spans.items ≡ []
    → HaveAdded streams frame (claims_of passed) claims 0 now
none_added streams frame passed claims positions now h reads writes spans = record {
  reads = reads ∙ h.reads ∙ ap (λ cs. map (λ s. read_cursor s cs) (range_with_len 0 streams)) (sym (none (claims_of passed)));
  writes = writes ∙ h.writes ∙ ap (λ cs. map (λ s. write_cursor s cs) (range_with_len 0 streams)) (sym (none (claims_of passed)));
  spans = spans;
}
  where
    none : (cs : List Claim) → cs ++ take 0 claims ≡ cs
    none cs = append-nil cs

-- behind the last one
pub all_added : (streams : ℕ) (passed : List Activation) (x : Activation) (now : Positions) → now.count ≡ length passed + 1 → HaveAdded streams (length passed) (claims_of passed) x.claims (length x.claims) now → HavePassed streams (passed ++ x ∷ []) now
all_added streams passed x now count added =
    let all : claims_of passed ++ take (length x.claims) x.claims ≡ claims_of (passed ++ x ∷ []) = ap (λ cs. claims_of passed ++ cs) (take_all (length x.claims) x.claims (omega arith)) ∙ sym (claims_of-push passed x) in
    record {
      reads = added.reads ∙ ap (λ cs. map (λ s. read_cursor s cs) (range_with_len 0 streams)) all;
      writes = added.writes ∙ ap (λ cs. map (λ s. write_cursor s cs) (range_with_len 0 streams)) all;
      count = count ∙ sym (length-append passed (x ∷ []));
    }

pub spans_added : (streams : ℕ) (passed : List Activation) (x : Activation) (now : Positions) → HaveAdded streams (length passed) (claims_of passed) x.claims (length x.claims) now → now.spans.items ≡ map span_of (windows_of (passed ++ x ∷ []) (length passed))
spans_added streams passed x now added = added.spans ∙ ap (map span_of) (sym (windows_of-last passed x))

-- ---- no activation, and several

pub none_passed : (streams : ℕ) (positions : Positions) → positions.cursors ≡ record { reads = replicate streams 0; writes = replicate streams 0 } → positions.count ≡ 0 → HavePassed streams [] positions
none_passed streams positions cursors count = record {
  reads = ap (λ (c : Cursors). c.reads) cursors ∙ replicate-is 0 streams 0;
  writes = ap (λ (c : Cursors). c.writes) cursors ∙ replicate-is 0 streams 0;
  count = count;
}

pub pass_next : (positions now : Positions) (acts : List Activation) (k : ℕ) (x : Activation) → PassMore positions acts → k < length acts → x ≡ get_or acts k x
    → ((streams : ℕ) (passed : List Activation) → HavePassed streams passed positions → HavePassed streams (passed ++ take k acts) now) → PassMore now (x ∷ [])
pass_next positions now acts k x more lt is passed =
    let whole : more.passed ++ acts ≡ ((more.passed ++ take k acts) ++ x ∷ []) ++ drop (k + 1) acts =
    ap (λ ys. more.passed ++ ys) (sym (take-append-drop (k + 1) acts)) ∙ sym (append_assoc more.passed (take (k + 1) acts) (drop (k + 1) acts)) ∙ ap (λ ys. ys ++ drop (k + 1) acts) (sym (take_next more.passed acts k x lt is)) in
    record {
      streams = more.streams;
      passed = more.passed ++ take k acts;
      have_passed = passed more.streams more.passed more.have_passed;
      lawful = lawful-front more.streams ((more.passed ++ take k acts) ++ x ∷ []) (drop (k + 1) acts) (subst (AreLawful more.streams) whole more.lawful);
    }
