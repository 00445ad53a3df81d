-- Activations of a portion, one by one.
use Rattle.std.proofs.Common.{◌≡◌, ℕ, ◌+◌, ◌<◌, List, [], ◌∷◌, ◌++◌, Some, true, false, All, length, take, drop, map, get_or, sym, ap, ◌∙◌, subst, arith}
use Rattle.std.specs.Prelude.{slice_get, sum_by}
use Rattle.std.specs.List.{range_with_len}
use Rattle.std.proofs.lemmas.List.{append-nil, append_assoc, length-append, length-take-le, take-append-drop, take_all}
use Rattle.std.proofs.lemmas.List.Elements.{All-cons, All-head, All-nil, All-tail}
use Rattle.std.proofs.lemmas.List.Sums.{sum_by-append}
use Rattle.stream_match_layouts.proofs.Tallies.{sum_counts}
use Rattle.epoch_run_in_order.specs.Standing.{AreNext, IsReady, StandsApart, meaning_in}
use Rattle.epoch_run_in_order.specs.declared.streams.Streams.{Streams}
use Rattle.epoch_run_in_order_laws.specs.Apart.{HoldWritten}
use Rattle.epoch_run_in_order.specs.declared.apart.Apart.{Apart}
use Rattle.flow_core_laws.specs.declared.activation.Activation.{Activation}
use Rattle.flow_core_laws.specs.declared.claim.Claim.{Claim}
use Rattle.flow_core_laws.specs.Place.{written_count}
use Rattle.flow_core_laws.specs.Window.{Window, claims_of, windows_of}
use Rattle.flow_core_laws.proofs.Stretches.{slice_get-append_left, slice_get-append_right}
use Rattle.os_code.specs.Codes.{parts_of}
use Rattle.os_code.specs.Tasks.{Fits}
use Rattle.os_code.specs.declared.code.Code.{Code}
use Rattle.stream_match_layouts.specs.Lawful.{AreLawful, IsLawfulClaim}
use Rattle.stream_match_layouts.specs.Layout.{claims_in, span_of}
use Rattle.stream_match_layouts.specs.declared.span.Span.{Span}
use Rattle.stream_match_layouts.proofs.Appending.{claims_of-push, take_next}
use Rattle.stream_match_layouts.proofs.Bounds.{lawful-front}
use Rattle.stream_match_layouts.proofs.Windows.{claims_in-first}
use Rattle.epoch_run_portions.specs.Positions.{HavePassed, PassMore}
use Rattle.epoch_run_portions.specs.Running.{HaveRun, HaveRunSome, MayRun}
use Rattle.epoch_run_portions.specs.declared.positions.Positions.{Positions}
use Rattle.epoch_run_portions.proofs.Passing.{All-back, windows_of-last}

-- ---- the spans of an activation

on_streams : (streams : ℕ) (ws : List Window) → All (IsLawfulClaim streams) (claims_in ws) → All (λ (s : Span). s.stream < streams) (map span_of ws)
on_streams streams [] h = All-nil (λ (s : Span). s.stream < streams)
on_streams streams (w ∷ ws) h =
    All-cons (λ (s : Span). s.stream < streams) (span_of w) (map span_of ws) (All-head (IsLawfulClaim streams) w.claim (claims_in ws) h).stream_exists
    (on_streams streams ws (All-tail (IsLawfulClaim streams) w.claim (claims_in ws) h))

last_claims : (passed : List Activation) (x : Activation) → claims_in (windows_of (passed ++ x ∷ []) (length passed)) ≡ x.claims
last_claims passed x =
    ap claims_in (windows_of-last passed x) ∙ claims_in-first (length passed) (claims_of passed) x.claims (length x.claims) (omega arith) ∙ take_all (length x.claims) x.claims (omega arith)

-- ---- the next activation

module _ (code : Code) (x : Activation) (positions : Positions) (apart : Apart) (may : MayRun code (x ∷ []) positions apart) where
  pub may_pass : PassMore positions (x ∷ [])
  may_pass = record { streams = code.streams; passed = may.passed; have_passed = may.have_passed; lawful = may.lawful }

  pub fits : Fits (parts_of code) x
  fits = All-head (Fits (parts_of code)) x [] may.fit

  module _ (spans : List Span)
      (are : (streams : ℕ) (passed : List Activation) → HavePassed streams passed positions → spans ≡ map span_of (windows_of (passed ++ x ∷ []) (length passed))) where
    theirs : spans ≡ map span_of (windows_of (may.passed ++ x ∷ []) (length may.passed))
    theirs = are code.streams may.passed may.have_passed

    as_many : length may.passed ≡ apart.first + length apart.order.ends
    as_many = sym may.have_passed.count ∙ sym may.ran_to

    lawful_claims : All (IsLawfulClaim code.streams) x.claims
    lawful_claims = All-back (IsLawfulClaim code.streams) (claims_of may.passed) x.claims (subst (All (IsLawfulClaim code.streams)) (claims_of-push may.passed x) may.lawful.claims_are_lawful)

    pub is_next : AreNext (apart.first + length apart.order.ends) x spans
    is_next =
        let f = may.lawful.activations_are_few in
        let p = may.lawful.positions_are_few in
        let s = ap (sum_by (λ (c : Claim). c.horizon)) (claims_of-push may.passed x) ∙ sum_by-append (λ (c : Claim). c.horizon) (claims_of may.passed) x.claims in
        let h = ap (sum_by (λ (s : Span). s.count)) theirs ∙ sum_counts (windows_of (may.passed ++ x ∷ []) (length may.passed)) ∙ ap (sum_by (λ (c : Claim). c.horizon)) (last_claims may.passed x) in
        record {
          before = may.passed;
          as_many = as_many;
          are_theirs = theirs ∙ ap (λ n. map span_of (windows_of (may.passed ++ x ∷ []) n)) as_many;
          early = omega (arith, f, as_many, length-append may.passed (x ∷ []));
          few = omega (arith, p, s, h);
        }

    pub exist : All (λ (s : Span). s.stream < code.streams) spans
    exist = subst (All (λ (s : Span). s.stream < code.streams)) (sym theirs)
        (on_streams code.streams (windows_of (may.passed ++ x ∷ []) (length may.passed)) (subst (All (IsLawfulClaim code.streams)) (sym (last_claims may.passed x)) lawful_claims))

    -- it ran
    pub has_run : (input : List ℕ) (budget : ℕ) (after : Apart) → IsReady code after.order → after.first ≡ apart.first → length after.order.ends ≡ length apart.order.ends + 1
        → ((all before : List Activation) (from : ℕ) → length before ≡ apart.first + length apart.order.ends → slice_get all (length before) ≡ Some x
        → spans ≡ map span_of (windows_of (before ++ x ∷ []) (length before)) → StandsApart (parts_of code) all from before input budget apart.order
        → StandsApart (parts_of code) all from (before ++ x ∷ []) input budget after.order)
        → HaveRun code (x ∷ []) input budget positions apart after
    has_run input budget after ready first count ran = record {
      ready = ready;
      ran_to = let r = may.ran_to in omega (arith, first, count, r);
      stands = λ all passed h there st. subst (λ n. StandsApart (parts_of code) all n (passed ++ x ∷ []) input budget after.order) (sym first)
          (ran all passed apart.first (sym h.count ∙ sym may.ran_to) (ap (slice_get all) (let e : length passed ≡ length passed + 0 = omega arith in e) ∙ there 0 (omega arith)) (are code.streams passed h) st);
    }

  -- the portion has begun anew behind it
  pub has_begun : (now : Positions) → ((before : List Activation) → HavePassed code.streams before positions → HavePassed code.streams (before ++ x ∷ []) now)
      → (input : List ℕ) (budget : ℕ) (writes : List ℕ) (after : Apart) → writes ≡ now.cursors.writes → IsReady code after.order → after.first ≡ now.count → after.order.ends ≡ []
      → ((all before : List Activation) (bytes : List ℕ) (turns : ℕ) → length before ≡ now.count → writes ≡ map (written_count before) (range_with_len 0 code.streams)
      → StandsApart (parts_of code) all now.count before bytes turns after.order)
      → HaveRun code (x ∷ []) input budget positions apart after
  has_begun now passes input budget writes after writes_are ready first none stands =
      let n = (passes may.passed may.have_passed).count in
      let p = may.have_passed.count in
      let none_are = ap length none in
      record {
        ready = ready;
        ran_to = omega (arith, first, none_are, n, p, length-append may.passed (x ∷ []));
        stands = λ all passed h there st. subst (λ k. StandsApart (parts_of code) all k (passed ++ x ∷ []) input budget after.order) (sym first)
            (let m = passes passed h in stands all (passed ++ x ∷ []) input budget (sym m.count) (writes_are ∙ m.writes));
      }

  -- it finds not all that it reads
  pub has_stopped : (input : List ℕ) (budget : ℕ) (after : Apart) → IsReady code after.order → after.first ≡ apart.first → after.order.ends ≡ apart.order.ends → after.order.streams ≡ apart.order.streams
      → HaveRun code [] input budget positions apart after
  has_stopped input budget after ready first ends streams = record {
    ready = ready;
    ran_to = let r = may.ran_to in let e = ap length ends in omega (arith, r, first, e);
    stands = λ all passed h there st. subst (λ (xs : List Activation). StandsApart (parts_of code) all after.first xs input budget after.order) (sym (append-nil passed))
        (still all passed input budget apart after first ends streams st);
  }
    where
      still : (all passed : List Activation) (bytes : List ℕ) (turns : ℕ) (one other : Apart) → other.first ≡ one.first → other.order.ends ≡ one.order.ends → other.order.streams ≡ one.order.streams
          → StandsApart (parts_of code) all one.first passed bytes turns one.order → StandsApart (parts_of code) all other.first passed bytes turns other.order
      still all passed bytes turns one other first' ends' streams' st = subst (λ n. StandsApart (parts_of code) all n passed bytes turns other.order) (sym first') (record {
        within = st.within;
        ends_are = ends' ∙ st.ends_are;
        have_ended = st.have_ended;
        hold = subst (λ (ss : Streams). HoldWritten one.first passed bytes (meaning_in (parts_of code) all passed bytes turns) ss.elements ss.firsts) (sym streams') st.hold;
      })

-- ---- one behind the other

pub none_have : (code : Code) (input : List ℕ) (budget : ℕ) (positions : Positions) (apart : Apart) → IsReady code apart.order → apart.first + length apart.order.ends ≡ positions.count → HaveRun code [] input budget positions apart apart
none_have code input budget positions apart ready ran_to = record {
  ready = ready;
  ran_to = omega (arith, ran_to);
  stands = λ all passed h there st. subst (λ (xs : List Activation). StandsApart (parts_of code) all apart.first xs input budget apart.order) (sym (append-nil passed)) st;
}

pub behind : (code : Code) (xs ys : List Activation) (input : List ℕ) (budget : ℕ) (positions now : Positions) (apart between after : Apart) → now.count ≡ positions.count + length xs
    → HaveRun code xs input budget positions apart between → ((before : List Activation) → HavePassed code.streams before positions → HavePassed code.streams (before ++ xs) now)
    → HaveRun code ys input budget now between after → HaveRun code (xs ++ ys) input budget positions apart after
behind code xs ys input budget positions now apart between after count one passes two = record {
  ready = two.ready;
  ran_to = let r = two.ran_to in omega (arith, r, count, length-append xs ys);
  stands = λ all passed h there st. subst (λ (zs : List Activation). StandsApart (parts_of code) all after.first zs input budget after.order) (append_assoc passed xs ys)
      (two.stands all (passed ++ xs) (passes passed h)
      (λ i lt. ap (slice_get all) (let e : length (passed ++ xs) + i ≡ length passed + (length xs + i) = omega (arith, length-append passed xs) in e) ∙ there (length xs + i) (omega (arith, lt, length-append xs ys)) ∙ slice_get-append_right xs ys i)
      (one.stands all passed h (λ i lt. there i (omega (arith, lt, length-append xs ys)) ∙ slice_get-append_left xs ys i lt) st));
}

module _ (code : Code) (acts : List Activation) (positions : Positions) (apart : Apart) (may : MayRun code acts positions apart) (input : List ℕ) (budget : ℕ)
    (k : ℕ) (x : Activation) (lt : k < length acts) (is : x ≡ get_or acts k x) (now : Positions) (between : Apart) (ran : HaveRun code (take k acts) input budget positions apart between)
    (passes : (before : List Activation) → HavePassed code.streams before positions → HavePassed code.streams (before ++ take k acts) now) where
  size : length (take k acts) ≡ k
  size = length-take-le k acts (omega (arith, lt))

  count_now : now.count ≡ positions.count + length (take k acts)
  count_now =
      let n = (passes may.passed may.have_passed).count in
      let p = may.have_passed.count in
      omega (arith, n, p, length-append may.passed (take k acts))

  pub may_next : MayRun code (x ∷ []) now between
  may_next =
      let whole : may.passed ++ acts ≡ ((may.passed ++ take k acts) ++ x ∷ []) ++ drop (k + 1) acts =
      ap (λ ys. may.passed ++ ys) (sym (take-append-drop (k + 1) acts)) ∙ sym (append_assoc may.passed (take (k + 1) acts) (drop (k + 1) acts)) ∙ ap (λ ys. ys ++ drop (k + 1) acts) (sym (take_next may.passed acts k x lt is)) in
      let r = ran.ran_to in
      record {
        passed = may.passed ++ take k acts;
        have_passed = passes may.passed may.have_passed;
        fit = All-cons (Fits (parts_of code)) x [] (subst (Fits (parts_of code)) (sym is) (may.fit k x lt)) (All-nil (Fits (parts_of code)));
        lawful = lawful-front code.streams ((may.passed ++ take k acts) ++ x ∷ []) (drop (k + 1) acts) (subst (AreLawful code.streams) whole may.lawful);
        ready = ran.ready;
        ran_to = omega (arith, r, count_now);
      }

  pub one_more : (after : Apart) → HaveRun code (x ∷ []) input budget now between after → HaveRun code (take (k + 1) acts) input budget positions apart after
  one_more after next = subst (λ (xs : List Activation). HaveRun code xs input budget positions apart after) (take_next [] acts k x lt is)
      (behind code (take k acts) (x ∷ []) input budget positions now apart between after count_now ran passes next)

  pub stopped_there : (after : Apart) → HaveRun code [] input budget now between after → HaveRunSome code acts input budget positions apart after false
  stopped_there after next = record {
    count = k;
    within = omega (arith, lt);
    all = λ h. absurd (cc);
    ran = subst (λ (xs : List Activation). HaveRun code xs input budget positions apart after) (append-nil (take k acts))
        (behind code (take k acts) [] input budget positions now apart between after count_now ran passes next);
  }

pub all_have : (code : Code) (acts : List Activation) (input : List ℕ) (budget : ℕ) (positions : Positions) (apart after : Apart) (k : ℕ) → k ≡ length acts → HaveRun code (take k acts) input budget positions apart after
    → HaveRunSome code acts input budget positions apart after true
all_have code acts input budget positions apart after k is ran = record { count = k; within = omega (arith, is); all = λ h. is; ran = ran }
