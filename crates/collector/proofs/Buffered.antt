-- Texts that go through a line buffer one behind the other.
use Rattle.std.proofs.Common.{◌≡◌, ℕ, ◌+◌, ◌≤◌, Option, None, Some, Result, Ok, Err, List, [], ◌++◌, length, take, refl, sym, ap, ◌∙◌, append_assoc, append-nil, subst, arith}
use Rattle.std.proofs.lemmas.List.{take-append-le, length-append}
use Rattle.std.proofs.Math.Seq.{take-append-add}
use Rattle.std.specs.Result.{IsErrAnd, OnOk, OnErr}
use Rattle.std.specs.Io.KnownBytes.{append_known}
use Rattle.os_io.specs.Counts.{HasRisen}
use Rattle.os_io.specs.Writing.{TookProperPrefix}
use Rattle.os_io.specs.declared.sink.Sink.{Ghosts as SinkView}
use Rattle.os_io.specs.declared.writing.WriteError.{WriteError}
use Rattle.collector.specs.Buffering.{WentOn, BrokeOff, GoesOn}

append_known-append : (known : Option (List ℕ)) (front back : List ℕ) → append_known (append_known known front) back ≡ append_known known (front ++ back)
append_known-append None front back = refl
append_known-append (Some bytes) front back = ap Some (append_assoc bytes front back)

pub append_known-nil : (known : Option (List ℕ)) → known ≡ append_known known []
append_known-nil None = refl
append_known-nil (Some bytes) = ap Some (sym (append-nil bytes))

-- nothing goes on
pub nothing_on : {S : Type 0} (view : SinkView S) (sink : S) (held : List ℕ) → WentOn view sink sink held held []
nothing_on view sink held = record {
  sent = [];
  taken = append_known-nil (view.taken sink);
  all = append-nil held;
  no_fault = refl;
  not_stuck = refl;
}

-- what was sent first, and what comes behind it, is all
together : {S : Type 0} (view : SinkView S) (a b : S) (held mid first second : List ℕ) (w : WentOn view a b held mid first) → held ++ (first ++ second) ≡ w.sent ++ (mid ++ second)
together view a b held mid first second w = sym (append_assoc held first second) ∙ ap (λ xs. xs ++ second) w.all ∙ append_assoc w.sent mid second

-- a text that went on, and one behind it that went on
both_on : {S : Type 0} (view : SinkView S) (a b c : S) (held mid kept first second whole : List ℕ) → WentOn view a b held mid first → WentOn view b c mid kept second → whole ≡ first ++ second → WentOn view a c held kept whole
both_on view a b c held mid kept first second whole one two is = subst (WentOn view a c held kept) (sym is) (record {
  sent = one.sent ++ two.sent;
  taken = two.taken ∙ ap (λ k. append_known k two.sent) one.taken ∙ append_known-append (view.taken a) one.sent two.sent;
  all = together view a b held mid first second one ∙ ap (λ xs. one.sent ++ xs) two.all ∙ sym (append_assoc one.sent two.sent kept);
  no_fault = two.no_fault ∙ one.no_fault;
  not_stuck = two.not_stuck ∙ one.not_stuck;
})

-- a text that went on, and one behind it that broke off
then_cut : {S : Type 0} (view : SinkView S) (a b c : S) (held mid first second whole : List ℕ) (e : WriteError) → WentOn view a b held mid first → BrokeOff view b c mid second e → whole ≡ first ++ second → BrokeOff view a c held whole e
then_cut view a b c held mid first second whole_text e one two is =
    let (n, within, took) = two.front in
    let whole = together view a b held mid first second one in
    let lengths : length (held ++ (first ++ second)) ≡ length one.sent + length (mid ++ second) = ap length whole ∙ length-append one.sent (mid ++ second) in
    let same : take (length one.sent + n) (held ++ (first ++ second)) ≡ one.sent ++ take n (mid ++ second) = ap (take (length one.sent + n)) whole ∙ take-append-add one.sent (mid ++ second) n in
    subst (λ xs. BrokeOff view a c held xs e) (sym is) (record {
      front = (length one.sent + n, omega (arith, lengths), took ∙ ap (λ k. append_known k (take n (mid ++ second))) one.taken ∙ append_known-append (view.taken a) one.sent (take n (mid ++ second)) ∙ ap (append_known (view.taken a)) (sym same));
      failed = λ is_failed. subst (λ m. HasRisen m (view.faults c)) one.no_fault (two.failed is_failed);
      stuck = λ is_stuck. subst (λ m. HasRisen m (view.empty_takes c)) one.not_stuck (two.stuck is_stuck);
      no_fault = λ other. two.no_fault other ∙ one.no_fault;
      not_stuck = λ other. two.not_stuck other ∙ one.not_stuck;
      faults_kept = subst (λ m. m ≤ view.faults c) one.no_fault two.faults_kept;
      empty_takes_kept = subst (λ m. m ≤ view.empty_takes c) one.not_stuck two.empty_takes_kept;
    })

-- where a text broke off, so is a longer one
cut_before : {S : Type 0} (view : SinkView S) (a b : S) (held text rest whole : List ℕ) (e : WriteError) → BrokeOff view a b held text e → whole ≡ text ++ rest → BrokeOff view a b held whole e
cut_before view a b held text rest whole e cut is =
    let (n, within, took) = cut.front in
    let longer : held ++ whole ≡ (held ++ text) ++ rest = ap (λ xs. held ++ xs) is ∙ sym (append_assoc held text rest) in
    let same : take n (held ++ whole) ≡ take n (held ++ text) = ap (take n) longer ∙ take-append-le n (held ++ text) rest (omega arith) in
    record {
      front = (n, omega (arith, ap length longer, length-append (held ++ text) rest), took ∙ ap (append_known (view.taken a)) (sym same));
      failed = cut.failed;
      stuck = cut.stuck;
      no_fault = cut.no_fault;
      not_stuck = cut.not_stuck;
      faults_kept = cut.faults_kept;
      empty_takes_kept = cut.empty_takes_kept;
    }

-- ---- as answers cite them

-- a text that went on, and one behind it
pub on : {S T : Type 0} {view : SinkView S} {a b c : S} {held mid kept first second whole : List ℕ} {r : Result T WriteError} → WentOn view a b held mid first → GoesOn view b c mid kept second r → whole ≡ first ++ second → GoesOn view a c held kept whole r
on {r = Ok done} one two is = record { ok = both_on _ _ _ _ _ _ _ _ _ _ one two.ok is; err = tt }
on {r = Err e} one two is = record { ok = tt; err = then_cut _ _ _ _ _ _ _ _ _ e one two.err is }

-- a call that broke off, as the front of a longer text
pub out : {S T : Type 0} {view : SinkView S} {a b : S} {held text whole : List ℕ} {e : WriteError} (kept rest : List ℕ) (r : Result T WriteError) (Q : WriteError → Type 0) → IsErrAnd r Q → ((y : WriteError) → Q y → y ≡ e) → BrokeOff view a b held text e → whole ≡ text ++ rest → GoesOn view a b held kept whole r
out {view = view} {a = a} {b = b} {held = held} kept rest (Ok done) Q is same cut e = absurd is
out {view = view} {a = a} {b = b} {held = held} {whole = whole} kept rest (Err y) Q is same cut e = record { ok = tt; err = subst (BrokeOff view a b held whole) (sym (same y is)) (cut_before _ _ _ _ _ _ _ _ cut e) }

-- the same behind a join of branches
pub on_from : {S T : Type 0} {view : SinkView S} {a b m c : S} {held mid mid_held kept first second whole : List ℕ} {r : Result T WriteError} → WentOn view a b held mid first → m ≡ b → mid_held ≡ mid → GoesOn view m c mid_held kept second r → whole ≡ first ++ second → GoesOn view a c held kept whole r
on_from {view = view} {m = m} {c = c} {mid = mid} {kept = kept} {second = second} {r = r} one sink_is held_is two is = on one (subst (λ x. GoesOn view x c mid kept second r) sink_is (subst (λ h. GoesOn view m c h kept second r) held_is two)) is

-- a text alone, behind a join of branches
pub from : {S T : Type 0} {view : SinkView S} {a m c : S} {held mid_held kept text whole : List ℕ} {r : Result T WriteError} → m ≡ a → mid_held ≡ held → GoesOn view m c mid_held kept text r → whole ≡ text → GoesOn view a c held kept whole r
from {view = view} {a = a} {m = m} {c = c} {held = held} {kept = kept} {text = text} {r = r} sink_is held_is goes is = subst (λ xs. GoesOn view a c held kept xs r) (sym is) (subst (λ x. GoesOn view x c held kept text r) sink_is (subst (λ h. GoesOn view m c h kept text r) held_is goes))

-- ---- lines of some parts, each behind the one before it

pub four_parts : (a b c d n : List ℕ) → (a ++ b ++ c ++ d) ++ n ≡ (a ++ b) ++ ((c ++ d) ++ n)
four_parts a b c d n = simp append_assoc refl

pub six_parts : (a b c d e f n : List ℕ) → (a ++ b ++ c ++ d ++ e ++ f) ++ n ≡ (a ++ b) ++ ((c ++ d ++ e ++ f) ++ n)
six_parts a b c d e f n = simp append_assoc refl

pub eight_parts : (a b c d e f g h n : List ℕ) → (a ++ b ++ c ++ d ++ e ++ f ++ g ++ h) ++ n ≡ (a ++ b) ++ ((c ++ d) ++ ((e ++ f) ++ (g ++ (h ++ n))))
eight_parts a b c d e f g h n = simp append_assoc refl

-- ---- a whole text, before and behind which nothing is kept

pub told_ok : {S T : Type 0} {view : SinkView S} {a b : S} {held kept text : List ℕ} (r : Result T WriteError) → GoesOn view a b held kept text r → held ≡ [] → OnOk r (kept ≡ []) → OnOk r (view.taken b ≡ append_known (view.taken a) text)
told_ok {view = view} {a = a} {b = b} {held = held} {kept = kept} {text = text} (Ok done) goes none empty =
    let w : WentOn view a b held kept text = goes.ok in
    let sent : w.sent ≡ text = sym (append-nil w.sent) ∙ ap (λ k. w.sent ++ k) (sym empty) ∙ sym w.all ∙ ap (λ h. h ++ text) none in
    w.taken ∙ ap (append_known (view.taken a)) sent
told_ok (Err e) goes none empty = tt

pub told_err : {S T : Type 0} {view : SinkView S} {a b : S} {held kept text : List ℕ} (r : Result T WriteError) → GoesOn view a b held kept text r → held ≡ [] → OnErr r (TookProperPrefix (view.taken a) (view.taken b) text)
told_err (Ok done) goes none = tt
told_err {view = view} {a = a} {b = b} {held = held} {text = text} (Err e) goes none =
    let cut : BrokeOff view a b held text e = goes.err in
    subst (λ h. TookProperPrefix (view.taken a) (view.taken b) (h ++ text)) none cut.front
