-- What was written, one text after the other, and the answers so far.
use Rattle.std.proofs.Common.{◌≡◌, ◌∙◌, inl, inr, subst, ℕ, ◌+◌, List, [], ◌∷◌, ◌++◌, Option, Some, None, Result, Ok, Err, refl, sym, ap, arith, append_assoc, append-nil, length, take}
use Rattle.std.specs.Prelude.{true, false, is_err}
use Rattle.std.specs.Io.KnownBytes.{append_known}
use Rattle.std.proofs.lemmas.List.{length-append, take-append-le}
use Rattle.std.proofs.Math.Seq.{take-append-add}
use Rattle.os_io.specs.Counts.{HasRisen}
use Rattle.os_io.specs.declared.sink.Sink.{Ghosts as SinkView}
use Rattle.os_io.specs.declared.writing.WriteError.{WriteError}
use Rattle.osrun_core_jobs.specs.Telling.{HasTrouble, IsCutShort, IsWritten, Took}
use Rattle.os_serve_answers.specs.Replies.{AreReplies, JobRun}
use Rattle.os_serve_jobs.specs.Answers.{Reply, answer, answers, answers_from, heading}

-- bytes behind bytes behind what is known
pub append_known-append : (known : Option (List ℕ)) (first more : List ℕ) → append_known (append_known known first) more ≡ append_known known (first ++ more)
append_known-append None first more = refl
append_known-append (Some bytes) first more = ap Some (append_assoc bytes first more)

append_known-nil : (known : Option (List ℕ)) → append_known known [] ≡ known
append_known-nil None = refl
append_known-nil (Some bytes) = ap Some (append-nil bytes)

module _ {S : Type 0} (view : SinkView S) where
  pub took_nothing : (old : S) → Took view old old []
  took_nothing old = (sym (append_known-nil (view.taken old)), refl, refl)

  pub took_more : (old between new : S) (first more : List ℕ) → Took view old between first → Took view between new more → Took view old new (first ++ more)
  took_more old between new first more a b = (
    b.0 ∙ ap (λ known. append_known known more) a.0 ∙ append_known-append (view.taken old) first more,
    b.1 ∙ a.1,
    b.2 ∙ a.2,
  )

  -- a front of what is written next was taken
  pub cut_later : (old between new : S) (first more : List ℕ) → Took view old between first → IsCutShort view between new more → IsCutShort view old new (first ++ more)
  cut_later old between new first more a b =
      let f = b.front in record {
        front = (
          length first + f.0,
          (let l = length-append first more in let w = f.1 in omega (arith, l, w)),
          f.2
              ∙ ap (λ known. append_known known (take f.0 more)) a.0
              ∙ append_known-append (view.taken old) first (take f.0 more)
              ∙ ap (append_known (view.taken old)) (sym (take-append-add first more f.0)),
        );
        trouble = elim b.trouble as (λ _. HasTrouble view old new) [
          | inl faults ↦ inl (subst (λ n. HasRisen n (view.faults new)) a.1 faults)
          | inr takes ↦ inr (subst (λ n. HasRisen n (view.empty_takes new)) a.2 takes)
        ];
      }

  -- a front of what is written first was taken
  pub cut_first : (old new : S) (first more : List ℕ) → IsCutShort view old new first → IsCutShort view old new (first ++ more)
  cut_first old new first more a =
      let f = a.front in record {
        front = (
          f.0,
          (let l = length-append first more in let w = f.1 in omega (arith, l, w)),
          f.2 ∙ ap (append_known (view.taken old)) (sym (take-append-le f.0 first more (let w = f.1 in omega (arith, w)))),
        );
        trouble = a.trouble;
      }

  pub written_later : {T : Type 0} (old between new : S) (first more : List ℕ) (result : Result T WriteError) → Took view old between first → IsWritten view between new more result
      → IsWritten view old new (first ++ more) result
  written_later old between new first more (Ok t) a b = took_more old between new first more a b
  written_later old between new first more (Err e) a b = cut_later old between new first more a b

  -- what was written first was not taken whole, so nothing was written behind it
  pub failed_first : {T : Type 0} (old new : S) (first more : List ℕ) (result : Result T WriteError) → is_err result ≡ true → IsWritten view old new first result
      → IsWritten view old new (first ++ more) result
  failed_first old new first more (Ok t) failed a = absurd (cc)
  failed_first old new first more (Err e) failed a = cut_first old new first more a

  pub took_first : {T : Type 0} (old new : S) (text : List ℕ) (result : Result T WriteError) → is_err result ≡ false → IsWritten view old new text result → Took view old new text
  took_first old new text (Ok t) fine a = a
  took_first old new text (Err e) fine a = absurd (cc)

  pub cut_by : {T : Type 0} (old new : S) (text : List ℕ) (result : Result T WriteError) → is_err result ≡ true → IsWritten view old new text result → IsCutShort view old new text
  cut_by old new text (Ok t) failed a = absurd (cc)
  cut_by old new text (Err e) failed a = a

  -- three texts, one after the other, as far as the first write that failed
  pub first_failed : {T : Type 0} (old new : S) (one two three text : List ℕ) (result : Result T WriteError) → text ≡ one → is_err result ≡ true
      → IsWritten view old new text result → IsWritten view old new (one ++ two ++ three) result
  first_failed old new one two three text result is failed a =
      failed_first old new (one ++ two) three result failed
      (failed_first old new one two result failed (subst (λ t. IsWritten view old new t result) is a))

  pub second_failed : {T : Type 0} (old between new : S) (one two three text text_too : List ℕ) (result result_too : Result T WriteError) → text ≡ one → text_too ≡ two
      → is_err result ≡ false → is_err result_too ≡ true → IsWritten view old between text result → IsWritten view between new text_too result_too
      → IsWritten view old new (one ++ two ++ three) result_too
  second_failed old between new one two three text text_too result result_too is is_too fine failed a b =
      failed_first old new (one ++ two) three result_too failed
      (written_later old between new one two result_too (took_first old between one result fine (subst (λ t. IsWritten view old between t result) is a))
      (subst (λ t. IsWritten view between new t result_too) is_too b))

  pub third_written : {T : Type 0} (old first second new : S) (one two three text text_too text_last : List ℕ) (result result_too result_last : Result T WriteError)
      → text ≡ one → text_too ≡ two → text_last ≡ three → is_err result ≡ false → is_err result_too ≡ false
      → IsWritten view old first text result → IsWritten view first second text_too result_too → IsWritten view second new text_last result_last
      → IsWritten view old new (one ++ two ++ three) result_last
  third_written old first second new one two three text text_too text_last result result_too result_last is is_too is_last fine fine_too a b c =
      written_later old second new (one ++ two) three result_last
      (took_more old first second one two (took_first old first one result fine (subst (λ t. IsWritten view old first t result) is a))
      (took_first first second two result_too fine_too (subst (λ t. IsWritten view first second t result_too) is_too b)))
      (subst (λ t. IsWritten view second new t result_last) is_last c)

-- the heading of an answer, by what its parts are
pub same_heading : (number status : ℕ) (output told text model : List ℕ) (reply : Reply) → text ≡ model → model ≡ heading number status (length output) (length told)
    → status ≡ reply.status → output ≡ reply.output → told ≡ reply.told → text ≡ heading number reply.status (length reply.output) (length reply.told)
same_heading number status output told text model reply a b c d e =
    a ∙ b ∙ ap (λ s. heading number s (length output) (length told)) c ∙ ap (λ o. heading number reply.status (length o) (length told)) d
    ∙ ap (λ t. heading number reply.status (length reply.output) (length t)) e

-- ---- the answers to more jobs

answers_more : (number : ℕ) (replies : List Reply) (reply : Reply) → answers_from number (replies ++ reply ∷ []) ≡ answers_from number replies ++ answer (number + length replies) reply
answers_more number [] reply = append-nil (answer number reply) ∙ ap (λ n. answer n reply) (omega arith)
answers_more number (first ∷ replies) reply =
    ap (λ t. answer number first ++ t) (answers_more (number + 1) replies reply)
    ∙ sym (append_assoc (answer number first) (answers_from (number + 1) replies) (answer (number + 1 + length replies) reply))
    ∙ ap (λ n. (answer number first ++ answers_from (number + 1) replies) ++ answer n reply) (omega arith)

module _ {F : Type 0} (run : JobRun F) where
  -- each line has one reply
  pub as_many : (old new : F) (lines : List (List ℕ)) (replies : List Reply) → AreReplies run old new lines replies → length replies ≡ length lines
  as_many old new [] [] are = refl
  as_many old new [] (reply ∷ replies) are = absurd are
  as_many old new (line ∷ lines) [] are = absurd are
  as_many old new (line ∷ lines) (reply ∷ replies) are = let more = as_many are.0 new lines replies are.2 in omega (arith, more)

  -- one more job was answered
  pub one_more : (old between new : F) (lines : List (List ℕ)) (replies : List Reply) (line : List ℕ) (reply : Reply) → AreReplies run old between lines replies
      → run between new line reply → AreReplies run old new (lines ++ line ∷ []) (replies ++ reply ∷ [])
  one_more old between new [] [] line reply are next = (new, subst (λ f. run f new line reply) are next, refl)
  one_more old between new [] (first ∷ replies) line reply are next = absurd are
  one_more old between new (first ∷ lines) [] line reply are next = absurd are
  one_more old between new (first ∷ lines) (one ∷ replies) line reply are next =
      (are.0, are.1, one_more are.0 between new lines replies line reply are.2 next)

  -- the answers to all, where one more job was answered
  pub answers_to_more : (old between : F) (lines : List (List ℕ)) (replies : List Reply) (reply : Reply) (number : ℕ) → AreReplies run old between lines replies
      → number ≡ length lines → answers (replies ++ reply ∷ []) ≡ answers replies ++ answer number reply
  answers_to_more old between lines replies reply number are counted =
      answers_more 0 replies reply
      ∙ ap (λ n. answers replies ++ answer n reply) (let m = as_many old between lines replies are in omega (arith, m, counted))
