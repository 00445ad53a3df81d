-- What a job is answered.
use Rattle.std.proofs.Common.{◌≡◌, ◌∙◌, inl, inr, subst, ℕ, ◌+◌, Bool, true, false, List, [], ◌∷◌, refl, sym, ap, take}
use Rattle.std.specs.Option.{ForSome}
use Rattle.os_io.specs.declared.files.Files.{Ghosts as FilesView}
use Rattle.osrun_core_answer.specs.Answers.{AnswersRequest}
use Rattle.osrun_core_jobs.specs.Files.{JobFile, MayOpen, files_of}
use Rattle.osrun_core_jobs.specs.Reading.{ReadsInOrder, WereRead}
use Rattle.osrun_core_run.specs.Refusal.{IsUsable}
use Rattle.osrun_core_words.specs.Command.{command}
use Rattle.os_serve.specs.Command.{MayRun, Text, is_serve}
use Rattle.os_serve.specs.Commands.{IsReplyOf, IsReplyTo, kept_sink}
use Rattle.os_serve_answers.specs.Replies.{no_job, reply_by}
use Rattle.os_serve_jobs.specs.Answers.{Reply}
use Rattle.os_serve_jobs.specs.MemorySinkStates.{MemorySinkState, fresh_kept}
use Rattle.os_serve_jobs.specs.Words.{IsText, line_words}

module _ {F : Type 0} (view : FilesView F) where
  were_read_may : (old new : F) (files : List JobFile) (contents : List (List ℕ)) → WereRead IsUsable view old new files contents → view.may new ≡ view.may old
  were_read_may old new [] [] read = ap view.may read
  were_read_may old new [] (bytes ∷ contents) read = absurd read
  were_read_may old new (file ∷ files) [] read = absurd read
  were_read_may old new (file ∷ files) (bytes ∷ contents) read = were_read_may read.0 new files contents read.2 ∙ read.1.may_kept

  -- reading in order changes nothing of what may be opened
  pub in_order_may : (old new : F) (files : List JobFile) → ReadsInOrder IsUsable view old new files → view.may new ≡ view.may old
  in_order_may old new files (inl same) = ap view.may same
  in_order_may old new files (inr (inl all)) = were_read_may old new files all.0 all.1
  in_order_may old new files (inr (inr end)) =
      let ended = end.2 in ended.last.may_kept ∙ were_read_may old ended.before (take end.0 files) ended.contents ended.earlier

  -- the reply, by what the command left
  pub reply_made : (old new : F) (words : List Text) (output_old output report_old report : MemorySinkState) (status : ℕ) (reply : Reply) → output_old ≡ fresh_kept 67108864
      → report_old ≡ fresh_kept 8400000 → AnswersRequest view old new kept_sink output_old output kept_sink report_old report (command words) status
      → reply ≡ reply_by status output report → IsReplyOf view old new words reply
  reply_made old new words output_old output report_old report status reply fresh fresh_too answers is = record {
    output = output;
    report = report;
    status = status;
    answers = subst (λ o. AnswersRequest view old new kept_sink o output kept_sink (fresh_kept 8400000) report (command words) status) fresh
        (subst (λ r. AnswersRequest view old new kept_sink output_old output kept_sink r report (command words) status) fresh_too answers);
    reply_is = is;
  }

-- the files of a job may be opened
pub may_open : (may : ℕ → List ℕ → Bool) (opens : ℕ) (line : List ℕ) (words : List Text) → MayRun may line → words ≡ line_words line
    → ForSome (command words) (λ request. MayOpen may opens (files_of request))
may_open may opens line words run are request asked k file at few = run request (sym (ap command are) ∙ asked) (opens + k) k file at

module _ {F : Type 0} (view : FilesView F) where
  -- a line that isn't text
  pub no_text_reply : (files : F) (line : List ℕ) → (IsText line → ⊥) → IsReplyTo view files files line no_job
  no_text_reply files line none = inr (inl none, refl, refl)

  -- one that asks for a server
  pub serve_reply : (files : F) (line : List ℕ) (words : List Text) → is_serve words ≡ true → words ≡ line_words line → IsReplyTo view files files line no_job
  serve_reply files line words serve are = inr (inr (sym (ap is_serve are) ∙ serve), refl, refl)

  -- one that was run
  pub run_reply : (old new : F) (line : List ℕ) (words : List Text) (reply : Reply) → IsText line → is_serve words ≡ false → words ≡ line_words line
      → IsReplyOf view old new words reply → IsReplyTo view old new line reply
  run_reply old new line words reply text serve are is =
      inl (text, sym (ap is_serve are) ∙ serve, subst (λ w. IsReplyOf view old new w reply) are is)

  -- what may be run may still be, where the same may be opened
  pub may_still : (old new : F) (line : List ℕ) → view.may new ≡ view.may old → (IsText line → MayRun (view.may old) line) → IsText line → MayRun (view.may new) line
  may_still old new line same may text = subst (λ m. MayRun m line) (sym same) (may text)
