-- The searches in a slice, step by step.
use Rattle.std.proofs.Common.{◌≡◌, ℕ, ◌+◌, ◌<◌, ◌≤◌, true, false, List, length}
use Rattle.os_lexer.specs.Reading.{ends_run, ends_blanks, ends_line, closes, run_end, blanks_end, line_end, comment_end}
use Rattle.os_lexer.proofs.FirstPoints.{first_from-more, first_from-here, first_from-past}

module _ (bytes : List ℕ) (point : ℕ) where
  pub run_end_more : point < length bytes → ends_run bytes point ≡ false → run_end bytes point ≡ run_end bytes (point + 1)
  unfolding run_end
  run_end_more below fails = first_from-more (ends_run bytes) (length bytes) point below fails

  pub run_end_here : point < length bytes → ends_run bytes point ≡ true → run_end bytes point ≡ point
  unfolding run_end
  run_end_here below holds = first_from-here (ends_run bytes) (length bytes) point below holds

  pub run_end_past : length bytes ≤ point → run_end bytes point ≡ point
  unfolding run_end
  run_end_past past = first_from-past (ends_run bytes) (length bytes) point past

  pub blanks_end_more : point < length bytes → ends_blanks bytes point ≡ false → blanks_end bytes point ≡ blanks_end bytes (point + 1)
  unfolding blanks_end
  blanks_end_more below fails = first_from-more (ends_blanks bytes) (length bytes) point below fails

  pub blanks_end_here : point < length bytes → ends_blanks bytes point ≡ true → blanks_end bytes point ≡ point
  unfolding blanks_end
  blanks_end_here below holds = first_from-here (ends_blanks bytes) (length bytes) point below holds

  pub blanks_end_past : length bytes ≤ point → blanks_end bytes point ≡ point
  unfolding blanks_end
  blanks_end_past past = first_from-past (ends_blanks bytes) (length bytes) point past

  pub line_end_more : point < length bytes → ends_line bytes point ≡ false → line_end bytes point ≡ line_end bytes (point + 1)
  unfolding line_end
  line_end_more below fails = first_from-more (ends_line bytes) (length bytes) point below fails

  pub line_end_here : point < length bytes → ends_line bytes point ≡ true → line_end bytes point ≡ point
  unfolding line_end
  line_end_here below holds = first_from-here (ends_line bytes) (length bytes) point below holds

  pub line_end_past : length bytes ≤ point → line_end bytes point ≡ point
  unfolding line_end
  line_end_past past = first_from-past (ends_line bytes) (length bytes) point past

  pub comment_end_more : point < length bytes → closes bytes point ≡ false → comment_end bytes point ≡ comment_end bytes (point + 1)
  unfolding comment_end
  comment_end_more below fails = first_from-more (closes bytes) (length bytes) point below fails

  pub comment_end_here : point < length bytes → closes bytes point ≡ true → comment_end bytes point ≡ point
  unfolding comment_end
  comment_end_here below holds = first_from-here (closes bytes) (length bytes) point below holds

  pub comment_end_past : length bytes ≤ point → comment_end bytes point ≡ point
  unfolding comment_end
  comment_end_past past = first_from-past (closes bytes) (length bytes) point past

pub ruleset run_ends = (run_end_more, run_end_here, run_end_past)

pub ruleset blanks_ends = (blanks_end_more, blanks_end_here, blanks_end_past)

pub ruleset line_ends = (line_end_more, line_end_here, line_end_past)

pub ruleset comment_ends = (comment_end_more, comment_end_here, comment_end_past)
