-- Which lines are the jobs of a file, and which are its first ones.
use Rattle.std.proofs.Common.{◌≡◌, ◌≢◌, ◌∙◌, ◌⊎◌, inl, inr, subst, ℕ, ◌+◌, ◌-◌, ◌<◌, ◌≤◌, true, false, List, [], ◌∷◌, ◌++◌, Option, Some, None, All, IfSome, refl, sym, ap, arith, append_assoc, append-nil, length, take}
use Rattle.std.specs.Io.KnownBytes.{IsAtEnd, prepend_known}
use Rattle.std.specs.List.{flat_map, slice_split}
use Rattle.std.proofs.lemmas.List.{length-append, take-append-le}
use Rattle.std.proofs.lemmas.List.Concat.{flat_map-append}
use Rattle.std.proofs.lemmas.List.Elements.{All-append, All-cons, All-head, All-nil, All-tail}
use Rattle.std.proofs.lemmas.List.Splits.{slice_split_at, slice_split_none}
use Rattle.std.proofs.lemmas.Bool.Decides.{eqb_tells, leb_tells}
use Rattle.std.proofs.Math.Dec.{eqb}
use Rattle.std.proofs.Math.Seq.{take-append-add}
use Rattle.std.proofs.lemmas.Option.{same_Some}
use Rattle.os_io.specs.declared.files.Files.{Ghosts as FilesView}
use Rattle.os_io.specs.Lines.{ended_line}
use Rattle.os_serve_jobs.specs.Lines.{AreEnded, AreFirstJobs, AreJobs, AreLines, IsLine, StartsWith, jobs_limit, last_line}
use Rattle.os_serve_jobs.specs.Reading.{HasRead, StandsBy, uncut}
use Rattle.os_serve_jobs.specs.declared.reading.Reading.{Reading}
use Rattle.os_serve_jobs.specs.declared.input_state.InputState.{InputState}
use Rattle.os_serve_jobs.specs.declared.input_state.InputState.TheVariants.{AtEnd, Failed, Open, TooLong}

-- ---- all bytes are lines and a rest

-- bytes as lines and a rest
pub record IsSplit (bytes : List ℕ) : Type 0 where
  pub lines : List (List ℕ)
  pub rest : List ℕ
  pub starts : StartsWith bytes lines rest
  pub no_more : IsLine rest

longer_first : (byte : ℕ) (line : List ℕ) (lines : List (List ℕ)) → byte ≢ 10 → All IsLine (line ∷ lines) → All IsLine ((byte ∷ line) ∷ lines)
longer_first byte line lines other each =
    All-cons IsLine (byte ∷ line) lines (All-cons (λ b. b ≢ 10) byte line other (All-head IsLine line lines each)) (All-tail IsLine line lines each)

-- one more byte in front, which is no line feed
split_more : (byte : ℕ) (bytes : List ℕ) (lines : List (List ℕ)) (rest : List ℕ) → byte ≢ 10 → StartsWith bytes lines rest → IsLine rest → IsSplit (byte ∷ bytes)
split_more byte bytes [] rest other starts no_more = record {
  lines = [];
  rest = byte ∷ rest;
  starts = record { bytes_are = ap (λ b. byte ∷ b) starts.bytes_are; each = All-nil IsLine };
  no_more = All-cons (λ b. b ≢ 10) byte rest other no_more;
}
split_more byte bytes (line ∷ lines) rest other starts no_more = record {
  lines = (byte ∷ line) ∷ lines;
  rest = rest;
  starts = record { bytes_are = ap (λ b. byte ∷ b) starts.bytes_are; each = longer_first byte line lines other starts.each };
  no_more = no_more;
}

split_step : (byte : ℕ) (bytes : List ℕ) → ((eqb byte 10 ≡ true) × (byte ≡ 10)) ⊎ ((eqb byte 10 ≡ false) × (byte ≢ 10)) → IsSplit bytes → IsSplit (byte ∷ bytes)
split_step byte bytes (inl feed) split = record {
  lines = [] ∷ split.lines;
  rest = split.rest;
  starts = record {
    bytes_are = ap (λ b. byte ∷ b) split.starts.bytes_are ∙ ap (λ b. b ∷ (flat_map ended_line split.lines ++ split.rest)) feed.1;
    each = All-cons IsLine [] split.lines (All-nil (λ b. b ≢ 10)) split.starts.each;
  };
  no_more = split.no_more;
}
split_step byte bytes (inr other) split = split_more byte bytes split.lines split.rest other.1 split.starts split.no_more

pub split_of : (bytes : List ℕ) → IsSplit bytes
split_of [] = record {
  lines = [];
  rest = [];
  starts = record { bytes_are = refl; each = All-nil IsLine };
  no_more = All-nil (λ b. b ≢ 10);
}
split_of (byte ∷ bytes) = split_step byte bytes (eqb_tells byte 10) (split_of bytes)

-- ---- in one way alone

no_feed : (byte : ℕ) → byte ≢ 10 → ((eqb byte 10 ≡ true) × (byte ≡ 10)) ⊎ ((eqb byte 10 ≡ false) × (byte ≢ 10)) → eqb byte 10 ≡ false
no_feed byte other (inl feed) = absurd (other feed.1)
no_feed byte other (inr is) = is.0

no_feeds : (line : List ℕ) → IsLine line → All (λ byte. eqb byte 10 ≡ false) line
no_feeds [] is = All-nil (λ byte. eqb byte 10 ≡ false)
no_feeds (byte ∷ line) is =
    All-cons (λ byte. eqb byte 10 ≡ false) byte line (no_feed byte (All-head (λ b. b ≢ 10) byte line is) (eqb_tells byte 10))
    (no_feeds line (All-tail (λ b. b ≢ 10) byte line is))

-- the parts between line feeds are the lines, and then the rest
parts : (lines : List (List ℕ)) (rest : List ℕ) → All IsLine lines → IsLine rest → slice_split (λ byte. eqb byte 10) (flat_map ended_line lines ++ rest) ≡ lines ++ rest ∷ []
parts [] rest each no_more = slice_split_none (λ byte. eqb byte 10) rest (no_feeds rest no_more)
parts (line ∷ lines) rest each no_more =
    ap (slice_split (λ byte. eqb byte 10)) (append_assoc (line ++ 10 ∷ []) (flat_map ended_line lines) rest ∙ append_assoc line (10 ∷ []) (flat_map ended_line lines ++ rest))
    ∙ slice_split_at (λ byte. eqb byte 10) line 10 (flat_map ended_line lines ++ rest) (no_feeds line (All-head IsLine line lines each)) refl
    ∙ ap (λ p. line ∷ p) (parts lines rest (All-tail IsLine line lines each) no_more)

-- lists with one more behind them
same_last : (lines others : List (List ℕ)) (rest other : List ℕ) → lines ++ rest ∷ [] ≡ others ++ other ∷ [] → (lines ≡ others) × (rest ≡ other)
same_last [] [] rest other is = (refl, cc)
same_last [] (one ∷ []) rest other is = absurd (cc)
same_last [] (one ∷ two ∷ others) rest other is = absurd (cc)
same_last (one ∷ []) [] rest other is = absurd (cc)
same_last (one ∷ two ∷ lines) [] rest other is = absurd (cc)
same_last (one ∷ lines) (two ∷ others) rest other is =
    let behind : lines ++ rest ∷ [] ≡ others ++ other ∷ [] = cc in
    let front : one ≡ two = cc in
    let more = same_last lines others rest other behind in
    (ap (λ l. l ∷ lines) front ∙ ap (λ l. two ∷ l) more.0, more.1)

same_split : (bytes : List ℕ) (lines others : List (List ℕ)) (rest other : List ℕ) → StartsWith bytes lines rest → IsLine rest → StartsWith bytes others other → IsLine other
    → (lines ≡ others) × (rest ≡ other)
same_split bytes lines others rest other a no_more b no_more_too =
    same_last lines others rest other
    (sym (parts lines rest a.each no_more) ∙ ap (slice_split (λ byte. eqb byte 10)) (sym a.bytes_are ∙ b.bytes_are) ∙ parts others other b.each no_more_too)

same_lines : (bytes : List ℕ) (one other : List (List ℕ)) → AreLines bytes one → AreLines bytes other → one ≡ other
same_lines bytes one other a b =
    let same = same_split bytes a.whole b.whole a.rest b.rest a.starts a.no_more b.starts b.no_more in
    a.lines_are ∙ ap (λ w. w ++ last_line a.rest) same.0 ∙ ap (λ r. b.whole ++ last_line r) same.1 ∙ sym b.lines_are

same_ended : (bytes : List ℕ) (one other : List (List ℕ)) → AreEnded bytes one → AreEnded bytes other → one ≡ other
same_ended bytes one other a b = (same_split bytes one other a.rest b.rest a.starts a.no_more b.starts b.no_more).0

pub one_list : (held : List ℕ) (one other : List (List ℕ)) → AreJobs held one → AreJobs held other → one ≡ other
one_list held one other (inl a) (inl b) = same_lines held one other a.1 b.1
one_list held one other (inl a) (inr b) = absurd (let x = a.0 in let y = b.0 in omega (arith, x, y))
one_list held one other (inr a) (inl b) = absurd (let x = a.0 in let y = b.0 in omega (arith, x, y))
one_list held one other (inr a) (inr b) = same_ended (take jobs_limit held) one other a.1 b.1

-- ---- the first jobs

-- what is told, with what was read in front
pub told_front : (bytes read : List ℕ) (rest : Option (List ℕ)) → Some bytes ≡ prepend_known read rest → (behind : List ℕ) × (rest ≡ Some behind) × (bytes ≡ read ++ behind)
told_front bytes read None is = absurd (cc)
told_front bytes read (Some behind) is = (behind, refl, same_Some bytes (read ++ behind) is)

-- lines of a front, and those behind them
joined : (bytes front behind left : List ℕ) (lines more : List (List ℕ)) (rest : List ℕ) → bytes ≡ front ++ behind → StartsWith front lines left
    → StartsWith (left ++ behind) more rest → StartsWith bytes (lines ++ more) rest
joined bytes front behind left lines more rest is starts s = record {
  bytes_are =
      is
      ∙ ap (λ b. b ++ behind) starts.bytes_are
      ∙ append_assoc (flat_map ended_line lines) left behind
      ∙ ap (λ b. flat_map ended_line lines ++ b) s.bytes_are
      ∙ sym (append_assoc (flat_map ended_line lines) (flat_map ended_line more) rest)
      ∙ ap (λ b. b ++ rest) (sym (flat_map-append ended_line lines more));
  each = All-append IsLine lines more starts.each s.each;
}

-- of a file within the limit
first_whole : (held front behind left : List ℕ) (lines : List (List ℕ)) → length held ≤ jobs_limit → held ≡ front ++ behind → StartsWith front lines left → AreFirstJobs held lines
first_whole held front behind left lines fits is starts =
    let s = split_of (left ++ behind) in (
      s.lines ++ last_line s.rest,
      inl (
        fits,
        record {
          whole = lines ++ s.lines;
          rest = s.rest;
          starts = joined held front behind left lines s.lines s.rest is starts s.starts;
          no_more = s.no_more;
          lines_are = sym (append_assoc lines s.lines (last_line s.rest));
        },
      ),
    )

-- of a file with more bytes
first_ended : (held front behind left : List ℕ) (lines : List (List ℕ)) → jobs_limit < length held → take jobs_limit held ≡ front ++ behind → StartsWith front lines left
    → AreFirstJobs held lines
first_ended held front behind left lines past is starts =
    let s = split_of (left ++ behind) in (
      s.lines,
      inr (
        past,
        record {
          rest = s.rest;
          starts = joined (take jobs_limit held) front behind left lines s.lines s.rest is starts s.starts;
          no_more = s.no_more;
        },
      ),
    )

pub within_or_past : (n : ℕ) → (n ≤ 4194304) ⊎ (4194304 < n)
within_or_past n = elim (leb_tells n 4194304) [
  | inl within ↦ inl within.1
  | inr past ↦ inr past.1
]

first_lines : (held front behind left : List ℕ) (lines : List (List ℕ)) → length front ≤ jobs_limit → held ≡ front ++ behind → StartsWith front lines left
    → (length held ≤ 4194304) ⊎ (4194304 < length held) → AreFirstJobs held lines
first_lines held front behind left lines fits is starts (inl within) = first_whole held front behind left lines within is starts
first_lines held front behind left lines fits is starts (inr past) =
    let sum : length front + (4194304 - length front) ≡ 4194304 = omega (arith, fits) in
    first_ended held front (take (4194304 - length front) behind) left lines past
    (ap (take 4194304) is ∙ ap (λ n. take n (front ++ behind)) (sym sum) ∙ take-append-add front behind (4194304 - length front)) starts

-- where these are first jobs, fewer of them are too
pub fewer : (held : List ℕ) (lines more : List (List ℕ)) → AreFirstJobs held (lines ++ more) → AreFirstJobs held lines
fewer held lines more (behind, are) = (more ++ behind, subst (AreJobs held) (append_assoc lines more behind) are)

pub all_jobs : (held : List ℕ) (lines : List (List ℕ)) → AreJobs held lines → AreFirstJobs held lines
all_jobs held lines are = ([], subst (AreJobs held) (sym (append-nil lines)) are)

pub some_jobs : (held : List ℕ) → AreFirstJobs held []
some_jobs held = first_lines held [] held [] [] (omega arith) refl (record { bytes_are = refl; each = All-nil IsLine }) (within_or_past (length held))

-- where nothing was read, it doesn't matter what the file holds
pub first_unread : (held read left : List ℕ) (lines : List (List ℕ)) → read ≡ [] → StartsWith read lines left → AreFirstJobs held lines
first_unread held read left lines none starts =
    first_lines held [] held left lines (omega arith) refl (subst (λ r. StartsWith r lines left) none starts) (within_or_past (length held))

-- nothing has no lines
pub no_lines : (read : List ℕ) (lines : List (List ℕ)) → read ≡ [] → AreLines read lines → lines ≡ []
no_lines read lines none are = same_lines [] lines [] (subst (λ r. AreLines r lines) none are) (record {
  whole = [];
  rest = [];
  starts = record { bytes_are = refl; each = All-nil IsLine };
  no_more = All-nil (λ b. b ≢ 10);
  lines_are = refl;
})

-- a file that was read to its end
pub read_whole : (held read : List ℕ) (rest : Option (List ℕ)) → Some held ≡ prepend_known read rest → IsAtEnd rest → held ≡ read
read_whole held read rest front at_end =
    let f = told_front held read rest front in
    f.2 ∙ ap (λ b. read ++ b) (subst IsAtEnd f.1 at_end) ∙ append-nil read

-- a file of which one byte more than the limit was read
pub read_past : (held read : List ℕ) (rest : Option (List ℕ)) → Some held ≡ prepend_known read rest → length read ≡ jobs_limit + 1
    → (jobs_limit < length held) × (take jobs_limit held ≡ take jobs_limit read)
read_past held read rest front past =
    let f = told_front held read rest front in
    let all = ap length f.2 ∙ length-append read f.0 in
    (omega (arith, all, past), ap (take 4194304) f.2 ∙ take-append-le 4194304 read f.0 (omega (arith, past)))

pub all_whole : (held read : List ℕ) (lines : List (List ℕ)) → held ≡ read → length read ≤ jobs_limit → AreLines read lines → AreJobs held lines
all_whole held read lines is fits are =
    inl (subst (λ b. length b ≤ jobs_limit) (sym is) fits, subst (λ b. AreLines b lines) (sym is) are)

pub first_past : (held read left : List ℕ) (lines : List (List ℕ)) → (jobs_limit < length held) × (take jobs_limit held ≡ take jobs_limit read)
    → StartsWith (take jobs_limit read) lines left → AreFirstJobs held lines
first_past held read left lines past starts =
    first_ended held (take jobs_limit read) [] left lines past.0 (past.1 ∙ sym (append-nil (take jobs_limit read))) starts

pub first_read : (held read left : List ℕ) (lines : List (List ℕ)) (rest : Option (List ℕ)) → Some held ≡ prepend_known read rest → length read ≤ jobs_limit
    → StartsWith read lines left → AreFirstJobs held lines
first_read held read left lines rest front fits starts =
    let f = told_front held read rest front in
    first_lines held read f.0 left lines fits f.2 starts (within_or_past (length held))

module _ {J : Type 0} (view : FilesView J) (faults : ℕ) (held : List ℕ) (jobs : J) where
  first_by : (lines : List (List ℕ)) (read left : List ℕ) (source : InputState) → StandsBy view (Some held) faults jobs lines read left source → AreFirstJobs held lines
  first_by lines read left Open s = first_read held read left lines (view.rest jobs) s.so_far.front s.fits s.starts
  first_by lines read left AtEnd s =
      all_jobs held lines (all_whole held read lines (read_whole held read (view.rest jobs) s.so_far.front s.at_end) s.fits s.lines_are)
  first_by lines read left TooLong s = first_past held read left lines (read_past held read (view.rest jobs) s.so_far.front s.one_past) s.starts
  first_by lines read left Failed s = by s.front
    where
      by : (Some held ≡ prepend_known read (view.rest jobs)) ⊎ (read ≡ []) → AreFirstJobs held lines
      by (inl front) = first_read held read left lines (view.rest jobs) front s.fits s.starts
      by (inr none) = first_unread held read left lines none s.starts

-- what was read and cut into lines, where it is told what the file holds
pub are_first_jobs : {J : Type 0} (view : FilesView J) (told : Option (List ℕ)) (faults : ℕ) (jobs : J) (reading : Reading) (lines : List (List ℕ))
    → HasRead view told faults jobs reading lines → IfSome told (λ held. AreFirstJobs held lines)
are_first_jobs view None faults jobs reading lines has = cc
are_first_jobs view (Some held) faults jobs reading lines has = first_by view faults held jobs lines has.read (uncut reading) reading.source has.stands
