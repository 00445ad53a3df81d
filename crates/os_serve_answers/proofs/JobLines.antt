-- Lines that were read are jobs of the file, and not too many.
use Rattle.std.proofs.Common.{◌≡◌, ◌≢◌, ◌∙◌, ◌⊎◌, inl, inr, subst, ℕ, zero, suc, ◌+◌, ◌-◌, ◌≤◌, List, [], ◌∷◌, ◌++◌, Option, Some, None, All, IfSome, refl, sym, ap, arith, append_assoc, append-nil, length, take}
use Rattle.std.specs.List.{flat_map}
use Rattle.std.specs.Io.KnownBytes.{IsAtEnd, prepend_known}
use Rattle.std.proofs.lemmas.List.{length-append, take-append-le}
use Rattle.std.proofs.lemmas.List.Concat.{flat_map-append}
use Rattle.std.proofs.lemmas.List.Elements.{All-take}
use Rattle.std.proofs.Math.Seq.{take-append_seam, take-append-add}
use Rattle.os_io.specs.declared.files.Files.{Ghosts as FilesView}
use Rattle.os_serve_jobs.proofs.FirstJobs.{told_front}
use Rattle.os_io.specs.Lines.{ended_line}
use Rattle.os_serve_jobs.specs.Lines.{IsEndedIn, IsJobIn, IsLine, StartsWith, last_line}
use Rattle.os_serve_jobs.specs.Reading.{HasRead, StandsBy, uncut}
use Rattle.os_serve_jobs.specs.declared.reading.Reading.{Reading}
use Rattle.os_serve_jobs.specs.declared.input_state.InputState.{InputState}
use Rattle.os_serve_jobs.specs.declared.input_state.InputState.TheVariants.{AtEnd, Failed, Open, TooLong}

-- ---- how many lines there are

-- each line has its line feed, so there are no more lines than bytes
pub lines_within : (lines : List (List ℕ)) → length lines ≤ length (flat_map ended_line lines)
lines_within [] = omega arith
lines_within (line ∷ lines) =
    let more = lines_within lines in
    let each = length-append (line ++ 10 ∷ []) (flat_map ended_line lines) in
    let one = length-append line (10 ∷ []) in
    omega (arith, more, each, one)

starts_within : (bytes left : List ℕ) (lines : List (List ℕ)) → StartsWith bytes lines left → length lines + length left ≤ length bytes
starts_within bytes left lines starts =
    let all = ap length starts.bytes_are ∙ length-append (flat_map ended_line lines) left in
    let few = lines_within lines in
    omega (arith, all, few)

last_within : (rest : List ℕ) → length (last_line rest) ≤ length rest
last_within [] = omega arith
last_within (byte ∷ bytes) = omega arith

-- ---- lines of a front

-- a line among those with which a front begins
among : (bytes front left behind : List ℕ) (earlier : List (List ℕ)) (line : List ℕ) (more : List (List ℕ)) → bytes ≡ front ++ behind
    → StartsWith front (earlier ++ line ∷ more) left → StartsWith bytes (earlier ++ line ∷ []) (flat_map ended_line more ++ (left ++ behind))
among bytes front left behind earlier line more is starts =
    let first = earlier ++ line ∷ [] in
    let parts : earlier ++ line ∷ more ≡ first ++ more = sym (append_assoc earlier (line ∷ []) more) in
    let s : StartsWith front (first ++ more) left = subst (λ lines. StartsWith front lines left) parts starts in
    record {
      bytes_are =
          is
          ∙ ap (λ b. b ++ behind) (s.bytes_are ∙ ap (λ t. t ++ left) (flat_map-append ended_line first more) ∙ append_assoc (flat_map ended_line first) (flat_map ended_line more) left)
          ∙ append_assoc (flat_map ended_line first) (flat_map ended_line more ++ left) behind
          ∙ ap (λ t. flat_map ended_line first ++ t) (append_assoc (flat_map ended_line more) left behind);
      each = subst (All IsLine) (take-append_seam first more) (All-take IsLine (length first) (first ++ more) s.each);
    }

-- the line stands among the first ones, or it is the last one, which stands behind all others
split_last : (whole : List (List ℕ)) (rest : List ℕ) (earlier : List (List ℕ)) (line : List ℕ) (more : List (List ℕ)) → whole ++ last_line rest ≡ earlier ++ line ∷ more
    → ((behind : List (List ℕ)) × (whole ≡ earlier ++ line ∷ behind)) ⊎ ((whole ≡ earlier) × (rest ≡ line) × (line ≢ []))
split_last [] [] [] line more is = absurd (cc)
split_last [] [] (one ∷ earlier) line more is = absurd (cc)
split_last [] (byte ∷ rest) [] line more is = inr (refl, cc, λ none. let one : byte ∷ rest ≡ line = cc in absurd (cc))
split_last [] (byte ∷ rest) (one ∷ []) line more is = absurd (cc)
split_last [] (byte ∷ rest) (one ∷ two ∷ earlier) line more is = absurd (cc)
split_last (first ∷ whole) rest [] line more is = inl (whole, cc)
split_last (first ∷ whole) rest (one ∷ earlier) line more is =
    let same : first ≡ one = cc in
    let behind : whole ++ last_line rest ≡ earlier ++ line ∷ more = cc in
    split_step first one whole rest earlier line same (split_last whole rest earlier line more behind)
  where
    split_step : (first one : List ℕ) (whole : List (List ℕ)) (rest : List ℕ) (earlier : List (List ℕ)) (line : List ℕ) → first ≡ one
        → ((behind : List (List ℕ)) × (whole ≡ earlier ++ line ∷ behind)) ⊎ ((whole ≡ earlier) × (rest ≡ line) × (line ≢ []))
        → ((behind : List (List ℕ)) × (first ∷ whole ≡ (one ∷ earlier) ++ line ∷ behind)) ⊎ ((first ∷ whole ≡ one ∷ earlier) × (rest ≡ line) × (line ≢ []))
    split_step first one whole rest earlier line same (inl (behind, is)) = inl (behind, cc)
    split_step first one whole rest earlier line same (inr (all, last, some)) = inr (cc, last, some)

module _ {J : Type 0} (view : FilesView J) (told : Option (List ℕ)) (faults : ℕ) where
  -- there are no more lines than bytes that were given
  few_by : (jobs : J) (lines : List (List ℕ)) (read left : List ℕ) (source : InputState) → StandsBy view told faults jobs lines read left source → length lines ≤ 4194305
  few_by jobs lines read left Open s = let w = starts_within read left lines s.starts in let f = s.fits in omega (arith, w, f)
  few_by jobs lines read left AtEnd s =
      let l = s.lines_are in
      let w = starts_within read l.rest l.whole l.starts in
      let f = s.fits in
      let n = ap length l.lines_are ∙ length-append l.whole (last_line l.rest) in
      let last = last_within l.rest in
      omega (arith, w, f, n, last)
  few_by jobs lines read left TooLong s =
      let w = starts_within (take 4194304 read) left lines s.starts in
      let t : length (take 4194304 read) ≤ length read = few_taken 4194304 read in
      let f = s.one_past in
      omega (arith, w, t, f)
    where
      few_taken : (n : ℕ) (xs : List ℕ) → length (take n xs) ≤ length xs
      few_taken zero xs = omega arith
      few_taken (suc n) [] = omega arith
      few_taken (suc n) (x ∷ xs) = let m = few_taken n xs in omega (arith, m)
  few_by jobs lines read left Failed s = let w = starts_within read left lines s.starts in let f = s.fits in omega (arith, w, f)

  pub few : (jobs : J) (reading : Reading) (lines : List (List ℕ)) → HasRead view told faults jobs reading lines → length lines ≤ 4194305
  few jobs reading lines has = few_by jobs lines has.read (uncut reading) reading.source has.stands

  -- ---- each line is a job

  ended_in : (bytes read left behind : List ℕ) (earlier : List (List ℕ)) (line : List ℕ) (more : List (List ℕ)) → bytes ≡ read ++ behind → length read ≤ 4194304
      → StartsWith read (earlier ++ line ∷ more) left → IsEndedIn bytes line
  ended_in bytes read left behind earlier line more is fits starts =
      let m : length read + (4194304 - length read) ≡ 4194304 = omega (arith, fits) in
      let front : take 4194304 bytes ≡ read ++ take (4194304 - length read) behind =
      ap (take 4194304) is ∙ ap (λ n. take n (read ++ behind)) (sym m) ∙ take-append-add read behind (4194304 - length read) in
      record { earlier = earlier; behind = _; starts = among (take 4194304 bytes) read left (take (4194304 - length read) behind) earlier line more front starts }

  at_last : (bytes read : List ℕ) (whole : List (List ℕ)) (rest : List ℕ) (earlier : List (List ℕ)) (line : List ℕ) → bytes ≡ read → length read ≤ 4194304
      → StartsWith read whole rest → IsLine rest
      → ((behind : List (List ℕ)) × (whole ≡ earlier ++ line ∷ behind)) ⊎ ((whole ≡ earlier) × (rest ≡ line) × (line ≢ [])) → IsJobIn bytes line
  at_last bytes read whole rest earlier line is fits starts no_more (inl (behind, among)) =
      inl (ended_in bytes read rest [] earlier line behind (is ∙ sym (append-nil read)) fits (subst (λ w. StartsWith read w rest) among starts))
  at_last bytes read whole rest earlier line is fits starts no_more (inr (all, last, some)) = inr (record {
    fits = let n = ap length is in omega (arith, n, fits);
    earlier = whole;
    starts = subst (λ b. StartsWith b whole line) (sym is) (subst (StartsWith read whole) last starts);
    no_more = subst IsLine last no_more;
    some = some;
  })

  by_front : (bytes : List ℕ) (jobs : J) (earlier : List (List ℕ)) (line : List ℕ) (more : List (List ℕ)) (read left : List ℕ) → told ≡ Some bytes → length read ≤ 4194304
      → StartsWith read (earlier ++ line ∷ more) left → (told ≡ prepend_known read (view.rest jobs)) ⊎ (read ≡ []) → IsJobIn bytes line
  by_front bytes jobs earlier line more read left is fits starts (inl front) =
      let f = told_front bytes read (view.rest jobs) (sym is ∙ front) in
      inl (ended_in bytes read left f.0 earlier line more f.2 fits starts)
  by_front bytes jobs earlier line more read left is fits starts (inr none) =
      absurd (
      let w = starts_within read left (earlier ++ line ∷ more) starts in
      let n = ap length none in
      let l = length-append earlier (line ∷ more) in
      omega (arith, w, n, l)
      )

  job_by : (bytes : List ℕ) (jobs : J) (earlier : List (List ℕ)) (line : List ℕ) (more : List (List ℕ)) (read left : List ℕ) (source : InputState) → told ≡ Some bytes
      → StandsBy view told faults jobs (earlier ++ line ∷ more) read left source → IsJobIn bytes line
  job_by bytes jobs earlier line more read left Open is s =
      let f = told_front bytes read (view.rest jobs) (sym is ∙ s.so_far.front) in
      inl (ended_in bytes read left f.0 earlier line more f.2 s.fits s.starts)
  job_by bytes jobs earlier line more read left AtEnd is s =
      let f = told_front bytes read (view.rest jobs) (sym is ∙ s.so_far.front) in
      let none : f.0 ≡ [] = subst IsAtEnd f.1 s.at_end in
      let whole : bytes ≡ read = f.2 ∙ ap (λ b. read ++ b) none ∙ append-nil read in
      let l = s.lines_are in
      at_last bytes read l.whole l.rest earlier line whole s.fits l.starts l.no_more (split_last l.whole l.rest earlier line more (sym l.lines_are))
  job_by bytes jobs earlier line more read left TooLong is s =
      let f = told_front bytes read (view.rest jobs) (sym is ∙ s.so_far.front) in
      let p = s.one_past in
      let front : take 4194304 bytes ≡ take 4194304 read ++ [] =
      ap (take 4194304) f.2 ∙ take-append-le 4194304 read f.0 (omega (arith, p)) ∙ sym (append-nil (take 4194304 read)) in
      inl (record { earlier = earlier; behind = _; starts = among (take 4194304 bytes) (take 4194304 read) left [] earlier line more front s.starts })
  job_by bytes jobs earlier line more read left Failed is s = by_front bytes jobs earlier line more read left is s.fits s.starts s.front

  pub is_job : (jobs : J) (reading : Reading) (earlier : List (List ℕ)) (line : List ℕ) (more : List (List ℕ))
      → HasRead view told faults jobs reading (earlier ++ line ∷ more) → IfSome told (λ bytes. IsJobIn bytes line)
  is_job jobs reading earlier line more has = by_told told refl
    where
      by_told : (known : Option (List ℕ)) → told ≡ known → IfSome known (λ bytes. IsJobIn bytes line)
      by_told None is = tt
      by_told (Some bytes) is = job_by bytes jobs earlier line more has.read (uncut reading) reading.source is has.stands
