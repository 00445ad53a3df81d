-- What was read, as it is read on and cut.
use Rattle.std.proofs.Common.{◌≡◌, ◌∙◌, inl, inr, subst, ℕ, ◌+◌, ◌-◌, ◌<◌, ◌≤◌, List, [], ◌++◌, Option, Some, None, Result, Ok, Err, All, refl, sym, ap, arith, append_assoc, append-nil, length, take, drop, vec_len}
use Rattle.std.specs.Prelude.{false, is_err, OnErr, OnOk, MatchResult, slice_range}
use Rattle.std.specs.declared.alloc.Global.{Global}
use Rattle.std.specs.declared.vec.Vec.{Vec}
use Rattle.std.specs.List.{flat_map}
use Rattle.std.specs.Io.KnownBytes.{IsAtEnd, prepend_known}
use Rattle.std.proofs.lemmas.List.{length-append, length-drop, length-take-le, drop-take, drop-drop, take-take}
use Rattle.std.proofs.lemmas.List.Concat.{flat_map-append}
use Rattle.std.proofs.lemmas.List.Elements.{All-append, All-drop, All-nil, All-take}
use Rattle.std.proofs.Math.Seq.{drop-append_seam, take-append_seam, take-append-add}
use Rattle.os_io.proofs.Pieces.{prepend_known-prepend}
use Rattle.os_io.specs.declared.files.Files.{Ghosts as FilesView}
use Rattle.os_serve_jobs.specs.Cutting.{IsCut, TookPiece}
use Rattle.os_io.specs.Lines.{ended_line}
use Rattle.os_serve_jobs.specs.Lines.{AreLines, IsLine, StartsWith, jobs_limit, last_line}
use Rattle.os_serve_jobs.specs.Reading.{CutsOn, HasRead, IsOpenAt, ReadSoFar, StandsBy, uncut, waiting_lines}
use Rattle.os_serve_jobs.specs.declared.reading.Reading.{Reading}
use Rattle.os_serve_jobs.specs.declared.input_state.InputState.{InputState}
use Rattle.os_serve_jobs.specs.declared.input_state.InputState.TheVariants.{AtEnd, Failed, Open, TooLong}

-- nothing in front of what is known
pub prepend_known-nil : (known : Option (List ℕ)) → prepend_known [] known ≡ known
prepend_known-nil None = refl
prepend_known-nil (Some bytes) = refl

-- where all of a piece is cut, the line that has begun is what is not
pub range-none : (line items : List ℕ) (next filled : ℕ) → next ≡ filled → line ++ slice_range items next filled ≡ line
range-none line items next filled same =
    let none : filled - next ≡ 0 = omega (arith, same) in
    ap (λ n. line ++ take n (drop next items)) none ∙ append-nil line

pub uncut-line : (reading : Reading) → reading.next ≡ reading.filled → uncut reading ≡ reading.line.items
uncut-line reading = range-none reading.line.items reading.piece.items reading.next reading.filled

-- where some of a piece is not cut, something is not
pub uncut-some : (reading : Reading) → reading.next < reading.filled → reading.filled ≤ vec_len reading.piece → 0 < length (uncut reading)
uncut-some reading some within =
    let ok = reading.piece.ok.0 in
    let behind = length-drop reading.next reading.piece.items in
    let range = length-take-le (reading.filled - reading.next) (drop reading.next reading.piece.items) (omega (arith, ok, behind, within, some)) in
    let all = length-append reading.line.items (slice_range reading.piece.items reading.next reading.filled) in
    omega (arith, range, all, some)

-- what is cut further on in a piece
pub range-drop : (items : List ℕ) (next count filled : ℕ) → next + count ≤ filled
    → slice_range items (next + count) filled ≡ drop count (slice_range items next filled)
range-drop items next count filled within =
    let m : filled - next ≡ count + (filled - (next + count)) = omega (arith, within) in
    ap (take (filled - (next + count))) (sym (drop-drop count next items))
    ∙ sym (drop-take count (filled - (next + count)) (drop next items))
    ∙ ap (λ n. drop count (take n (drop next items))) (sym m)

-- bytes that are lines and what is left, with more behind them
longer : (lines : List (List ℕ)) (read line fresh left : List ℕ) → read ≡ flat_map ended_line lines ++ line → left ≡ line ++ fresh
    → read ++ fresh ≡ flat_map ended_line lines ++ left
longer lines read line fresh left is more =
    ap (λ b. b ++ fresh) is ∙ append_assoc (flat_map ended_line lines) line fresh ∙ ap (λ l. flat_map ended_line lines ++ l) (sym more)

-- all but the last byte of what was read, and a front of a piece
up_to : (read piece : List ℕ) (count : ℕ) → length read + (count - 1) ≡ 4194304 → 0 < count → take 4194304 (read ++ take count piece) ≡ read ++ take (count - 1) piece
up_to read piece count sum some =
    ap (λ n. take n (read ++ take count piece)) (sym sum)
    ∙ take-append-add read (take count piece) (count - 1)
    ∙ ap (λ p. read ++ p) (take-take (count - 1) count piece (omega arith))

-- what a cut leaves in a piece
pub same_cut : (waiting_old waiting_new : List (List ℕ)) (line_old line_new xs items : List ℕ) (next filled count : ℕ)
    → IsCut waiting_old waiting_new line_old line_new (slice_range xs next filled) count → xs ≡ items → next ≤ filled → filled ≤ length xs
    → flat_map ended_line waiting_new ++ (line_new ++ slice_range items (next + count) filled) ≡ flat_map ended_line waiting_old ++ (line_old ++ slice_range items next filled)
same_cut waiting_old waiting_new line_old line_new xs items next filled count cut same low high =
    let behind = length-drop next xs in
    let range = length-take-le (filled - next) (drop next xs) (omega (arith, behind, high, low)) in
    let within = cut.within in
    subst (λ i. flat_map ended_line waiting_new ++ (line_new ++ slice_range i (next + count) filled) ≡ flat_map ended_line waiting_old ++ (line_old ++ slice_range i next filled)) same
    (ap (λ r. flat_map ended_line waiting_new ++ (line_new ++ r)) (range-drop xs next count filled (omega (arith, range, within, low)))
    ∙ sym (append_assoc (flat_map ended_line waiting_new) line_new (drop count (slice_range xs next filled)))
    ∙ cut.same
    ∙ append_assoc (flat_map ended_line waiting_old) line_old (slice_range xs next filled))

-- nothing was cut
pub cuts_none : (reading : Reading) (waiting : List (List ℕ)) → CutsOn reading reading waiting waiting
cuts_none reading waiting = record {
  same = refl;
  each = λ lines. lines;
  source = refl;
  total = refl;
  none = λ none. (refl, none);
}

-- one more line was cut, where there was something to cut
pub cuts_more : (first before reading : Reading) (waiting_first waiting_before waiting : List (List ℕ)) → CutsOn first before waiting_first waiting_before
    → before.next < before.filled → before.filled ≤ vec_len before.piece
    → flat_map ended_line waiting ++ uncut reading ≡ flat_map ended_line waiting_before ++ uncut before → (All IsLine waiting_before → All IsLine waiting)
    → reading.source ≡ before.source → reading.total ≡ before.total → CutsOn first reading waiting_first waiting
cuts_more first before reading waiting_first waiting_before waiting cuts some within same each source total = record {
  same = same ∙ cuts.same;
  each = λ lines. each (cuts.each lines);
  source = source ∙ cuts.source;
  total = total ∙ cuts.total;
  none = λ none. absurd (let left = ap length (cuts.none none).1 in let more = uncut-some before some within in omega (arith, left, more));
}

module _ {J : Type 0} (view : FilesView J) (told : Option (List ℕ)) (faults : ℕ) where
  -- how it stands, by another name of how more may come
  pub stands_by : (jobs : J) (lines : List (List ℕ)) (read left : List ℕ) (source other : InputState) → source ≡ other
      → StandsBy view told faults jobs lines read left source → StandsBy view told faults jobs lines read left other
  stands_by jobs lines read left source other same = subst (StandsBy view told faults jobs lines read left) same

  -- before anything is read
  pub opened : {A E : Type 0} (result : Result A E) (rest_old : Option (List ℕ)) (jobs : J) (reading : Reading) → is_err result ≡ false
      → MatchResult result (λ _. view.rest jobs ≡ told) (λ _. view.rest jobs ≡ rest_old) → OnOk result (view.faults jobs ≡ faults) → view.given jobs ≡ 0
      → uncut reading ≡ [] → reading.source ≡ Open → HasRead view told faults jobs reading []
  opened (Ok a) rest_old jobs reading fine front no_fault given none source = record {
    read = [];
    given = given;
    stands = stands_by jobs [] [] (uncut reading) Open reading.source (sym source) (record {
      so_far = record { front = sym front ∙ sym (prepend_known-nil (view.rest jobs)); no_fault = no_fault };
      fits = omega arith;
      starts = record { bytes_are = sym none; each = All-nil IsLine };
    });
  }
  opened (Err e) rest_old jobs reading fine front no_fault given none source = absurd (cc)

  -- ---- what is cut

  starts_cut : (bytes left_old left_new : List ℕ) (before waiting_old waiting_new : List (List ℕ))
      → flat_map ended_line waiting_new ++ left_new ≡ flat_map ended_line waiting_old ++ left_old
      → (All IsLine waiting_old → All IsLine waiting_new) → StartsWith bytes (before ++ waiting_old) left_old → StartsWith bytes (before ++ waiting_new) left_new
  starts_cut bytes left_old left_new before waiting_old waiting_new same each starts = record {
    bytes_are =
        starts.bytes_are
        ∙ ap (λ t. t ++ left_old) (flat_map-append ended_line before waiting_old)
        ∙ append_assoc (flat_map ended_line before) (flat_map ended_line waiting_old) left_old
        ∙ ap (λ t. flat_map ended_line before ++ t) (sym same)
        ∙ sym (append_assoc (flat_map ended_line before) (flat_map ended_line waiting_new) left_new)
        ∙ ap (λ t. t ++ left_new) (sym (flat_map-append ended_line before waiting_new));
    each = All-append IsLine before waiting_new
        (subst (All IsLine) (take-append_seam before waiting_old) (All-take IsLine (length before) (before ++ waiting_old) starts.each))
        (each (subst (All IsLine) (drop-append_seam before waiting_old) (All-drop IsLine (length before) (before ++ waiting_old) starts.each)));
  }

  cut_stands : (jobs : J) (read left_old left_new : List ℕ) (before waiting_old waiting_new : List (List ℕ)) (source : InputState)
      → flat_map ended_line waiting_new ++ left_new ≡ flat_map ended_line waiting_old ++ left_old → (All IsLine waiting_old → All IsLine waiting_new)
      → (left_old ≡ [] → (waiting_new ≡ waiting_old) × (left_new ≡ []))
      → StandsBy view told faults jobs (before ++ waiting_old) read left_old source → StandsBy view told faults jobs (before ++ waiting_new) read left_new source
  cut_stands jobs read left_old left_new before waiting_old waiting_new Open same each none s = record {
    so_far = s.so_far;
    fits = s.fits;
    starts = starts_cut read left_old left_new before waiting_old waiting_new same each s.starts;
  }
  cut_stands jobs read left_old left_new before waiting_old waiting_new AtEnd same each none s =
      let kept = none s.none_left in
      record {
        so_far = s.so_far;
        fits = s.fits;
        at_end = s.at_end;
        lines_are = subst (λ w. AreLines read (before ++ w)) (sym kept.0) s.lines_are;
        none_left = kept.1;
      }
  cut_stands jobs read left_old left_new before waiting_old waiting_new TooLong same each none s = record {
    so_far = s.so_far;
    one_past = s.one_past;
    starts = starts_cut (take jobs_limit read) left_old left_new before waiting_old waiting_new same each s.starts;
  }
  cut_stands jobs read left_old left_new before waiting_old waiting_new Failed same each none s = record {
    front = s.front;
    fits = s.fits;
    fault = s.fault;
    starts = starts_cut read left_old left_new before waiting_old waiting_new same each s.starts;
  }

  -- lines were cut off what was read
  pub cuts_on : (jobs : J) (reading_old reading_new : Reading) (before waiting_old waiting_new : List (List ℕ)) → CutsOn reading_old reading_new waiting_old waiting_new
      → HasRead view told faults jobs reading_old (before ++ waiting_old) → HasRead view told faults jobs reading_new (before ++ waiting_new)
  cuts_on jobs reading_old reading_new before waiting_old waiting_new cuts has = record {
    read = has.read;
    given = has.given;
    stands = stands_by jobs (before ++ waiting_new) has.read (uncut reading_new) reading_old.source reading_new.source (sym cuts.source)
        (cut_stands jobs has.read (uncut reading_old) (uncut reading_new) before waiting_old waiting_new reading_old.source cuts.same cuts.each cuts.none has.stands);
  }

  -- ---- what is read

  -- what was read before a read, and what it gives
  more_read : (jobs_old jobs_new : J) (read fresh : List ℕ) → ReadSoFar view told faults jobs_old read
      → view.rest jobs_old ≡ prepend_known fresh (view.rest jobs_new) → view.faults jobs_new ≡ view.faults jobs_old
      → ReadSoFar view told faults jobs_new (read ++ fresh)
  more_read jobs_old jobs_new read fresh s gave same = record {
    front = s.front ∙ ap (prepend_known read) gave ∙ prepend_known-prepend read fresh (view.rest jobs_new);
    no_fault = same ∙ s.no_fault;
  }

  -- a read that gives nothing
  no_more : (jobs_old jobs_new : J) (read : List ℕ) → ReadSoFar view told faults jobs_old read
      → view.rest jobs_old ≡ prepend_known [] (view.rest jobs_new) → view.faults jobs_new ≡ view.faults jobs_old
      → ReadSoFar view told faults jobs_new read
  no_more jobs_old jobs_new read s gave same = record {
    front = s.front ∙ ap (prepend_known read) (gave ∙ prepend_known-nil (view.rest jobs_new));
    no_fault = same ∙ s.no_fault;
  }

  -- the file came to its end, and the line that has begun is its last one; or the room for it was wanted
  pub at_end : {A E : Type 0} (result : Result A E) (jobs_old jobs_new : J) (reading_old reading_new : Reading) (before : List (List ℕ)) (items_old items_new : List (Vec ℕ Global))
      (line left_mid : List ℕ) (source_mid : InputState)
      → reading_old.source ≡ Open → uncut reading_old ≡ line → IsLine line
      → view.rest jobs_old ≡ prepend_known [] (view.rest jobs_new) → view.faults jobs_new ≡ view.faults jobs_old → view.given jobs_new ≡ view.given jobs_old → IsAtEnd (view.rest jobs_new)
      → OnOk result (waiting_lines items_new ≡ waiting_lines items_old ++ last_line line) → OnOk result (uncut reading_new ≡ []) → OnOk result (reading_new.source ≡ AtEnd)
      → OnErr result (items_new ≡ items_old) → OnErr result (uncut reading_new ≡ left_mid) → left_mid ≡ line → OnErr result (reading_new.source ≡ source_mid) → source_mid ≡ Open
      → HasRead view told faults jobs_old reading_old (before ++ waiting_lines items_old) → HasRead view told faults jobs_new reading_new (before ++ waiting_lines items_new)
  at_end (Ok a) jobs_old jobs_new reading_old reading_new before items_old items_new line left_mid source_mid source left is_line gave same given end waits none now kept kept_left mid kept_source open_mid has =
      let s : IsOpenAt view told faults jobs_old (before ++ waiting_lines items_old) has.read (uncut reading_old) =
      stands_by jobs_old (before ++ waiting_lines items_old) has.read (uncut reading_old) reading_old.source Open source has.stands in
      record {
        read = has.read;
        given = given ∙ has.given;
        stands = stands_by jobs_new (before ++ waiting_lines items_new) has.read (uncut reading_new) AtEnd reading_new.source (sym now) (record {
          so_far = no_more jobs_old jobs_new has.read s.so_far gave same;
          fits = s.fits;
          at_end = end;
          lines_are = record {
            whole = before ++ waiting_lines items_old;
            rest = line;
            starts = subst (StartsWith has.read (before ++ waiting_lines items_old)) left s.starts;
            no_more = is_line;
            lines_are = ap (λ w. before ++ w) waits ∙ sym (append_assoc before (waiting_lines items_old) (last_line line));
          };
          none_left = none;
        });
      }
  at_end (Err e) jobs_old jobs_new reading_old reading_new before items_old items_new line left_mid source_mid source left is_line gave same given end waits none now kept kept_left mid kept_source open_mid has =
      let s : IsOpenAt view told faults jobs_old (before ++ waiting_lines items_old) has.read (uncut reading_old) =
      stands_by jobs_old (before ++ waiting_lines items_old) has.read (uncut reading_old) reading_old.source Open source has.stands in
      record {
        read = has.read;
        given = given ∙ has.given;
        stands = stands_by jobs_new (before ++ waiting_lines items_new) has.read (uncut reading_new) Open reading_new.source (sym (kept_source ∙ open_mid)) (record {
          so_far = no_more jobs_old jobs_new has.read s.so_far gave same;
          fits = s.fits;
          starts = subst (λ w. StartsWith has.read (before ++ waiting_lines w) (uncut reading_new)) (sym kept)
              (subst (StartsWith has.read (before ++ waiting_lines items_old)) (left ∙ sym (kept_left ∙ mid)) s.starts);
        });
      }

  -- what was read into a piece stands to be cut
  piece_stands : (jobs : J) (reading : Reading) (lines : List (List ℕ)) (read piece : List ℕ) (count : ℕ) → StartsWith read lines reading.line.items
      → 0 < count → length (read ++ take count piece) ≡ reading.total → length read + count ≡ reading.total → ReadSoFar view told faults jobs (read ++ take count piece)
      → TookPiece piece count reading → StandsBy view told faults jobs lines (read ++ take count piece) (uncut reading) reading.source
  piece_stands jobs reading lines read piece count starts some len sum so_far (inl (fits, source, range)) =
      stands_by jobs lines (read ++ take count piece) (uncut reading) Open reading.source (sym source) (record {
        so_far = so_far;
        fits = omega (arith, len, fits);
        starts = record {
          bytes_are = longer lines read reading.line.items (take count piece) (uncut reading) starts.bytes_are (ap (λ r. reading.line.items ++ r) range);
          each = starts.each;
        };
      })
  piece_stands jobs reading lines read piece count starts some len sum so_far (inr (past, source, range)) =
      stands_by jobs lines (read ++ take count piece) (uncut reading) TooLong reading.source (sym source) (record {
        so_far = so_far;
        one_past = len ∙ past;
        starts = record {
          bytes_are =
              up_to read piece count (let p : length read + count ≡ 4194305 = sum ∙ past in omega (arith, p, some)) some
              ∙ longer lines read reading.line.items (take (count - 1) piece) (uncut reading) starts.bytes_are (ap (λ r. reading.line.items ++ r) range);
          each = starts.each;
        };
      })

  -- a piece was read
  pub took_on : (jobs_old jobs_new : J) (reading_old reading_new : Reading) (lines : List (List ℕ)) (piece buffer : List ℕ) (count : ℕ)
      → reading_old.source ≡ Open → uncut reading_old ≡ reading_new.line.items → 0 < count → count ≤ length buffer → piece ≡ buffer
      → reading_new.total ≡ reading_old.total + count → view.given jobs_old ≡ reading_old.total
      → TookPiece piece count reading_new
      → view.rest jobs_old ≡ prepend_known (take count buffer) (view.rest jobs_new) → view.faults jobs_new ≡ view.faults jobs_old
      → view.given jobs_new ≡ reading_new.total
      → HasRead view told faults jobs_old reading_old lines → HasRead view told faults jobs_new reading_new lines
  took_on jobs_old jobs_new reading_old reading_new lines piece buffer count source left some within is total counted took gave same given has =
      let s : IsOpenAt view told faults jobs_old lines has.read (uncut reading_old) =
      stands_by jobs_old lines has.read (uncut reading_old) reading_old.source Open source has.stands in
      let sum : length has.read + count ≡ reading_new.total = (let h = has.given in omega (arith, h, counted, total)) in
      let len : length (has.read ++ take count buffer) ≡ reading_new.total =
      length-append has.read (take count buffer) ∙ ap (λ n. length has.read + n) (length-take-le count buffer within) ∙ sum in
      record {
        read = has.read ++ take count buffer;
        given = given ∙ sym len;
        stands = piece_stands jobs_new reading_new lines has.read buffer count (subst (StartsWith has.read lines) left s.starts) some len sum
            (more_read jobs_old jobs_new has.read (take count buffer) s.so_far gave same) (subst (λ p. TookPiece p count reading_new) is took);
      }
