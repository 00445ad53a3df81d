-- A skip is the sum of the ticks on its stream since the last read claim on it.
use Rattle.std.proofs.Common.{◌≡◌, ℕ, ◌+◌, ◌<◌, ◌==◌, Bool, true, false, not, ◌&&◌, if◌then◌else◌, List, [], ◌∷◌, length, get_or, set, arith, refl, ◌∙◌}
use Rattle.std.proofs.lemmas.List.{get_or-replicate, get_or-set_other, length-replicate, length-set}
use Rattle.std.proofs.lemmas.Grind.{get_or-set_at}
use Rattle.cddf_meaning.specs.Claims.{since_read}
use Rattle.cddf_meaning.specs.declared.cursor_move.Move.{Move}
use Rattle.cddf_meaning.specs.declared.cursor_move.Move.TheVariants.{Take, Tick}
use Rattle.cddf_meaning.specs.Skips.{ticked, skips_of}

length-taken : (write : Bool) (skips : List ℕ) (s : ℕ) → length (if write then skips else set skips s 0) ≡ length skips
length-taken true skips s = refl
length-taken false skips s = length-set skips s 0

length-of : (streams : ℕ) (moves : List Move) → length (skips_of streams moves) ≡ streams
length-of streams [] = length-replicate streams 0
length-of streams (Tick s n ∷ before) =
    length-set (skips_of streams before) s (get_or (skips_of streams before) s 0 + n) ∙ length-of streams before
length-of streams (Take c ∷ before) = length-taken c.write (skips_of streams before) c.stream ∙ length-of streams before

ticked-one : (skips : List ℕ) (s n stream sum : ℕ) → stream < length skips → get_or skips stream 0 ≡ sum →
    get_or (ticked skips s n) stream 0 ≡ (if s == stream then sum + n else sum)
ticked-one skips s n stream sum h e = grind (arith, get_or-set_at, get_or-set_other)

taken-one : (write : Bool) (skips : List ℕ) (s stream sum : ℕ) → stream < length skips → get_or skips stream 0 ≡ sum →
    get_or (if write then skips else set skips s 0) stream 0 ≡ (if not write && (s == stream) then 0 else sum)
taken-one true skips s stream sum h e = e
taken-one false skips s stream sum h e = grind (arith, get_or-set_at, get_or-set_other)

pub skip-sum : (streams stream : ℕ) (moves : List Move) → stream < streams →
    get_or (skips_of streams moves) stream 0 ≡ since_read stream moves
skip-sum streams stream [] h = get_or-replicate streams stream 0 0 h
skip-sum streams stream (Tick s n ∷ before) h =
    ticked-one (skips_of streams before) s n stream (since_read stream before) (omega (arith, h, length-of streams before))
    (skip-sum streams stream before h)
skip-sum streams stream (Take c ∷ before) h =
    taken-one c.write (skips_of streams before) c.stream stream (since_read stream before) (omega (arith, h, length-of streams before))
    (skip-sum streams stream before h)
