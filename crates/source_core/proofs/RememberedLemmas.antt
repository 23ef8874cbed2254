-- Lines of a source that are known without a read.
use Rattle.source_core.proofs.Words.{[], ℕ, ◌++◌, ◌+◌, ◌-◌, ◌<◌, ◌∙◌, ◌≡◌, ◌≤◌, AreBytesAt, Bool, List, None, Option}
use Rattle.source_core.proofs.Words.{PartOf, ReadsOn, Some, ap, arith, drop, false, length, length-append}
use Rattle.source_core.proofs.Words.{length-drop, length-take, min, refl, sym, take, take-take, take_all}
use Rattle.source_core.proofs.{Parts.given_out, Pieces.IsPiece, Pieces.begins_in, Pieces.found_in}
use Rattle.source_core.proofs.{Seeks.from_line_later, WindowLemmas.held_reads, WindowLemmas.nothing_read}
use Rattle.source_core.specs.{Device.HoldsPart, IndexLines.BeginsFrom}
use Rattle.source_core.specs.Remembered.{AreKept, IsKept, IsKnown}
use Rattle.source_core.specs.declared.known_line.KnownLine.{KnownLine}
use Rattle.std.proofs.lemmas.List.{drop-append-le, drop_at, take-append-le, take_min}
use Rattle.std.proofs.lemmas.List.Elements.{All-weaker}
use Rattle.memchr.specs.Find.{NoneBefore, Passes, is_byte}

-- the line at the start, of which no byte is known
pub nothing_kept : (text : Option (List ℕ)) (fronts : List ℕ)
    → IsKept text fronts (record { from = 0; offset = 0; start = 0; length = 0 })
nothing_kept text fronts = record {
  inside = omega arith;
  known = record {
    short = omega arith;
    begins = λ t e. (refl, refl);
    reads = λ t e. (false, nothing_read t 0);
  };
}

-- more is kept behind what is kept of a line
still_kept : (text : Option (List ℕ)) (fronts more : List ℕ) (line : KnownLine) → IsKept text fronts line
    → IsKept text (fronts ++ more) line
still_kept text fronts more line h =
    let same : take line.length (drop line.start (fronts ++ more)) ≡ take line.length (drop line.start fronts) =
    grind (arith, drop-append-le, take-append-le, length-drop) in
    let inside = h.inside in
    record { inside = grind (arith, length-append); known = rw same h.known }

pub all_still_kept : (text : Option (List ℕ)) (fronts more : List ℕ) (lines : List KnownLine) → AreKept text fronts lines
    → AreKept text (fronts ++ more) lines
all_still_kept text fronts more lines h =
    All-weaker (λ l. IsKept text fronts l) (λ l. IsKept text (fronts ++ more) l) (still_kept text fronts more) lines h

-- a line whose first bytes were put behind those that are kept
pub newly_kept : (text : Option (List ℕ)) (fronts front : List ℕ) (from offset : ℕ) → IsKnown text from offset front
    → IsKept text (fronts ++ front)
    (record { from = from; offset = offset; start = length fronts; length = length front })
newly_kept text fronts front from offset h =
    let same : take (length front) (drop (length fronts) (fronts ++ front)) ≡ front =
    rw (drop_at fronts front (length fronts) refl) (take_all (length front) front (omega arith)) in
    record { inside = grind (arith, length-append); known = rw same h }

-- ---- the line that begins behind the first line feed of bytes that were read

pub bytes_read : (text : Option (List ℕ)) (extent at n : ℕ) (piece : List ℕ) → n ≤ length piece → n ≤ 8192 → 0 < n
    → n ≤ extent - at → HoldsPart text at n piece → AreBytesAt text extent at (take n piece)
bytes_read None extent at n piece inside few some within holds =
    let size = length-take n piece in record { within = omega arith; most = omega arith; bytes = λ t e. absurd (cc) }
bytes_read (Some s) extent at n piece inside few some within holds =
    let size = length-take n piece in
    record { within = omega arith; most = omega arith; bytes = λ t e. grind arith }

module _ (t bytes : List ℕ) (at : ℕ) (are : bytes ≡ take (length bytes) (drop at t)) (some : 0 < length bytes) where
  is_piece : IsPiece t bytes (length t) at (length bytes) (at + 1)
  is_piece =
      let few : length bytes ≤ length t - at = grind (arith, length-take, length-drop) in
      let back : at + 1 - 1 ≡ at = omega arith in
      record {
        is = (refl, sym (rw back at (from_line_later (at + 1) t (omega arith))));
        holds = grind (arith, take_all);
        long = omega arith;
        inside = few;
        before = omega arith;
      }

  pub begins_behind : (feed : ℕ) → NoneBefore (Passes (is_byte 10) bytes) 0 (length bytes) feed
      → Passes (is_byte 10) bytes feed → BeginsFrom (at + 1) t (at + (feed + 1))
  begins_behind feed none here =
      let whole : take (length bytes) bytes ≡ bytes = take_all (length bytes) bytes (omega arith) in
      let there : at + (feed + 1) ≡ at + feed + 1 = omega arith in
      rw there (
        found_in t bytes (length t) at (length bytes) (at + 1) is_piece feed (rw whole none) (rw whole here),
        begins_in t bytes (length t) at (length bytes) (at + 1) is_piece feed (rw whole none) (rw whole here),
      )

-- the first of them are as well
taken : (text : Option (List ℕ)) (extent at j : ℕ) (xs : List ℕ) → AreBytesAt text extent at xs
    → AreBytesAt text extent at (take j xs)
taken text extent at j xs h =
    let size : length (take j xs) ≡ min j (length xs) = length-take j xs in let within = h.within in let most = h.most in
    record {
      within = grind arith;
      most = grind arith;
      bytes = λ t e. rw size (sym (take_min j xs) ∙ ap (take (min j (length xs))) (h.bytes t e) ∙
          take-take (min j (length xs)) (length xs) (drop at t) (omega arith));
    }

pub front_behind : (text : Option (List ℕ)) (extent at feed j n : ℕ) (bytes t : List ℕ) (ends : Bool)
    → AreBytesAt text extent at bytes → text ≡ Some t → feed < length bytes
    → n ≤ length (take j (drop (feed + 1) bytes)) → PartOf (take j (drop (feed + 1) bytes)) n ends
    → ReadsOn t (at + (feed + 1)) (take n (take j (drop (feed + 1) bytes))) ends
front_behind text extent at feed j n bytes t ends h e inside few part =
    let offset = at + (feed + 1) in let none : offset + 0 ≡ offset = omega arith in
    let held : AreBytesAt text extent offset (take j (drop (feed + 1) bytes)) =
    taken text extent offset j (drop (feed + 1) bytes) (given_out text extent at (feed + 1) bytes h (omega arith)) in
    held_reads text extent offset n [] _ _ t ends (rw none held) e few refl part (nothing_read t offset)
