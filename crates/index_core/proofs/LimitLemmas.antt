-- Archives under higher limits of lines and heads.
use Rattle.index_core.proofs.Words.{◌≡◌, ℕ, ◌≤◌, Bool, List, [], ◌∷◌, None, Some, Ok, arith, AllByRecursion, Kind}
use Rattle.index_core.proofs.Words.{EntryValue, Limits, IsTaken, AreCaptured}
use Rattle.warc_core.proofs.LimitLemmas.{reading_stays}
use Rattle.archives.specs.Form.{Stored, ConsistsOf, WalksOver, end_of, plain}
use Rattle.index_core.specs.Laws.{WholeStays, CapturesStay}
use Rattle.archives.proofs.PlainLemmas.{plain_end, plain_ends, plain_read, plain_reads}

module _ (low high : ℕ) (up : low ≤ high) where
  next_stays : (start : ℕ) (bytes rest : List ℕ) (r : Stored) → (plain low).next start bytes ≡ Ok (Some r, rest)
      → (plain high).next start bytes ≡ Ok (Some r, rest)
  next_stays start bytes rest r e =
      let p = plain_read low start bytes rest r e in
      rw p.2 (plain_reads high start bytes rest p.0 (reading_stays low high up start bytes rest (Some p.0) p.1))

  walk_stays : (start : ℕ) (bytes : List ℕ) (records : List Stored) (end : ℕ) (rest : List ℕ)
      → WalksOver (plain low) start bytes records end rest → WalksOver (plain high) start bytes records end rest
  walk_stays start bytes [] end rest w = w
  walk_stays start bytes (r ∷ records) end rest w =
      (w.0, next_stays start bytes w.0 r w.1, walk_stays (end_of r.place) w.0 records end rest w.2)

  whole_stay : (archive : List ℕ) (records : List Stored) → ConsistsOf (plain low) archive records
      → ConsistsOf (plain high) archive records
  whole_stay archive records w = record {
    end = w.end;
    rest = w.rest;
    walks = walk_stays 0 archive records w.end w.rest w.walks;
    ended = plain_ends high w.end w.rest []
        (reading_stays low high up w.end w.rest [] None (plain_end low w.end w.rest [] w.ended));
  }

module _ (types : Kind → Bool) (limits : Limits) (line low high : ℕ) (longer : limits.line ≤ line)
    (name : List ℕ) where
  abbrev higher : Limits
  higher = record limits { line = line }

  are_taken : (records : List Stored) → AllByRecursion (IsTaken types limits (plain low) name) records
      → AllByRecursion (IsTaken types higher (plain high) name) records
  are_taken [] h = tt
  are_taken (r ∷ records) h = grind (arith, are_taken records h.1)

  are_captured : (records : List Stored) (captures : List EntryValue)
      → AreCaptured types limits (plain low) name records captures
      → AreCaptured types higher (plain high) name records captures
  are_captured [] captures h = h
  are_captured (r ∷ records) captures h = grind (arith, are_captured records h.1 h.3)

pub whole_stays : WholeStays
whole_stays types limits line low high longer up name archive w = record {
  records = w.records;
  whole = whole_stay low high up archive w.records w.whole;
  taken = are_taken types limits line low high longer name w.records w.taken;
}

pub captures_stay : CapturesStay
captures_stay types limits line low high longer up name archive captures a = record {
  records = a.records;
  whole = whole_stay low high up archive a.records a.whole;
  captured = are_captured types limits line low high longer name a.records captures a.captured;
}

pub ruleset limit_rules = (whole_stays, captures_stay)
