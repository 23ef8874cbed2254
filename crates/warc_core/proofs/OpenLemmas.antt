-- Calls in an open record.
use Rattle.warc_core.proofs.Words.{◌≡◌, ℕ, ◌-◌, ◌≤◌, List, ◌++◌, Option, Err, length, arith}
use Rattle.warc_core.proofs.Words.{drop_all, Consumes, Cause, Open, Reads}
use Rattle.warc_core.proofs.RecordLemmas.{after_block-short, after_block-zero, after_block-part}
use Rattle.std.proofs.Math.Seq.{drop-append-add}
use Rattle.warc_core.specs.declared.phase.Phase.{Phase}
use Rattle.warc_core.specs.Reading.{IsPossibleFault, past}
use Rattle.warc_core.specs.Record.{after_block, after_record}
use Rattle.warc_core.specs.ReaderView.{ReaderView, StandsAt}
use Rattle.warc_core.proofs.ReadingLemmas.{GoesOn}

-- how many bytes of an open record's block are left
abbrev pub left_in : Phase → ℕ
left_in (Open left len) = left
left_in phase = 0

-- how long an open record is
abbrev pub length_in : Phase → ℕ
length_in (Open left len) = len
length_in phase = 0

-- the reader stands in the record that was open, with what is left of its block
abbrev pub StandsIn : ReaderView → ReaderView → Type 0
StandsIn old now = StandsAt now old.offset (Open (left_in now.phase) (length_in old.phase))

-- what is met in a block ends its record
pub found-of-record : (c : Cause) (left : ℕ) (before after : Option (List ℕ)) → IsPossibleFault (after_block left) c before
    → Reads (after_record left) (Err c) before after
unfolding after_record
found-of-record c left before after f = grind arith

pub block-part : (n : ℕ) (front w : List ℕ) → length front ≤ n → after_block n (front ++ w)
    ≡ after_block (n - length front) w
block-part n front w l = grind (arith, drop_all (length front) front, after_block-part n (length front) front w)

pub past-part : (n : ℕ) (front w : List ℕ) → length front ≤ n → past n (front ++ w) ≡ past (n - length front) w
past-part n front w l = grind (arith, drop-append-add)

record-part : (n : ℕ) (front w : List ℕ) → length front ≤ n → after_record n (front ++ w)
    ≡ after_record (n - length front) w
unfolding after_record
record-part n front w l = grind (arith, block-part)

pub behind-front : (n : ℕ) (front : List ℕ) (before after : Option (List ℕ)) → length front ≤ n
    → Consumes before after front → GoesOn (after_record n) (after_record (n - length front)) before after
behind-front n front before after l c = grind (arith, record-part)

pub ruleset pass_over_rules = (past-part)

pub ruleset skip_block_rules = (block-part, after_block-short, after_block-zero)
