-- What the calls of an archive answer.
use Rattle.std.specs.Prelude.{◌≡◌, ℕ, ⊤, true, List, Option, None, Some, Result, Ok, Err, codes}
use Rattle.warc_core.specs.Fields.{value_of}
use Rattle.warc_core.specs.declared.fault.Fault.{Fault}
use Rattle.warc_core.specs.declared.verdict.Verdict.{Verdict}
use Rattle.warc_core.specs.HeadView.{HeadView}
use Rattle.capture_core.specs.BlockDigest.{verdict_of}
use Rattle.archives.specs.Form.{Form, Placed, Stored, Comes, ComesRecord, StandsFrom, end_of}
use Rattle.archives.specs.State.{ArchiveState}

-- what the head says of a block
abbrev pub verdict_on : HeadView → List ℕ → Verdict
verdict_on h block = verdict_of (value_of (codes "WARC-Block-Digest") h.parts.fields) block

-- the verdict on a record
abbrev pub verdict_in : Stored → Verdict
verdict_in r = verdict_on r.head r.block

-- a record with a verdict on its block
abbrev pub Judged : Type 0
Judged = Placed × Verdict

module _ (form : Form) where
  -- a record of which this holds comes at the offset, and was read to its end
  pub record ComesAt (offset : ℕ) (p : Placed) (P : Stored → Type 0) (before after : Option (List ℕ)) : Type 0 where
    pub comes : ComesRecord form offset p P before after
    pub stands : StandsFrom form offset p

  -- why nothing more was read
  pub record FailsAt (offset : ℕ) (f : Fault) (before after : Option (List ℕ)) : Type 0 where
    pub comes : Comes form offset (Err f) before after
    pub follows : form.Follows offset f.offset

  -- what comes next at the offset was read
  abbrev pub ReadsNext : ℕ → Result (Option Placed) Fault → Option (List ℕ) → Option (List ℕ) → Type 0
  ReadsNext offset (Ok None) before after = Comes form offset (Ok None) before after
  ReadsNext offset (Ok (Some p)) before after = ComesAt offset p (λ r. ⊤) before after
  ReadsNext offset (Err f) before after = FailsAt offset f before after

  -- the same, with the verdict on it
  abbrev pub JudgesNext : ℕ → Result (Option Judged) Fault → Option (List ℕ) → Option (List ℕ) → Type 0
  JudgesNext offset (Ok None) before after = Comes form offset (Ok None) before after
  JudgesNext offset (Ok (Some j)) before after = ComesAt offset j.0 (λ r. j.1 ≡ verdict_in r) before after
  JudgesNext offset (Err f) before after = FailsAt offset f before after

-- the archive stands behind the record that was read
abbrev pub StandsBehind : {A E : Type 0} → (A → Placed) → Result (Option A) E → ArchiveState → Type 0
StandsBehind placed (Ok (Some x)) new = (new.is_open ≡ true) × (new.offset ≡ end_of (placed x).place)
StandsBehind placed (Ok None) new = ⊤
StandsBehind placed (Err e) new = ⊤
