-- What an archive of any form is read as.
use Rattle.std.specs.Prelude.{ℕ, zero, suc, List, [], ◌∷◌, ◌++◌, length, Option, None, Some, Result, Ok, Err}
use Rattle.warc_core.specs.declared.fault.Fault.{Fault}
use Rattle.archives.specs.Form.{Form, Stored, end_of}

-- the records that bytes begin with, and, unless they are all of them, why no other follows
pub record ArchiveContents : Type 0 where
  pub records : List Stored
  pub fault : Option Fault

-- the same with these records before it
abbrev pub with_records : List Stored → ArchiveContents → ArchiveContents
with_records records c = record { records = records ++ c.records; fault = c.fault }

-- by what comes next, and by what the bytes behind it are read as
abbrev pub contents_by : (ℕ → List ℕ → ArchiveContents) → Result (Option Stored × List ℕ) Fault → ArchiveContents
contents_by behind (Ok (Some r, rest)) = with_records (r ∷ []) (behind (end_of r.place) rest)
contents_by behind (Ok (None, rest)) = record { records = []; fault = None }
contents_by behind (Err f) = record { records = []; fault = Some f }

-- what the bytes from an offset on are read as, in this number of steps at most
unfoldable pub contents_to : Form → ℕ → ℕ → List ℕ → ArchiveContents
contents_to form zero start bytes = record { records = []; fault = None }
contents_to form (suc n) start bytes =
    contents_by (λ at rest. contents_to form n at rest) (form.next start bytes)

-- what they are read as; no record is empty, so there are no more steps than bytes, and one for the end
unfoldable pub contents : Form → ℕ → List ℕ → ArchiveContents
contents form start bytes = contents_to form (suc (length bytes)) start bytes
