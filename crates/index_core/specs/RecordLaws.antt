-- Laws of the records of an archive of either form.
use Rattle.std.specs.Prelude.{◌≡◌, ◌↔◌, ℕ, List, None, Some}
use Rattle.warc_core.specs.declared.fault.Fault.{Fault}
use Rattle.archives.specs.Contents.{contents}
use Rattle.archives.specs.Form.{BreaksAfter, ConsistsOf, Stored}
use Rattle.archives.specs.Packing.{Packing, form_to}

-- an archive consists of these records if and only if it is read as them and no fault
abbrev pub IsReadWhole : Type 0
IsReadWhole = (limit : ℕ) (packing : Packing) (archive : List ℕ) (records : List Stored)
    → ConsistsOf (form_to limit packing) archive records
    ↔ (contents (form_to limit packing) 0 archive ≡ record { records = records; fault = None })

-- and it has this fault behind them if and only if it is read so
abbrev pub IsReadToFault : Type 0
IsReadToFault = (limit : ℕ) (packing : Packing) (archive : List ℕ) (records : List Stored) (f : Fault)
    → BreaksAfter (form_to limit packing) archive records f
    ↔ (contents (form_to limit packing) 0 archive ≡ record { records = records; fault = Some f })
