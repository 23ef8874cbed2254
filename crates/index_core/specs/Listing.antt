-- The listing of an archive.
use Rattle.std.specs.Prelude.{ℕ, List, ◌++◌, length, Option, Result, codes, decimal}
use Rattle.warc_core.specs.Kind.{kind_name}
use Rattle.index_core.specs.declared.fault.IndexFault.{IndexFault}
use Rattle.archives.specs.Form.{Form, Placed, placed_of}
use Rattle.index_core.specs.Report.{Reports, Wording}

-- `OFFSET LENGTH KIND`
unfoldable pub record_line : Placed → List ℕ
record_line p = decimal p.place.offset ++ codes " " ++ decimal p.place.length ++ codes " "
    ++ kind_name p.head.parts.kind ++ codes "\n"

-- what a listing says of an archive
abbrev pub listing : Wording ℕ Placed
listing = record { placed = λ p. p; line = record_line; tally = length; said = placed_of }

-- what a listing wrote, by its answer
abbrev pub Lists : Form → Option (List ℕ) → Result ℕ IndexFault → Option (List ℕ) → Option (List ℕ) → Type 0
Lists form = Reports form listing
