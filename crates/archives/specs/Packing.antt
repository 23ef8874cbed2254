-- How an archive keeps its records.
use Rattle.std.specs.Prelude.{ℕ, ◌==◌, ◌&&◌, List, [], ◌∷◌, if◌then◌else◌}
use Rattle.warc_core.specs.declared.next.TheConstants.{HEAD_LIMIT}
use Rattle.archives.specs.Form.{Form, plain}
use Rattle.archives.specs.Packed.{packed}

pub data Packing : Type 0 where
  -- one after another
  Plain : Packing
  -- each a member of gzip of its own
  Packed : Packing

-- the form of such archives, with heads of at most this length
abbrev pub form_to : ℕ → Packing → Form
form_to limit Plain = plain limit
form_to limit Packed = packed limit

-- their form as calls read them
abbrev pub form_of : Packing → Form
form_of packing = form_to HEAD_LIMIT packing

-- how an archive with these bytes keeps its records: its first two bytes say so
abbrev pub packing_of : List ℕ → Packing
packing_of [] = Plain
packing_of (first ∷ []) = Plain
packing_of (first ∷ second ∷ bytes) = if first == 31 && second == 139 then Packed else Plain
