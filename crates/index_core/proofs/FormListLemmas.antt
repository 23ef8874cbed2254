-- An archive of either form is one list of records, up to its end or to its fault.
use Rattle.archives.specs.Packing.{form_to}
use Rattle.archives.proofs.PackingLemmas.{forms_lawful}
use Rattle.archives.proofs.ContentsLemmas.{contents_broken, contents_whole, walked}
use Rattle.index_core.specs.RecordLaws.{IsReadToFault, IsReadWhole}

pub is_read_whole : IsReadWhole
is_read_whole limit packing archive records = (
  contents_whole (form_to limit packing) (forms_lawful limit packing) archive records,
  λ e.
      let w = rw e at (walked (form_to limit packing) (forms_lawful limit packing) archive) in
      record { end = w.end; rest = w.rest; walks = w.walks; ended = w.stops },
)

pub is_read_to_fault : IsReadToFault
is_read_to_fault limit packing archive records f = (
  contents_broken (form_to limit packing) (forms_lawful limit packing) archive records f,
  λ e.
      let w = rw e at (walked (form_to limit packing) (forms_lawful limit packing) archive) in
      record { end = w.end; rest = w.rest; walks = w.walks; refused = w.stops },
)
