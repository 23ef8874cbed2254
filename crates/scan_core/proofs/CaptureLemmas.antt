-- The captures of archives have names, lines and places of their own.
use Rattle.query_core.proofs.Words.{[], ℕ, ◌∷◌, AllByRecursion, AllZip, Bool, LINE_LIMIT, List, arith, each_join}
use Rattle.query_core.proofs.Words.{length-map}
use Rattle.warc_core.specs.Kind.{Kind}
use Rattle.cdxj_core.specs.{Entries.EntryValue, Entries.HasLine}
use Rattle.archives.specs.State.{ToldArchive}
use Rattle.index_core.specs.Indexing.{AreNamed}
use Rattle.index_core.proofs.IndexLemmas.{all_in_places}
use Rattle.scan_core.specs.Archives.{AreCapturesOfEach, HaveLines}
use Rattle.scan_core.specs.Captures.{all_captures}
use Rattle.scan_core.specs.CaptureLaws.{CapturesHavePlaces, NoneIsLeftOut}
use Rattle.scan_core.proofs.ScanLemmas.{once_from}

pub all_named : (types : Kind → Bool) (names : List (List ℕ)) (inputs : List ToldArchive)
    (captures : List (List EntryValue)) → AreCapturesOfEach types names inputs captures → AllZip AreNamed names captures
all_named types (name ∷ names) (input ∷ inputs) (c ∷ captures) h = (h.0.0, all_named types names inputs captures h.1)
all_named types names inputs captures h = grind arith

pub all_have_lines : (archives : List (List EntryValue)) → AllByRecursion HaveLines archives
    → AllByRecursion (HasLine LINE_LIMIT) (all_captures archives)
all_have_lines [] h = tt
all_have_lines (captures ∷ archives) h = each_join (HasLine LINE_LIMIT) captures (all_captures archives) h.0.lines
    (all_have_lines archives h.1)

pub all_have_places : CapturesHavePlaces
all_have_places types names inputs captures h = (once_from types [] names inputs captures h.named h.accepted h.lines).0

pub none_left_out : NoneIsLeftOut
none_left_out types names inputs sizes text result old new s =
    grind (arith, length-map, all_in_places (all_captures s.captures) s.once)
