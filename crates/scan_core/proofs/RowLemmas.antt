-- A line that a query selects of the index of an archive is that of a capture.
use Rattle.query_core.proofs.Words.{[], ◌++◌, ◌∷◌, ◌≡◌, Bool, IsIn, List, Member, QueryValue, append-nil, arith, collection}
use Rattle.query_core.proofs.Words.{filter, map, member_place, place_cmp, place_cmp_total, rising_members, selected}
use Rattle.query_core.proofs.Words.{subst}
use Rattle.cdxj_core.specs.{Entries.EntryValue, Entries.entry_place, Members.entry_member}
use Rattle.index_core.specs.FetchingLaws.{CapturesAreFetched}
use Rattle.index_core.specs.Indexing.{in_places}
use Rattle.query_core.proofs.ComposeLemmas.{in_list}
use Rattle.index_core.specs.PackedFetching.{PackedCapturesAreFetched}
use Rattle.scan_core.specs.{Archives.index_members, Laws.PackedSelectedAreFetched, Laws.SelectedAreFetched}

of_filter : (f : Member → Bool) (m : Member) (ms : List Member) → IsIn m (filter f ms) → IsIn m ms
of_filter f m [] i = absurd i
of_filter f m (n ∷ ms) i = grind (arith, of_filter f m ms)

of_map : (m : Member) (es : List EntryValue) → IsIn m (map entry_member es)
    → (e : EntryValue) × IsIn e es × (m ≡ entry_member e)
of_map m [] i = absurd i
of_map m (e ∷ es) i = grind (arith, of_map m es)

selected_is_capture : (captures : List EntryValue) (q : QueryValue) (m : Member)
    → IsIn m (selected q (collection (index_members captures ∷ [])))
    → (e : EntryValue) × IsIn e captures × (m ≡ entry_member e)
selected_is_capture captures q m i =
    let lines = index_members captures ++ [] in
    let there = of_filter _ m (collection (index_members captures ∷ [])) i in
    let first = (rising_members member_place place_cmp place_cmp_total m lines).0 there in
    let line = in_list member_place place_cmp place_cmp_total m lines first in
    let entry = of_map m (in_places captures) (subst (IsIn m) (append-nil (index_members captures)) line) in
    let held = (rising_members entry_place place_cmp place_cmp_total entry.0 captures).0 entry.1 in
    (entry.0, in_list entry_place place_cmp place_cmp_total entry.0 captures held, entry.2)

pub selected_fetched : CapturesAreFetched → SelectedAreFetched
selected_fetched fetched types limits limit name archive captures q m indexed i =
    let e = selected_is_capture captures q m i in
    (e.0, e.2, fetched types limits limit name archive captures e.0 indexed e.1)

pub packed_selected_fetched : PackedCapturesAreFetched → PackedSelectedAreFetched
packed_selected_fetched fetched types limits name archive captures q m indexed i =
    let e = selected_is_capture captures q m i in
    let there = fetched types limits name archive captures e.0 indexed e.1 in
    (e.0, e.2, there.0, there.1, there.2)
