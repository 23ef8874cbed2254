-- The index of several archives without the lines of one of them.
use Rattle.query_core.proofs.Words.{[], ℕ, ◌++◌, ◌∷◌, ◌≡◌, Bool, List, arith, bytes_eq-Decides, filter, flat_map-append, map}
use Rattle.query_core.proofs.Words.{PlaceValue, ap, not, place_cmp, place_cmp_total, refl}
use Rattle.std.proofs.Common.{Equal}
use Rattle.std.proofs.lemmas.List.Elements.{filter-append}
use Rattle.std.specs.Str.{bytes_eq}
use Rattle.cdxj_core.specs.{Entries.EntryValue, Entries.entry_place, Members.entry_member}
use Rattle.cdxj_places.proofs.PlaceOrder.{same_place}
use Rattle.index_core.specs.Indexing.{AreNamed, in_places}
use Rattle.query_core.proofs.DropLemmas.{rising_kept}
use Rattle.query_core.specs.MergeLaws.{of_files}
use Rattle.scan_core.specs.{Captures.all_captures, Laws.AreOfOthers, Laws.RemovedIsDropped}

-- a capture is not of this archive
abbrev of_other : List ℕ → EntryValue → Bool
of_other name e = not (bytes_eq name e.filename)

kept_members : (name : List ℕ) (es : List EntryValue)
    → of_files (λ file. not (bytes_eq name file)) (map entry_member es) ≡ map entry_member (filter (of_other name) es)
kept_members name [] = refl
kept_members name (e ∷ es) = grind (arith, kept_members name es)

none_kept : (name : List ℕ) (es : List EntryValue) → AreNamed name es → filter (of_other name) es ≡ []
none_kept name [] h = refl
none_kept name (e ∷ es) h = grind (arith, bytes_eq-Decides, none_kept name es h.1)

all_kept : (name : List ℕ) (es : List EntryValue) → AreOfOthers name es → filter (of_other name) es ≡ es
all_kept name [] h = refl
all_kept name (e ∷ es) h = grind (arith, all_kept name es h.1)

one_name : (name : List ℕ) (e f : EntryValue) → place_cmp (entry_place e) (entry_place f) ≡ Equal
    → of_other name e ≡ of_other name f
one_name name e f h = ap (λ (p : PlaceValue). not (bytes_eq name p.filename)) (same_place (entry_place e) (entry_place f) h)

others_kept : (name : List ℕ) (before : List (List EntryValue)) (removed : List EntryValue)
    (after : List (List EntryValue)) → AreNamed name removed → AreOfOthers name (all_captures (before ++ after))
    → filter (of_other name) (all_captures (before ++ removed ∷ after)) ≡ all_captures (before ++ after)
others_kept name before removed after named others =
    let is_other = of_other name in
    let kept = all_kept name (all_captures (before ++ after)) others in
    let none = none_kept name removed named in
    let all = flat_map-append (λ (captures : List EntryValue). captures) before (removed ∷ after) in
    let rest = flat_map-append (λ (captures : List EntryValue). captures) before after in
    let of_all = filter-append is_other (all_captures before) (removed ++ all_captures after) in
    let of_behind = filter-append is_other removed (all_captures after) in
    let of_rest = filter-append is_other (all_captures before) (all_captures after) in
    grind arith

pub removed_is_dropped : RemovedIsDropped
removed_is_dropped name before removed after named others =
    let all = all_captures (before ++ removed ∷ after) in
    let kept = rising_kept entry_place place_cmp place_cmp_total (of_other name) (one_name name) all in
    grind (arith, kept_members name (in_places all), others_kept name before removed after named others)
