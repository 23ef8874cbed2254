-- The lines of entries are an index.
use Rattle.std.proofs.Common.{arith, ◌≡◌, ◌≤◌, ℕ, true, false, List, [], ◌∷◌, ◌++◌, map, flat_map, Some}
use Rattle.std.proofs.Common.{refl, append_assoc, Ordering, is_gt}
use Rattle.std.specs.List.{AllByRecursion}
use Rattle.cdxj_places.specs.Pairs.{pair_cmp}
use Rattle.cdxj_places.specs.Places.{place_cmp}
use Rattle.cdxj_places.specs.Rising.{Rises, NeverFalls}
use Rattle.cdxj_places.specs.TextLines.{lines}
use Rattle.cdxj_places.proofs.PlaceOrder.{place_cmp_total}
use Rattle.cdxj_places.proofs.RisingLaws.{each_weaker}
use Rattle.cdxj_core.specs.Entries.{EntryValue, HasLine, entry_pair, entry_place, line_text}
use Rattle.cdxj_core.specs.Lines.{has_no_feed}
use Rattle.cdxj_core.specs.Members.{Member, member_pair, entry_member, line_entry}
use Rattle.cdxj_core.specs.Indexes.{IsIndex}
use Rattle.cdxj_core.proofs.EntryRead.{body_feed}
use Rattle.cdxj_core.proofs.MemberLemmas.{written_entry, entry-higher}

-- the first line of a text
pub lines_front : (body rest : List ℕ) → has_no_feed body ≡ true → lines (body ++ 10 ∷ rest) ≡ (body ++ 10 ∷ []) ∷ lines
    rest
lines_front [] rest h = refl
lines_front (b ∷ body) rest h = grind (arith, lines_front body rest)

lines_written : (limit : ℕ) (es : List EntryValue) → AllByRecursion (HasLine limit) es → lines (flat_map line_text es) ≡
    map line_text es
lines_written limit [] h = refl
lines_written limit (e ∷ es) h = grind (arith, append_assoc, lines_front, body_feed, lines_written limit es h.1)

entries_written : (limit : ℕ) (es : List EntryValue) → AllByRecursion (HasLine limit) es → map (line_entry limit)
    (map line_text es) ≡ map Some (map entry_member es)
entries_written limit [] h = refl
entries_written limit (e ∷ es) h = grind (arith, written_entry, entries_written limit es h.1)

-- ---- order

each_map : {X Y : Type 0} (f : X → Y) (A : Y → Type 0) (xs : List X) → AllByRecursion (λ x. A (f x)) xs
    → AllByRecursion A (map f xs)
each_map f A [] h = tt
each_map f A (x ∷ xs) h = grind (arith, each_map f A xs)

ordered_written : (es : List EntryValue) → NeverFalls entry_pair pair_cmp es → NeverFalls member_pair pair_cmp
    (map entry_member es)
ordered_written [] h = tt
ordered_written (e ∷ es) h = grind (arith, each_map, ordered_written es h.1)

pub index_written : (limit : ℕ) (es : List EntryValue) → AllByRecursion (HasLine limit) es → NeverFalls entry_pair
    pair_cmp es → IsIndex limit (flat_map line_text es) (map entry_member es)
index_written limit es h k = grind (arith, lines_written, entries_written, ordered_written)

not_above : (x y : EntryValue) (o : Ordering) → pair_cmp (entry_pair x) (entry_pair y) ≡ o
    → is_gt (place_cmp (entry_place y) (entry_place x)) ≡ true → is_gt o ≡ false
not_above x y o e h = grind (arith, place_cmp_total.antisymm (entry_place y) (entry_place x))

pub never_falls : (es : List EntryValue) → Rises entry_place place_cmp es → NeverFalls entry_pair pair_cmp es
never_falls [] h = tt
never_falls (e ∷ es) h = grind (arith, each_weaker, not_above, never_falls es h.1)

-- ---- members

pub one_list : (xs ys : List Member) → map Some xs ≡ map Some ys → xs ≡ ys
one_list (x ∷ xs) (y ∷ ys) e =
    let rest : map Some xs ≡ map Some ys = cc in
    grind (arith, one_list xs ys rest)
one_list [] [] e = refl
one_list xs ys e = cc

pub one_index : (limit : ℕ) (text : List ℕ) (these those : List Member) → IsIndex limit text these
    → IsIndex limit text those → these ≡ those
one_index limit text these those h k = grind (arith, one_list)

-- ---- a higher limit

entries_stay : (low high : ℕ) → low ≤ high → (these : List (List ℕ)) (members : List Member) → map (line_entry low)
    these ≡ map Some members → map (line_entry high) these ≡ map Some members
entries_stay low high up (line ∷ these) (m ∷ members) e =
    grind (arith, entry-higher, entries_stay low high up these members)
entries_stay low high up these members e = grind arith

pub index_stays : (low high : ℕ) → low ≤ high → (text : List ℕ) (members : List Member) → IsIndex low text members
    → IsIndex high text members
index_stays low high up text members i = grind (arith, entries_stay low high up (lines text) members i.entries)

pub ruleset index_rules = (index_written, never_falls)
