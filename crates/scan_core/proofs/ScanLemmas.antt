-- The captures of archives, and the pages that a scan writes of them.
use Rattle.query_core.proofs.Words.{[], ℕ, ◌++◌, ◌∷◌, ◌≡◌, AllByRecursion, AllZip, Bool, Err, IsIndex, Known}
use Rattle.query_core.proofs.Words.{LINE_LIMIT, List, Member, Ok, Option, QueryValue, append-nil, arith, collection}
use Rattle.query_core.proofs.Words.{each_join, each_weaker, false, flat_map, length, lines_text, map, map-append}
use Rattle.query_core.proofs.Words.{member_place, place_cmp, place_cmp_total, refl}
use Rattle.std.proofs.Common.{Equal}
use Rattle.cdxj_places.proofs.{PlaceOrder.same_place, RisingAlike.rising_referred}
use Rattle.cdxj_core.specs.{Entries.EntryValue, Entries.entry_place, Members.entry_member}
use Rattle.index_core.specs.Indexing.{AreNamed, HaveOwnPlaces, entries_text, in_places, index_text, is_among}
use Rattle.query_core.proofs.{ComposeLemmas.rising_parts, PageChains.pages_one, FrontLemmas.pages_front}
use Rattle.scan_core.specs.Archives.{AreCapturesOfEach, AreNewNames, HaveIndexes, HaveLines, index_members}
use Rattle.scan_core.specs.{Captures.all_captures, Captures.captured_lines, Laws.ScanHasFront, Laws.ScanIsOne}
use Rattle.warc_core.specs.Kind.{Kind}
use Rattle.index_core.proofs.SoundLemmas.{among_last, among_more}
use Rattle.scan_core.specs.Scanning.{IsAsked, Scanned, WritesKnownPages}
use Rattle.archives.specs.State.{ToldArchive}
use Rattle.index_core.specs.Laws.{OneIndexed}
use Rattle.query_core.specs.declared.fault.AnswerFault.{AnswerFault}
use Rattle.query_core.specs.declared.fault.AnswerFault.TheVariants as answer
use Rattle.scan_core.specs.declared.fault.ScanFault.TheVariants.{Answer}

-- ---- the collection of several indexes is that of all captures

all_members : (archives : List (List EntryValue)) → flat_map (λ members. members) (map index_members archives)
    ≡ map entry_member (flat_map in_places archives)
all_members [] = refl
all_members (captures ∷ archives) = grind (arith, map-append, all_members archives)

pub collected : (archives : List (List EntryValue)) → collection (map index_members archives) ≡ captured_lines archives
collected archives =
    let referred = rising_referred entry_member member_place place_cmp (flat_map in_places archives) in
    grind (arith, all_members archives, rising_parts, place_cmp_total)

lines_of : (entries : List EntryValue) → lines_text (map entry_member entries) ≡ entries_text entries
lines_of [] = refl
lines_of (entry ∷ entries) = grind (arith, lines_of entries)

pub index_is_merge : (archives : List (List EntryValue)) → index_text (all_captures archives)
    ≡ lines_text (collection (map index_members archives))
index_is_merge archives = grind (arith, collected archives, lines_of (in_places (all_captures archives)))

pub scan_is_over_index : (archives : List (List EntryValue)) → captured_lines archives
    ≡ collection (index_members (all_captures archives) ∷ [])
scan_is_over_index archives = grind (arith, append-nil, collected (all_captures archives ∷ []))

-- ---- captures of archives of different names have different places

-- a capture of that name is at another place than those of other names
apart : (earlier : List (List ℕ)) (name : List ℕ) (e : EntryValue) → e.filename ≡ name → (others : List EntryValue)
    → AllByRecursion (λ o. is_among (earlier ++ name ∷ []) o.filename ≡ false) others
    → AllByRecursion (λ o. place_cmp (entry_place e) (entry_place o) ≡ Equal → ⊥) others
apart earlier name e named [] h = tt
apart earlier name e named (o ∷ others) h = (
  (λ q. let same = same_place (entry_place e) (entry_place o) q in grind (arith, among_last)),
  apart earlier name e named others h.1,
)

own_join : (earlier : List (List ℕ)) (name : List ℕ) (captures others : List EntryValue) → AreNamed name captures
    → HaveOwnPlaces captures → AllByRecursion (λ o. is_among (earlier ++ name ∷ []) o.filename ≡ false) others
    → HaveOwnPlaces others → HaveOwnPlaces (captures ++ others)
own_join earlier name [] others named own new h = h
own_join earlier name (e ∷ captures) others named own new h =
    grind (arith, each_join, apart, own_join earlier name captures others named.1 own.1 new h)

-- each capture of archives with new names has a place of its own, and a name that isn't an earlier one
pub once_from : (types : Kind → Bool) (earlier names : List (List ℕ)) (inputs : List ToldArchive)
    (archives : List (List EntryValue)) → AreNewNames earlier names → AreCapturesOfEach types names inputs archives
    → AllByRecursion HaveLines archives
    → HaveOwnPlaces (all_captures archives)
    × AllByRecursion (λ e. is_among earlier e.filename ≡ false) (all_captures archives)
once_from types earlier (name ∷ names) (i ∷ inputs) (captures ∷ archives) new accepted lines =
    let rest = once_from types (earlier ++ name ∷ []) names inputs archives new.1 accepted.1 lines.1 in (
      own_join earlier name captures (all_captures archives) accepted.0.0 lines.0.places rest.1 rest.0,
      grind (arith, each_join, each_weaker, among_more),
    )
once_from types earlier names inputs archives new accepted lines = grind arith

-- ---- what a scan wrote, from what its parts did

module _ {types : Kind → Bool} {names texts : List (List ℕ)} {inputs : List ToldArchive} {sizes text : List ℕ}
    {query : QueryValue} {old new : Option (List ℕ)} (asked : IsAsked sizes text (length names) query)
    (found : HaveIndexes types names inputs texts) where
  pub scanned_whole : (number : ℕ)
      → ((members : List (List Member)) → AllZip (IsIndex LINE_LIMIT) texts members
      → WritesKnownPages query (collection members) sizes (Ok number) old new)
      → Scanned types names inputs sizes text (Ok number) old new
  scanned_whole number w = grind (arith, once_from, collected)

  pub scanned_part : (fault : AnswerFault) → ((members : List (List Member)) → AllZip (IsIndex LINE_LIMIT) texts members
      → WritesKnownPages query (collection members) sizes (Err fault) old new)
      → Scanned types names inputs sizes text (Err (Answer fault)) old new
  scanned_part fault w = grind (arith, once_from, collected)

-- ---- a scan of known archives writes one text

-- archives that are known are accepted with one list of captures each
one_captures : OneIndexed → (types : Kind → Bool) (names : List (List ℕ)) (inputs : List ToldArchive)
    (archives : List (List ℕ)) (these those : List (List EntryValue)) → Known (map (λ input. input.bytes) inputs) archives
    → AreCapturesOfEach types names inputs these → AreCapturesOfEach types names inputs those → these ≡ those
one_captures one types (name ∷ names) (input ∷ inputs) (archive ∷ archives) (c ∷ cs) (d ∷ ds) known a b =
    grind (arith, one_captures one types names inputs archives cs ds known.1 a.1 b.1)
one_captures one types names inputs archives these those known a b = grind arith

pub scan_one : OneIndexed → ScanIsOne
scan_one one types names archives inputs sizes text old new new' number number' known a b =
    let same = one_captures one types names inputs archives a.captures b.captures known a.indexed.accepted
    b.indexed.accepted in
    let query : a.query ≡ b.query = grind arith in
    pages_one a.query (captured_lines a.captures) sizes old new new' number number' a.wrote
    (rw (query, same) b.wrote)

pub scan_front : OneIndexed → ScanHasFront
scan_front one types names archives inputs sizes text old part whole fault number known a b =
    let same = one_captures one types names inputs archives a.captures b.captures known a.indexed.accepted
    b.indexed.accepted in
    let query : a.query ≡ b.query = grind arith in
    pages_front a.query (captured_lines a.captures) sizes old part whole answer.Memory number b.asked.sizes
    (λ _. a.wrote) (rw (query, same) b.wrote)
