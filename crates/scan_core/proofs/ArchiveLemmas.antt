-- Archives that are indexed one after another.
use Rattle.query_core.proofs.Words.{[], ℕ, ◌++◌, ◌+◌, ◌<◌, ◌∙◌, ◌∷◌, ◌≡◌, AllZip, Bool, Err, IsIndex, LINE_LIMIT, List}
use Rattle.query_core.proofs.Words.{ap, append-nil, append_assoc, arith, drop, each_join, get_or, length}
use Rattle.query_core.proofs.Words.{length-append, length-map, map, take}
use Rattle.std.proofs.Common.{set}
use Rattle.std.proofs.lemmas.List.{get_or-map, map-set, set-get_or, take_more}
use Rattle.warc_core.specs.Kind.{Kind}
use Rattle.cdxj_core.specs.Entries.{EntryValue}
use Rattle.index_core.specs.{Counting.CountsIndex, Indexing.Held, declared.fault.IndexFault.IndexFault}
use Rattle.capture_core.specs.{Types.includes, declared.types.Types.Types}
use Rattle.merge_core.proofs.{CountLemmas.left_after, CountLemmas.left_here, Many.map_set_same}
use Rattle.scan_core.specs.{Failures.CountsAt, Scanning.LeavesUnread, declared.fault.ScanFault.TheVariants.Archive}
use Rattle.scan_core.specs.Archives.{AreCapturesOf, AreCapturesOfEach, AreIndexed, AreNewNames, HasIndex, HaveIndexes}
use Rattle.archives.specs.State.{ToldArchive}
use Rattle.scan_core.specs.Archives.{nothing_told}
use Rattle.scan_core.specs.Archives.{HaveLines, IsFaultOfArchive, IsFirstFault, IsNameFault, IsNewName, index_members}

names_push : (earlier names : List (List ℕ)) (name : List ℕ) → AreNewNames earlier names
    → IsNewName (earlier ++ names) name → AreNewNames earlier (names ++ name ∷ [])
names_push earlier [] name h k = grind (arith, append-nil)
names_push earlier (n ∷ names) name h k = grind (arith, append_assoc, names_push (earlier ++ n ∷ []) names name h.1)

accepted_push : (types : Kind → Bool) (names : List (List ℕ)) (inputs : List ToldArchive)
    (archives : List (List EntryValue)) (name : List ℕ) (input : ToldArchive) (captures : List EntryValue)
    → AreCapturesOfEach types names inputs archives → AreCapturesOf types name input captures
    → AreCapturesOfEach types (names ++ name ∷ []) (inputs ++ input ∷ []) (archives ++ captures ∷ [])
accepted_push types (n ∷ names) (i ∷ inputs) (c ∷ archives) name input captures h k =
    (h.0, accepted_push types names inputs archives name input captures h.1 k)
accepted_push types names inputs archives name input captures h k = grind arith

-- one archive more
indexed_push : {types : Kind → Bool} {names : List (List ℕ)} {inputs : List ToldArchive}
    {archives : List (List EntryValue)} {name : List ℕ} {captures : List EntryValue} (input : ToldArchive)
    → AreIndexed types names inputs archives → IsNewName names name → AreCapturesOf types name input captures
    → HaveLines captures → AreIndexed types (names ++ name ∷ []) (inputs ++ input ∷ []) (archives ++ captures ∷ [])
indexed_push input h new accepted lines = grind (arith, names_push, accepted_push, each_join)

-- an index more
indexes_push : {I : Type 0} (limit : ℕ) (text : I → List ℕ) (indexes : List I) (archives : List (List EntryValue))
    (index : I) (captures : List EntryValue) → AllZip (IsIndex limit) (map text indexes) (map index_members archives)
    → IsIndex limit (text index) (index_members captures)
    → AllZip (IsIndex limit) (map text (indexes ++ index ∷ [])) (map index_members (archives ++ captures ∷ []))
indexes_push limit text [] [] index captures h k = (k, tt)
indexes_push limit text (x ∷ indexes) (c ∷ archives) index captures h k =
    (h.0, indexes_push limit text indexes archives index captures h.1 k)
indexes_push limit text indexes archives index captures h k = absurd h

-- Of these archives, those before the i-th are indexed, and the others are as they were
pub record Indexing {X I : Type 0} (name : X → List ℕ) (input : X → ToldArchive) (count : X → ℕ)
    (text : I → List ℕ) (types : Types) (old xs : List X) (i : ℕ) (indexer : Held) (indexes : List I) : Type 0 where
  pub names : map name xs ≡ map name old
  pub rest : drop i xs ≡ drop i old
  pub failures : map count xs ≡ map count old
  pub held : indexer ≡ record { types = types; names = take i (map name old); captures = [] }
  pub number : length indexes ≡ i
  pub indexed : HaveIndexes (includes types) (take i (map name old)) (take i (map input old)) (map text indexes)

-- the i-th, and y, what it is after its turn
module _ {X I : Type 0} {name : X → List ℕ} {input : X → ToldArchive} {count : X → ℕ} {text : I → List ℕ}
    {types : Types} {old xs : List X} {i : ℕ} {indexer : Held} {indexes : List I}
    (so_far : Indexing name input count text types old xs i indexer indexes) (inside : i < length old) (d : X) where
  shown_at : {Y : Type 0} (show : X → Y) (e : Y) → get_or (map show old) i e ≡ show (get_or xs i d)
  shown_at show e = let here = left_here old xs i d so_far.rest in grind (arith, get_or-map)

  -- it isn't indexed
  pub first_fault : (fault : IndexFault)
      → IsFaultOfArchive (includes indexer.types) indexer.names (name (get_or xs i d)) (input (get_or xs i d)) fault
      → IsFirstFault (includes types) (map name old) (map input old) i fault
  first_fault fault h = record {
    inside = rw length-map inside;
    captures = so_far.indexed.captures;
    before = so_far.indexed.indexed;
    refused = rw (shown_at name [], shown_at input nothing_told) (rw so_far.held at h);
  }

  -- its count alone changed, as its fault says
  pub counts_at : (y : X) (fault : IndexFault)
      → CountsIndex {A = Unit {0}} (Err fault) (count (get_or xs i d)) (count y)
      → CountsAt i fault (map count old) (map count (set xs i y))
  counts_at y fault h = (
    rw length-map inside,
    count y,
    map-set count xs i y ∙ ap (λ ns. set ns i (count y)) so_far.failures,
    rw (shown_at count 0) h,
  )

  -- what its fault leaves unread
  pub unread_at : (y : X) (fault : IndexFault) → (IsNameFault fault → y ≡ get_or xs i d)
      → LeavesUnread old (set xs i y) (Archive i fault)
  unfolding LeavesUnread
  unread_at y fault same = let after = left_after old xs i y so_far.rest in grind (arith, set-get_or)

  -- it is indexed
  pub one_more : (y : X) (index : I) (after : Held) (more : List I) → name y ≡ name (get_or xs i d)
      → count y ≡ count (get_or xs i d)
      → after ≡ record indexer { names = indexer.names ++ name (get_or xs i d) ∷ []; captures = [] }
      → HasIndex (includes indexer.types) indexer.names (name (get_or xs i d)) (input (get_or xs i d)) (text index)
      → more ≡ indexes ++ index ∷ [] → Indexing name input count text types old (set xs i y) (i + 1) after more
  one_more y index after more same_name same_count is has pushed =
      let found = rw so_far.held at has in
      let names = take_more (map name old) i [] (rw length-map inside) in
      let inputs = take_more (map input old) i nothing_told (rw length-map inside) in
      let lt : i < length xs = omega (arith, simp length-map at (ap length so_far.names)) in
      let before = so_far.indexed.captures in
      record {
        names = map_set_same name xs i d y lt same_name ∙ so_far.names;
        rest = left_after old xs i y so_far.rest;
        failures = map_set_same count xs i d y lt same_count ∙ so_far.failures;
        held = rw (names, shown_at name []) (rw so_far.held at is);
        number = grind (arith, length-append);
        indexed = record {
          captures = before ++ found.captures ∷ [];
          indexed = rw (names, inputs, shown_at name [], shown_at input nothing_told)
              (indexed_push _ so_far.indexed.indexed found.is_new found.accepted found.lines);
          are_indexes = rw pushed (indexes_push LINE_LIMIT text indexes before index found.captures
              so_far.indexed.are_indexes found.is_index);
        };
      }
