-- A capture's record stands at its offset.
use Rattle.index_core.proofs.Words.{arith, ◌≡◌, ℕ, List, [], ◌∷◌, ◌++◌, Bool, Option, Some, Ok}
use Rattle.index_core.proofs.Words.{drop, refl, ◌⊎◌, inl, inr, option_to_list, EntryValue, Limits}
use Rattle.index_core.proofs.Words.{HeadView, record_length, Kind, read-spelled}
use Rattle.index_core.proofs.Words.{AreCaptured, IsRecordOf}
use Rattle.cdxj_places.specs.Rising.{IsIn}
use Rattle.capture_core.specs.declared.place.Place.{Place}
use Rattle.capture_core.specs.Capture.{IsCaptureUnder}
use Rattle.capture_core.specs.Indexed.{url_of}
use Rattle.archives.specs.Captures.{IsCaptureFrom}
use Rattle.archives.specs.Form.{Stored, WalksOver, end_of, plain, plain_record}
use Rattle.index_core.specs.Laws.{IsIndexed}
use Rattle.index_core.proofs.ArchiveWalks.{from_start}
use Rattle.archives.proofs.PlainLemmas.{heads_of, plain_read, plain_walk}
use Rattle.archives.proofs.RecordWalks.{walks_more}

joined_in : {X : Type 0} (x : X) (us vs : List X) → IsIn x (us ++ vs) → IsIn x us ⊎ IsIn x vs
joined_in x [] vs i = grind arith
joined_in x (u ∷ us) vs i = grind (arith, joined_in x us vs)

module _ (types : Kind → Bool) (limits : Limits) (limit : ℕ) (name archive : List ℕ) (e : EntryValue) where
  abbrev Fetched : Type 0
  Fetched = (h : HeadView) × IsRecordOf limit archive e.offset h × (record_length h ≡ e.length)
      × IsCaptureFrom types limits (plain limit) name (plain_record h (drop h.start archive)) (Some e)

  -- the offset and the length of a record's capture
  under : (u : Option (List ℕ)) (place : Place) (h : HeadView) (block : List ℕ)
      → IsCaptureUnder u limits.http_head limits.http_fields place h block name (Some e)
      → (e.offset ≡ place.offset) × (e.length ≡ place.length)
  under u place h block c = grind arith

  here : (before : List Stored) (start : ℕ) (bytes later : List ℕ) (r : Stored)
      → WalksOver (plain limit) 0 archive before start bytes → (plain limit).next start bytes ≡ Ok (Some r, later)
      → IsCaptureFrom types limits (plain limit) name r (Some e) → Fetched
  here before start bytes later r w n c =
      let p = plain_read limit start bytes later r n in
      let h = p.0 in
      let walks = plain_walk limit 0 archive before start bytes w in
      let starts : h.start ≡ start = (read-spelled limit start bytes later h p.1).2.start_is in
      let there : drop h.start archive ≡ bytes =
      from_start limit archive (heads_of before) start bytes walks h later p.1 in
      let is = under (url_of types r.head) r.place r.head r.block c in
      let record_is : r ≡ plain_record h bytes = p.2 in
      let at : e.offset ≡ start = grind arith in (
        h,
        rw at (record { before = heads_of before; bytes = bytes; rest = later; walks = walks; whole = p.1 }),
        grind arith,
        rw there (rw record_is at c),
      )

  go : (before records : List Stored) (start end : ℕ) (bytes left : List ℕ) (captures : List EntryValue)
      → WalksOver (plain limit) 0 archive before start bytes → WalksOver (plain limit) start bytes records end left
      → AreCaptured types limits (plain limit) name records captures → IsIn e captures → Fetched
  go before [] start end bytes left captures w v c i = grind arith
  go before (r ∷ records) start end bytes left captures w v (captured, others, here_is, rest, is) i =
      grind (
        arith,
        joined_in e (option_to_list captured) others,
        here before start bytes v.0 r w v.1,
        walks_more (plain limit) 0 archive before start bytes r v.0 w v.1,
        go (before ++ r ∷ []) records (end_of r.place) end v.0 left others,
      )

  pub fetched : (captures : List EntryValue) → IsIndexed types limits (plain limit) name archive captures
      → IsIn e captures → Fetched
  fetched captures (inl a) i =
      go [] a.records 0 a.whole.end archive a.whole.rest captures (refl, refl) a.whole.walks a.captured i
  fetched captures (inr (fault, a)) i = go [] a.records 0 a.end archive a.rest captures (refl, refl) a.walks a.captured i
