-- The captures that are added, one record further, at the end, and at a fault.
use Rattle.index_core.proofs.Words.{arith, ◌≡◌, ℕ, ◌≤◌, Bool, List, [], ◌∷◌, ◌++◌, Option}
use Rattle.index_core.proofs.Words.{None, Some, Ok, IfSome, option_to_list, length, ap, inl, refl}
use Rattle.index_core.proofs.Words.{append_assoc, Kind, Archive, EntryValue, CaptureFault, Limits}
use Rattle.index_core.proofs.Words.{AllByRecursion, AreCaptured, IsAcceptedTo, append-nil}
use Rattle.std.specs.List.{flat_map}
use Rattle.std.proofs.lemmas.List.Concat.{flat_map-append}
use Rattle.cdxj_places.proofs.RisingLaws.{each_join}
use Rattle.index_core.specs.Adding.{AreByHeads, SaysCapture}
use Rattle.index_core.specs.Indexing.{AreNamed}
use Rattle.index_core.proofs.ReportLemmas.{follow_push}
use Rattle.std.specs.Bool.{⊤}
use Rattle.warc_core.specs.declared.fault.Cause.TheVariants as causes
use Rattle.cdxj_core.specs.Entries.{line_text}
use Rattle.capture_core.specs.CaptureAnswer.{IsEntryOf}
use Rattle.archives.specs.Captures.{MayBeRefused, TakesRecord}
use Rattle.archives.specs.Form.{Form, Placed, Stored, Comes, IsLawful, WalksOver, end_of}
use Rattle.archives.proofs.RecordWalks.{walks_more}
use Rattle.index_core.specs.Accepted.{IsAccepted, IsCaptured}

module _ (types : Kind → Bool) (limits : Limits) (form : Form) (name : List ℕ) where
  -- These are the captures of the records so far, the last of which ends at the offset.
  abbrev pub AddedSoFar : Option (List ℕ) → Option (List ℕ) → ℕ → List EntryValue → Type 0
  AddedSoFar None now offset captures = ⊤
  AddedSoFar (Some archive) None offset captures = ⊥
  AddedSoFar (Some archive) (Some rest) offset captures = (records : List Stored)
      × WalksOver form 0 archive records offset rest × AreCaptured types limits form name records captures

  pub AddedSoFar-start : (left : Option (List ℕ)) (o : ℕ) → o ≡ 0 → AddedSoFar left left o []
  AddedSoFar-start None o at = tt
  AddedSoFar-start (Some archive) o at = ([], (at, refl), refl)

  captured_more : (records : List Stored) (captures : List EntryValue) (r : Stored)
      (captured : Option EntryValue) → AreCaptured types limits form name records captures
      → IsCaptured types limits form name r captured
      → AreCaptured types limits form name (records ++ r ∷ []) (captures ++ option_to_list captured)
  captured_more [] captures r captured w k = grind arith
  captured_more (g ∷ records) captures r captured w k =
      grind (arith, append_assoc, captured_more records w.1 r captured w.3 k)

  fits_line : (captured : Option EntryValue) (p : Placed) → IfSome captured (IsEntryOf p.place p.head name limits.line)
      → IfSome captured (λ e. length (line_text e) ≤ limits.line)
  fits_line None p e = tt
  fits_line (Some x) p e = e.fits

  pub AddedSoFar-more : (left now after : Option (List ℕ)) (o : ℕ) (gained : List EntryValue) (p : Placed)
      (captured : Option EntryValue) → AddedSoFar left now o gained
      → TakesRecord types limits form name o p captured now after
      → AddedSoFar left after (end_of p.place) (gained ++ option_to_list captured)
  AddedSoFar-more None now after o gained p captured s t = tt
  AddedSoFar-more (Some archive) None after o gained p captured s t = absurd s
  AddedSoFar-more (Some archive) (Some z) None o gained p captured s t = absurd t.comes.2
  AddedSoFar-more (Some archive) (Some z) (Some y) o gained p captured s t =
      let r = t.comes.0 in
      let at : end_of r.place ≡ end_of p.place = ap (λ q. end_of q.place) t.comes.1 in
      let walks = walks_more form 0 archive s.0 o z r y s.1 t.comes.2 in (
        s.0 ++ r ∷ [],
        rw (← at) walks,
        captured_more s.0 gained r captured s.2 (t.comes.3, fits_line captured p t.entry),
      )

  -- what comes next is refused
  pub AddedSoFar-refused : (left now : Option (List ℕ)) (o : ℕ) (gained : List EntryValue) (fault : CaptureFault)
      → AddedSoFar left now o gained
      → IfSome now (λ bytes. MayBeRefused types limits form name o bytes fault)
      → IfSome left (λ archive. IsAcceptedTo types limits form name fault archive gained)
  AddedSoFar-refused None now o gained fault s r = tt
  AddedSoFar-refused (Some archive) None o gained fault s r = absurd s
  AddedSoFar-refused (Some archive) (Some z) o gained fault s r =
      record { records = s.0; end = o; rest = z; walks = s.1; captured = s.2; refused = r }

  -- there was no memory for the capture of what comes next
  pub no_room : (now : Option (List ℕ)) (o at : ℕ) → form.Follows o at
      → IfSome now (λ bytes. MayBeRefused types limits form name o bytes
      (Archive (record { offset = at; cause = causes.Memory })))
  no_room None o at h = tt
  no_room (Some bytes) o at h = (h, inl refl)

  -- nothing comes next
  pub AddedSoFar-end : (law : IsLawful form) (left now after : Option (List ℕ)) (o : ℕ) (gained : List EntryValue)
      → AddedSoFar left now o gained → Comes form o (Ok None) now after
      → IfSome left (λ archive. IsAccepted types limits form name archive gained)
  AddedSoFar-end law None now after o gained s r = tt
  AddedSoFar-end law (Some archive) None after o gained s r = absurd s
  AddedSoFar-end law (Some archive) (Some z) None o gained s r = absurd r
  AddedSoFar-end law (Some archive) (Some z) (Some y) o gained s r =
      let none = law.ended o z y r in
      record {
        records = s.0;
        whole = record { end = o; rest = z; walks = s.1; ended = rw none at r };
        captured = s.2;
      }

  -- ---- by the heads of records

  by_heads_push : (records : List (Placed × Option EntryValue)) (p : Placed) (captured : Option EntryValue)
      → AllByRecursion (SaysCapture types limits form name) records → SaysCapture types limits form name (p, captured)
      → AllByRecursion (SaysCapture types limits form name) (records ++ (p, captured) ∷ [])
  by_heads_push records p captured a s = each_join (SaysCapture types limits form name) records ((p, captured) ∷ []) a (s, tt)

  pub ByHeads-more : (law : IsLawful form) (now after : Option (List ℕ)) (o : ℕ) (gained : List EntryValue) (p : Placed)
      (captured : Option EntryValue) → AreByHeads types limits form name o gained
      → TakesRecord types limits form name o p captured now after
      → AreByHeads types limits form name (end_of p.place) (gained ++ option_to_list captured)
  ByHeads-more law now after o gained p captured b t = record {
    records = b.records ++ (p, captured) ∷ [];
    follow = follow_push form law (λ r. r.0) 0 b.records o (p, captured) b.follow t.stands;
    said = by_heads_push b.records p captured b.said (t.under, t.entry);
    captures_are = grind (arith, b.captures_are, flat_map-append, append-nil);
  }

  -- nothing was read
  pub ByHeads-none : IsLawful form → (o : ℕ) → o ≡ 0 → AreByHeads types limits form name o []
  ByHeads-none law o at = rw at (record { records = []; follow = law.here 0; said = tt; captures_are = refl })

  named_in : (records : List (Placed × Option EntryValue)) → AllByRecursion (SaysCapture types limits form name) records
      → AreNamed name (flat_map (λ r. option_to_list r.1) records)
  named_in [] said = tt
  named_in ((p, None) ∷ records) said = named_in records said.1
  named_in ((p, Some e) ∷ records) said = (said.0.1.filename, named_in records said.1)

  -- captures by heads have the archive's name
  pub by_heads_named : (end : ℕ) (captures : List EntryValue) → AreByHeads types limits form name end captures
      → AreNamed name captures
  by_heads_named end captures b = rw b.captures_are (named_in b.records b.said)
