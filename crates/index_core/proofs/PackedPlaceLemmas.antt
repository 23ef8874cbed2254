-- The captures of a compressed archive stand in members.
use Rattle.index_core.proofs.Words.{◌≡◌, ◌∙◌, ℕ, ◌+◌, ◌-◌, ◌⊎◌, Bool, List, [], ◌∷◌, ◌++◌, Option, None, Some, Result, Ok, Err}
use Rattle.index_core.proofs.Words.{ap, arith, drop, inl, inr, length, length-append, option_to_list, refl, subst, sym}
use Rattle.index_core.proofs.Words.{drop-append_seam, AreCaptured, Cause, EntryValue, HeadView, Kind, Limits}
use Rattle.std.proofs.Common.{true, false, zero, suc}
use Rattle.std.proofs.lemmas.List.{drop-drop}
use Rattle.cdxj_places.specs.Rising.{IsIn}
use Rattle.gzip_members.specs.declared.fault.MemberFault.{MemberFault}
use Rattle.gzip_members.specs.Members.{member_in}
use Rattle.gzip_members.specs.Starts.{begins_member}
use Rattle.gzip_members.proofs.AloneLemmas.{member_alone}
use Rattle.warc_core.specs.Walk.{record_at}
use Rattle.capture_core.specs.Capture.{IsCaptureUnder}
use Rattle.capture_core.specs.Indexed.{url_of}
use Rattle.capture_core.specs.declared.place.Place.{Place}
use Rattle.archives.specs.Captures.{IsCaptureFrom}
use Rattle.archives.specs.Form.{Stored, WalksOver, end_of}
use Rattle.archives.specs.MemberReading.{Left}
use Rattle.archives.specs.Packed.{Found, Held, held_by, held_in, held_with, member_holds, packed, packed_at, packed_next}
use Rattle.archives.specs.Packed.{packed_record, packed_within}
use Rattle.archives.proofs.PackedLemmas.{holds_less}
use Rattle.index_core.specs.Laws.{IsIndexed}
use Rattle.index_core.specs.PackedFetching.{PackedCapturesStand, StandsInMember}

-- ---- what a member holds

held_rest : (rest : List ℕ) (r : Result Held Cause) (held : Held) (behind : List ℕ) → held_with rest r ≡ Ok (held, behind)
    → (r ≡ Ok held) × (rest ≡ behind)
held_rest rest (Ok h) held behind e = (grind arith, grind arith)
held_rest rest (Err c) held behind e = absurd cc

read_of : (limit : ℕ) (m : Left) (held : Held) (behind : List ℕ) → held_in limit m ≡ Ok (held, behind)
    → (text : List ℕ) × (m ≡ Ok (text, behind)) × (held_by text (record_at limit 0 text) ≡ Ok held)
read_of limit (Ok (text, rest)) held behind e =
    let p = held_rest rest (held_by text (record_at limit 0 text)) held behind e in
    (text, ap (λ (l : List ℕ). Ok (text, l)) p.1, p.0)
read_of limit (Err fault) held behind e = absurd cc

some_text : (text : List ℕ) (h : HeadView) (t : List ℕ) (r : Result (Option HeadView × List ℕ) Cause)
    → held_by text r ≡ Ok (Some (h, t)) → t ≡ text
some_text text h t (Ok (None, more)) e = absurd cc
some_text text h t (Ok (Some g, [])) e = grind arith
some_text text h t (Ok (Some g, b ∷ more)) e = absurd cc
some_text text h t (Err c) e = absurd cc

module _ (limit : ℕ) where
  member_of : (bytes : List ℕ) (held : Held) (behind : List ℕ) → member_holds limit bytes ≡ Ok (held, behind)
      → (text : List ℕ) × (member_in bytes ≡ Ok (text, behind)) × (held_by text (record_at limit 0 text) ≡ Ok held)
  unfolding member_holds
  member_of bytes held behind e = read_of limit (member_in bytes) held behind e

  -- the member of a record has its text
  pub member_text : (bytes : List ℕ) (h : HeadView) (text behind : List ℕ)
      → member_holds limit bytes ≡ Ok (Some (h, text), behind) → member_in bytes ≡ Ok (text, behind)
  member_text bytes h text behind e =
      let p = member_of bytes (Some (h, text)) behind e in
      let same = some_text p.0 h text (record_at limit 0 p.0) p.2 in
      p.1 ∙ ap (λ (l : List ℕ). Ok (l, behind)) (sym same)

  -- what is behind a member follows its bytes
  follows : (bytes : List ℕ) (held : Held) (behind : List ℕ) → begins_member bytes ≡ Ok true
      → member_holds limit bytes ≡ Ok (held, behind) → drop (length bytes - length behind) bytes ≡ behind
  follows bytes held behind begins e =
      let p = member_of bytes held behind e in
      let q = member_alone bytes p.0 behind begins p.1 in
      let size : length bytes - length behind ≡ length q.0 =
      omega (arith, ap (λ (l : List ℕ). length l) q.1, length-append q.0 behind) in
      ap (λ n. drop n bytes) size ∙ ap (drop (length q.0)) q.1 ∙ drop-append_seam q.0 behind

  module _ (archive : List ℕ) where
    -- where a record was found, and what follows its member
    pub record IsFound (r : Stored) (later : List ℕ) : Type 0 where
      pub head : HeadView
      pub text : List ℕ
      pub begins : begins_member (drop r.place.offset archive) ≡ Ok true
      pub holds : member_holds limit (drop r.place.offset archive) ≡ Ok (Some (head, text), later)
      pub is : r ≡ packed_record r.place.offset (drop r.place.offset archive) head text later
      pub after : drop (end_of r.place) archive ≡ later

    further : (offset n : ℕ) (bytes rest : List ℕ) → drop offset archive ≡ bytes → drop n bytes ≡ rest
        → drop (offset + n) archive ≡ rest
    further offset n bytes rest at e = sym (drop-drop n offset archive) ∙ ap (drop n) at ∙ e

    found_here : (offset : ℕ) (bytes : List ℕ) (h : HeadView) (text behind : List ℕ) → drop offset archive ≡ bytes
        → begins_member bytes ≡ Ok true → member_holds limit bytes ≡ Ok (Some (h, text), behind)
        → IsFound (packed_record offset bytes h text behind) behind
    found_here offset bytes h text behind at begins holds = record {
      head = h;
      text = text;
      begins = ap begins_member at ∙ begins;
      holds = ap (member_holds limit) at ∙ holds;
      is = ap (λ (b : List ℕ). packed_record offset b h text behind) (sym at);
      after = further offset (length bytes - length behind) bytes behind at
          (follows bytes (Some (h, text)) behind begins holds);
    }

    -- what is found from an offset on
    abbrev Finds : (ℕ → List ℕ → Found) → Type 0
    Finds more = (offset : ℕ) (bytes later : List ℕ) (r : Stored) → drop offset archive ≡ bytes
        → more offset bytes ≡ Ok (Some r, later) → IsFound r later

    found_next : (more : ℕ → List ℕ → Found) (offset : ℕ) (bytes later : List ℕ) (r : Stored) (x : Result (Held × List ℕ) Cause)
        → Finds more → drop offset archive ≡ bytes → begins_member bytes ≡ Ok true → member_holds limit bytes ≡ x
        → packed_next more offset bytes x ≡ Ok (Some r, later) → IsFound r later
    found_next more offset bytes later r (Ok (None, behind)) finds at begins is e =
        finds (offset + (length bytes - length behind)) behind later r
        (further offset (length bytes - length behind) bytes behind at (follows bytes None behind begins is)) e
    found_next more offset bytes later r (Ok (Some (h, text), behind)) finds at begins is e =
        let this : packed_record offset bytes h text behind ≡ r = grind arith in
        let rest : behind ≡ later = grind arith in
        subst (λ x. IsFound x later) this
        (subst (IsFound (packed_record offset bytes h text behind)) rest (found_here offset bytes h text behind at begins is))
    found_next more offset bytes later r (Err c) finds at begins is e = absurd cc

    found_at : (more : ℕ → List ℕ → Found) (offset : ℕ) (bytes later : List ℕ) (r : Stored) (b : Result Bool MemberFault)
        → Finds more → drop offset archive ≡ bytes → begins_member bytes ≡ b
        → packed_at more limit offset bytes b ≡ Ok (Some r, later) → IsFound r later
    found_at more offset bytes later r (Ok false) finds at is e = absurd (grind arith)
    found_at more offset bytes later r (Ok true) finds at is e =
        found_next more offset bytes later r (member_holds limit bytes) finds at is refl e
    found_at more offset bytes later r (Err fault) finds at is e = absurd cc

    found_within : (n : ℕ) → Finds (packed_within limit n)
    unfolding packed_within
    found_within zero offset bytes later r at e = absurd (grind arith)
    found_within (suc n) offset bytes later r at e =
        found_at (packed_within limit n) offset bytes later r (begins_member bytes) (found_within n) at refl e

    pub found : Finds (packed limit).next
    unfolding packed
    found offset bytes later r at e = found_within (suc (length bytes)) offset bytes later r at e

-- ---- the captures of an archive

joined_in : (x : EntryValue) (us vs : List EntryValue) → IsIn x (us ++ vs) → IsIn x us ⊎ IsIn x vs
joined_in x [] vs i = grind arith
joined_in x (u ∷ us) vs i = grind (arith, joined_in x us vs)

only_one : (e : EntryValue) (captured : Option EntryValue) → IsIn e (option_to_list captured) → captured ≡ Some e
only_one e None i = grind arith
only_one e (Some x) i = grind arith

module _ (types : Kind → Bool) (limits : Limits) (limit : ℕ) (name archive : List ℕ) (e : EntryValue) where
  abbrev Stands : Type 0
  Stands = (text : List ℕ) × StandsInMember types limits limit name archive e text

  -- the offset and the length of a record's capture
  under : (u : Option (List ℕ)) (place : Place) (h : HeadView) (block : List ℕ)
      → IsCaptureUnder u limits.http_head limits.http_fields place h block name (Some e)
      → (e.offset ≡ place.offset) × (e.length ≡ place.length)
  under u place h block c = grind arith

  here : (r : Stored) (later : List ℕ) → IsFound limit archive r later
      → IsCaptureFrom types limits (packed limit) name r (Some e) → Stands
  here r later f c =
      let at = under (url_of types r.head) r.place r.head r.block c in
      let len : r.place.length ≡ length (drop r.place.offset archive) - length later = ap (λ (x : Stored). x.place.length) f.is in
      let less = holds_less limit (drop r.place.offset archive) (Some (f.head, f.text)) later f.holds in (
        f.text,
        record {
          behind = later;
          holds = record {
            begins = ap (λ o. begins_member (drop o archive)) at.0 ∙ f.begins;
            head = f.head;
            holds = ap (λ o. member_holds limit (drop o archive)) at.0 ∙ f.holds;
          };
          size = ap (λ o. length (drop o archive)) at.0 ∙ omega (arith, len, less, at.1);
          capture = subst (λ x. IsCaptureFrom types limits (packed limit) name x (Some e))
              (f.is ∙ ap (λ o. packed_record o (drop o archive) f.head f.text later) (sym at.0)) c;
        },
      )

  go : (records : List Stored) (start end : ℕ) (bytes left : List ℕ) (captures : List EntryValue)
      → drop start archive ≡ bytes → WalksOver (packed limit) start bytes records end left
      → AreCaptured types limits (packed limit) name records captures → IsIn e captures → Stands
  go [] start end bytes left captures at v c i = grind arith
  go (r ∷ records) start end bytes left captures at (later, next, v) (captured, others, this, rest, is) i =
      let f = found limit archive start bytes later r at next in
      elim (joined_in e (option_to_list captured) others (subst (IsIn e) is i)) [
        | inl one ↦ here r later f
            (subst (IsCaptureFrom types limits (packed limit) name r) (only_one e captured one) this.0)
        | inr other ↦ go records (end_of r.place) end later left others f.after v rest other
      ]

  stands : (captures : List EntryValue) → IsIndexed types limits (packed limit) name archive captures → IsIn e captures
      → Stands
  stands captures (inl a) i = go a.records 0 a.whole.end archive a.whole.rest captures refl a.whole.walks a.captured i
  stands captures (inr (fault, a)) i = go a.records 0 a.end archive a.rest captures refl a.walks a.captured i

pub packed_captures_stand : PackedCapturesStand
packed_captures_stand types limits limit name archive captures e a i = stands types limits limit name archive e captures a i
