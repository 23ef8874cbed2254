-- The captures of the records of a plain archive, each in a member.
use Rattle.index_core.proofs.Words.{◌≡◌, ◌∙◌, ℕ, ◌+◌, ◌<◌, ◌≤◌, ◌^◌, Bool, List, [], ◌∷◌, ◌++◌, Option, None, Some, IfSome}
use Rattle.index_core.proofs.Words.{ap, arith, length, length-append, map, option_to_list, refl, subst, sym, AllByRecursion}
use Rattle.index_core.proofs.Words.{AreCaptured, EntryValue, HeadView, Kind, Limits}
use Rattle.std.proofs.Common.{option_map}
use Rattle.cdxj_core.specs.Entries.{line_text}
use Rattle.capture_core.proofs.Captures.{one_capture}
use Rattle.capture_core.specs.Capture.{IsCaptureUnder, content_of}
use Rattle.capture_core.specs.Indexed.{url_of}
use Rattle.capture_core.specs.declared.place.Place.{Place}
use Rattle.gzip_members.specs.Laws.{in_a_row}
use Rattle.archives.specs.Captures.{IsCaptureFrom}
use Rattle.archives.specs.Form.{Stored, plain}
use Rattle.archives.specs.Packed.{packed}
use Rattle.archives.proofs.ContentsLemmas.{one_list}
use Rattle.archives.proofs.PackingLemmas.{forms_lawful}
use Rattle.archives.specs.Packing.{Packed, Plain}
use Rattle.index_core.specs.PackedLaws.{ArePacked, FitsAnywhere, MembersAreAccepted, MembersHaveCaptures}
use Rattle.index_core.specs.PackedLaws.{at_place, from_start, in_member, in_members, without_place}
use Rattle.index_core.proofs.PackedRowLemmas.{members_are_records}

-- where a member stands
abbrev place_of : ℕ → List ℕ → Place
place_of at member = record { offset = at; length = length member }

-- of two captures that differ in their places, and more of them
without_moved : (place : Place) (captured other : Option EntryValue) (others those : List EntryValue)
    → other ≡ option_map (at_place place) captured → map without_place those ≡ map without_place others
    → map without_place (option_to_list other ++ those) ≡ map without_place (option_to_list captured ++ others)
without_moved place None other others those e same = ap (λ o. map without_place (option_to_list o ++ those)) e ∙ same
without_moved place (Some c) other others those e same =
    ap (λ o. map without_place (option_to_list o ++ those)) e ∙ ap (λ l. without_place c ∷ l) same

module _ (types : Kind → Bool) (limits : Limits) (name : List ℕ) where
  moved_under : (place at : Place) (h : HeadView) (block : List ℕ) (captured : Option EntryValue) (url : Option (List ℕ))
      → IsCaptureUnder url limits.http_head limits.http_fields place h block name captured
      → IsCaptureUnder url limits.http_head limits.http_fields at (from_start h) block name (option_map (at_place at) captured)
  unfolding content_of
  moved_under place at h block captured None e = ap (option_map (at_place at)) e
  moved_under place at h block captured (Some url) (found, is, e) = (found, is, ap (option_map (at_place at)) e)

  module _ (limit : ℕ) (archive : List ℕ) where
    -- a record has its capture in a member too
    capture_moved : (at : ℕ) (member : List ℕ) (r : Stored) (captured : Option EntryValue)
        → IsCaptureFrom types limits (plain limit) name r captured
        → IsCaptureFrom types limits (packed limit) name (in_member at (length member) r)
        (option_map (at_place (place_of at member)) captured)
    capture_moved at member r captured c =
        moved_under r.place (place_of at member) r.head r.block captured (url_of types r.head) c

    captures_same : (at : ℕ) (records : List Stored) (members : List (List ℕ)) (captures others : List EntryValue)
        → ArePacked archive records members → AreCaptured types limits (plain limit) name records captures
        → AreCaptured types limits (packed limit) name (in_members at records members) others
        → map without_place others ≡ map without_place captures
    captures_same at [] [] captures others a v w = ap (map without_place) (w ∙ sym v)
    captures_same at [] (member ∷ members) captures others a v w = absurd a
    captures_same at (r ∷ records) [] captures others a v w = absurd a
    captures_same at (r ∷ records) (member ∷ members) captures others (is, a) v w =
        let place = place_of at member in
        let one : w.0 ≡ option_map (at_place place) v.0 =
        one_capture types limits.http_head limits.http_fields place (from_start r.head) r.block name w.0
        (option_map (at_place place) v.0) w.2.0 (capture_moved at member r v.0 v.2.0) in
        ap (map without_place) w.4
        ∙ without_moved place v.0 w.0 v.1 w.1 one (captures_same (at + length member) records members v.1 w.1 a v.3 w.3)
        ∙ sym (ap (map without_place) v.4)

    -- a capture that fits anywhere, and others
    fits_there : (place : Place) (captured : Option EntryValue) (others : List EntryValue)
        → AllByRecursion (FitsAnywhere limits) (option_to_list captured ++ others)
        → place.offset + place.length < 2 ^ 63
        → IfSome (option_map (at_place place) captured) (λ e. length (line_text e) ≤ limits.line)
        × AllByRecursion (FitsAnywhere limits) others
    fits_there place None others all h = (tt, all)
    fits_there place (Some c) others all h = (all.0 place h, all.1)

    captures_fit : (at : ℕ) (records : List Stored) (members : List (List ℕ)) (captures : List EntryValue)
        → ArePacked archive records members → AreCaptured types limits (plain limit) name records captures
        → AllByRecursion (FitsAnywhere limits) captures → at + length (in_a_row members) < 2 ^ 63
        → (others : List EntryValue) × AreCaptured types limits (packed limit) name (in_members at records members) others
    captures_fit at [] [] captures a v all h = ([], refl)
    captures_fit at [] (member ∷ members) captures a v all h = absurd a
    captures_fit at (r ∷ records) [] captures a v all h = absurd a
    captures_fit at (r ∷ records) (member ∷ members) captures (is, a) v all h =
        let place = place_of at member in
        let size = length-append member (in_a_row members) in
        let fits = fits_there place v.0 v.1 (subst (AllByRecursion (FitsAnywhere limits)) v.4 all) (omega (arith, size)) in
        let rest = captures_fit (at + length member) records members v.1 a v.3 fits.1 (omega (arith, size)) in (
          option_to_list (option_map (at_place place) v.0) ++ rest.0,
          (option_map (at_place place) v.0, rest.0, (capture_moved at member r v.0 v.2.0, fits.0), rest.1, refl),
        )

pub members_have_captures : MembersHaveCaptures
members_have_captures types limits limit name archive records members captures others whole a v w =
    let plainly = one_list (plain limit) (forms_lawful limit Plain) archive v.records records v.whole whole in
    let row = members_are_records limit archive records members whole a in
    let packedly = one_list (packed limit) (forms_lawful limit Packed) (in_a_row members) w.records (in_members 0 records members) w.whole row in
    captures_same types limits name limit archive 0 records members captures others a
    (subst (λ rs. AreCaptured types limits (plain limit) name rs captures) plainly v.captured)
    (subst (λ rs. AreCaptured types limits (packed limit) name rs others) packedly w.captured)

pub members_are_accepted : MembersAreAccepted
members_are_accepted types limits limit name archive records members captures whole a small v fits =
    let plainly = one_list (plain limit) (forms_lawful limit Plain) archive v.records records v.whole whole in
    let c = captures_fit types limits name limit archive 0 records members captures a
    (subst (λ rs. AreCaptured types limits (plain limit) name rs captures) plainly v.captured) fits (omega (arith, small)) in
    (c.0, record { records = in_members 0 records members; whole = members_are_records limit archive records members whole a; captured = c.1 })
