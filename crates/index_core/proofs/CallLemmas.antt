-- What calls write of a record, and the index of what is held.
use Rattle.index_core.proofs.Words.{[], ℕ, ◌∷◌, ◌≡◌, List, append-nil, arith, inl, inr}
use Rattle.index_core.proofs.Words.{HeadView, ◌-◌, ◌^◌, ◌≤◌, length, length-append, refl}
use Rattle.warc_core.specs.Laws.{SpelledIsRead}
use Rattle.warc_core.specs.{HeadView.record_length, RecordText.IsReadFrom, Walk.AreRecords}
use Rattle.std.specs.Prelude.{Bool, ◌+◌, None, Some, Option, flat_map, option_to_list}
use Rattle.std.specs.List.{AllByRecursion}
use Rattle.cdxj_core.specs.Entries.{EntryValue}
use Rattle.capture_core.specs.{CaptureAnswer.Limits, Fault.fault_offset}
use Rattle.warc_core.specs.Kind.{Kind}
use Rattle.archives.specs.Form.{Follow, Form, IsLawful, Placed, end_of}
use Rattle.archives.specs.Packing.{form_of}
use Rattle.archives.proofs.PackingLemmas.{form_lawful}
use Rattle.index_core.specs.Adding.{SaysCapture}
use Rattle.index_core.specs.CallLaws.{AddedEndByFault, FetchedIsArchive, PartIsFront, SoundAreIndexed}
use Rattle.index_core.specs.OneRecord.{IsOneRecord}
use Rattle.index_core.proofs.IndexLemmas.{all_in_places, index_in_places}
use Rattle.index_core.proofs.OneTextLemmas.{grown}

-- a text that is one record is an archive of it
one_is_archive : SpelledIsRead → (limit : ℕ) (text : List ℕ) → length text ≤ 2 ^ 63 - 1 → IsOneRecord limit text
    → (h : HeadView) × AreRecords limit text (h ∷ [])
one_is_archive read limit text fits (h, block, is) =
    let first : HeadView = record h { start = 0 } in
    let size : length text ≡ record_length h =
    grind (arith, is.spelled, is.block_length, length-append) in
    let from : IsReadFrom limit 0 first block text =
    record { is_text = is; start_is = refl; fits = omega (arith, size) } in
    let reads = read limit 0 first block text [] from in
    (first, record { end = record_length h; walks = ([], rw append-nil at reads, (omega arith, refl)) })

pub fetched_is_archive : SpelledIsRead → FetchedIsArchive
fetched_is_archive read limit n before after fits (text, is, size, wrote) =
    let one = one_is_archive read limit text (omega (arith, size)) is in
    (text, one.0, grown before text after wrote, size, one.1)

pub part_is_front : PartIsFront
part_is_front limit fault before after (inl same) = ([], grind (arith, append-nil), inl refl)
part_is_front limit fault before after (inr (text, is, (more, wrote))) =
    (wrote.front, grind arith, inr (more, grind arith))

pub sound_are_indexed : SoundAreIndexed
sound_are_indexed limit names captures sound =
    (index_in_places limit captures sound.lines, all_in_places captures sound.places)

-- ---- captures before a fault

module _ (types : Kind → Bool) (limits : Limits) (form : Form) (law : IsLawful form) (name : List ℕ) where
  abbrev Captured : Type 0
  Captured = Placed × Option EntryValue

  follow_onward : (records : List Captured) (from to : ℕ) → Follow form (λ r. r.0) from records to → from ≤ to
  follow_onward [] from to h = law.onward from to h
  follow_onward (r ∷ records) from to h =
      omega (arith, law.onward from r.0.place.offset h.0.follows, follow_onward records (end_of r.0.place) to h.1)

  end_by : (records : List Captured) (from to most : ℕ) → Follow form (λ r. r.0) from records to → to ≤ most
      → AllByRecursion (SaysCapture types limits form name) records
      → AllByRecursion (λ e. e.offset + e.length ≤ most) (flat_map (λ r. option_to_list r.1) records)
  end_by [] from to most h few said = tt
  end_by ((p, None) ∷ records) from to most h few said = end_by records (end_of p.place) to most h.1 few said.1
  end_by ((p, Some e) ∷ records) from to most h few said =
      let is = said.0.1 in
      let later = follow_onward records (end_of p.place) to h.1 in
      (omega (arith, is.offset, is.size, later, few), end_by records (end_of p.place) to most h.1 few said.1)

pub added_end : AddedEndByFault
added_end types limits packing name left captures fault gains =
    let law = form_lawful packing in
    let heads = gains.0.1 in
    rw heads.captures_are (end_by types limits (form_of packing) law name heads.records 0 gains.0.0 (fault_offset fault)
    heads.follow (law.onward gains.0.0 (fault_offset fault) gains.0.2) heads.said)
