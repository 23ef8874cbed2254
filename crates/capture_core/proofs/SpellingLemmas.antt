-- The line of an entry: what it spells, and where its key and its stamp stand.
use Rattle.std.proofs.Common.{◌≡◌, ◌∙◌, ℕ, ◌+◌, ◌-◌, List, [], ◌∷◌, ◌++◌, length, take, drop, ap}
use Rattle.std.proofs.Common.{Some, append_assoc, arith}
use Rattle.std.proofs.lemmas.Fmt.{digits_value-decimal}
use Rattle.std.proofs.Math.Seq.{take-append_seam, drop-append-add}
use Rattle.cdxj_core.specs.declared.limit.TheConstants.{LINE_LIMIT}
use Rattle.cdxj_core.specs.Entries.{EntryValue, IsGood, line_text, members_of, HasLine}
use Rattle.cdxj_core.specs.Lines.{entry_of_values}
use Rattle.cdxj_core.specs.Members.{Member, line_entry}
use Rattle.cdxj_core.specs.Objects.{object_text}
use Rattle.cdxj_core.proofs.EntryUtf8.{line_law}
use Rattle.cdxj_core.proofs.MemberLemmas.{written_entry}
use Rattle.cdxj_places.proofs.Offsets.{own}
use Rattle.capture_core.specs.Spelling.{entry_in}

entry_in_line_text : (e : EntryValue) → HasLine LINE_LIMIT e → entry_in (line_text e) ≡ e
unfolding entry_in
entry_in_line_text e h = grind (arith, line_law, digits_value-decimal, own)

-- the line of an entry spells that entry
pub spells : (e : EntryValue) (line : List ℕ) → HasLine LINE_LIMIT e → line ≡ line_text e → entry_in line ≡ e
spells e line h is = ap entry_in is ∙ entry_in_line_text e h

-- the entry that was read from the line of an entry
pub entry_read : (e : EntryValue) (member : Member) → HasLine LINE_LIMIT e
    → line_entry LINE_LIMIT (line_text e) ≡ Some member
    → record (entry_of_values member.values) { length = e.length } ≡ e
entry_read e member h is = grind (arith, written_entry)

-- ---- the key and the stamp

-- what stands behind the key and its space
abbrev pub behind_key : EntryValue → List ℕ
behind_key e = e.stamp ++ ((32 ∷ object_text (members_of e)) ++ 10 ∷ [])

pub line_parts : (e : EntryValue) → line_text e ≡ e.key ++ 32 ∷ behind_key e
line_parts e = append_assoc e.key (32 ∷ (e.stamp ++ 32 ∷ object_text (members_of e))) (10 ∷ [])
    ∙ ap (λ (t : List ℕ). e.key ++ 32 ∷ t) (append_assoc e.stamp (32 ∷ object_text (members_of e)) (10 ∷ []))

pub stamp_in : (e : EntryValue) → IsGood e
    → take (length e.key + 15 - (length e.key + 1)) (drop (length e.key + 1) (line_text e)) ≡ e.stamp
stamp_in e h = grind (arith, line_parts, drop-append-add, take-append_seam)
