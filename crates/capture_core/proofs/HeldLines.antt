-- Lines that are held: the line, its key and the file name are found in the bytes.
use Rattle.std.proofs.lemmas.List.{take_all}
use Rattle.std.proofs.Common.{length-drop}
use Rattle.std.proofs.Common.{◌≡◌, inl, inr, ℕ, ◌+◌, ◌-◌, ◌==◌, true, false, not, List, [], ◌∷◌, ◌++◌, length, refl, sym, ap, ◌∙◌}
use Rattle.std.proofs.Common.{Some, None, length-append, append_assoc, append-nil, arith}
use Rattle.std.proofs.lemmas.Bool.{and_parts, lt-ltb}
use Rattle.std.proofs.lemmas.List.Sums.{suffix_len_is}
use Rattle.std.proofs.Math.Seq.{take-append_seam, drop-append_seam}
use Rattle.std.specs.List.{before_first, position_or_len, suffix_len}
use Rattle.memchr.specs.Find.{is_byte, IsLastByte}
use Rattle.cdxj_places.specs.Pair.{is_space}
use Rattle.cdxj_places.proofs.PlaceLaw.{before_first_at, key_no_space}
use Rattle.cdxj_core.specs.declared.limit.TheConstants.{LINE_LIMIT}
use Rattle.cdxj_core.specs.Entries.{EntryValue, HasLine, line_text}
use Rattle.cdxj_core.specs.Lines.{has_no_feed}
use Rattle.cdxj_core.proofs.EntryRead.{body_feed}
use Rattle.capture_core.specs.Spelling.{HoldsLine, KeepsName, ends_with_feed, entry_in, first_line, is_line_feed, is_quote, nul}
use Rattle.capture_core.proofs.SpellingLemmas.{spells}

-- bytes that hold an entry hold the one that their line spells
pub holds_spelled : (e : EntryValue) (bytes : List ℕ) (o : ℕ) → HoldsLine e bytes o
    → HoldsLine (entry_in (first_line bytes)) bytes o
holds_spelled e bytes o h = grind (arith, spells)

-- ---- a line, with more behind it

feed_at : (body rest : List ℕ) → has_no_feed body ≡ true → position_or_len is_line_feed (body ++ 10 ∷ rest)
    ≡ length body
feed_at [] rest h = refl
feed_at (b ∷ body) rest h =
    let parts = and_parts (not (b == 10)) (has_no_feed body) h in
    grind (arith, feed_at body rest parts.1)

module _ (e : EntryValue) (has : HasLine LINE_LIMIT e) (rest : List ℕ) where
  line_first : first_line (line_text e ++ rest) ≡ line_text e
  line_first = grind (arith, append_assoc, feed_at, body_feed, length-append, take-append_seam)

  key_first : before_first is_space (line_text e ++ rest) ≡ e.key
  key_first = grind (arith, append_assoc, before_first_at, key_no_space)

line_alone : (e : EntryValue) → HasLine LINE_LIMIT e → first_line (line_text e) ≡ line_text e
line_alone e has = ap first_line (sym (append-nil (line_text e))) ∙ line_first e has []

key_alone : (e : EntryValue) → HasLine LINE_LIMIT e → before_first is_space (line_text e) ≡ e.key
key_alone e has = ap (before_first is_space) (sym (append-nil (line_text e))) ∙ key_first e has []

-- a NUL is no line feed
nul_last : (front : List ℕ) → ends_with_feed (front ++ nul ∷ []) ≡ false
nul_last front =
    let size : length (front ++ nul ∷ []) - 1 ≡ length front = omega (arith, length-append front (nul ∷ [])) in
    rw (size, drop-append_seam front (nul ∷ [])) refl

-- the line of an entry, with its file name and a NUL behind it
holds_behind : (e : EntryValue) → HasLine LINE_LIMIT e → HoldsLine e (line_text e ++ (e.filename ++ nul ∷ [])) e.offset
holds_behind e has =
    let more = e.filename ++ nul ∷ [] in
    let first = line_first e has more in
    let longer : length (line_text e ++ more) ≡ length (line_text e) + length e.filename + 1 =
    omega (arith, length-append (line_text e) more, length-append e.filename (nul ∷ [])) in
    let inner : length (line_text e ++ more) - 1 - length (line_text e) ≡ length e.filename = omega (arith, longer) in
    let last : ends_with_feed (line_text e ++ more) ≡ false =
    ap ends_with_feed (sym (append_assoc (line_text e) e.filename (nul ∷ []))) ∙ nul_last (line_text e ++ e.filename) in
    record {
      has_line = has;
      line_is = first;
      alone = λ ends. grind (arith, last);
      key_is = key_first e has more;
      filename_is = grind (arith, first, longer, inner, lt-ltb, drop-append_seam, take-append_seam);
      offset_is = refl;
    }

-- the line of an entry, with its file name put behind it where that is needed, holds the entry
pub holds_line : (e : EntryValue) (line name bytes : List ℕ) → HasLine LINE_LIMIT e → line ≡ line_text e
    → name ≡ e.filename → KeepsName line name bytes → HoldsLine e bytes e.offset
holds_line e line name bytes has is named (inl k) = grind (arith, line_alone, key_alone)
holds_line e line name bytes has is named (inr k) = grind (arith, holds_behind e has)

-- ---- the last quote

pub after_quote : (text : List ℕ) (k : ℕ) → IsLastByte (is_byte 34) text (Some k)
    → length text - suffix_len (λ x. not (is_quote x)) text ≡ k + 1
after_quote text k last =
    let back : k + 1 - 1 ≡ k = omega arith in
    grind (arith, suffix_len_is)

pub no_quote : (text : List ℕ) → IsLastByte (is_byte 34) text None
    → length text - suffix_len (λ x. not (is_quote x)) text ≡ 0
no_quote text none =
    let e = suffix_len_is (λ x. not (is_quote x)) text 0 0 (omega arith)
    (grind (arith)) (λ h. absurd (omega arith)) in
    omega (arith, e)

pub ruleset last_quoted_rules = (take_all, length-drop, after_quote)
