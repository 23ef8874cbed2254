-- Reading what was spelled.
use Rattle.warc_head.proofs.Words.{◌≡◌, ℕ, suc, ◌-◌, true, false, List, [], ◌∷◌, ◌++◌, length, refl}
use Rattle.warc_head.proofs.Words.{arith, append_assoc, length-append, Some, None, Ok, All}
use Rattle.warc_head.proofs.Words.{list_all, take-append_seam, line_end, continues, is_content}
use Rattle.warc_head.proofs.Words.{is_name, is_name_byte, Field, field_lines_in}
use Rattle.std.proofs.lemmas.List.Folds.{list_all-append}
use Rattle.std.proofs.Common.{Bool, nat_le, not, ◌&&◌}
use Rattle.warc_head.specs.Names.{is_separator}
use Rattle.std.proofs.lemmas.List.{drop_at}
use Rattle.warc_head.specs.Lines.{lines_of}
use Rattle.warc_head.specs.Fields.{at_colon, field_in, given_by, fields_of}
use Rattle.warc_head.specs.Parts.{parts_of}
use Rattle.warc_head.specs.Spelling.{IsOneLine, field_text, spelled, SpellingReadsBack}
use Rattle.warc_head.proofs.DateLemmas.{and_both, both}
use Rattle.warc_head.proofs.LineLemmas.{line_first, line_text}
use Rattle.warc_head.proofs.FieldLemmas.{joined-nil}

visible-plain : (b : ℕ) (t u : Bool) → (nat_le 33 b && t && u) ≡ true → is_content b ≡ true
visible-plain b t u h = grind arith

pub names-plain : (name : List ℕ) → list_all is_name_byte name ≡ true → list_all is_content name ≡ true
names-plain (b ∷ bs) h =
    let p = and_both (is_name_byte b) (list_all is_name_byte bs) h in
    let first = visible-plain b (nat_le b 126) (not (is_separator b)) p.0 in
    both (is_content b) (list_all is_content bs) first (names-plain bs p.1)
names-plain [] h = refl

pub colon_after : (name rest : List ℕ) → list_all is_name_byte name ≡ true → at_colon (name ++ (58 ∷ rest))
    ≡ Some (name, rest)
unfolding at_colon
colon_after [] rest h = refl
colon_after (b ∷ bs) rest h =
    let p = and_both (is_name_byte b) (list_all is_name_byte bs) h in
    grind (arith, colon_after bs rest p.1)

pub begins : (name rest : List ℕ) → is_name name ≡ true → continues (name ++ rest) ≡ false
begins [] rest h = grind arith
begins (b ∷ bs) rest h = grind (arith, and_both)

field_back : (f : Field) → IsOneLine f → field_in (field_text f) ≡ Ok f
unfolding field_in
field_back f h = grind (arith, colon_after)

text_plain : (f : Field) → IsOneLine f → list_all is_content (field_text f) ≡ true
text_plain f h = grind (arith, list_all-append, names-plain)

given_back : (fields : List Field) → All IsOneLine fields → given_by (lines_of (spelled fields))
    ≡ Ok (record { more = None; fields = fields })
unfolding given_by lines_of
given_back [] h = refl
given_back (f ∷ fs) h =
    let one = h 0 f (omega arith) in
    let others = given_back fs (λ k d l. h (suc k) d (omega arith)) in
    grind (arith, append_assoc, line_first, text_plain, line_text, begins, field_back, joined-nil)

fields_back : (fields : List Field) → All IsOneLine fields → fields_of (spelled fields) ≡ Ok fields
unfolding fields_of
fields_back fields h = rw (given_back fields h) refl

pub body : (version text : List ℕ) → length version ≡ 10 → field_lines_in (version ++ (text ++ line_end)) ≡ text
body version text h =
    let d = drop_at version (text ++ line_end) 10 h in
    let n : length (version ++ (text ++ line_end)) - 2 - 10 ≡ length text = grind (arith, length-append) in
    rw (d, n) (take-append_seam text line_end)

pub read_back : SpellingReadsBack
unfolding parts_of
read_back version fields v h = grind (arith, body, fields_back)
