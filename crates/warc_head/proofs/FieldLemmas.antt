-- The fields of lines, of which some were read.
use Rattle.warc_head.proofs.Words.{◌≡◌, ◌<◌, ℕ, List, [], ◌∷◌, ◌++◌, length, None, Ok, Err, refl}
use Rattle.warc_head.proofs.Words.{true, false, Bool, append_assoc, arith, list_all, field_lines_in}
use Rattle.warc_head.proofs.Words.{line_content, continues, trim, is_content, line_end, Field}
use Rattle.std.proofs.Common.{Result, length-take}
use Rattle.std.specs.List.{ends_with}
use Rattle.std.specs.Prelude.{nat_eq, ◌&&◌, take, drop, ◌-◌}
use Rattle.std.proofs.lemmas.List.{drop-take, nil_from_length}
use Rattle.warc_head.specs.declared.fault.HeadFault.{HeadFault}
use Rattle.warc_head.specs.Answers.{◌>>=◌}
use Rattle.warc_head.specs.Lines.{lines_of, BeginsWithLine}
use Rattle.warc_head.specs.Fields.{Given, given_by, fields_of, joined, longer, added}
use Rattle.warc_head.specs.Fields.{unless_continued, field_in, with_field, at_colon}
use Rattle.warc_head.proofs.LineLemmas.{line_first, line_text, concat, concat-lines, IsLine}
use Rattle.warc_head.proofs.LineLemmas.{line_if}
use Rattle.warc_head.specs.declared.fault.HeadFault.TheVariants as faults

-- fields that were read, and what the lines after them give
abbrev pub onto : List Field → Given → Result (List Field) HeadFault
onto [] read = unless_continued read.more read.fields
onto (f ∷ []) read = Ok (longer f (added read.more) ∷ read.fields)
onto (f ∷ g ∷ seen) read = onto (g ∷ seen) read >>= λ fs. Ok (f ∷ fs)

abbrev pub going_lines : List Field → List (List ℕ) → Result (List Field) HeadFault
going_lines seen lines = given_by lines >>= onto seen

unfoldable pub going : List Field → List ℕ → Result (List Field) HeadFault
going seen rest = going_lines seen (lines_of rest)

pub joined-nil : (a : List ℕ) → joined a [] ≡ a
joined-nil a = grind arith

-- fields before the last one are left as they are
onto-more : (seen : List Field) (f : Field) (read : Given) → onto (seen ++ f ∷ []) read
    ≡ Ok (seen ++ longer f (added read.more) ∷ read.fields)
onto-more (g ∷ h ∷ seen) f read = grind (arith, onto-more (h ∷ seen) f read)
onto-more seen f read = grind arith

-- a line that begins a field
onto-began : (seen : List Field) (f : Field) (read : Given) → onto seen (with_field f read) ≡ onto (seen ++ f ∷ []) read
onto-began (g ∷ h ∷ seen) f read = grind (arith, onto-began (h ∷ seen) f read)
onto-began seen f read = grind arith

-- what one line does
line-fault : (seen : List Field) (line : List ℕ) (lines : List (List ℕ)) (e : HeadFault) → line_content line ≡ Err e
    → going_lines seen (line ∷ lines) ≡ Err e
unfolding given_by
line-fault seen line lines e h = grind arith

line-continued : (seen : List Field) (f : Field) (line text : List ℕ) (lines : List (List ℕ)) → line_content line
    ≡ Ok text → continues text ≡ true → going_lines (seen ++ f ∷ []) (line ∷ lines)
    ≡ going_lines (seen ++ longer f (trim text) ∷ []) lines
unfolding given_by
line-continued seen f line text lines h c = grind (arith, onto-more, append_assoc)

line-unnamed : (seen : List Field) (line text : List ℕ) (lines : List (List ℕ)) (e : HeadFault) → line_content line
    ≡ Ok text → continues text ≡ false → field_in text ≡ Err e → going_lines seen (line ∷ lines) ≡ Err e
unfolding given_by
line-unnamed seen line text lines e h c n = rw (h, c, n) refl

line-began : (seen : List Field) (f : Field) (line text : List ℕ) (lines : List (List ℕ)) → line_content line ≡ Ok text
    → continues text ≡ false → field_in text ≡ Ok f → going_lines seen (line ∷ lines)
    ≡ going_lines (seen ++ f ∷ []) lines
unfolding given_by
line-began seen f line text lines h c n = grind (arith, onto-began)

-- an answer without any other fault than FieldLine
abbrev pub Plain : {A : Type 0} → Result A HeadFault → Type 0
Plain (Ok x) = Unit {0}
Plain (Err faults.FieldLine) = Unit {0}
Plain (Err e) = ⊥

Plain-name : (text : List ℕ) → Plain (field_in text)
unfolding field_in
Plain-name text = grind (arith, at_colon)

Plain-lines : (lines : List (List ℕ)) → Plain (given_by lines)
unfolding given_by
Plain-lines [] = tt
Plain-lines (line ∷ lines) = grind (arith, Plain-name, Plain-lines lines)

line-first : (line text : List ℕ) (lines : List (List ℕ)) → line_content line ≡ Ok text → continues text ≡ true
    → going_lines [] (line ∷ lines) ≡ Err faults.FieldLine
unfolding given_by
line-first line text lines h c = grind (arith, Plain-lines lines)

-- at the end
onto-end : (seen : List Field) → onto seen (record { more = None; fields = [] }) ≡ Ok seen
onto-end (f ∷ g ∷ seen) = grind (arith, onto-end (g ∷ seen))
onto-end seen = grind arith

pub going-end : (seen : List Field) → going seen [] ≡ Ok seen
unfolding going lines_of given_by
going-end seen = onto-end seen

pub going-start : (body : List ℕ) → fields_of body ≡ going [] body
unfolding going fields_of
going-start body = refl

content_fault : (line : List ℕ) (t : Bool)
    → (ends_with nat_eq line line_end && list_all is_content (take (length line - 2) line)) ≡ t
    → ((text : List ℕ) → IsLine line text → ⊥) → line_content line ≡ Err faults.FieldLine
content_fault line t e f = grind (arith, line_if)

unended_lines : (seen : List Field) (text : List ℕ) (lines : List (List ℕ)) → lines_of text ≡ lines → 0 < length text
    → ((line rest : List ℕ) → BeginsWithLine text line rest → ⊥) → going_lines seen lines ≡ Err faults.FieldLine
unended_lines seen text [] e h f = grind (arith, concat-lines text)
unended_lines seen text (line ∷ lines) e h f =
    line-fault seen line lines faults.FieldLine
    (content_fault line _ refl
    (λ t l. f t (concat lines) (record { spelled = grind (arith, append_assoc, concat-lines text); plain = l.plain })))

-- a text that begins with no line
pub going-fault : (seen : List Field) (text : List ℕ) → 0 < length text
    → ((line rest : List ℕ) → BeginsWithLine text line rest → ⊥) → going seen text ≡ Err faults.FieldLine
unfolding going
going-fault seen text h f = grind (arith, unended_lines)

module _ (rest text later : List ℕ) (line : BeginsWithLine rest text later) where
  cut : lines_of rest ≡ (text ++ line_end) ∷ lines_of later
  cut = grind (arith, line_first)

  content : line_content (text ++ line_end) ≡ Ok text
  content = line_text text line.plain

  pub going-unnamed : (seen : List Field) (e : HeadFault) → continues text ≡ false → field_in text ≡ Err e
      → going seen rest ≡ Err e
  unfolding going
  going-unnamed seen e c n = grind (arith, cut, line-unnamed, content)

  pub going-began : (seen : List Field) (f : Field) → continues text ≡ false → field_in text ≡ Ok f → going seen rest
      ≡ going (seen ++ f ∷ []) later
  unfolding going
  going-began seen f c n = grind (arith, cut, line-began, content)

  pub going-first : continues text ≡ true → going [] rest ≡ Err faults.FieldLine
  unfolding going
  going-first c = grind (arith, cut, line-first, content)

  pub going-continued : (seen : List Field) (f : Field) → continues text ≡ true → going (seen ++ f ∷ []) rest
      ≡ going (seen ++ longer f (trim text) ∷ []) later
  unfolding going
  going-continued seen f c = grind (arith, cut, line-continued, content)

pub nil_of : {A : Type 0} (xs : List A) → length xs ≡ 0 → xs ≡ []
nil_of xs h = nil_from_length xs h

-- the lines between the version line and the empty line
pub body_is : (raw : List ℕ) → field_lines_in raw ≡ drop 10 (take (length raw - 2) raw)
body_is raw = grind (arith, length-take (length raw - 2) raw, drop-take 10 (length raw - 2 - 10) raw)
