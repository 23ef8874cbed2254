-- A line followed by a plain object with the texts of its members.
use Rattle.std.specs.Prelude.{◌≡◌, ℕ, List, ◌++◌, length, decimal}
use Rattle.cdxj_objects.specs.declared.members.Members.{Members}
use Rattle.cdxj_objects.specs.declared.span.Span.{Span}
use Rattle.cdxj_objects.specs.FoundMembers.{FoundValue, raw_text}
use Rattle.cdxj_objects.specs.MemberValues.{value_text}
use Rattle.cdxj_objects.specs.ObjectMembers.{map_members}
use Rattle.cdxj_objects.specs.Plain.{plain_text, values_of_texts}
use Rattle.cdxj_objects.specs.PlainPlaces.{AreFrontsOf}
use Rattle.cdxj_objects.specs.Spans.{AreSpans, span_texts}
use Rattle.cdxj_objects.specs.Texts.{TextsValue}

-- the texts of members that were found, as they stand
abbrev pub raw_texts : FoundValue → ℕ → List ℕ → TextsValue
raw_texts f offset filename =
    record (map_members raw_text f) { offset = decimal offset; filename = filename }

-- their values
abbrev pub found_texts : FoundValue → ℕ → List ℕ → TextsValue
found_texts f offset filename =
    record (map_members value_text f) { offset = decimal offset; filename = filename }

-- a plain object with these texts was written behind what was there, and its fronts stand there
pub record IsWritten (old new : List ℕ) (t : TextsValue) (at : Members ℕ) : Type 0 where
  pub text_is : new ≡ old ++ plain_text t
  pub object : at.url ≡ length old
  pub fronts : AreFrontsOf new t at

-- the text is the line and a plain object with these texts, which stand there
pub record IsSpelled (line : List ℕ) (f : FoundValue) (offset : ℕ) (filename text : List ℕ)
    (at : Members Span) : Type 0 where
  pub text_is : text ≡ line ++ plain_text (raw_texts f offset filename)
  pub parts : AreSpans text at
  pub texts_are : span_texts text at ≡ raw_texts f offset filename
  pub values : values_of_texts (raw_texts f offset filename) ≡ found_texts f offset filename
