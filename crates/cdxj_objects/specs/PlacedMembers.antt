-- Members whose texts stand in their object as they are.
use Rattle.std.specs.Prelude.{◌≡◌, ℕ, List, Some, drop}
use Rattle.cdxj_objects.specs.declared.members.Members.{Members}
use Rattle.cdxj_objects.specs.declared.placed.Placed.{Placed}
use Rattle.cdxj_objects.specs.declared.placed.Placed.TheVariants.{Written, Other}
use Rattle.cdxj_objects.specs.declared.span.Span.{Span}
use Rattle.cdxj_objects.specs.FoundMembers.{FoundValue, members_in}
use Rattle.cdxj_objects.specs.MemberValues.{filename_value, offset_value}
use Rattle.cdxj_objects.specs.Plain.{ArePlain, values_of_texts}
use Rattle.cdxj_objects.specs.PlainPlaces.{BeginsWithMembers}
use Rattle.cdxj_objects.specs.Spans.{AreSpans, span_text, span_texts}
use Rattle.cdxj_objects.specs.Spelling.{found_texts}

-- The text ends with an object that begins there. It has an offset, and its file name and the texts
-- of its members are these, and need no escapes.
pub record ArePlacedMembers (text : List ℕ) (object : ℕ) (m : Members Span) : Type 0 where
  pub found : FoundValue
  pub offset : ℕ
  pub is : members_in (drop object text) ≡ Some found
  pub named : filename_value found.filename ≡ Some (span_text text m.filename)
  pub placed : offset_value found.offset ≡ Some offset
  pub values : values_of_texts (span_texts text m)
      ≡ found_texts found offset (span_text text m.filename)
  pub parts : AreSpans text m
  pub plain : ArePlain (span_texts text m)

-- an object that begins there was read, or the members that begin it
abbrev pub IsPlaced : List ℕ → ℕ → Placed → Type 0
IsPlaced text object (Written m) = ArePlacedMembers text object m
IsPlaced text object (Other begun) = BeginsWithMembers text object begun
