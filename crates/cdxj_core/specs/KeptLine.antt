-- A line that was read: its text, and where its parts stand in it.
use Rattle.std.specs.Prelude.{◌≡◌, ℕ, ◌+◌, ◌<◌, ◌≤◌, ◌^◌, true, List, [], take, drop, get_or, length, Some, unwrap_or}
use Rattle.std.specs.List.{prefix_len}
use Rattle.std.specs.Str.{IsCharBoundary}
use Rattle.cdxj_places.specs.Bytes.{space}
use Rattle.cdxj_places.specs.Pair.{is_key, is_stamp}
use Rattle.cdxj_core.specs.declared.front_pair.FrontPair.{FrontPair}
use Rattle.cdxj_objects.specs.declared.members.Members.{Members}
use Rattle.cdxj_objects.specs.ObjectMembers.{all_members}
use Rattle.cdxj_objects.specs.Plain.{ArePlain, is_neither, values_of_texts}
use Rattle.cdxj_objects.specs.declared.span.Span.{Span}
use Rattle.cdxj_objects.specs.Spans.{AreSpans, IsPartBetween, part, span_texts}
use Rattle.cdxj_core.specs.declared.spans.Spans.{Spans}
use Rattle.cdxj_core.specs.declared.spans.TheConstants.{TO_STAMP, TO_STAMP_END}
use Rattle.cdxj_core.specs.Lines.{LineValue, body_of, line_value, texts_in}
use Rattle.cdxj_core.specs.Members.{Member, line_entry}

-- the text begins with a key, a space and a stamp, behind which a space and more follow
pub record IsFrontPair (text : List ℕ) (p : FrontPair) : Type 0 where
  pub key_is : p.key ≡ prefix_len (is_neither space 127) text
  pub some : 0 < p.key
  pub long : p.key + 17 ≤ length text
  pub first_space : get_or text p.key 0 ≡ space
  pub stamp_is : p.stamp ≡ take 14 (drop (p.key + 1) text)
  pub stamp_rule : is_stamp p.stamp ≡ true
  pub second_space : get_or text (p.key + 15) 0 ≡ space

-- each line with this body has this entry
abbrev pub IsEntryOf : ℕ → List ℕ → Member → Type 0
IsEntryOf limit body member =
    (line : List ℕ) → body_of line ≡ body → line_entry limit line ≡ Some member

-- the texts that stand there have these values
pub record AreTextsOf (text : List ℕ) (at : Members Span) (values : LineValue) : Type 0 where
  pub parts : AreSpans text at
  pub texts_are : values_of_texts (span_texts text at) ≡ texts_in values

-- The text begins with the line of this member, and its parts stand there. The texts of the line's
-- members stand in the line, if they need no escapes, and otherwise behind it.
pub record IsKept (limit : ℕ) (text : List ℕ) (s : Spans) (member : Member) : Type 0 where
  pub entry : line_entry limit (take s.size text) ≡ Some member
  pub line_is : take s.size text ≡ member.line
  pub line_ends : IsCharBoundary text s.size
  pub key_is : take s.key text ≡ member.values.key
  pub key_ends : IsCharBoundary text s.key
  pub stamp_ends : IsPartBetween text (s.key + TO_STAMP) (s.key + TO_STAMP_END)
  pub stamp_text : part text (s.key + TO_STAMP) (s.key + TO_STAMP_END) ≡ member.values.stamp
  pub stamp_is : s.stamp ≡ member.values.stamp
  pub placed : AreTextsOf text s.texts member.values
  pub key_rule : is_key member.values.key ≡ true
  pub stamp_rule : is_stamp member.values.stamp ≡ true
  pub filename_rule : 0 < length member.values.filename
  pub offset_rule : member.values.offset < 2 ^ 63
  pub plain : s.size ≡ length text → ArePlain (texts_in member.values)

-- the member of nothing
abbrev pub no_member : Member
no_member = record { values = line_value [] [] (all_members []) 0; line = [] }

-- the member that a body is
abbrev pub member_in : ℕ → List ℕ → Member
member_in limit body = unwrap_or (line_entry limit body) no_member
