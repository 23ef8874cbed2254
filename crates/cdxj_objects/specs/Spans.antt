-- Where the texts of members stand in a text.
use Rattle.std.specs.Prelude.{ℕ, ◌-◌, ◌≤◌, List, take, drop}
use Rattle.std.specs.Str.{IsCharBoundary}
use Rattle.cdxj_objects.specs.declared.members.Members.{Members}
use Rattle.cdxj_objects.specs.declared.span.Span.{Span}
use Rattle.cdxj_objects.specs.ObjectMembers.{AllMembers, map_members}
use Rattle.cdxj_objects.specs.Texts.{TextsValue}

-- a text begins and ends there, between characters
pub record IsPartBetween (text : List ℕ) (start end : ℕ) : Type 0 where
  pub order : start ≤ end
  pub start_is_cut : IsCharBoundary text start
  pub end_is_cut : IsCharBoundary text end

abbrev pub part : List ℕ → ℕ → ℕ → List ℕ
part text start end = take (end - start) (drop start text)

abbrev pub IsSpan : List ℕ → Span → Type 0
IsSpan text s = IsPartBetween text s.start s.end

abbrev pub span_text : List ℕ → Span → List ℕ
span_text text s = part text s.start s.end

abbrev pub AreSpans : List ℕ → Members Span → Type 0
AreSpans text = AllMembers (IsSpan text)

abbrev pub span_texts : List ℕ → Members Span → TextsValue
span_texts text = map_members (span_text text)
