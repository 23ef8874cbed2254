-- Where the texts of a plain object's members stand.
use Rattle.std.specs.Prelude.{◌≡◌, ℕ, ◌+◌, ◌-◌, ◌<◌, ◌≤◌, true, List, ◌++◌, drop, length}
use Rattle.std.specs.Char.{is_ascii_digit}
use Rattle.std.specs.List.{list_all}
use Rattle.cdxj_objects.specs.declared.members.Members.{Members}
use Rattle.cdxj_objects.specs.declared.plain.BegunMembers.{BegunMembers}
use Rattle.cdxj_objects.specs.declared.plain.BegunMembers.TheVariants.{All, Two, Few}
use Rattle.cdxj_objects.specs.declared.plain.FirstTwo.{FirstTwo}
use Rattle.cdxj_objects.specs.declared.plain.PlainFronts.{PlainFronts}
use Rattle.cdxj_objects.specs.declared.span.Span.{Span}
use Rattle.cdxj_objects.specs.MemberValues.{IsDecimal}
use Rattle.cdxj_objects.specs.ObjectMembers.{AllMembers, all_members, map_members, next_members, zip_members}
use Rattle.cdxj_objects.specs.Plain.{fronts, is_open}
use Rattle.cdxj_objects.specs.Spans.{IsPartBetween, part}
use Rattle.cdxj_objects.specs.Texts.{TextsValue}

-- Where each text begins and ends, if the fronts stand there: it ends where the next front begins,
-- and the last one at this place.
abbrev pub places_to : ℕ → Members ℕ → Members (ℕ × ℕ)
places_to end at =
    zip_members (λ start end. (start, end)) (zip_members (λ place front. place + length front) at fronts)
    (next_members at end)

abbrev pub spans_to : ℕ → Members ℕ → Members Span
spans_to end at = map_members (λ place. record { start = place.0; end = place.1 }) (places_to end at)

-- the same in a text that ends with the object, behind the last text a quote and a brace
abbrev pub text_spans : List ℕ → Members ℕ → Members (ℕ × ℕ)
text_spans text at = places_to (length text - 2) at

abbrev pub IsSpanOf : (ℕ × ℕ) × List ℕ → Type 0
IsSpanOf ((start, end), s) = end ≡ start + length s

-- the fronts stand there, if the members have these texts
abbrev pub AreFrontsOf : List ℕ → TextsValue → Members ℕ → Type 0
AreFrontsOf text t at =
    AllMembers IsSpanOf (zip_members (λ span s. (span, s)) (text_spans text at) t)

-- texts begin and end there
abbrev pub AreParts : List ℕ → Members ℕ → Type 0
AreParts text at = AllMembers (λ span. IsPartBetween text span.0 span.1) (text_spans text at)

abbrev pub spans_at : List ℕ → Members ℕ → Members Span
spans_at text at = spans_to (length text - 2) at

abbrev pub texts_at : List ℕ → Members ℕ → TextsValue
texts_at text at = map_members (λ span. part text span.0 span.1) (text_spans text at)

-- a text without a quote stands between these places, behind a front
pub record IsTextAfter (text : List ℕ) (at : ℕ) (front : List ℕ) (start end : ℕ) : Type 0 where
  pub is : drop at text ≡ front ++ (part text start end ++ drop end text)
  pub no_quote : list_all is_open (part text start end) ≡ true
  pub order : start ≤ end
  pub inside : end ≤ length text

-- a number in decimal stands between these places
pub record IsDecimalTo (text : List ℕ) (start end : ℕ) : Type 0 where
  pub order : start < end
  pub inside : end ≤ length text
  pub digits : list_all is_ascii_digit (part text start end) ≡ true
  pub number : IsDecimal (part text start end)

-- a number in decimal stands between these places, behind a front
abbrev pub IsNumberAfter : List ℕ → ℕ → List ℕ → ℕ → ℕ → Type 0
IsNumberAfter text at front start end = IsTextAfter text at front start end × IsDecimal (part text start end)

-- a text stands behind each front, up to the next
abbrev pub IsPlacedAfter : List ℕ → (ℕ × List ℕ) × ℕ → Type 0
IsPlacedAfter text ((place, front), end) = IsTextAfter text place front (place + length front) end

abbrev pub AreTextsAfter : List ℕ → Members ℕ → ℕ → Type 0
AreTextsAfter text at end = AllMembers (IsPlacedAfter text)
    (zip_members (λ m next. (m, next)) (zip_members (λ place front. (place, front)) at fronts) (next_members at end))

-- an object begins with the seven members, has a file name and an offset
pub record AreBegun (text : List ℕ) (object : ℕ) (m : PlainFronts) : Type 0 where
  pub begins : m.at.url ≡ object
  pub texts : AreTextsAfter text m.at m.end
  pub offset : IsDecimal (part text (m.at.offset + length fronts.offset) m.at.filename)
  pub named : m.at.filename + length fronts.filename < m.end

-- an object begins with the first two members
pub record AreFirstTwo (text : List ℕ) (object : ℕ) (m : FirstTwo) : Type 0 where
  pub url : IsTextAfter text object fronts.url (object + length fronts.url) m.url_end
  pub mime : IsTextAfter text m.url_end fronts.mime (m.url_end + length fronts.mime) m.mime_end

-- where their texts stand, if the other members stand there
abbrev pub spans_of_two : ℕ → FirstTwo → Span → Members Span
spans_of_two object m other = record (all_members other) {
  url = record { start = object + length fronts.url; end = m.url_end };
  mime = record { start = m.url_end + length fronts.mime; end = m.mime_end };
}

-- an object begins with these members
abbrev pub BeginsWithMembers : List ℕ → ℕ → BegunMembers → Type 0
BeginsWithMembers text object (All m) = AreBegun text object m
BeginsWithMembers text object (Two m) = AreFirstTwo text object m
BeginsWithMembers text object Few = Unit {0}
