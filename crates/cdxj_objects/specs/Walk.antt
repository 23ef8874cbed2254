-- A member that a walk over an object passes: its name, and a text or a whole number.
use Rattle.std.specs.Prelude.{◌≡◌, ◌⊎◌, ℕ, ◌+◌, ◌++◌, codes, ◌<◌, ◌≤◌, ◌^◌, Bool, true, List, ◌∷◌, decimal, drop, length, if◌then◌else◌, ◌==◌, ◌||◌, bytes_eq, false, get_or, not, ◌&&◌}
use Rattle.json.specs.Token.{Token}
use Rattle.json.specs.Text.{content, plain}
use Rattle.json.specs.Lex.{lex, between, in_string, token, colon, operator_lexeme}
use Rattle.serde_json.specs.Data.{Data, null, boolean, string, number, unsigned, negative, float, array, object}
use Rattle.cdxj_objects.specs.declared.plain.FirstTwo.{FirstTwo}
use Rattle.cdxj_objects.specs.declared.plain.PlainFronts.{PlainFronts}
use Rattle.cdxj_objects.specs.declared.walk.FirstMembers.{FirstMembers}
use Rattle.cdxj_objects.specs.declared.walk.Name.{Name}
use Rattle.cdxj_objects.specs.declared.walk.Name.TheVariants.{Url, Mime, Status, Digest, Length, Offset, Filename}
use Rattle.cdxj_objects.specs.declared.tokens.Stands.{Stands}
use Rattle.cdxj_objects.specs.declared.span.Span.{Span}
use Rattle.cdxj_objects.specs.declared.members.Members.{Members}
use Rattle.cdxj_objects.specs.FoundMembers.{FoundValue, members_in, raw_text}
use Rattle.cdxj_objects.specs.MemberValues.{IsDecimal}
use Rattle.cdxj_objects.specs.ObjectMembers.{AllMembers, all_members, map_members, names, with_named}
use Rattle.std.specs.Prelude.{Option, None, Some}
use Rattle.cdxj_objects.specs.declared.walk.Passed.{Passed}
use Rattle.std.specs.Char.{is_ascii_hexdigit}
use Rattle.std.specs.List.{list_all}
use Rattle.std.specs.Str.{IsUtf8}
use Rattle.std.specs.Str.Parse.{digits_value}
use Rattle.json.specs.Run.{is_plain}
use Rattle.cdxj_objects.specs.PlainPlaces.{AreBegun, AreFirstTwo, spans_of_two, spans_to}
use Rattle.cdxj_objects.specs.Spans.{IsPartBetween, part, span_text, span_texts}

-- a backslash and this byte stand for a byte
abbrev pub is_short_escape : ℕ → Bool
is_short_escape b = (b == 34) || (b == 92) || (b == 47) || (b == 98) || (b == 102) || (b == 110) || (b == 114) || (b == 116)

-- a text begins with a token, and goes on behind it
abbrev pub Lexes : List ℕ → Token → List ℕ → Type 0
Lexes t v r = lex between t ≡ token v ∷ lex between r

-- the value of a member
pub data Value : Type 0 where
  text : List ℕ → Value
  whole : ℕ → Value

abbrev pub token_of : Value → Token
token_of (text s) = Token.string s
token_of (whole n) = Token.number (decimal n)

abbrev pub data_of : Value → Data
data_of (text s) = string s
data_of (whole n) = number (unsigned n)

abbrev pub value_text : Value → List ℕ
value_text (text s) = s
value_text (whole n) = decimal n

abbrev pub Fits : Value → Type 0
Fits (text s) = Unit {0}
Fits (whole n) = n < 2 ^ 64

-- a number that was found fits 64 bits
abbrev pub Fitting : Option Data → Type 0
Fitting None = Unit {0}
Fitting (Some null) = Unit {0}
Fitting (Some (boolean b)) = Unit {0}
Fitting (Some (number (unsigned n))) = n < 2 ^ 64
Fitting (Some (number (negative z))) = Unit {0}
Fitting (Some (number (float x))) = Unit {0}
Fitting (Some (string s)) = Unit {0}
Fitting (Some (array ds)) = Unit {0}
Fitting (Some (object ms)) = Unit {0}

-- the value that stands there
abbrev pub value_of : List ℕ → Stands → Value
value_of t v =
    if v.is_text then text (part t v.start v.end) else whole (digits_value 10 (part t v.start v.end))

-- a text without a quote, a backslash and a control stands between these places
pub record IsPlainPart (t : List ℕ) (start end : ℕ) : Type 0 where
  pub plain : list_all is_plain (part t start end) ≡ true
  pub order : start ≤ end
  pub inside : end ≤ length t
  pub cut : IsUtf8 t → IsPartBetween t start end

-- a value stands there, whose text is that between these places
pub record IsValueAt (t : List ℕ) (at : ℕ) (v : Stands) : Type 0 where
  pub stands : IsPlainPart t v.start v.end
  pub after_inside : v.after ≤ length t
  pub moves : at < v.after
  pub is : Lexes (drop at t) (token_of (value_of t v)) (drop v.after t)
  pub fits : Fits (value_of t v)
  pub text_is : value_text (value_of t v) ≡ part t v.start v.end

-- a name, a colon and a value stand at t, and r follows
pub record IsMember (t : List ℕ) (k : List ℕ) (v : Value) (r : List ℕ) : Type 0 where
  pub at_colon : List ℕ
  pub at_value : List ℕ
  pub name : Lexes t (Token.string k) at_colon
  pub colon_is : lex between at_colon ≡ colon ∷ lex between at_value
  pub value : Lexes at_value (token_of v) r
  pub fits : Fits v

-- the rest of a text up to its quote, behind which r follows
pub record IsRest (l s r : List ℕ) : Type 0 where
  pub content_is : content plain l ≡ Some s
  pub lexed : lex in_string l ≡ lex between r

-- a text with escapes goes on from a place to another
abbrev pub GoesOnTo : List ℕ → ℕ → ℕ → Type 0
GoesOnTo t from to = (s r : List ℕ) → IsRest (drop to t) s r → (whole : List ℕ) × IsRest (drop from t) whole r

-- an escape stands there, up to a place
pub record IsEscapeTo (t : List ℕ) (at to : ℕ) : Type 0 where
  pub moves : at < to
  pub inside : to ≤ length t
  pub goes_on : GoesOnTo t at to

-- four hexadecimal digits that are no half of a surrogate pair, since the first is no D
abbrev pub is_basic_unit : ℕ → ℕ → ℕ → ℕ → Bool
is_basic_unit a b c d =
    is_ascii_hexdigit a && is_ascii_hexdigit b && is_ascii_hexdigit c && is_ascii_hexdigit d && not (a == 100)
    && not (a == 68)

-- a text with escapes stands there between quotes
pub record IsEscapedTo (text : List ℕ) (at end : ℕ) : Type 0 where
  pub order : at < end
  pub inside : end < length text
  pub content_is : List ℕ
  pub is : Lexes (drop at text) (Token.string content_is) (drop (end + 1) text)

-- a quote stands there, and this is the place behind it
abbrev pub IsBehindQuote : List ℕ → ℕ → ℕ → Type 0
IsBehindQuote t at after = (at < length t) × (get_or t at 0 ≡ 34) × (after ≡ at + 1)

-- blanks stand between two places
pub record IsBlankTo (text : List ℕ) (at to : ℕ) : Type 0 where
  pub order : at ≤ to
  pub inside : to ≤ length text
  pub same : lex between (drop to text) ≡ lex between (drop at text)

-- a byte stands there, with blanks around it
pub record IsBehind (text : List ℕ) (at byte to : ℕ) : Type 0 where
  pub moves : at < to
  pub inside : to ≤ length text
  pub is : lex between (drop at text) ≡ operator_lexeme byte ∷ lex between (drop to text)

-- a whole number stands there
pub record IsNumberTo (text : List ℕ) (at end : ℕ) : Type 0 where
  pub order : at < end
  pub inside : end ≤ length text
  pub number : IsDecimal (part text at end)
  pub stands : IsPlainPart text at end
  pub is : Lexes (drop at text) (Token.number (decimal (digits_value 10 (part text at end))))
      (drop end text)

-- a text stands there between quotes
pub record IsTextTo (text : List ℕ) (at end : ℕ) : Type 0 where
  pub order : at < end
  pub inside : end < length text
  pub stands : IsPlainPart text (at + 1) end
  pub is : Lexes (drop at text) (Token.string (part text (at + 1) end)) (drop (end + 1) text)

-- a member stands there
pub record IsPassed (t : List ℕ) (at : ℕ) (m : Passed) : Type 0 where
  pub member : IsMember (drop at t) (part t m.name_start m.name_end) (value_of t m.value) (drop m.value.after t)
  pub stands : IsPlainPart t m.value.start m.value.end
  pub after_inside : m.value.after ≤ length t
  pub moves : at < m.value.after
  pub name_order : m.name_start ≤ m.name_end
  pub name_inside : m.name_end ≤ length t
  pub text_is : value_text (value_of t m.value) ≡ part t m.value.start m.value.end

abbrev pub IsPlainSpan : List ℕ → Span → Type 0
IsPlainSpan t s = IsPlainPart t s.start s.end

abbrev pub span_of : Stands → Span
span_of v = record { start = v.start; end = v.end }

-- the name is none of the seven
abbrev pub IsOther : List ℕ → Type 0
IsOther name = AllMembers (λ its. bytes_eq name its ≡ false) names

-- a member stands there, up to a place, and its text is noted where its name is one of the seven
pub record IsTurn (t : List ℕ) (at : ℕ) (old new : Members Span) (after : ℕ) : Type 0 where
  pub name : List ℕ
  pub value : Value
  pub member : IsMember (drop at t) name value (drop after t)
  pub moves : at < after
  pub inside : after ≤ length t
  pub texts : map_members (span_text t) new ≡ with_named name (value_text value) (map_members (span_text t) old)
  pub stand : AllMembers (IsPlainSpan t) old → AllMembers (IsPlainSpan t) new

-- a member, as it is written, stands between blanks behind a byte
pub record IsAnyTurn (t : List ℕ) (at : ℕ) (old new : Members Span) (after : ℕ) : Type 0 where
  pub begin : ℕ
  pub end : ℕ
  pub before : IsBlankTo t (at + 1) begin
  pub turn : IsTurn t begin old new end
  pub behind : IsBlankTo t end after

-- all seven members or the first two stand there as they are written, up to a place, or one member in
-- any spelling
abbrev pub AreFirst : List ℕ → ℕ → FirstMembers → Type 0
AreFirst t at first =
    ((m : PlainFronts) × AreBegun t at m × IsBehindQuote t m.end first.at × (first.spans ≡ spans_to m.end m.at))
    ⊎ ((m : FirstTwo) × AreFirstTwo t at m × IsBehindQuote t m.mime_end first.at
    × (first.spans ≡ spans_of_two at m (record { start = 0; end = 0 })))
    ⊎ IsAnyTurn t at (all_members (record { start = 0; end = 0 })) first.spans first.at

abbrev pub name_of : Name → List ℕ
name_of Url = names.url
name_of Mime = names.mime
name_of Status = names.status
name_of Digest = names.digest
name_of Length = names.length
name_of Offset = names.offset
name_of Filename = names.filename

-- a name between its quotes, and a colon
abbrev pub quoted_name : List ℕ → List ℕ
quoted_name name = codes "\"" ++ (name ++ codes "\":")

-- it stands there, up to a place
pub record IsNameTo (t : List ℕ) (at : ℕ) (name : List ℕ) (to : ℕ) : Type 0 where
  pub order : at ≤ to
  pub inside : to ≤ length t
  pub is : drop at t ≡ quoted_name name ++ drop to t

-- the text behind a place is an object, and the texts of its members stand there
pub record AreWalked (t : List ℕ) (object : ℕ) (m : Members Span) : Type 0 where
  pub found : FoundValue
  pub is : members_in (drop object t) ≡ Some found
  pub texts : map_members raw_text found ≡ span_texts t m
  pub stand : AllMembers (IsPlainSpan t) m
  pub fit : AllMembers Fitting found
