-- A walk over the members of an object, whose values are texts and whole numbers.
use Rattle.std.proofs.Common.{◌≡◌, ℕ, ◌-◌, ◌<◌, ◌≤◌, ◌^◌, zero, suc, Bool, true, false, List, [], ◌∷◌, ◌++◌, length, decimal, refl, ap, sym, subst, ◌∙◌, arith}
use Rattle.std.proofs.Common.{Some, ap₂}
use Rattle.std.specs.List.{list_all}
use Rattle.json.specs.Run.{is_plain}
use Rattle.json.specs.Text.{content, plain}
use Rattle.json.specs.Word.{ends_word}
use Rattle.json.specs.Token.{Token}
use Rattle.json.specs.Lex.{Lexeme, token, comma, colon, string_token, lex, between, in_string, Place, fresh, after_value, after_comma, begins_colon, punctuate, may_begin}
use Rattle.json.proofs.Printed.Decimals.{IsNumber-decimal}
use Rattle.json.proofs.Printed.Numbers.{lex-number}
use Rattle.json.proofs.Printed.Strings.{content-escape, lex-escape}
use Rattle.serde_json.specs.Data.{Data, number, unsigned, Members, no_members, put}
use Rattle.serde_json.proofs.Numbers.{number_of-decimal}
use Rattle.cdxj_objects.specs.FoundMembers.{found_of, member_data, members_in, members_read, object_read, value_read}
use Rattle.cdxj_objects.proofs.JsonReading.{members_from, member_put, members_end, read_number, seen}
use Rattle.json.proofs.Grammar.{value_is}
use Rattle.cdxj_objects.proofs.FoundLaw.{opened}
use Rattle.cdxj_objects.proofs.PlainLaw.{escape_plain}
use Rattle.cdxj_objects.specs.Walk.{Lexes, Value, text, whole, token_of, data_of, Fits, IsMember, IsBlankTo, IsBehind, IsTextTo, IsNumberTo, IsPassed, IsOther, IsTurn, IsEscapedTo, value_of, value_text, span_of, Fitting, AreWalked, IsPlainSpan}
use Rattle.cdxj_objects.specs.declared.span.Span.{Span}
use Rattle.cdxj_objects.specs.declared.members.Members.{Members as Seven}
use Rattle.cdxj_objects.specs.FoundMembers.{raw_text}
use Rattle.cdxj_objects.specs.ObjectMembers.{AllMembers, all_members, map_members, names, with_named}
use Rattle.std.specs.Prelude.{bytes_eq, if◌then◌else◌}
use Rattle.std.specs.Str.{IsCharBoundary}
use Rattle.std.proofs.lemmas.Str.{IsCharBoundary-after_ascii, IsCharBoundary-before_ascii, IsCharBoundary-start}
use Rattle.std.proofs.lemmas.Bool.Decides.{nat_tests}
use Rattle.std.proofs.lemmas.List.Sums.{AllPass-from_list_all}
use Rattle.cdxj_objects.proofs.PlainBytes.{digits_plain}
use Rattle.cdxj_objects.proofs.FoundLaw.{found_put, named_seen}
use Rattle.cdxj_objects.specs.declared.tokens.Stands.{Stands}
use Rattle.cdxj_objects.specs.declared.walk.Passed.{Passed}
use Rattle.json.specs.Word.{is_operator, is_space}
use Rattle.std.proofs.Common.{◌||◌}
use Rattle.std.specs.Char.{is_ascii_digit}
use Rattle.std.specs.Str.Parse.{digits_value}
use Rattle.std.proofs.lemmas.List.{get_or-drop, get_or-take}
use Rattle.json.specs.Lex.{Class, class, operator_lexeme}
use Rattle.std.proofs.Common.{◌+◌, take, drop, get_or, length-take, length-drop, drop-drop}
use Rattle.std.proofs.lemmas.List.{drop_all, drop_more, take-append-drop}
use Rattle.std.specs.List.{prefix_len}
use Rattle.cdxj_objects.specs.Plain.{is_neither, is_printable}
use Rattle.cdxj_objects.specs.PlainPlaces.{IsDecimalTo}
use Rattle.cdxj_objects.specs.Spans.{part, span_text}
use Rattle.cdxj_objects.proofs.PlainCuts.{front_passes}

-- ---- lexemes

pub lex_blank : (r : List ℕ) → lex between (32 ∷ r) ≡ lex between r
unfolding lex
lex_blank r = refl

pub lex_comma : (r : List ℕ) → lex between (44 ∷ r) ≡ comma ∷ lex between r
unfolding lex
lex_comma r = refl

pub lex_colon : (r : List ℕ) → lex between (58 ∷ r) ≡ colon ∷ lex between r
unfolding lex
lex_colon r = refl

pub lex_open : (r : List ℕ) → Lexes (123 ∷ r) Token.begin_object r
unfolding lex
lex_open r = refl

pub lex_close : (r : List ℕ) → Lexes (125 ∷ r) Token.end_object r
unfolding lex
lex_close r = refl

pub lex_quote : (r : List ℕ) → lex between (34 ∷ r) ≡ token (string_token (content plain r)) ∷ lex in_string r
unfolding lex
lex_quote r = refl

pub lex_operator : (b : ℕ) (r : List ℕ) → class b ≡ Class.operator → lex between (b ∷ r) ≡ operator_lexeme b ∷ lex between r
unfolding lex
lex_operator b r h = rw h refl

-- ---- steps at a place of a text

pub more_blank : (d : List ℕ) (at place : ℕ) → IsBlankTo d at place → place < length d → get_or d place 0 ≡ 32
    → IsBlankTo d at (place + 1)
more_blank d at place h within is = record {
  order = omega (arith, h.order);
  inside = omega arith;
  same = sym (lex_blank (drop (place + 1) d))
      ∙ ap (λ l. lex between l) (sym (drop_more d place 0 within ∙ ap (λ b. b ∷ drop (place + 1) d) is)) ∙ h.same;
}

pub byte_behind : (d : List ℕ) (at place byte to : ℕ) → class byte ≡ Class.operator → IsBlankTo d at place
    → place < length d → get_or d place 0 ≡ byte → IsBlankTo d (place + 1) to → IsBehind d at byte to
byte_behind d at place byte to operator before within is after = record {
  moves = omega (arith, before.order, after.order);
  inside = after.inside;
  is = sym before.same
      ∙ ap (λ l. lex between l) (drop_more d place 0 within ∙ ap (λ b. b ∷ drop (place + 1) d) is)
      ∙ lex_operator byte (drop (place + 1) d) operator ∙ ap (λ l. operator_lexeme byte ∷ l) (sym after.same);
}

pub all_take : (p : ℕ → Bool) (n : ℕ) (xs : List ℕ) → list_all p xs ≡ true → list_all p (take n xs) ≡ true
all_take p zero xs h = refl
all_take p (suc n) [] h = refl
all_take p (suc n) (x ∷ xs) h = grind (arith, all_take p n xs)

pub all_drop : (p : ℕ → Bool) (n : ℕ) (xs : List ℕ) → list_all p xs ≡ true → list_all p (drop n xs) ≡ true
all_drop p zero xs h = h
all_drop p (suc n) [] h = refl
all_drop p (suc n) (x ∷ xs) h = grind (arith, all_drop p n xs)

-- a text between quotes that needs no escapes
pub lex_text : (s r : List ℕ) → list_all is_plain s ≡ true → Lexes (34 ∷ (s ++ 34 ∷ r)) (Token.string s) r
lex_text s r h =
    let e = escape_plain s h in
    lex_quote (s ++ 34 ∷ r)
    ∙ ap₂ (λ o l. token (string_token o) ∷ l) (subst (λ x. content plain (x ++ 34 ∷ r) ≡ Some s) e (content-escape s r))
    (subst (λ x. lex in_string (x ++ 34 ∷ r) ≡ lex between r) e (lex-escape s r))

-- a whole number
pub lex_whole : (n : ℕ) (r : List ℕ) → n < 2 ^ 64 → ends_word r ≡ true → Lexes (decimal n ++ r) (Token.number (decimal n)) r
lex_whole n r h ended = lex-number (decimal n) r (IsNumber-decimal n h) ended

-- a number ends before such a byte
pub ends_at : (d : List ℕ) (end b : ℕ) → end < length d → get_or d end 0 ≡ b → (is_operator b || is_space b) ≡ true
    → ends_word (drop end d) ≡ true
ends_at d end b within is ends = ap ends_word (drop_more d end 0 within ∙ ap (λ x. x ∷ drop (end + 1) d) is) ∙ ends

digit_ascii : (b : ℕ) → is_ascii_digit b ≡ true → b < 128
digit_ascii b h = grind (arith, nat_tests)

digit_in : (d : List ℕ) (at count i : ℕ) → list_all is_ascii_digit (take count (drop at d)) ≡ true
    → length (take count (drop at d)) ≡ count → i < count → is_ascii_digit (get_or d (at + i) 0) ≡ true
digit_in d at count i all long within =
    let same : get_or (take count (drop at d)) i 0 ≡ get_or d (at + i) 0 = grind (arith, get_or-take, get_or-drop) in
    subst (λ b. is_ascii_digit b ≡ true) same
    (AllPass-from_list_all is_ascii_digit (take count (drop at d)) all i 0 (omega (arith, long, within)))

pub number_to : (d : List ℕ) (at end : ℕ) → IsDecimalTo d at end → ends_word (drop end d) ≡ true → IsNumberTo d at end
number_to d at end there ends =
    let digits = part d at end in
    let n = digits_value 10 digits in
    let count = end - at in
    let long : length digits ≡ count = grind (arith, length-take, length-drop, there.order, there.inside) in
    let up : at + count ≡ end = omega (arith, there.order) in
    let first_digit : is_ascii_digit (get_or d at 0) ≡ true =
    subst (λ i. is_ascii_digit (get_or d i 0) ≡ true) (omega arith) (digit_in d at count 0 there.digits long (omega (arith, there.order))) in
    let last_digit : is_ascii_digit (get_or d (at + (count - 1)) 0) ≡ true =
    digit_in d at count (count - 1) there.digits long (omega (arith, there.order)) in
    let cut : drop at d ≡ decimal n ++ drop end d =
    sym (take-append-drop count (drop at d)) ∙ ap (λ l. l ++ drop count (drop at d)) there.number.is
    ∙ ap (λ l. decimal n ++ l) (grind (arith, drop-drop)) in
    record {
      order = there.order;
      inside = there.inside;
      number = there.number;
      stands = record {
        plain = digits_plain digits there.digits;
        order = omega (arith, there.order);
        inside = there.inside;
        cut = λ utf8. record {
          order = omega (arith, there.order);
          start_is_cut = IsCharBoundary-before_ascii d at (omega (arith, there.order, there.inside)) (digit_ascii (get_or d at 0) first_digit);
          end_is_cut = subst (IsCharBoundary d) (omega (arith, there.order)) (IsCharBoundary-after_ascii d (at + (count - 1)) utf8
              (omega (arith, there.order, there.inside)) (digit_ascii (get_or d (at + (count - 1)) 0) last_digit));
        };
      };
      is = ap (λ l. lex between l) cut ∙ lex_whole n (drop end d) (omega (arith, there.number.small)) ends;
    }

-- ---- members

-- the tokens of a member
name_put : (p : Place) (k : List ℕ) (ls : List Lexeme) → may_begin p ≡ true → punctuate p (token (Token.string k) ∷ colon ∷ ls) ≡ Token.key k ∷ punctuate fresh ls
unfolding punctuate
name_put fresh k ls h = refl
name_put after_value k ls h = absurd (cc)
name_put after_comma k ls h = refl
name_put Place.after_key k ls h = absurd (cc)

value_put : (v : Value) (ls : List Lexeme) → begins_colon ls ≡ false → punctuate fresh (token (token_of v) ∷ ls) ≡ token_of v ∷ punctuate after_value ls
unfolding punctuate
value_put (text s) ls h = rw h refl
value_put (whole n) ls h = refl

pub member_tokens : (p : Place) (t k : List ℕ) (v : Value) (r : List ℕ) → may_begin p ≡ true → IsMember t k v r
    → begins_colon (lex between r) ≡ false
    → punctuate p (lex between t) ≡ Token.key k ∷ token_of v ∷ punctuate after_value (lex between r)
member_tokens p t k v r begin m ends =
    ap (punctuate p) (m.name ∙ ap (λ l. token (Token.string k) ∷ l) m.colon_is)
    ∙ name_put p k (lex between m.at_value) begin
    ∙ ap (λ l. Token.key k ∷ punctuate fresh l) m.value
    ∙ ap (λ l. Token.key k ∷ l) (value_put v (lex between r) ends)

-- what the value is read as
pub read_value : (v : Value) (r : List Token) → Fits v → value_read 126 (token_of v ∷ r) ≡ Some (data_of v, r)
read_value (text s) r h = ap seen (value_is 126 (Token.string s ∷ r))
read_value (whole n) r h = read_number 126 (decimal n) r (Some (number (unsigned n))) (grind (arith, number_of-decimal))

-- ---- the walk

-- what a turn puts
member_read : (n : ℕ) (found : Members) (k : List ℕ) (v : Value) (r : List Token) → 0 < n → Fits v
    → (d : Data) × (member_data d ≡ data_of v)
    × (members_from 126 n found (Token.key k ∷ token_of v ∷ r) ≡ members_from 126 (n - 1) (put k d found) r)
member_read n found k v r some fits =
    member_put 126 n found k (Token.key k ∷ token_of v ∷ r) (token_of v ∷ r) r (data_of v) some refl (read_value v r fits)

-- the tokens behind the brace of an object
abbrev pub inside : List ℕ → List Token
inside t = punctuate fresh (lex between t)

-- The members up to r were read, and gave what was found.
pub record IsRead (t : List ℕ) (r : List ℕ) (found : Members) : Type 0 where
  pub left : ℕ
  pub enough : length (punctuate after_value (lex between r)) ≤ left
  pub reads : members_read 126 (inside t) ≡ members_from 126 left found (punctuate after_value (lex between r))

-- the same, if what follows is no colon
abbrev pub IsWalked : List ℕ → List ℕ → Members → Type 0
IsWalked t r found = begins_colon (lex between r) ≡ false → IsRead t r found

-- a walk has put a value that is seen as this one
abbrev pub Puts : List ℕ → List ℕ → List ℕ → Value → Members → Type 0
Puts t r k v found = (d : Data) × (member_data d ≡ data_of v) × IsRead t r (put k d found)

from_tokens : (t r k : List ℕ) (v : Value) (n : ℕ) (found : Members) (ts : List Token) → Fits v
    → ts ≡ Token.key k ∷ token_of v ∷ punctuate after_value (lex between r) → length ts ≤ n
    → members_read 126 (inside t) ≡ members_from 126 n found ts → Puts t r k v found
from_tokens t r k v n found ts fits is enough reads =
    let more = punctuate after_value (lex between r) in
    let size : length ts ≡ length (Token.key k ∷ token_of v ∷ more) = ap length is in
    let one = member_read n found k v more (omega (arith, size, enough)) fits in (
      one.0,
      one.1,
      record {
        left = n - 1;
        enough = omega (arith, size, enough);
        reads = reads ∙ ap (members_from 126 n found) is ∙ one.2;
      },
    )

pub first_member : (t r k : List ℕ) (v : Value) → IsMember t k v r → begins_colon (lex between r) ≡ false
    → Puts t r k v no_members
first_member t r k v m ends =
    from_tokens t r k v (length (inside t)) no_members (inside t) m.fits (member_tokens fresh t k v r refl m ends)
    (omega arith) refl

comma_put : (ls : List Lexeme) → punctuate after_value (comma ∷ ls) ≡ punctuate after_comma ls
unfolding punctuate
comma_put ls = refl

pub next_member : (t r s u k : List ℕ) (v : Value) (found : Members) → IsWalked t r found
    → lex between r ≡ comma ∷ lex between s → IsMember s k v u → begins_colon (lex between u) ≡ false
    → Puts t u k v found
next_member t r s u k v found walked separated m ends =
    let was = walked (ap begins_colon separated) in
    let is : punctuate after_value (lex between r) ≡ Token.key k ∷ token_of v ∷ punctuate after_value (lex between u) =
    ap (punctuate after_value) separated ∙ comma_put (lex between s) ∙ member_tokens after_comma s k v u refl m ends in
    from_tokens t u k v was.left found _ m.fits is was.enough was.reads

-- ---- its end

close_put : punctuate after_value (token Token.end_object ∷ []) ≡ Token.end_object ∷ []
unfolding punctuate
close_put = refl

open_put : (ls : List Lexeme) → punctuate fresh (token Token.begin_object ∷ ls) ≡ Token.begin_object ∷ punctuate fresh ls
unfolding punctuate
open_put ls = refl

whole_read : (ts : List Token) (found : Members) → members_read 126 ts ≡ Some (found, []) → object_read (Token.begin_object ∷ ts) ≡ Some (found_of found)
whole_read ts found h = grind (arith, opened)

pub walked_all : (t r : List ℕ) (found : Members) → IsWalked t r found → lex between r ≡ token Token.end_object ∷ []
    → members_in (123 ∷ t) ≡ Some (found_of found)
walked_all t r found walked closed =
    let was = walked (ap begins_colon closed) in
    let last : punctuate after_value (lex between r) ≡ Token.end_object ∷ [] = ap (punctuate after_value) closed ∙ close_put in
    let ended : members_from 126 was.left found (Token.end_object ∷ []) ≡ Some (found, []) =
    members_end 126 was.left found (Token.end_object ∷ []) [] (grind arith) refl in
    let all = whole_read (inside t) found (was.reads ∙ ap (members_from 126 was.left found) last ∙ ended) in
    ap object_read (ap (punctuate fresh) (lex_open t) ∙ open_put (lex between t)) ∙ all

-- ---- the walk over a text

raw_is : (v : Value) → raw_text (Some (data_of v)) ≡ value_text v
raw_is (text s) = refl
raw_is (whole n) = refl

pub put_texts : (t k : List ℕ) (d : Data) (v : Stands) (found : Members) (spans : Seven Span)
    → member_data d ≡ data_of (value_of t v) → value_text (value_of t v) ≡ part t v.start v.end
    → map_members raw_text (found_of found) ≡ map_members (span_text t) spans
    → map_members raw_text (found_of (put k d found)) ≡ map_members (span_text t) (with_named k (span_of v) spans)
put_texts t k d v found spans same is texts =
    let value : raw_text (Some (member_data d)) ≡ span_text t (span_of v) =
    ap (λ x. raw_text (Some x)) same ∙ raw_is (value_of t v) ∙ is in
    ap (map_members raw_text) (found_put k d found) ∙ named_seen raw_text k (Some (member_data d)) (found_of found)
    ∙ ap (with_named k (raw_text (Some (member_data d)))) texts
    ∙ ap (λ x. with_named k x (map_members (span_text t) spans)) value
    ∙ sym (named_seen (span_text t) k (span_of v) spans)

-- the members up to a place were read, and their texts stand there
pub record IsState (t : List ℕ) (object at : ℕ) (spans : Seven Span) : Type 0 where
  pub found : Members
  pub read : IsRead (drop (object + 1) t) (drop at t) found
  pub texts : map_members raw_text (found_of found) ≡ map_members (span_text t) spans
  pub fit : AllMembers Fitting (found_of found)

-- the same, if no colon follows
abbrev pub HasWalked : List ℕ → ℕ → ℕ → Seven Span → Type 0
HasWalked t object at spans = begins_colon (lex between (drop at t)) ≡ false → IsState t object at spans

abbrev pub nowhere : Span
nowhere = record { start = 0; end = 0 }

abbrev pub named : List ℕ → Passed → Seven Span → Seven Span
named t m spans = with_named (part t m.name_start m.name_end) (span_of m.value) spans

member_moved : (d : List ℕ) (a b c e : ℕ) (k : List ℕ) (v : Value) → IsBlankTo d a b → IsMember (drop b d) k v (drop c d)
    → IsBlankTo d c e → IsMember (drop a d) k v (drop e d)
member_moved d a b c e k v before m after = record {
  at_colon = m.at_colon;
  at_value = m.at_value;
  name = sym before.same ∙ m.name;
  colon_is = m.colon_is;
  value = m.value ∙ ap (λ l. token (token_of v) ∷ l) (sym after.same);
  fits = m.fits;
}

none_stands : (t : List ℕ) → IsPlainSpan t nowhere
none_stands t = record {
  plain = refl;
  order = omega arith;
  inside = omega arith;
  cut = λ utf8. record {
    order = omega arith;
    start_is_cut = IsCharBoundary-start t utf8;
    end_is_cut = IsCharBoundary-start t utf8;
  };
}

pub none_stand : (t : List ℕ) → AllMembers (IsPlainSpan t) (all_members nowhere)
none_stand t =
    let none = none_stands t in
    record { url = none; mime = none; status = none; digest = none; length = none; offset = none; filename = none }

either_is : {A : Type 0} (P : A → Type 0) (b : Bool) (x y : A) → P x → P y → P (if b then x else y)
either_is P true x y h k = h
either_is P false x y h k = k

pub named_all : {A : Type 0} (P : A → Type 0) (k : List ℕ) (a : A) (m : Seven A) → P a → AllMembers P m
    → AllMembers P (with_named k a m)
named_all P k a m h all = record {
  url = either_is P (bytes_eq k names.url) a m.url h all.url;
  mime = either_is P (bytes_eq k names.mime) a m.mime h all.mime;
  status = either_is P (bytes_eq k names.status) a m.status h all.status;
  digest = either_is P (bytes_eq k names.digest) a m.digest h all.digest;
  length = either_is P (bytes_eq k names.length) a m.length h all.length;
  offset = either_is P (bytes_eq k names.offset) a m.offset h all.offset;
  filename = either_is P (bytes_eq k names.filename) a m.filename h all.filename;
}

none_found : (t : List ℕ) → map_members raw_text (found_of no_members) ≡ map_members (span_text t) (all_members nowhere)
none_found t = refl

lex_nil : lex between [] ≡ []
unfolding lex
lex_nil = refl

pub walk_ends : (t : List ℕ) (object at : ℕ) (spans : Seven Span) → object < length t → get_or t object 0 ≡ 123
    → HasWalked t object at spans → AllMembers (IsPlainSpan t) spans → at < length t → get_or t at 0 ≡ 125
    → at + 1 ≡ length t → AreWalked t object spans
walk_ends t object at spans inside opens walked stand within is last =
    let none : drop (at + 1) t ≡ [] = grind (arith, drop_all) in
    let closed : lex between (drop at t) ≡ token Token.end_object ∷ [] =
    ap (λ l. lex between l) (drop_more t at 0 within ∙ ap (λ b. b ∷ drop (at + 1) t) is) ∙ lex_close (drop (at + 1) t)
    ∙ ap (λ l. token Token.end_object ∷ lex between l) none ∙ ap (λ l. token Token.end_object ∷ l) lex_nil in
    let was = walked (ap begins_colon closed) in
    record {
      found = found_of was.found;
      is = ap members_in (drop_more t object 0 inside ∙ ap (λ b. b ∷ drop (object + 1) t) opens)
          ∙ walked_all (drop (object + 1) t) (drop at t) was.found (λ _. was.read) closed;
      texts = was.texts;
      stand = stand;
      fit = was.fit;
    }

-- ---- a text between quotes

-- a run without a quote, a backslash and a control
run_plain : (b : ℕ) → is_neither 34 92 b ≡ true → is_printable b ≡ true → is_plain b ≡ true
run_plain b h k = grind arith

pub all_plain : (xs : List ℕ) → list_all (is_neither 34 92) xs ≡ true → list_all is_printable xs ≡ true → list_all is_plain xs ≡ true
all_plain [] h k = refl
all_plain (x ∷ xs) h k = grind (arith, run_plain, all_plain xs)

-- a text between quotes, at a place
pub text_to : (d : List ℕ) (at end : ℕ) → list_all is_printable d ≡ true → at < length d → get_or d at 0 ≡ 34
    → end ≡ at + 1 + prefix_len (is_neither 34 92) (drop (at + 1) d) → end < length d → get_or d end 0 ≡ 34
    → IsTextTo d at end
text_to d at end all within opens is inside closes =
    let s = part d (at + 1) end in
    let size : end - (at + 1) ≡ prefix_len (is_neither 34 92) (drop (at + 1) d) = omega (arith, is) in
    let open_s : list_all (is_neither 34 92) s ≡ true = rw size (front_passes (is_neither 34 92) (drop (at + 1) d)) in
    let plain_s = all_plain s open_s (all_take is_printable (end - (at + 1)) (drop (at + 1) d) (all_drop is_printable (at + 1) d all)) in
    let to_end : drop (end - (at + 1)) (drop (at + 1) d) ≡ drop end d = grind (arith, drop-drop) in
    let cut : drop (at + 1) d ≡ s ++ 34 ∷ drop (end + 1) d =
    sym (take-append-drop (end - (at + 1)) (drop (at + 1) d)) ∙ ap (λ l. s ++ l) (to_end ∙ drop_more d end 0 inside ∙ ap (λ b. b ∷ drop (end + 1) d) closes) in
    record {
      order = omega (arith, is);
      inside = inside;
      stands = record {
        plain = plain_s;
        order = omega (arith, is);
        inside = omega (arith, inside);
        cut = λ utf8. record {
          order = omega (arith, is);
          start_is_cut = IsCharBoundary-after_ascii d at utf8 within (omega (arith, opens));
          end_is_cut = IsCharBoundary-before_ascii d end inside (omega (arith, closes));
        };
      };
      is = ap (λ l. lex between l) (drop_more d at 0 within ∙ ap (λ b. b ∷ drop (at + 1) d) opens ∙ ap (λ l. 34 ∷ l) cut)
          ∙ lex_text s (drop (end + 1) d) plain_s;
    }

-- ---- a turn

other_named : {A : Type 0} (k : List ℕ) (a : A) (m : Seven A) → IsOther k → with_named k a m ≡ m
other_named k a m h = rw (h.url, h.mime, h.status, h.digest, h.length, h.offset, h.filename) refl

pub passed_turn : (t : List ℕ) (at : ℕ) (m : Passed) (old : Seven Span) → IsPassed t at m
    → IsTurn t at old (named t m old) m.value.after
passed_turn t at m old h = record {
  name = part t m.name_start m.name_end;
  value = value_of t m.value;
  member = h.member;
  moves = h.moves;
  inside = h.after_inside;
  texts = named_seen (span_text t) (part t m.name_start m.name_end) (span_of m.value) old
      ∙ ap (λ x. with_named (part t m.name_start m.name_end) x (map_members (span_text t) old)) (sym h.text_is);
  stand = named_all (IsPlainSpan t) (part t m.name_start m.name_end) (span_of m.value) old h.stands;
}

pub skipped_turn : (t : List ℕ) (at name_end begin end : ℕ) (old : Seven Span) → IsTextTo t at name_end
    → IsBehind t (name_end + 1) 58 begin → IsEscapedTo t begin end → IsOther (part t (at + 1) name_end)
    → IsTurn t at old old (end + 1)
skipped_turn t at name_end begin end old name separated value other = record {
  name = part t (at + 1) name_end;
  value = text value.content_is;
  member = record {
    at_colon = drop (name_end + 1) t;
    at_value = drop begin t;
    name = name.is;
    colon_is = separated.is;
    value = value.is;
    fits = tt;
  };
  moves = omega (arith, name.order, separated.moves, value.order);
  inside = omega (arith, value.inside);
  texts = sym (other_named (part t (at + 1) name_end) value.content_is (map_members (span_text t) old) other);
  stand = λ all. all;
}

none_fit : AllMembers Fitting (found_of no_members)
none_fit = record { url = tt; mime = tt; status = tt; digest = tt; length = tt; offset = tt; filename = tt }

value_fits : (v : Value) → Fits v → Fitting (Some (data_of v))
value_fits (text s) h = tt
value_fits (whole n) h = h

pub turn_fits : (k : List ℕ) (d : Data) (v : Value) (found : Members) → member_data d ≡ data_of v → Fits v
    → AllMembers Fitting (found_of found) → AllMembers Fitting (found_of (put k d found))
turn_fits k d v found same fits all =
    let value : Fitting (Some (member_data d)) = subst (λ x. Fitting (Some x)) (sym same) (value_fits v fits) in
    subst (AllMembers Fitting) (sym (found_put k d found))
    (named_all Fitting k (Some (member_data d)) (found_of found) value all)

turn_texts : (t k : List ℕ) (d : Data) (v : Value) (found : Members) (old new : Seven Span) → member_data d ≡ data_of v
    → map_members (span_text t) new ≡ with_named k (value_text v) (map_members (span_text t) old)
    → map_members raw_text (found_of found) ≡ map_members (span_text t) old
    → map_members raw_text (found_of (put k d found)) ≡ map_members (span_text t) new
turn_texts t k d v found old new same is texts =
    let value : raw_text (Some (member_data d)) ≡ value_text v = ap (λ x. raw_text (Some x)) same ∙ raw_is v in
    ap (map_members raw_text) (found_put k d found) ∙ named_seen raw_text k (Some (member_data d)) (found_of found)
    ∙ ap (with_named k (raw_text (Some (member_data d)))) texts
    ∙ ap (λ x. with_named k x (map_members (span_text t) old)) value
    ∙ sym is

pub first_turn : (t : List ℕ) (object begin after at : ℕ) (old new : Seven Span) → old ≡ all_members nowhere
    → IsBlankTo t (object + 1) begin → IsTurn t begin old new after → IsBlankTo t after at → HasWalked t object at new
first_turn t object begin after at old new none before turn behind_it ends =
    let moved = member_moved t (object + 1) begin after at turn.name turn.value before turn.member behind_it in
    let one = first_member (drop (object + 1) t) (drop at t) turn.name turn.value moved ends in
    record {
      found = put turn.name one.0 no_members;
      read = one.2;
      texts = turn_texts t turn.name one.0 turn.value no_members old new one.1 turn.texts
          (none_found t ∙ ap (map_members (span_text t)) (sym none));
      fit = turn_fits turn.name one.0 turn.value no_members one.1 turn.member.fits none_fit;
    }

pub next_turn : (t : List ℕ) (object at begin after next : ℕ) (old new : Seven Span) → HasWalked t object at old
    → at < length t → get_or t at 0 ≡ 44 → IsBlankTo t (at + 1) begin → IsTurn t begin old new after
    → IsBlankTo t after next → HasWalked t object next new
next_turn t object at begin after next old new walked within is before turn behind_it ends =
    let moved = member_moved t (at + 1) begin after next turn.name turn.value before turn.member behind_it in
    let separated : lex between (drop at t) ≡ comma ∷ lex between (drop (at + 1) t) =
    ap (λ l. lex between l) (drop_more t at 0 within ∙ ap (λ b. b ∷ drop (at + 1) t) is) ∙ lex_comma (drop (at + 1) t) in
    let was = walked (ap begins_colon separated) in
    let one = next_member (drop (object + 1) t) (drop at t) (drop (at + 1) t) (drop next t) turn.name turn.value was.found
    (λ _. was.read) separated moved ends in
    record {
      found = put turn.name one.0 was.found;
      read = one.2;
      texts = turn_texts t turn.name one.0 turn.value was.found old new one.1 turn.texts was.texts;
      fit = turn_fits turn.name one.0 turn.value was.found one.1 turn.member.fits was.fit;
    }
