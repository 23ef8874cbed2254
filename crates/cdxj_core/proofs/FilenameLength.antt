-- The file name of a line is no longer than the line: it is a string of the line's object.
use Rattle.std.proofs.Common.{◌≡◌, ℕ, zero, suc, ◌≤◌, List, length}
use Rattle.std.proofs.Common.{Some, arith}
use Rattle.std.specs.Prelude.{⊤}
use Rattle.std.proofs.lemmas.List.{length-append}
use Rattle.json.specs.Token.{Token}
use Rattle.json.specs.Lex.{tokens}
use Rattle.json.specs.Json as json
use Rattle.json.specs.Json.{Json, Parse, items, members, value_with, value, if_last}
use Rattle.serde_json.specs.Data.{Data, Members, put}
use Rattle.serde_json.specs.Read.{of_json, of_members, max_depth, read}
use Rattle.serde_json.specs.Find.{get_member}
use Rattle.cdxj_core.specs.Lines.{LineValue, line_object}
use Rattle.cdxj_core.specs.Members.{Member, line_entry}
use Rattle.cdxj_core.proofs.MemberLemmas.{entry_valued}
use Rattle.cdxj_objects.proofs.StringLength.{Each, each_then, UpTo, AreShort, short_tokens}
use Rattle.cdxj_core.proofs.KeptLemmas.{key_short}

-- ---- the value that the tokens are: a string, or the strings of an object

abbrev ShortString : ℕ → Json → Type 0
ShortString n json.null = ⊤
ShortString n (json.boolean b) = ⊤
ShortString n (json.number s) = ⊤
ShortString n (json.string s) = UpTo n s
ShortString n (json.array js) = ⊤
ShortString n (json.object ms) = ⊤

abbrev ShortStrings : ℕ → json.Members → Type 0
ShortStrings n json.no_members = ⊤
ShortStrings n (json.member k j ms) = ShortString n j × ShortStrings n ms

abbrev ShortJson : ℕ → Json → Type 0
ShortJson n json.null = ⊤
ShortJson n (json.boolean b) = ⊤
ShortJson n (json.number s) = ⊤
ShortJson n (json.string s) = UpTo n s
ShortJson n (json.array js) = ⊤
ShortJson n (json.object ms) = ShortStrings n ms

abbrev Any : {A : Type 0} → A → Type 0
Any a = ⊤

-- what was parsed, and the tokens after it
abbrev Parsed : {A : Type 0} → ℕ → (A → Type 0) → A × List Token → Type 0
Parsed n P p = P p.0 × AreShort n p.1

abbrev Parses : {A : Type 0} → ℕ → (A → Type 0) → Parse A → Type 0
Parses n P parse = (ts : List Token) → AreShort n ts → Each (Parsed n P) (parse ts)

module _ (n : ℕ) (p : Parse Json) (parses : Parses n (ShortJson n) p) where
  parses_items : (k : ℕ) → Parses n Any (items p k)
  unfolding items
  parses_items zero ts h = tt
  parses_items (suc k) ts h = grind (arith, parses_items k)

  parses_members : (k : ℕ) → Parses n (ShortStrings n) (members p k)
  unfolding members
  parses_members zero ts h = tt
  parses_members (suc k) ts h = grind (arith, parses_members k)

one_level : (n : ℕ) (a : Parse json.Items) (o : Parse json.Members) → Parses n Any a → Parses n (ShortStrings n) o
    → Parses n (ShortJson n) (value_with a o)
one_level n a o p q k h = grind arith

parses_value : (n depth : ℕ) → Parses n (ShortJson n) (value depth)
unfolding value
parses_value n zero = grind arith
parses_value n (suc depth) =
    let items_short = parses_items n (value depth) (parses_value n depth) in
    let members_short = parses_members n (value depth) (parses_value n depth) in
    grind (arith, one_level)

-- ---- the data that the value is

abbrev ShortText : ℕ → Data → Type 0
ShortText n Data.null = ⊤
ShortText n (Data.boolean b) = ⊤
ShortText n (Data.number x) = ⊤
ShortText n (Data.string s) = UpTo n s
ShortText n (Data.array ds) = ⊤
ShortText n (Data.object ms) = ⊤

abbrev ShortTexts : ℕ → Members → Type 0
ShortTexts n Members.no_members = ⊤
ShortTexts n (Members.member k d ms) = ShortText n d × ShortTexts n ms

abbrev ShortData : ℕ → Data → Type 0
ShortData n Data.null = ⊤
ShortData n (Data.boolean b) = ⊤
ShortData n (Data.number x) = ⊤
ShortData n (Data.string s) = ⊤
ShortData n (Data.array ds) = ⊤
ShortData n (Data.object ms) = ShortTexts n ms

short_put : (n : ℕ) (k : List ℕ) (d : Data) (ms : Members) → ShortText n d → ShortTexts n ms → ShortTexts n (put k d ms)
short_put n k d Members.no_members h hs = grind arith
short_put n k d (Members.member l e ms) h hs = grind (arith, short_put n k d ms)

short_text : (n : ℕ) (j : Json) → ShortString n j → Each (ShortText n) (of_json j)
short_text n j h = grind arith

short_texts : (n : ℕ) (ms : json.Members) (found : Members) → ShortStrings n ms → ShortTexts n found
    → Each (ShortTexts n) (of_members ms found)
short_texts n json.no_members found h hs = hs
short_texts n (json.member k j ms) found h hs =
    each_then (ShortText n) (ShortTexts n) (λ d. of_members ms (put k d found))
    (λ d x. grind (arith, short_texts n ms (put k d found), short_put)) _ (short_text n j h.0)

short_data : (n : ℕ) (j : Json) → ShortJson n j → Each (ShortData n) (of_json j)
short_data n j h = grind (arith, short_texts)

short_last : (n : ℕ) (p : Json × List Token) → Parsed n (ShortJson n) p → Each (ShortJson n) (if_last p.0 p.1)
short_last n p h = grind arith

short_read : (text : List ℕ) → Each (ShortData (length text)) (read text)
short_read text =
    let parsed = parses_value (length text) max_depth (tokens text) (short_tokens text) in
    grind (arith, short_data, short_last)

-- ---- the file name

short_member : (n : ℕ) (k : List ℕ) (ms : Members) → ShortTexts n ms → Each (ShortText n) (get_member k ms)
short_member n k Members.no_members h = tt
short_member n k (Members.member l e ms) h = grind (arith, short_member n k ms)

filename_in : (key stamp object : List ℕ) (v : LineValue) → line_object key stamp object ≡ Some v
    → length v.filename ≤ length object
filename_in key stamp object v h = grind (arith, short_read, short_member)

pub filename_short : (limit : ℕ) (line : List ℕ) (member : Member) → line_entry limit line ≡ Some member
    → length member.values.filename ≤ length member.line
filename_short limit line member h =
    let its = entry_valued limit line member h in
    grind (arith, filename_in, length-append)

pub ruleset short_rules = (key_short, filename_short)
