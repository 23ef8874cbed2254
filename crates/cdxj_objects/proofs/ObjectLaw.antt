-- The text of an object is read as its members.
use Rattle.std.proofs.Common.{◌≡◌, ℕ, true, false, List, [], ◌∷◌, ◌++◌, map, Some}
use Rattle.std.proofs.Common.{refl, ap, arith, append_assoc, append-nil, flat_map}
use Rattle.std.proofs.Common.{max}
use Rattle.json.specs.Token.{Token, begin_object, end_object}
use Rattle.json.specs.Token as tok
use Rattle.json.specs.Lex.{tokens}
use Rattle.json.specs.Json as json
use Rattle.json.specs.Tree.{json_tokens, members_tokens, members_depth}
use Rattle.json.specs.Print.{ArePrintable}
use Rattle.json.specs.Spaced.{print_spaced, AreGaps, IsGap}
use Rattle.json.proofs.Printed.Tokens.{tokens-print_spaced}
use Rattle.json.proofs.Printed.Trees.{value-json_tokens}
use Rattle.serde_json.specs.Data.{string, object, Members, no_members, put}
use Rattle.serde_json.specs.Read.{read, of_members, max_depth}
use Rattle.cdxj_objects.specs.Objects.{member_text, object_text}

abbrev pub Pair : Type 0
Pair = List ℕ × List ℕ

-- ---- the text, as spaced tokens

-- the tokens of members after the first brace, each with the gap before it
abbrev spaced : List ℕ → List Pair → List (List ℕ × Token)
spaced gap [] = ([], end_object) ∷ []
spaced gap (m ∷ ms) = (gap, tok.key m.0) ∷ (32 ∷ [], tok.string m.1) ∷ spaced (32 ∷ []) ms

abbrev later_text : List Pair → List ℕ
later_text ms = flat_map (λ m. (44 ∷ 32 ∷ []) ++ member_text m) ms

spaced_later : (ms : List Pair) → print_spaced true (spaced (32 ∷ []) ms) ≡ later_text ms ++ 125 ∷ []
unfolding print_spaced
spaced_later [] = refl
spaced_later ((n, v) ∷ ms) = grind (arith, append_assoc, spaced_later ms)

object_spaced : (m : Pair) (ms : List Pair) → print_spaced false (([], begin_object) ∷ spaced [] (m ∷ ms)) ≡ object_text
    (m ∷ ms)
unfolding print_spaced
object_spaced (n, v) ms = grind (arith, spaced_later, append_assoc)

-- ---- the tokens, as those of an object

abbrev jmembers : List Pair → json.Members
jmembers [] = json.no_members
jmembers (m ∷ ms) = json.member m.0 (json.string m.1) (jmembers ms)

tokens_spaced : (gap : List ℕ) (ms : List Pair) → map (λ p. p.1) (spaced gap ms) ≡ members_tokens (jmembers ms)
tokens_spaced gap [] = refl
tokens_spaced gap (m ∷ ms) = grind (arith, tokens_spaced (32 ∷ []) ms)

gaps : (gap : List ℕ) (ms : List Pair) → IsGap gap → AreGaps (spaced gap ms)
gaps gap [] h = (tt, tt)
gaps gap (m ∷ ms) h = grind (arith, gaps (32 ∷ []) ms)

printable : (gap : List ℕ) (ms : List Pair) → ArePrintable (map (λ p. p.1) (spaced gap ms))
unfolding ArePrintable
printable gap [] = (tt, tt)
printable gap (m ∷ ms) = grind (arith, printable (32 ∷ []) ms)

printable_object : (ms : List Pair) → ArePrintable (map (λ p. p.1) (([], begin_object) ∷ spaced [] ms))
unfolding ArePrintable
printable_object ms = grind (arith, printable)

flat : (ms : List Pair) → members_depth (jmembers ms) ≡ 0
flat [] = refl
flat (m ∷ ms) = ap (max 0) (flat ms)

pub tokens_object : (m : Pair) (ms : List Pair) → tokens (object_text (m ∷ ms)) ≡ json_tokens
    (json.object (jmembers (m ∷ ms)))
tokens_object m ms =
    let spaces = gaps [] (m ∷ ms) tt in
    let texts = printable_object (m ∷ ms) in
    grind (arith, object_spaced, tokens_spaced, tokens-print_spaced (([], begin_object) ∷ spaced [] (m ∷ ms)))

-- ---- the members that are read

abbrev pub put_all : List Pair → Members → Members
put_all [] found = found
put_all (m ∷ ms) found = put_all ms (put m.0 (string m.1) found)

read_members : (ms : List Pair) (found : Members) → of_members (jmembers ms) found ≡ Some (put_all ms found)
read_members [] found = refl
read_members (m ∷ ms) found = grind (arith, read_members ms)

pub read_object : (m : Pair) (ms : List Pair) → read (object_text (m ∷ ms)) ≡ Some
    (object (put_all (m ∷ ms) no_members))
read_object m ms =
    let j = json.object (jmembers (m ∷ ms)) in
    let shallow = flat (m ∷ ms) in
    grind (arith, tokens_object, append-nil, read_members, value-json_tokens j max_depth [])
