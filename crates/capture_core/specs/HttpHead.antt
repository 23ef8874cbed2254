-- The HTTP head at the front of a block: a response head (RFC 9112, section 2.1), within a limit of bytes and of
-- fields.
use Rattle.std.specs.Prelude.{◌≡◌, ℕ, ◌≤◌, List, [], ◌∷◌, ◌++◌, length, take, drop, map, Option, Some, None, option_map}
use Rattle.std.specs.Prelude.{if◌then◌else◌}
use Rattle.std.specs.Str.{str_eq_ignore_ascii_case}
use Rattle.httparse.specs.Grammar.{ResponseHead, print_response, ReadsResponse}
use Rattle.httparse.specs.Spans.{name_and_value}

-- the block begins with this response head, of at most so many bytes and fields, and the payload follows
pub record BeginsWithHead (bytes fields : ℕ) (block : List ℕ) (h : ResponseHead) (payload : List ℕ) : Type 0 where
  pub reads : ReadsResponse block h payload
  pub short : length (print_response h) ≤ bytes
  pub few : length h.fields ≤ fields

-- no such head stands at the front of the block
abbrev pub HasNoHead : ℕ → ℕ → List ℕ → Type 0
HasNoHead bytes fields block = (h : ResponseHead) (payload : List ℕ) → ¬ (BeginsWithHead bytes fields block h payload)

-- the head of the block and the payload after it, or None where there is no head
abbrev pub IsHeadOf : ℕ → ℕ → List ℕ → Option (ResponseHead × List ℕ) → Type 0
IsHeadOf bytes fields block None = HasNoHead bytes fields block
IsHeadOf bytes fields block (Some found) = BeginsWithHead bytes fields block found.0 found.1

-- the value of the first field of that name, without regard to case
abbrev pub first_field_value : List ℕ → List (List ℕ × List ℕ) → Option (List ℕ)
first_field_value name [] = None
first_field_value name (f ∷ fields) =
    if str_eq_ignore_ascii_case f.0 name then Some f.1 else first_field_value name fields

-- the value of the head's first field of that name
abbrev pub field_of : List ℕ → ResponseHead → Option (List ℕ)
field_of name h = first_field_value name (map name_and_value h.fields)

-- what follows the head, once more bytes come
abbrev pub then_more : List ℕ → Option (ResponseHead × List ℕ) → Option (ResponseHead × List ℕ)
then_more more found = option_map (λ f. (f.0, f.1 ++ more)) found

-- a block has one head and one payload, or no head
abbrev pub OneHead : Type 0
OneHead = (bytes fields : ℕ) (block : List ℕ) (found other : Option (ResponseHead × List ℕ))
    → IsHeadOf bytes fields block found → IsHeadOf bytes fields block other → found ≡ other

-- as many first bytes of a block as a head may have decide what its head is
abbrev pub FrontDecides : Type 0
FrontDecides = (bytes fields : ℕ) (block : List ℕ) (found : Option (ResponseHead × List ℕ))
    → IsHeadOf bytes fields (take bytes block) found → IsHeadOf bytes fields block (then_more (drop bytes block) found)
