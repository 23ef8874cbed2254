-- What of a field's value goes into an entry.
use Rattle.std.specs.Prelude.{ℕ, ◌-◌, ◌==◌, ◌&&◌, nat_le, List, [], ◌∷◌, take, drop, length, position, Option, Some}
use Rattle.std.specs.Prelude.{None, unwrap_or, slice_index, codes, if◌then◌else◌}
use Rattle.warc_head.specs.Lines.{trim}
use Rattle.warc_head.specs.Names.{same_name}

-- the bytes that mean something in a value
abbrev pub semicolon : ℕ
semicolon = 59

abbrev pub less_than : ℕ
less_than = 60

abbrev pub greater_than : ℕ
greater_than = 62

-- a value that is not empty
abbrev pub non_empty : List ℕ → Option (List ℕ)
non_empty [] = None
non_empty (b ∷ bytes) = Some (b ∷ bytes)

-- the value without one enclosing pair of `<` and `>`
unfoldable pub without_brackets : List ℕ → List ℕ
without_brackets value =
    if nat_le 2 (length value) && (slice_index value 0 == less_than) &&
    (slice_index value (length value - 1) == greater_than)
    then take (length value - 2) (drop 1 value) else value

-- the bytes before the first `;`
abbrev pub before_semicolon : List ℕ → List ℕ
before_semicolon value = take (unwrap_or (position (λ byte. byte == semicolon) value) (length value)) value

-- a media type without its parameters (RFC 9110, section 8.3.1)
unfoldable pub media_type : List ℕ → List ℕ
media_type value = trim (before_semicolon value)

-- a digest without a leading `sha1:`
unfoldable pub without_sha1 : List ℕ → List ℕ
without_sha1 value = if same_name (take 5 value) (codes "sha1:") then drop 5 value else value
