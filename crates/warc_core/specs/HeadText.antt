-- The text of a head, found at the front of bytes (ISO 28500:2017, clause 4).
use Rattle.std.specs.List.{ends_with, list_all, zip}
use Rattle.std.specs.Prelude.{◌≡◌, ℕ, ◌<◌, ◌≤◌, ◌==◌, ◌||◌, nat_lt, nat_eq, codes, Bool, true, false, List, [], ◌∷◌}
use Rattle.std.specs.Prelude.{◌++◌, length, take, drop, Option, None, Some, Result, Ok, Err, if◌then◌else◌}
use Rattle.warc_core.specs.declared.fault.Cause.{Cause}
use Rattle.warc_core.specs.declared.fault.Cause.TheVariants as causes
use Rattle.warc_core.specs.Record.{closing}

-- the two version lines
abbrev pub version_1_1 : List ℕ
version_1_1 = codes "WARC/1.1\r\n"

abbrev pub version_1_0 : List ℕ
version_1_0 = codes "WARC/1.0\r\n"

-- the two texts have the same bytes as far as both go
abbrev pub agrees : List ℕ → List ℕ → Bool
agrees xs ys = list_all (λ p. p.0 == p.1) (zip xs ys)

-- a text that begins with a version line, or a version line with the text
abbrev pub has_version : List ℕ → Bool
has_version text = agrees text version_1_1 || agrees text version_1_0

-- a text that ends with CR LF CR LF
abbrev pub is_closed : List ℕ → Bool
is_closed text = ends_with nat_eq text closing

-- no longer front than this ends with CR LF CR LF
abbrev pub IsOpenAfter : List ℕ → ℕ → Type 0
IsOpenAfter text before = (n : ℕ) → before < n → n ≤ length text → is_closed (take n text) ≡ false

-- the first front longer than this that ends with CR LF CR LF has this length
pub record ClosesFirst (text : List ℕ) (before end : ℕ) : Type 0 where
  pub longer : before < end
  pub within : end ≤ length text
  pub closed : is_closed (take end text) ≡ true
  pub first : (n : ℕ) → before < n → n < end → is_closed (take n text) ≡ false

-- of what was seen, and that with one byte more, and so on, the first that passes the test
unfoldable pub shortest : (List ℕ → Bool) → List ℕ → List ℕ → Option (List ℕ)
shortest test seen [] = if test seen then Some seen else None
shortest test seen (b ∷ bytes) = if test seen then Some seen else shortest test (seen ++ b ∷ []) bytes

-- a text that begins with a version line, and ends with its first CR LF CR LF
pub record IsFoundHead (limit : ℕ) (text : List ℕ) : Type 0 where
  pub version : has_version text ≡ true
  pub closed : is_closed text ≡ true
  pub first : (n : ℕ) → n < length text → is_closed (take n text) ≡ false
  pub small : length text ≤ limit

-- the shortest front that ends with CR LF CR LF, within the limit
abbrev pub found_head : ℕ → List ℕ → Option (List ℕ) → Result (List ℕ × List ℕ) Cause
found_head limit bytes (Some head) = Ok (head, drop (length head) bytes)
found_head limit bytes None = if nat_lt (length bytes) limit then Err causes.ShortHead else Err causes.HeadTooLong

-- the text of the head at the front, and the bytes after it
unfoldable pub head_text : ℕ → List ℕ → Result (List ℕ × List ℕ) Cause
head_text limit bytes =
    if has_version bytes then found_head limit bytes (shortest is_closed [] (take limit bytes)) else Err causes.Version
