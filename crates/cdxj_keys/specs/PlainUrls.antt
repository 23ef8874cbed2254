-- Web URLs that the URL parser leaves as they are.
use Rattle.std.specs.Prelude.{◌≡◌, ℕ, ◌+◌, ◌&&◌, ◌||◌, ◌==◌, ◌<◌, ◌⊎◌, Bool, true, not, List, ◌∷◌, ◌++◌, codes, drop}
use Rattle.std.specs.Prelude.{length, slice_index, zip, Option, IfSome}
use Rattle.std.specs.List.{list_all, list_any}
use Rattle.std.specs.Char.{is_ascii_lowercase, is_ascii_digit}
use Rattle.url.specs.Ipv4.{last_label}
use Rattle.cdxj_keys.specs.Bytes.{percent, hyphen, full_stop, slash, question_mark}
use Rattle.cdxj_keys.specs.Key.{domain_text, is_graphic, query_text}

-- a letter in lower case, a digit, `-` or `.`
abbrev pub is_domain_byte : ℕ → Bool
is_domain_byte b =
    is_graphic b && (is_ascii_lowercase b || is_ascii_digit b || b == hyphen || b == full_stop)

-- a byte that neither a path nor a query escapes, and that no path reads as `/`
abbrev pub is_plain_byte : ℕ → Bool
is_plain_byte b = is_graphic b && not (list_any (λ c. c == b) (codes "\"#'<>\\^`{}"))

-- such a byte, but not the one that ends a path
abbrev pub is_path_byte : ℕ → Bool
is_path_byte b = is_plain_byte b && not (b == question_mark)

-- a byte of a domain, or `/`
abbrev pub is_usual_byte : ℕ → Bool
is_usual_byte b = is_domain_byte b || b == slash

-- among the first bytes of a path, no `.` follows a `/`
abbrev pub HasInnerDots : List ℕ → ℕ → Type 0
HasInnerDots path size = (k : ℕ) → k + 1 < size → slice_index path (k + 1) ≡ full_stop
    → slice_index path k ≡ slash → ⊥

-- a segment that begins with `.` or an escape may not be left as it is
abbrev pub begins_plain : ℕ → ℕ → Bool
begins_plain before b = not (before == slash && (b == full_stop || b == percent))

-- a path that is left as it is
pub record IsPlainPath (path : List ℕ) : Type 0 where
  pub bytes : list_all is_path_byte path ≡ true
  pub segments : list_all (λ p. begins_plain p.0 p.1) (zip path (drop 1 path)) ≡ true

-- a host that is left as it is, and isn't an address
pub record IsPlainHost (host : List ℕ) : Type 0 where
  pub bytes : list_all is_domain_byte host ≡ true
  pub letter : is_ascii_lowercase (slice_index (last_label host) 0) ≡ true

-- a query that is left as it is, and isn't empty
abbrev pub IsPlainQuery : List ℕ → Type 0
IsPlainQuery query = (0 < length query) × (list_all is_plain_byte query ≡ true)

-- A path, and `?` and a query if there is one, are left as they are.
pub record IsPlainTail (tail : List ℕ) : Type 0 where
  pub path : List ℕ
  pub query : Option (List ℕ)
  pub cut : tail ≡ slash ∷ (path ++ query_text query)
  pub plain_path : IsPlainPath (slash ∷ path)
  pub plain_query : IfSome query IsPlainQuery

-- the text behind `http://` or `https://`
abbrev pub IsBehindScheme : List ℕ → List ℕ → Type 0
IsBehindScheme target rest = (target ≡ codes "http" ++ (codes "://" ++ rest))
    ⊎ (target ≡ codes "https" ++ (codes "://" ++ rest))

-- A target is a web URL that is left as it is, with this host, and this path and query in one text.
pub record IsPlainUrl (target host tail : List ℕ) : Type 0 where
  pub cut : IsBehindScheme target (host ++ tail)
  pub plain_host : IsPlainHost host
  pub plain_tail : IsPlainTail tail

-- the key text of a URL that is left as it is
abbrev pub plain_key_text : List ℕ → List ℕ → List ℕ
plain_key_text host tail = domain_text host ++ (codes ")" ++ tail)
