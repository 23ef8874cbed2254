-- Targets: how a query names them.
use Rattle.std.specs.Prelude.{ℕ, ◌==◌, ◌-◌, ◌&&◌, ◌||◌, Bool, false, nat_eq, [], ◌∷◌, ◌++◌, take, drop, length}
use Rattle.std.specs.Prelude.{slice_index, codes, bytes_eq, Option, Some, None, Result, Ok, Err, if◌then◌else◌}
use Rattle.std.specs.List.{list_all, before_first, after_first, starts_with}
use Rattle.std.specs.Char.{is_ascii_alphabetic, is_ascii_alphanumeric}
use Rattle.url.specs.Parts.{Parts}
use Rattle.url.specs.Parser.{parse_url}
use Rattle.cdxj_core.specs.Key.{key_of, host_key_of}
use Rattle.query_text.specs.declared.fault.QueryFault.TheVariants as fault
use Rattle.query_text.specs.declared.target.MatchKind.{MatchKind}
use Rattle.query_text.specs.declared.target.MatchKind.TheVariants.{Exact, Prefix, Host, Domain}
use Rattle.query_text.specs.Readings.{Text, Read, and_then}
use Rattle.query_text.specs.Values.{or_refused}
use Rattle.query_text.specs.Filters.{is_colon}

-- the keys that a query asks for
pub record TargetValue : Type 0 where
  pub kind : MatchKind
  pub text : Text

abbrev pub match_kind_of : Text → Read MatchKind
match_kind_of name = if bytes_eq name (codes "exact") then Ok Exact
    else (if bytes_eq name (codes "prefix") then Ok Prefix
    else (if bytes_eq name (codes "host") then Ok Host
    else (if bytes_eq name (codes "domain") then Ok Domain else Err fault.BadMatch)))

-- the last byte is a star
abbrev pub ends_with_star : Text → Bool
ends_with_star text = slice_index text (length text - 1) == 42

-- the kind that the stars of a text name, and the text without them
abbrev pub star_cut : Text → MatchKind × Text
star_cut text = if starts_with nat_eq text (codes "*.") then (Domain, drop 2 text)
    else (if ends_with_star text then (Prefix, take (length text - 1) text) else (Exact, text))

-- ---- addresses

abbrev pub is_scheme_byte : ℕ → Bool
is_scheme_byte b = is_ascii_alphanumeric b || b == 43 || b == 45 || b == 46

abbrev pub begins_with_letter : Text → Bool
begins_with_letter [] = false
begins_with_letter (b ∷ bytes) = is_ascii_alphabetic b

-- a letter, then letters, digits, `+`, `-` or `.`
abbrev pub is_scheme : Text → Bool
is_scheme text = begins_with_letter text && list_all is_scheme_byte text

-- a scheme, and then `://`
abbrev pub has_scheme : Text → Bool
has_scheme text =
    is_scheme (before_first is_colon text) && starts_with nat_eq (after_first is_colon text) (codes "//")

-- the text as an address, with `http://` before it where it has no scheme
abbrev pub web_address : Text → Text
web_address text = if has_scheme text then text else codes "http://" ++ text

-- the key of an address that the URL parser takes
abbrev pub key_or_refusal : {E : Type 0} → Result Parts E → Text → Read Text
key_or_refusal (Ok url) address = Ok (key_of address)
key_or_refusal (Err e) address = Err fault.BadUrl

abbrev pub address_key : Text → Read Text
address_key address = key_or_refusal (parse_url None address) address

-- the host key of a web address
abbrev pub address_host : Text → Read Text
address_host address = or_refused (Err fault.BadUrl) (host_key_of address)

-- ---- the target of a `url`

abbrev pub target_text : MatchKind → Text → Read Text
target_text Exact address = address_key address
target_text Prefix address = address_key address
target_text Host address = address_host address
target_text Domain address = address_host address

abbrev pub web_target : MatchKind → Text → Read TargetValue
web_target kind text =
    and_then (target_text kind (web_address text)) (λ found. Ok (record { kind = kind; text = found }))

-- by the match type that was given, else by the stars
abbrev pub url_target : Text → Option MatchKind → Read TargetValue
url_target url None = web_target (star_cut url).0 (star_cut url).1
url_target url (Some kind) = web_target kind url
