-- The URL parser leaves a plain web URL as it is.
use Rattle.std.proofs.lemmas.Grind.{common_steps}
use Rattle.std.proofs.Common.{◌≡◌, ℕ, ◌<◌, ◌==◌, cond, ◌&&◌, ◌||◌, Bool, true, false, not, List, [], ◌∷◌}
use Rattle.std.proofs.Common.{codes, zip, drop, length, All, Option, None, Some, IfSome, Ok, refl, sym, ap, ◌∙◌, subst}
use Rattle.std.proofs.Common.{arith}
use Rattle.std.specs.List.{list_all, slice_split, onto_first}
use Rattle.std.specs.Char.{is_ascii_digit, is_ascii_lowercase}
use Rattle.std.specs.Prelude.{slice_index}
use Rattle.std.proofs.lemmas.Bool.{agree_below, agree_below_at, cond-false, and_parts, not-true, or_from, eqb-true}
use Rattle.std.proofs.lemmas.Bool.{ne_eqb}
use Rattle.std.proofs.lemmas.List.Elements.{All-weaker, All-cons}
use Rattle.std.proofs.lemmas.List.Splits.{length-slice_split}
use Rattle.std.proofs.lemmas.List.Sums.{AllPass-from_list_all}
use Rattle.percent_encoding.specs.AsciiSet.{should_percent_encode}
use Rattle.percent_encoding.specs.Percent.{IsKept}
use Rattle.url.specs.declared.sets.TheConstants.{FORBIDDEN_DOMAIN, PATH, SPECIAL_QUERY}
use Rattle.url.specs.declared.scheme.SchemeType.TheVariants.{SpecialNotFile}
use Rattle.url.specs.declared.scheme.SchemeType.{SchemeType}
use Rattle.url.specs.declared.host.Host.TheVariants.{Domain}
use Rattle.url.specs.Host.{IsDomain, IsHostOf}
use Rattle.url.specs.Parser.{parse_url}
use Rattle.url.specs.Parts.{IsValid, Parts, serialize}
use Rattle.url.proofs.Theorems.{parse_url-serialize_special}
use Rattle.url.specs.Input.{is_empty, lowercase, rsplit_once}
use Rattle.url.specs.Ipv4.{ends_in_a_number, last_label, parse_number, is_number}
use Rattle.url.specs.Path.{IsSegment, IsSegmentList, join_segments, dot_count}
use Rattle.url.specs.Scheme.{IsScheme, default_port, scheme_len, scheme_type}
use Rattle.cdxj_keys.specs.Bytes.{slash}
use Rattle.cdxj_keys.specs.PlainUrls.{is_domain_byte, is_plain_byte, is_path_byte, begins_plain}
use Rattle.cdxj_keys.specs.PlainUrls.{IsPlainHost, IsPlainPath}

-- the parts of a web URL with this scheme, host, path behind its first `/`, and query
abbrev pub plain_parts : List ℕ → List ℕ → List ℕ → Option (List ℕ) → Parts
plain_parts scheme host path query = record {
  scheme = scheme;
  username = [];
  password = [];
  host = Some (Domain host);
  port = None;
  path = slash ∷ path;
  query = query;
  fragment = None;
}

-- ---- bytes

-- what holds of each byte that passes a test
implied : (p q : ℕ → Bool) (b : ℕ) → agree_below (λ b. not (p b) || q b) (λ _. true) 256 ≡ true → b < 256 → p b ≡ true
    → q b ≡ true
implied p q b all small h = sym (ap (λ t. not t || q b) h) ∙ agree_below_at (λ b. not (p b) || q b) (λ _. true) 256 b
    all small

domain_small : (b : ℕ) → is_domain_byte b ≡ true → b < 256
domain_small b h = grind (arith, and_parts)

plain_small : (b : ℕ) → is_plain_byte b ≡ true → b < 256
plain_small b h = grind (arith, and_parts)

all_of : (p : ℕ → Bool) (P : ℕ → Type 0) → ((b : ℕ) → p b ≡ true → P b) → (xs : List ℕ) → list_all p xs ≡ true
    → All P xs
all_of p P f xs h = All-weaker (λ b. p b ≡ true) P f xs (AllPass-from_list_all p xs h)

-- ---- hosts

domain_kept : (b : ℕ) → is_domain_byte b ≡ true → IsKept FORBIDDEN_DOMAIN b
unfolding should_percent_encode
domain_kept b h = not-true _ (implied is_domain_byte (λ b. not (should_percent_encode FORBIDDEN_DOMAIN b)) b refl
    (domain_small b h) h)

all_lower : (xs : List ℕ) → list_all is_domain_byte xs ≡ true → lowercase xs ≡ xs
all_lower [] h = refl
all_lower (x ∷ xs) h = let parts = and_parts (is_domain_byte x) (list_all is_domain_byte xs) h in
    grind (arith, all_lower xs parts.1)

no_number : (last : List ℕ) → is_ascii_lowercase (slice_index last 0) ≡ true
    → ((not (is_empty last) && list_all is_ascii_digit last) || is_number (parse_number last)) ≡ false
unfolding parse_number
no_number last h = grind (arith, common_steps, ne_eqb, not-true, implied, or_from, cond-false)

pub domain_of_plain : (host : List ℕ) → IsPlainHost host → IsDomain host
unfolding ends_in_a_number
domain_of_plain host h = grind (arith, common_steps, domain_kept, all_lower, no_number)

-- ---- paths

-- a byte of a segment
abbrev is_segment_byte : ℕ → Bool
is_segment_byte b = is_path_byte b && not (b == 47)

segment_small : (b : ℕ) → is_segment_byte b ≡ true → b < 256
segment_small b h = plain_small b (and_parts _ _ (and_parts _ _ h).0).0

segment_kept : (b : ℕ) → is_segment_byte b ≡ true → IsKept PATH b
unfolding should_percent_encode
segment_kept b h = not-true _ (implied is_segment_byte (λ b. not (should_percent_encode PATH b)) b refl
    (segment_small b h) h)

-- a segment begins with neither `.` nor an escape
abbrev Begins : List ℕ → Type 0
Begins [] = Unit {0}
Begins (c ∷ segment) = begins_plain 47 c ≡ true

resolved : (segment : List ℕ) → Begins segment → dot_count segment ≡ 0
unfolding dot_count
resolved segment h = grind arith

plain_segment : (segment : List ℕ) → list_all is_segment_byte segment ≡ true → Begins segment → IsSegment SpecialNotFile
    segment
plain_segment segment bytes begins = grind (arith, common_steps, segment_kept, resolved)

abbrev segments_of : List ℕ → List (List ℕ)
segments_of path = slice_split (λ b. b == 47) path

some_segments : (path : List ℕ) → 0 < length (segments_of path)
some_segments path = grind (arith, length-slice_split)

joined : (path : List ℕ) → join_segments (segments_of path) ≡ 47 ∷ path
joined [] = refl
joined (b ∷ path) = grind (arith, joined path)

-- the first segment has the bytes of one, and the others are segments
abbrev Good : List (List ℕ) → Type 0
Good [] = ⊥
Good (x ∷ segments) = (list_all is_segment_byte x ≡ true) × All (IsSegment SpecialNotFile) segments

abbrev pairs : List ℕ → Bool
pairs path = list_all (λ p. begins_plain p.0 p.1) (zip path (drop 1 path))

later_pairs : (b : ℕ) (path : List ℕ) → pairs (b ∷ path) ≡ true → pairs path ≡ true
later_pairs b path h = grind (arith, and_parts)

head_of : List (List ℕ) → List ℕ
head_of [] = []
head_of (x ∷ segments) = x

onto_begins : (c : ℕ) (segments : List (List ℕ)) → 0 < length segments → begins_plain 47 c ≡ true
    → Begins (head_of (onto_first c segments))
unfolding head_of
onto_begins c segments some h = grind arith

-- what follows a slash begins a segment
begins_head : (path : List ℕ) → pairs (47 ∷ path) ≡ true → Begins (head_of (segments_of path))
unfolding head_of
begins_head [] h = tt
begins_head (c ∷ path) h = grind (arith, onto_begins, some_segments, and_parts)

all_good : (segments : List (List ℕ)) → Good segments → Begins (head_of segments) → All (IsSegment SpecialNotFile)
    segments
unfolding head_of
all_good [] g first = absurd g
all_good (x ∷ segments) g first = All-cons (IsSegment SpecialNotFile) x segments (plain_segment x g.0 first) g.1

good : (path : List ℕ) → list_all is_path_byte path ≡ true → pairs path ≡ true → Good (segments_of path)
good [] bytes h = grind arith
good (b ∷ path) bytes h = by (b == 47) refl (good path (and_parts _ _ bytes).1 (later_pairs b path h))
    (λ e. begins_head path (subst (λ c. pairs (c ∷ path) ≡ true) (eqb-true b 47 e) h)) (and_parts _ _ bytes).0
  where
    by : (t : Bool) → (b == 47) ≡ t → Good (segments_of path) → ((b == 47) ≡ true → Begins (head_of (segments_of path)))
        → is_path_byte b ≡ true
        → Good (cond t ([] ∷ segments_of path) (onto_first b (segments_of path)))
    by true e rest first byte = (refl, all_good (segments_of path) rest (first e))
    by false e rest first byte = grind arith

pub segments_of_plain : (path : List ℕ) → IsPlainPath (47 ∷ path) → IsSegmentList SpecialNotFile (47 ∷ path)
segments_of_plain path h = grind (arith, joined path, good (47 ∷ path) h.bytes h.segments)

-- ---- the URL

query_kept : (b : ℕ) → is_plain_byte b ≡ true → IsKept SPECIAL_QUERY b
unfolding should_percent_encode
query_kept b h = not-true _ (implied is_plain_byte (λ b. not (should_percent_encode SPECIAL_QUERY b)) b refl
    (plain_small b h) h)

some_host : (host : List ℕ) → is_ascii_lowercase (slice_index (last_label host) 0) ≡ true → 0 < length host
unfolding rsplit_once
some_host host h = grind (arith, common_steps)

module _ (scheme : List ℕ) (is_scheme : IsScheme scheme) (kind : scheme_type scheme ≡ SpecialNotFile)
    (host path : List ℕ) (query : Option (List ℕ)) (plain_host : IsPlainHost host)
    (plain_path : IsPlainPath (47 ∷ path))
    (plain_query : IfSome query (λ text. list_all is_plain_byte text ≡ true)) where
  valid_host : (kind : SchemeType) → kind ≡ SpecialNotFile → IsHostOf kind (Domain host)
  valid_host kind is = grind (arith, domain_of_plain, some_host)

  valid : IsValid (plain_parts scheme host path query)
  valid = grind (arith, valid_host, segments_of_plain, common_steps, all_of, query_kept)

  pub parses : parse_url None (serialize (plain_parts scheme host path query)) ≡ Ok (plain_parts scheme host path query)
  parses = parse_url-serialize_special (plain_parts scheme host path query) None valid kind

pub http_scheme : IsScheme (codes "http")
unfolding scheme_len
http_scheme = grind arith

pub https_scheme : IsScheme (codes "https")
unfolding scheme_len
https_scheme = grind arith

pub http_kind : scheme_type (codes "http") ≡ SpecialNotFile
unfolding scheme_type default_port
http_kind = refl

pub https_kind : scheme_type (codes "https") ≡ SpecialNotFile
unfolding scheme_type default_port
https_kind = refl
