-- What contracts see of an HTTP head.
use Rattle.std.specs.Prelude.{◌≡◌, List, ℕ, length, drop, codes, option_map}
use Rattle.httparse.specs.Grammar.{ResponseHead, print_response, status_code}
use Rattle.capture_core.specs.declared.response.HttpHead.{HttpHead}
use Rattle.capture_core.specs.declared.http_head.TheConstants.{HTTP_HEAD_LIMIT, HTTP_FIELD_LIMIT}
use Rattle.capture_core.specs.HttpHead.{BeginsWithHead, field_of}
use Rattle.capture_core.specs.Capture.{ResponseValue}

abbrev pub response_view : HttpHead → ResponseValue
response_view r = record { code = r.code; content_type = option_map (λ v. v.now) r.content_type }

-- the parts of the head at the front of a block
abbrev pub IsHeadAt : List ℕ → HttpHead → Type 0
IsHeadAt block r =
    (h : ResponseHead)
    × BeginsWithHead HTTP_HEAD_LIMIT HTTP_FIELD_LIMIT block h (drop r.len block)
    × (r.len ≡ length (print_response h))
    × (r.code ≡ status_code h)
    × (option_map (λ v. v.now) r.content_type ≡ field_of (codes "content-type") h)
