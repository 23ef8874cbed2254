use Rattle.std.proofs.Common.{◌≡◌, ◌∙◌, ◌++◌, ◌==◌, ℕ, List, Some, ap, codes, drop, position}
use Rattle.std.proofs.Common.{arith, length-append, refl}
use Rattle.std.proofs.lemmas.Bool.{lt-ltb}
use Rattle.std.proofs.lemmas.Bool.Decides.{Decides-eqb}
use Rattle.std.proofs.lemmas.Slice.Eq.{starts_is}
use Rattle.capture_core.specs.FieldValue.{media_type, semicolon}
use Rattle.capture_core.proofs.http_record.has_http_type.Goals as goal

cut : (rest : List ℕ) → position (λ byte. byte == semicolon) (codes "application/http;" ++ rest) ≡ Some 16
cut rest = grind (arith, length-append, lt-ltb)

http_with : (rest : List ℕ) → media_type (codes "application/http;" ++ rest) ≡ codes "application/http"
unfolding media_type
http_with rest = rw (cut rest) refl

pub returns-then-starts_with : goal.returns-then-starts_with
returns-then-starts_with c =
    let value = c.args.value.now in
    let begins = starts_is Decides-eqb value (codes "application/http;") c.starts_with.result c.starts_with.ensures.value in
    let media = ap media_type (begins.0 c.if-starts_with.true) ∙ http_with (drop 17 value) in
    rw media refl
