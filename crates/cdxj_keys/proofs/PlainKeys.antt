-- The key of a URL that the parser leaves as it is.
use Rattle.std.proofs.Common.{arith, ◌≡◌, ℕ, inl, inr, true, List, ◌∷◌, ◌++◌, codes, Option, None, IfSome, Ok}
use Rattle.std.proofs.Common.{refl, sym, ap, ◌∙◌, append-nil, append_assoc}
use Rattle.std.proofs.lemmas.Bool.{cond-true}
use Rattle.url.specs.Parser.{parse_url}
use Rattle.url.specs.Parts.{serialize}
use Rattle.url.specs.Scheme.{IsScheme, scheme_type}
use Rattle.url.specs.declared.scheme.SchemeType.TheVariants.{SpecialNotFile}
use Rattle.cdxj_keys.specs.Key.{domain_text, folded, key_of, key_text, is_web, query_text, web_text}
use Rattle.cdxj_keys.specs.PlainUrls.{plain_key_text, IsPlainHost, IsPlainQuery, IsPlainTail, IsPlainUrl}
use Rattle.cdxj_keys.proofs.PlainLaws.{parses, plain_parts, http_scheme, https_scheme, http_kind, https_kind}

serialized : (scheme host path : List ℕ) (query : Option (List ℕ)) → IfSome query IsPlainQuery
    → serialize (plain_parts scheme host path query) ≡ scheme
    ++ (codes "://" ++ (host ++ (47 ∷ (path ++ query_text query))))
serialized scheme host path query h = grind (arith, append-nil)

key_is : (scheme host path : List ℕ) (query : Option (List ℕ)) → web_text (plain_parts scheme host path query) ≡
    domain_text host ++ (codes ")" ++ (47 ∷ (path ++ query_text query)))
key_is scheme host path query = grind (arith, append_assoc)

with_scheme : (scheme target host tail : List ℕ) → IsScheme scheme → scheme_type scheme ≡ SpecialNotFile
    → ((path : List ℕ) (query : Option (List ℕ)) → is_web (plain_parts scheme host path query) ≡ true)
    → target ≡ scheme ++ (codes "://" ++ (host ++ tail)) → IsPlainHost host → IsPlainTail tail
    → key_text (parse_url None target) target ≡ plain_key_text host tail
with_scheme scheme target host tail is_scheme kind web cut plain_host t =
    let url = plain_parts scheme host t.path t.query in
    let text : target ≡ serialize url = grind (arith, codes, serialized) in
    let read : parse_url None target ≡ Ok url =
    grind (arith, parses) in
    ap (λ r. key_text r target) read ∙ cond-true _ (web_text url) target (web t.path t.query)
    ∙ key_is scheme host t.path t.query ∙ ap (λ l. domain_text host ++ (codes ")" ++ l)) (sym t.cut)

pub plain_key_of : (target host tail : List ℕ) → IsPlainUrl target host tail → key_of target ≡ folded
    (plain_key_text host tail)
unfolding key_of
plain_key_of target host tail url =
    ap folded (elim url.cut [
      | inl http ↦ with_scheme (codes "http") target host tail http_scheme http_kind (λ path query. refl) http
          url.plain_host url.plain_tail
      | inr https ↦ with_scheme (codes "https") target host tail https_scheme https_kind (λ path query. refl) https
          url.plain_host url.plain_tail
    ])
