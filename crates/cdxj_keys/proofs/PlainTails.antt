-- Where a path ends and a query begins.
use Rattle.std.proofs.Common.{◌≡◌, ℕ, zero, suc, ◌+◌, ◌<◌, List, ◌∷◌, ◌++◌, Some, length, take, drop, get_or, sym}
use Rattle.std.proofs.Common.{◌∙◌, subst, append-nil, arith}
use Rattle.std.specs.Prelude.{slice_index}
use Rattle.std.proofs.lemmas.List.{get_or-take}
use Rattle.cdxj_keys.specs.Key.{query_text}
use Rattle.cdxj_keys.specs.PlainUrls.{IsPlainPath, IsPlainQuery, IsPlainTail}
use Rattle.cdxj_keys.proofs.Labels.{cut_at}

slash_first : (text : List ℕ) → slice_index text 0 ≡ 47 → text ≡ 47 ∷ drop 1 text
slash_first text h = grind arith

pub path_alone : (tail : List ℕ) → slice_index tail 0 ≡ 47 → IsPlainPath tail → IsPlainTail tail
path_alone tail slash plain = grind (arith, slash_first, append-nil)

pub spelled : (query : List ℕ) → 0 < length query → query_text (Some query) ≡ 63 ∷ query
spelled query some = grind arith

pub path_and_query : (tail : List ℕ) (at : ℕ) → slice_index tail 0 ≡ 47 → at < length tail → get_or tail at 0 ≡ 63
    → IsPlainPath (take at tail) → IsPlainQuery (drop (at + 1) tail) → IsPlainTail tail
path_and_query tail zero slash within mark plain query = grind arith
path_and_query tail (suc n) slash within mark plain query =
    let front = take (suc n) tail in
    let first = slash_first front (get_or-take (suc n) tail 0 0 (omega arith) ∙ slash) in
    record {
      path = drop 1 front;
      query = Some (drop (suc n + 1) tail);
      cut = cut_at tail (suc n) within mark ∙ (λ i. first i ++ sym (spelled (drop (suc n + 1) tail) query.0) i);
      plain_path = subst IsPlainPath first plain;
      plain_query = query;
    }
