-- The file name of a plain line stands between its last quote and its closing.
use Rattle.std.proofs.Common.{◌≡◌, ℕ, zero, suc, ◌+◌, ◌-◌, ◌<◌, ◌≤◌, true, false, not, List, [], ◌∷◌, ◌++◌, length, take, drop}
use Rattle.std.proofs.Common.{get_or, codes, length-append, append_assoc, refl, sym, ap, ◌∙◌, arith}
use Rattle.std.proofs.lemmas.List.{get_or-append_right}
use Rattle.std.proofs.lemmas.List.Sums.{suffix_len_is}
use Rattle.std.proofs.Math.Seq.{take-append_seam, drop-append-add}
use Rattle.std.specs.List.{after_last, list_all, suffix_len}
use Rattle.json.specs.Run.{is_plain}
use Rattle.cdxj_core.specs.Entries.{EntryValue, HasPlainTexts, IsGood, entry_texts, line_text, members_of}
use Rattle.cdxj_core.specs.Objects.{object_text}
use Rattle.cdxj_core.specs.Plain.{ArePlain, pieces, plain_pieces, plain_text}
use Rattle.cdxj_core.specs.Texts.{TextsValue}
use Rattle.cdxj_objects.proofs.PlainBytes.{plain_decimal}
use Rattle.cdxj_objects.proofs.PlainLaw.{plain_text_is}
use Rattle.capture_core.specs.Spelling.{is_quote, last_quoted}

plain_at : (name : List ℕ) (i : ℕ) → list_all is_plain name ≡ true → i < length name
    → not (is_quote (get_or name i 0)) ≡ true
plain_at [] i h k = absurd (omega (arith, k))
plain_at (b ∷ name) zero h k = grind arith
plain_at (b ∷ name) (suc i) h k = grind (arith, plain_at name i)

-- what stands behind the last quote
behind_last : (front name : List ℕ) → list_all is_plain name ≡ true → suffix_len (λ x. not (is_quote x)) (front ++ 34 ∷ name)
    ≡ length (front ++ 34 ∷ name) - (length front + 1)
behind_last front name h =
    let text = front ++ 34 ∷ name in
    let size = length-append front (34 ∷ name) in
    let later : (k : ℕ) → length front + 1 ≤ k → k < length text → not (is_quote (get_or text k 0)) ≡ true =
    λ k low high. grind (arith, plain_at name (k - length front - 1), get_or-append_right, size) in
    let here : 0 < length front + 1 → not (is_quote (get_or text (length front + 1 - 1) 0)) ≡ false =
    λ some. grind (arith, get_or-append_right) in
    suffix_len_is (λ x. not (is_quote x)) text (length front + 1) 0 (omega (arith, size)) later here

quoted_last : (front name : List ℕ) → list_all is_plain name ≡ true → after_last is_quote (front ++ 34 ∷ name) ≡ name
quoted_last front name h =
    let text = front ++ 34 ∷ name in
    let size = length-append front (34 ∷ name) in
    let at : length text - suffix_len (λ x. not (is_quote x)) text ≡ length front + 1 =
    omega (arith, behind_last front name h, size) in
    grind (arith, drop-append-add)

-- what stands before the last pieces of an object
before_pieces : (ps more : List (List ℕ × List ℕ)) → (front : List ℕ) × (pieces (ps ++ more) ≡ front ++ pieces more)
before_pieces [] more = ([], refl)
before_pieces ((front, text) ∷ ps) more =
    let later = before_pieces ps more in (front ++ (text ++ later.0), grind (arith, append_assoc))

-- the file name is the last text of an object
plain_end : (t : TextsValue) → (front : List ℕ) × (plain_text t ≡ front ++ 34 ∷ (t.filename ++ 34 ∷ 125 ∷ []))
plain_end t =
    let all = plain_pieces t in
    let before = before_pieces (take 6 all) (drop 6 all) in
    let name_front = codes "\", \"filename\": " in
    (before.0 ++ name_front, before.1 ∙ sym (append_assoc before.0 name_front (34 ∷ (t.filename ++ 34 ∷ 125 ∷ []))))

line_ends : (key stamp front name : List ℕ) → (key ++ 32 ∷ (stamp ++ 32 ∷ (front ++ 34 ∷ (name ++ 34 ∷ 125 ∷ [])))) ++ 10 ∷ []
    ≡ ((key ++ 32 ∷ (stamp ++ 32 ∷ front)) ++ 34 ∷ name) ++ 34 ∷ 125 ∷ 10 ∷ []
line_ends key stamp front name = simp append_assoc

pub plain_name : (e : EntryValue) → IsGood e → HasPlainTexts e → last_quoted (line_text e) ≡ e.filename
plain_name e good plain =
    let texts : ArePlain (entry_texts e) = grind (arith, plain_decimal) in
    let end = plain_end (entry_texts e) in
    let object : object_text (members_of e) ≡ end.0 ++ 34 ∷ (e.filename ++ 34 ∷ 125 ∷ []) =
    sym (plain_text_is (entry_texts e) texts) ∙ end.1 in
    let front = (e.key ++ 32 ∷ (e.stamp ++ 32 ∷ end.0)) ++ 34 ∷ e.filename in
    let line = ap (λ o. (e.key ++ 32 ∷ (e.stamp ++ 32 ∷ o)) ++ 10 ∷ []) object ∙ line_ends e.key e.stamp end.0 e.filename in
    let size : length (front ++ 34 ∷ 125 ∷ 10 ∷ []) - 3 ≡ length front =
    omega (arith, length-append front (34 ∷ 125 ∷ 10 ∷ [])) in
    let cut : take (length (line_text e) - 3) (line_text e) ≡ front = rw (line, size) (take-append_seam front _) in
    ap (after_last is_quote) cut ∙ quoted_last (e.key ++ 32 ∷ (e.stamp ++ 32 ∷ end.0)) e.filename plain.filename
