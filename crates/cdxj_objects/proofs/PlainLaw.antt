-- What a plain object is read as.
use Rattle.std.proofs.Common.{◌≡◌, ℕ, true, List, [], ◌∷◌, ◌++◌}
use Rattle.std.proofs.Common.{Some, append_assoc, flat_map, refl, sym, ap, subst, ◌∙◌, arith}
use Rattle.std.specs.List.{list_all}
use Rattle.json.specs.Print.{escape}
use Rattle.json.specs.Run.{is_plain}
use Rattle.json.proofs.Printed.Strings.{escape_byte_plain}
use Rattle.serde_json.specs.Read.{read}
use Rattle.cdxj_objects.specs.ObjectMembers.{map_members}
use Rattle.cdxj_objects.specs.Objects.{member_text, object_text}
use Rattle.cdxj_objects.specs.Plain.{ArePlain, pieces, plain_text}
use Rattle.cdxj_objects.specs.Texts.{TextsValue, text_members}
use Rattle.cdxj_objects.proofs.ObjectLaw.{Pair}
use Rattle.cdxj_objects.proofs.TextsLaw.{first_of, later_of, data_of, read_texts}

-- ---- plain texts stand as they are

pub escape_plain : (s : List ℕ) → list_all is_plain s ≡ true → escape s ≡ s
escape_plain [] h = refl
escape_plain (x ∷ xs) h = grind (arith, escape_byte_plain, escape_plain xs)

escape_texts : (t : TextsValue) → ArePlain t → map_members escape t ≡ t
escape_texts t h = grind (arith, escape_plain)

-- ---- the text, as that of members whose names are plain

abbrev front : List ℕ → List ℕ → List ℕ → List ℕ
front n v p = 34 ∷ (n ++ 34 ∷ 58 ∷ 32 ∷ 34 ∷ (v ++ 34 ∷ p))

abbrev rest_text : List Pair → List ℕ
rest_text [] = 125 ∷ []
rest_text (m ∷ ms) = 44 ∷ 32 ∷ front m.0 (escape m.1) (rest_text ms)

abbrev PlainNames : List Pair → Type 0
PlainNames [] = Unit {0}
PlainNames (m ∷ ms) = (list_all is_plain m.0 ≡ true) × PlainNames ms

regroup : (n v p : List ℕ) → ((34 ∷ (n ++ 34 ∷ [])) ++ (58 ∷ 32 ∷ []) ++ (34 ∷ (v ++ 34 ∷ []))) ++ p ≡ front n v p
regroup n v p = simp append_assoc

abbrev later : List Pair → List ℕ
later ms = flat_map (λ m. (44 ∷ 32 ∷ []) ++ member_text m) ms

rest_is : (ms : List Pair) → PlainNames ms → later ms ++ 125 ∷ [] ≡ rest_text ms
rest_is [] h = refl
rest_is (m ∷ ms) h = grind (arith, append_assoc, escape_plain, regroup, rest_is ms h.1)

object_is : (m : Pair) (ms : List Pair) → PlainNames (m ∷ ms) → object_text (m ∷ ms) ≡ 123 ∷ front m.0 (escape m.1)
    (rest_text ms)
object_is m ms h = grind (arith, append_assoc, rest_is, escape_plain, regroup)

-- ---- the seven members

pub escaped_text_is : (t : TextsValue) → plain_text (map_members escape t) ≡ object_text (text_members t)
escaped_text_is t = grind (arith, object_is (first_of t) (later_of t))

pub plain_text_is : (t : TextsValue) → ArePlain t → plain_text t ≡ object_text (text_members t)
plain_text_is t h = ap plain_text (sym (escape_texts t h)) ∙ escaped_text_is t

pub read_plain : (t : TextsValue) → ArePlain t → read (plain_text t) ≡ Some (data_of t)
read_plain t h = subst (λ s. read (plain_text s) ≡ Some (data_of t)) (escape_texts t h)
    (ap read (escaped_text_is t) ∙ read_texts t)

-- ---- writing

-- a text to which a piece was added, and those that come next
pub pushed : (piece : List ℕ × List ℕ) (more : List (List ℕ × List ℕ)) (old new : List ℕ)
    → new ≡ old ++ (piece.0 ++ piece.1) → new ++ pieces more ≡ old ++ pieces (piece ∷ more)
pushed (front, text) more old new e = grind (arith, append_assoc)
