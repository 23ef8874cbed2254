-- Hosts and paths of the usual bytes.
use Rattle.std.proofs.Common.{◌≡◌, ℕ, suc, ◌+◌, ◌-◌, ◌<◌, ◌==◌, ◌&&◌, ◌||◌, not, Bool, true, false, List, [], ◌∷◌, ◌++◌}
use Rattle.std.proofs.Common.{length, drop, get_or, refl, subst, arith}
use Rattle.std.specs.Prelude.{slice_index, zip}
use Rattle.std.specs.List.{list_all}
use Rattle.std.proofs.lemmas.Bool.{agree_below_at, eqb-true, false_from_ne_true}
use Rattle.std.proofs.lemmas.List.{get_or-drop}
use Rattle.std.proofs.lemmas.List.Elements.{All-from_get_or}
use Rattle.std.proofs.lemmas.List.Folds.{list_all-append}
use Rattle.std.proofs.lemmas.List.Sums.{AllPass-from_list_all, list_all-from_AllPass}
use Rattle.cdxj_keys.specs.PlainUrls.{begins_plain, is_domain_byte, is_path_byte, is_usual_byte, HasInnerDots, IsPlainPath}

one_or_other : (s t : Bool) → (not s || t) ≡ true → s ≡ true → t ≡ true
one_or_other s t h e = grind arith

not_both : (s t : Bool) → (s ≡ true → t ≡ true → ⊥) → (s && t) ≡ false
not_both s t h = grind arith

implied : (f g : ℕ → Bool) (text : List ℕ)
    → ((k : ℕ) → k < length text → f (get_or text k 0) ≡ true → g (get_or text k 0) ≡ true) → list_all f text ≡ true
    → list_all g text ≡ true
implied f g text i h =
    list_all-from_AllPass g text
    (All-from_get_or (λ x. g x ≡ true) text 0 (λ k l. i k l (AllPass-from_list_all f text h k 0 l)))

-- such a byte is one of a path
path_byte : (b : ℕ) → b < 256 → is_usual_byte b ≡ true → is_path_byte b ≡ true
path_byte b small h =
    one_or_other (is_usual_byte b) (is_path_byte b)
    (agree_below_at (λ x. not (is_usual_byte x) || is_path_byte x) (λ _. true) 256 b refl small) h

-- and one of a domain, if it isn't `/`
domain_byte : (b : ℕ) → is_usual_byte b ≡ true → (b ≡ 47 → ⊥) → is_domain_byte b ≡ true
domain_byte b h n = grind (arith, false_from_ne_true, eqb-true)

no_percent : (b : ℕ) → is_usual_byte b ≡ true → (b == 37) ≡ false
no_percent b h = grind (arith, false_from_ne_true, eqb-true)

pub domain_bytes : (host tail : List ℕ) → list_all is_usual_byte (host ++ tail) ≡ true
    → ((k : ℕ) → k < length host → slice_index host k ≡ 47 → ⊥) → list_all is_domain_byte host ≡ true
domain_bytes host tail h n = grind (arith, list_all-append, implied, domain_byte, get_or)

pub bytes_behind : (host tail : List ℕ) → list_all is_usual_byte (host ++ tail) ≡ true → list_all is_usual_byte tail
    ≡ true
bytes_behind host tail h = grind (arith, list_all-append is_usual_byte host tail)

-- a byte after another
plain_pair : (a b : ℕ) → is_usual_byte b ≡ true → (b ≡ 46 → a ≡ 47 → ⊥) → begins_plain a b ≡ true
plain_pair a b h n = grind (arith, no_percent, not_both, eqb-true)

segments : (path : List ℕ) → list_all is_usual_byte path ≡ true → HasInnerDots path (length path)
    → list_all (λ p. begins_plain p.0 p.1) (zip path (drop 1 path)) ≡ true
segments [] h n = refl
segments (a ∷ []) h n = refl
segments (a ∷ b ∷ bs) h n =
    let later : list_all is_usual_byte (b ∷ bs) ≡ true = grind arith in
    let first = plain_pair a b (grind arith) (n 0 (omega arith)) in
    let ih = segments (b ∷ bs) later (λ k l p q.
    let next : suc (k + 1) ≡ suc k + 1 = omega arith in
    n (suc k) (omega (arith, l)) (subst (λ j. get_or (a ∷ b ∷ bs) j 0 ≡ 46) next p) q) in
    grind (arith, first, ih)

pub usual_path : (path : List ℕ) → ((k : ℕ) → get_or path k 0 < 256) → list_all is_usual_byte path ≡ true
    → HasInnerDots path (length path) → IsPlainPath path
usual_path path small h n = grind (arith, implied, path_byte, get_or, segments)

-- a dot that follows no slash
pub dots_more : (path : List ℕ) (at dot : ℕ) → HasInnerDots path at
    → ((k : ℕ) → k < dot → slice_index (drop at path) k ≡ 46 → ⊥)
    → ((k : ℕ) → k + 1 ≡ at + dot → slice_index path k ≡ 47 → ⊥) → HasInnerDots path (at + (dot + 1))
dots_more path at dot kept none here k below p q = grind (arith, kept k, none (k + 1 - at), here k, get_or-drop)

-- and no dot behind the last
pub dots_end : (path : List ℕ) (at : ℕ) → HasInnerDots path at
    → ((k : ℕ) → k < length path - at → slice_index (drop at path) k ≡ 46 → ⊥) → HasInnerDots path (length path)
dots_end path at kept none k below p q = grind (arith, kept k, none (k + 1 - at), get_or-drop)
