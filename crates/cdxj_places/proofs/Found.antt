-- What `memchr` answers, by std's words.
use Rattle.std.proofs.Common.{◌≡◌, ℕ, suc, ◌<◌, Bool, true, not, List, [], ◌∷◌, Option, Some, None, length, get_or}
use Rattle.std.proofs.Common.{is_none, ap, arith, refl}
use Rattle.std.proofs.lemmas.Bool.{lt-ltb, cond-true, false_from_ne_true}
use Rattle.std.proofs.lemmas.List.{take_all, drop_all}
use Rattle.std.proofs.lemmas.Str.{IsCharBoundary-after_ascii}
use Rattle.std.proofs.lemmas.List.Sums.{position_or_len_is}
use Rattle.std.specs.List.{position, position_or_len, list_all}
use Rattle.std.proofs.lemmas.List.Folds.{list_all_at}
use Rattle.memchr.specs.Find.{IsFirstByte}
use Rattle.cdxj_places.proofs.PlaceLaw.{both}

pub IsFirstByte_position : (test : ℕ → Bool) (hay : List ℕ) (r : Option ℕ) → IsFirstByte test hay r
    → r ≡ position test hay
IsFirstByte_position test hay None none =
    let e = position_or_len_is test hay (length hay) 0 (omega arith)
    (λ k h. false_from_ne_true _ (none k (omega arith) h)) (λ h. absurd (omega arith)) in
    grind arith
IsFirstByte_position test hay (Some i) found = grind (arith, position_or_len_is, cond-true, lt-ltb)

none_pass : (test : ℕ → Bool) (hay : List ℕ) → ((k : ℕ) → k < length hay → test (get_or hay k 0) ≡ true → ⊥)
    → list_all (λ b. not (test b)) hay ≡ true
none_pass test [] none = refl
none_pass test (x ∷ xs) none = both _ _ (ap not (false_from_ne_true (test x) (none 0 (omega arith))))
    (none_pass test xs (λ k l. none (suc k) (omega arith)))

pub IsFirstByte_absent : (test : ℕ → Bool) (hay : List ℕ) (r : Option ℕ) → IsFirstByte test hay r → is_none r ≡ list_all
    (λ b. not (test b)) hay
IsFirstByte_absent test hay r found = grind (arith, none_pass, list_all_at)

-- where the first byte that passes stands
pub first_byte_at : (test : ℕ → Bool) (hay : List ℕ) (i : ℕ) → IsFirstByte test hay (Some i) → position_or_len test hay
    ≡ i
first_byte_at test hay i found = grind (arith, position_or_len_is)

pub first_byte_none : (test : ℕ → Bool) (hay : List ℕ) → IsFirstByte test hay None → position_or_len test hay ≡ length
    hay
first_byte_none test hay none = position_or_len_is test hay (length hay) 0 (omega arith)
    (λ k h. false_from_ne_true _ (none k (omega arith) h)) (λ h. absurd (omega arith))

pub ruleset cut_rules = (first_byte_at, first_byte_none, take_all, drop_all, IsCharBoundary-after_ascii)
