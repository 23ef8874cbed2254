-- Where a text is cut at its last space.
use Rattle.std.proofs.Common.{◌≡◌, ◌≢◌, ℕ, ◌+◌, ◌-◌, ◌<◌, not, List, [], length, drop, None}
use Rattle.std.proofs.Common.{get_or, ap, ◌∙◌, arith}
use Rattle.std.proofs.lemmas.Bool.{ne_eqb, eq-eqb}
use Rattle.std.proofs.lemmas.List.{get_or-drop}
use Rattle.std.proofs.lemmas.List.Sums.{suffix_len_is}
use Rattle.std.proofs.lemmas.Str.Pattern.{NoCharPasses-char}
use Rattle.std.specs.List.{suffix_len, before_last, after_last}
use Rattle.std.proofs.lemmas.Str.{len_utf8_ascii}
use Rattle.std.specs.Str.Pattern.{RFindsChar, SplitsAroundMatch}
use Rattle.cdxj_places.specs.Pair.{is_space}

-- the place after the last space
pub last_at : (s : List ℕ) (k : ℕ) → k < length s → get_or s k 0 ≡ 32
    → ((i : ℕ) → k < i → i < length s → get_or s i 0 ≢ 32) → suffix_len (λ x. not (is_space x)) s ≡ length s - (k + 1)
last_at s k within here later =
    let back : k + 1 - 1 ≡ k = omega arith in
    grind (arith, suffix_len_is, eq-eqb)

-- no space is found
pub cut_nowhere : (s : List ℕ) → RFindsChar 32 s None → ([] ≡ before_last is_space s) × (s ≡ after_last is_space s)
cut_nowhere s h =
    let none : (i : ℕ) → i < length s → get_or s i 0 ≢ 32 = λ i within. NoCharPasses-char 32 s i h (omega arith) within in
    let whole : suffix_len (λ x. not (is_space x)) s ≡ length s - 0 = suffix_len_is (λ x. not (is_space x)) s 0 0
    (omega arith) (λ i low high. ap not (ne_eqb (get_or s i 0) 32 (none i high))) (λ h. absurd (omega arith)) in
    grind arith

-- the text is cut around the space that is found
pub cut_at_last : (s before after : List ℕ) → SplitsAroundMatch (RFindsChar 32) s before after
    → (before ≡ before_last is_space s) × (after ≡ after_last is_space s)
cut_at_last s before after h =
    let i = h.0 in
    let j = h.1 in
    let next : j ≡ i + 1 = h.2.1.ends ∙ ap (λ n. i + n) (len_utf8_ascii 32 (omega arith)) in
    let within : i < length s = omega (arith, h.7, next) in
    let later : (q : ℕ) → i < q → q < length s → get_or s q 0 ≢ 32 = λ q low high e.
    let shifted : j + (q - j) ≡ q = omega (arith, next) in
    NoCharPasses-char 32 (drop j s) (q - j) h.2.0 (omega arith) (omega (arith, h.7, h.4, ap length h.4, next))
    (get_or-drop j s (q - j) 0 ∙ ap (λ n. get_or s n 0) shifted ∙ e) in
    let e = last_at s i within (h.2.1.byte (omega arith)) later in
    grind (arith, not)
