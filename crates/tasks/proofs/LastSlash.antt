-- Where a name is cut at its last `/`.
use Rattle.std.proofs.Common.{◌≡◌, ◌≢◌, ℕ, ◌+◌, ◌-◌, ◌<◌, ◌==◌, not, List, length, drop, Option, Some, None}
use Rattle.std.proofs.Common.{MatchOption, get_or, Bor, ap, ◌∙◌, arith}
use Rattle.std.proofs.lemmas.Bool.{ne_eqb, eq-eqb}
use Rattle.std.proofs.lemmas.List.{get_or-drop}
use Rattle.std.proofs.lemmas.List.Sums.{suffix_len_is}
use Rattle.std.proofs.lemmas.Str.Pattern.{NoCharPasses-char}
use Rattle.std.proofs.lemmas.Str.{len_utf8_ascii}
use Rattle.std.specs.List.{suffix_len}
use Rattle.std.specs.Str.Pattern.{RFindsChar, SplitsAroundMatch}
use Rattle.tasks.specs.Indexing.{is_slash, file_name}

last_at : (name : List ℕ) (at : ℕ) → at < length name → get_or name at 0 ≡ 47
    → ((i : ℕ) → at < i → i < length name → get_or name i 0 ≢ 47) → suffix_len (λ b. not (is_slash b)) name
    ≡ length name - (at + 1)
last_at name at within here later =
    let back : at + 1 - 1 ≡ at = omega arith in
    suffix_len_is (λ b. not (is_slash b)) name (at + 1) 0 (omega arith)
    (λ i low high. ap not (ne_eqb (get_or name i 0) 47 (later i (omega arith) high)))
    (λ _. ap not (ap (λ n. get_or name n 0 == 47) back ∙ eq-eqb (get_or name at 0) 47 here))

none_at : (name : List ℕ) → ((i : ℕ) → i < length name → get_or name i 0 ≢ 47) → suffix_len (λ b. not (is_slash b)) name
    ≡ length name - 0
none_at name none =
    suffix_len_is (λ b. not (is_slash b)) name 0 0 (omega arith)
    (λ i low high. ap not (ne_eqb (get_or name i 0) 47 (none i high))) (λ h. absurd (omega arith))

pub cut_at_last : (name : List ℕ) (cut : Option (Bor (List ℕ) × Bor (List ℕ)))
    → MatchOption cut (RFindsChar 47 name None) (λ x. SplitsAroundMatch (RFindsChar 47) name x.0.now x.1.now)
    → MatchOption cut (name ≡ file_name name) (λ x. x.1.now ≡ file_name name)
cut_at_last name None h = grind (arith, none_at name (λ i. NoCharPasses-char 47 name i h (omega arith)))
cut_at_last name (Some x) h =
    let i = h.0 in
    let j = h.1 in
    let next : j ≡ i + 1 = h.2.1.ends ∙ ap (λ n. i + n) (len_utf8_ascii 47 (omega arith)) in
    let within : i < length name = omega (arith, h.7, next) in
    let later : (q : ℕ) → i < q → q < length name → get_or name q 0 ≢ 47 = λ q low high e.
    let shifted : j + (q - j) ≡ q = omega (arith, next) in
    NoCharPasses-char 47 (drop j name) (q - j) h.2.0 (omega arith) (omega (arith, h.7, h.4, ap length h.4, next))
    (get_or-drop j name (q - j) 0 ∙ rw shifted e) in
    let e = last_at name i within (h.2.1.byte (omega arith)) later in
    let back : length name - suffix_len (λ b. not (is_slash b)) name ≡ j = omega (arith, e, within, next) in
    rw back h.4
