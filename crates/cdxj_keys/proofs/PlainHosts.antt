-- The last label of a host.
use Rattle.std.proofs.Common.{◌≡◌, ℕ, suc, ◌+◌, ◌<◌, ◌==◌, true, false, List, [], ◌∷◌, ◌++◌, Some, None}
use Rattle.std.proofs.Common.{length, take, drop, get_or, refl, sym, ap, ◌∙◌, arith}
use Rattle.std.proofs.lemmas.Bool.{eqb-true, false_from_ne_true, ne_eqb}
use Rattle.std.proofs.lemmas.List.{get_or-drop, length-drop, take_rest}
use Rattle.memchr.specs.Find.{IsLastByte, is_byte}
use Rattle.url.specs.Input.{rsplit_once}
use Rattle.url.specs.Ipv4.{last_label}
use Rattle.cdxj_keys.proofs.Labels.{cut_at}

abbrev has_no_dot : List ℕ → Type 0
has_no_dot [] = Unit {0}
has_no_dot (b ∷ bytes) = ((b == 46) ≡ false) × has_no_dot bytes

no_dot : (bytes : List ℕ) → ((k : ℕ) → k < length bytes → (get_or bytes k 0 == 46) ≡ true → ⊥) → has_no_dot bytes
no_dot [] h = tt
no_dot (b ∷ bytes) h =
    (false_from_ne_true (b == 46) (h 0 (omega arith)), no_dot bytes (λ k low. h (suc k) (omega arith)))

split_none : (bytes : List ℕ) → has_no_dot bytes → rsplit_once 46 bytes ≡ (None, bytes)
unfolding rsplit_once
split_none [] h = refl
split_none (b ∷ bytes) h = grind (arith, split_none bytes h.1)

split_at : (front last : List ℕ) → has_no_dot last → rsplit_once 46 (front ++ 46 ∷ last) ≡ (Some front, last)
unfolding rsplit_once
split_at [] last h = grind (arith, split_none)
split_at (b ∷ front) last h = grind (arith, split_at front last h)

behind : (front last : List ℕ) → has_no_dot last → 0 < length last → last_label (front ++ 46 ∷ last) ≡ last
behind front last h some = grind (arith, split_at, ne_eqb)

-- a host without a dot is its last label
pub lone_label : (host : List ℕ) → IsLastByte (is_byte 46) host None → host ≡ last_label host
lone_label host none = grind (arith, split_none, no_dot)

-- what follows the last dot is the last label
pub label_behind : (host : List ℕ) (dot : ℕ) → IsLastByte (is_byte 46) host (Some dot)
    → 0 < length (drop (dot + 1) host) → drop (dot + 1) host ≡ last_label host
label_behind host dot found some =
    let last = drop (dot + 1) host in
    let free : has_no_dot last =
    grind (arith, no_dot, length-drop, get_or-drop) in
    sym (ap last_label (cut_at host dot found.0.high (eqb-true _ _ found.1)) ∙ behind (take dot host) last free some)

pub ruleset label_rules = (label_behind, lone_label, take_rest)
