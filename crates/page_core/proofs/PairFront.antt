-- The key and the stamp at the front of a line have no hidden bytes.
use Rattle.std.proofs.Common.{arith, ◌≡◌, ◌+◌, ◌≤◌, ◌<◌, ◌&&◌, List, [], ◌∷◌, ◌++◌, ℕ, Bool, true, false, Some, None}
use Rattle.std.proofs.Common.{append_assoc, cond, drop, length, length-append, refl, take}
use Rattle.std.proofs.lemmas.Bool.{and_parts}
use Rattle.std.proofs.lemmas.List.{take-append-drop}
use Rattle.std.proofs.Math.Seq.{take-append_seam}
use Rattle.std.specs.Char.{is_ascii_digit}
use Rattle.std.specs.List.{after_first, list_all}
use Rattle.cdxj_places.proofs.PairLemmas.{around}
use Rattle.cdxj_places.specs.Pair.{begins_with_pair, begins_with_space, is_key, is_key_byte, is_space, is_stamp, key_part}
use Rattle.cdxj_places.specs.Pair.{pair_of, stamp_part, tail_part}
use Rattle.page_core.specs.Rows.{escaped, is_hidden}

-- ---- what isn't escaped

all_shown : (p : ℕ → Bool) → ((b : ℕ) → p b ≡ true → is_hidden b ≡ false) → (xs : List ℕ) → list_all p xs ≡ true
    → escaped xs ≡ xs
all_shown p f [] h = refl
all_shown p f (x ∷ xs) h =
    let both = and_parts (p x) (list_all p xs) h in
    let shown = f x both.0 in
    grind (arith, all_shown p f xs both.1)

key_byte_shown : (b : ℕ) → is_key_byte b ≡ true → is_hidden b ≡ false
key_byte_shown b h = grind arith

digit_shown : (b : ℕ) → is_ascii_digit b ≡ true → is_hidden b ≡ false
digit_shown b h = grind arith

key_shown : (key : List ℕ) → is_key key ≡ true → escaped key ≡ key
key_shown key h = all_shown is_key_byte key_byte_shown key (grind arith)

stamp_shown : (stamp : List ℕ) → is_stamp stamp ≡ true → escaped stamp ≡ stamp
stamp_shown stamp h = all_shown is_ascii_digit digit_shown stamp (grind arith)

-- ---- the front of a line

has_pair : (t : List ℕ) (p : List ℕ × List ℕ) (b : Bool) → begins_with_pair t ≡ b
    → cond b (Some (key_part t, stamp_part t)) None ≡ Some p
    → (begins_with_pair t ≡ true) × ((key_part t, stamp_part t) ≡ p)
has_pair t p b e h = grind arith

tail_some : (s : List ℕ) → begins_with_space s ≡ true → 0 < length s
tail_some s h = grind arith

-- the front that has this length
cut_at : (t front rest : List ℕ) (n : ℕ) → t ≡ front ++ rest → n ≡ length front → (n ≤ length t) × (take n t ≡ front)
cut_at t front rest n e l = grind (arith, length-append, take-append_seam)

pub pair_front : (t key stamp : List ℕ) → pair_of t ≡ Some (key, stamp) → (length key + 1 + length stamp ≤ length t)
    × (take (length key + 1 + length stamp) t ≡ escaped key ++ 32 ∷ escaped stamp)
pair_front t key stamp h =
    let has = has_pair t (key, stamp) (begins_with_pair t) refl h in
    let outer = and_parts (is_key (key_part t) && is_stamp (stamp_part t)) (begins_with_space (tail_part t)) has.0 in
    let inner = and_parts (is_key (key_part t)) (is_stamp (stamp_part t)) outer.0 in
    let after = after_first is_space t in
    let some : 0 < length after = grind (arith, tail_some (tail_part t) outer.1) in
    let text : t ≡ (key ++ 32 ∷ stamp) ++ drop 14 after =
    grind (arith, around t some, take-append-drop, append_assoc) in
    let keys = key_shown key (grind arith) in
    let stamps = stamp_shown stamp (grind arith) in
    let cut = cut_at t (key ++ 32 ∷ stamp) (drop 14 after) (length key + 1 + length stamp) text (grind (arith, length-append)) in
    grind arith
