-- The order of pairs is total, and the starts of pairs decide as the pairs do.
use Rattle.merge_core.proofs.Words.{[], ℕ, ◌++◌, ◌+◌, ◌∷◌, ◌≡◌, ◌≤◌, AreBytes, Below, Equal, Fits, IsStart, LINE_LIMIT}
use Rattle.merge_core.proofs.Words.{List, Member, Ordering, Pair, Some, Upto, and_parts, ap, append_assoc, arith, false}
use Rattle.merge_core.proofs.Words.{get_or, is_gt, is_lt, length, length-append, line_entry, list_all, member_pair}
use Rattle.merge_core.proofs.Words.{nat_cmp, nat_lt, ordering_then, pair_cmp, pair_cmp_total, pair_text, slice_cmp, suc}
use Rattle.merge_core.proofs.Words.{take, tied_back, tied_itself, true, w8}
use Rattle.std.proofs.Math.Seq.{take-append_seam}
use Rattle.cdxj_places.specs.{Abbreviated.padded, Abbreviated.words_cmp, Pair.is_key, Pair.is_key_byte}
use Rattle.cdxj_places.proofs.Abbreviations.{start_words_decide, then_associates}
use Rattle.cdxj_core.proofs.MemberLemmas.{entry_valued}

-- ---- the order of pairs is total

pub below_upto : (p q : Pair) → Below p q → Upto p q
below_upto p q h = ap is_gt h

pub same_upto : (p q : Pair) → pair_cmp p q ≡ Equal → Upto p q
same_upto p q h = ap is_gt h

pub same_from : (p q : Pair) → pair_cmp p q ≡ Equal → Upto q p
same_from p q h = ap is_gt (tied_back pair_cmp_total p q h)

pub upto_itself : (p : Pair) → Upto p p
upto_itself p = ap is_gt (tied_itself pair_cmp_total p)

pub from_not_below : (p q : Pair) → is_lt (pair_cmp p q) ≡ false → Upto q p
from_not_below p q h = grind (arith, same_from, pair_cmp_total)

pub below_below : (p q r : Pair) → Below p q → Below q r → Below p r
below_below p q r h k = pair_cmp_total.trans p q r h k

pub below_then : (p q r : Pair) → Below p q → Upto q r → Below p r
below_then p q r h k = grind (arith, pair_cmp_total)

pub then_below : (p q r : Pair) → Upto p q → Below q r → Below p r
then_below p q r h k = grind (arith, pair_cmp_total)

pub upto_upto : (p q r : Pair) → Upto p q → Upto q r → Upto p r
upto_upto p q r h k = grind (arith, below_upto, below_then, pair_cmp_total)

pub not_below_itself : (p q : Pair) → Below p q → Upto q p → ⊥
not_below_itself p q h k = grind (arith, pair_cmp_total, tied_back)

-- ---- the starts of pairs decide as the pairs do

-- the space behind a key is below each byte of a key
texts_order : (k l s t : List ℕ) → list_all is_key_byte k ≡ true → list_all is_key_byte l ≡ true
    → slice_cmp nat_cmp (pair_text (k, s)) (pair_text (l, t)) ≡ pair_cmp (k, s) (l, t)
texts_order (x ∷ k) (y ∷ l) s t g h = grind (arith, then_associates, texts_order k l s t)
texts_order k l s t g h = grind arith

key_bytes : (k : List ℕ) → is_key k ≡ true → list_all is_key_byte k ≡ true
key_bytes k h = (and_parts (nat_lt 0 (length k)) _ h).1

pub starts_decide : (p q : Pair) (s t : ℕ × ℕ) → IsStart s p → IsStart t q
    → ordering_then (words_cmp s t) (pair_cmp p q) ≡ pair_cmp p q
starts_decide p q s t g h =
    let decide = start_words_decide 16 (pair_text p) (pair_text q) g.1 h.1 in grind (arith, key_bytes, texts_order)

-- a list that is long enough needs no zeros
pub padded_long : (n : ℕ) (xs : List ℕ) → n ≤ length xs → take n xs ≡ padded n xs
padded_long (suc n) (x ∷ xs) h = grind (arith, padded_long n xs)
padded_long n xs h = grind arith

-- the numbers of a list of bytes
pub are_bytes : (xs : List ℕ) → ((i : ℕ) → Fits w8 (get_or xs i 0)) → AreBytes xs
are_bytes [] h = tt
are_bytes (x ∷ xs) h = (let first : Fits w8 x = h 0 in omega arith, are_bytes xs (λ i. h (suc i)))

-- where the first order tells two things apart, it decides
pub decided : (first whole : Ordering) → (first ≡ Equal → ⊥) → ordering_then first whole ≡ whole → first ≡ whole
decided first whole apart e = grind arith

-- a line that begins with its pair
pub record Begins (m : Member) : Type 0 where
  pub size : length (pair_text (member_pair m)) ≡ length m.values.key + 15
  pub key : is_key m.values.key ≡ true
  pub text : take (length m.values.key + 15) m.line ≡ pair_text (member_pair m)

pub begins : (line : List ℕ) (m : Member) → line_entry LINE_LIMIT line ≡ Some m → Begins m
begins line m h =
    let valued = entry_valued LINE_LIMIT line m h in
    let line_is : m.line ≡ pair_text (member_pair m) ++ 32 ∷ valued.object = grind (arith, append_assoc) in
    let size : length (pair_text (member_pair m)) ≡ length m.values.key + 15 = grind (arith, length-append) in
    grind (arith, take-append_seam)
