-- The pair of a line, and the order of pairs.
use Rattle.std.proofs.Common.{◌≡◌, ℕ, ◌<◌, ◌&&◌, Bool, true, cond, List, ◌∷◌, ◌++◌, length, take, Some}
use Rattle.std.proofs.Common.{None, get_or, refl, sym, ap, ◌∙◌, arith, append_assoc}
use Rattle.std.specs.List.{position_or_len, before_first, after_first}
use Rattle.std.specs.Cmp.{IsTotalOrder}
use Rattle.std.proofs.lemmas.Bool.{and_parts, eqb-true, cases_lt}
use Rattle.std.proofs.lemmas.Cmp.{nat_list_cmp_total}
use Rattle.std.proofs.lemmas.List.{length-append, drop_all}
use Rattle.std.proofs.lemmas.List.Sums.{split_at_first, passes_at_first}
use Rattle.std.proofs.Math.Seq.{take-append_seam}
use Rattle.cdxj_places.specs.Pair.{is_space, is_key, is_stamp, key_part, stamp_part, tail_part, begins_with_space}
use Rattle.cdxj_places.specs.Pair.{begins_with_pair, pair_of}
use Rattle.cdxj_places.specs.Pairs.{Pair, pair_cmp}
use Rattle.cdxj_places.proofs.PlaceLaw.{key_no_space, before_first_at, after_first_at}

-- ---- the pair of a text

-- a key, a space, a stamp and a space begin with the pair
pub pair_of-parts : (key stamp rest : List ℕ) → is_key key ≡ true → is_stamp stamp ≡ true
    → pair_of (key ++ 32 ∷ (stamp ++ 32 ∷ rest)) ≡ Some (key, stamp)
pair_of-parts key stamp rest k s =
    let free = key_no_space key k in
    let tail = stamp ++ 32 ∷ rest in
    let before = before_first_at key tail free in
    let after = after_first_at key tail free in
    let len : length stamp ≡ 14 = eqb-true _ _ (and_parts _ _ s).0 in
    let stamp_is : stamp_part (key ++ 32 ∷ tail) ≡ stamp = ap (take 14) after ∙ ap (λ n. take n tail) (sym len)
    ∙ take-append_seam stamp (32 ∷ rest) in
    grind arith

-- the text around its first space, unless nothing follows one
pub around : (text : List ℕ) → 0 < length (after_first is_space text) → text ≡ before_first is_space text
    ++ 32 ∷ after_first is_space text
around text some =
    let within : position_or_len is_space text < length text =
    grind (arith, drop_all, cases_lt) in
    let space : get_or text (position_or_len is_space text) 0 ≡ 32 =
    eqb-true _ _ (passes_at_first is_space text 0 within) in
    grind (arith, split_at_first, text)

space_first : (s : List ℕ) → begins_with_space s ≡ true → (rest : List ℕ) × (s ≡ 32 ∷ rest)
space_first s h = grind (arith, eqb-true)

has_pair : (x : List ℕ) (p : Pair) (b : Bool) → begins_with_pair x ≡ b → cond b (Some (key_part x, stamp_part x)) None ≡
    Some p
    → (begins_with_pair x ≡ true) × (Some (key_part x, stamp_part x) ≡ Some p)
has_pair x p b e h = grind arith

-- what a text with a pair is
record Begun (x : List ℕ) : Type 0 where
  key : is_key (key_part x) ≡ true
  stamp : is_stamp (stamp_part x) ≡ true
  rest : List ℕ
  text : x ≡ key_part x ++ 32 ∷ (stamp_part x ++ 32 ∷ rest)
  pair : Some (key_part x, stamp_part x) ≡ pair_of x

begun : (x : List ℕ) (p : Pair) → pair_of x ≡ Some p → Begun x
begun x p h =
    let has = has_pair x p (begins_with_pair x) refl h in
    let outer = and_parts (is_key (key_part x) && is_stamp (stamp_part x)) (begins_with_space (tail_part x)) has.0 in
    let inner = and_parts (is_key (key_part x)) (is_stamp (stamp_part x)) outer.0 in
    let after = after_first is_space x in
    let tail = space_first (tail_part x) outer.1 in
    let after_is : after ≡ stamp_part x ++ 32 ∷ tail.0 = grind arith in
    let some : 0 < length after = omega (arith, ap length after_is, length-append (stamp_part x) (32 ∷ tail.0)) in
    record {
      key = inner.0;
      stamp = inner.1;
      rest = tail.0;
      text = around x some ∙ ap (λ s. key_part x ++ 32 ∷ s) after_is;
      pair = has.1 ∙ sym h;
    }

-- the pair of a text is that of each longer text
pub pair_longer : (x y : List ℕ) (p : Pair) → pair_of x ≡ Some p → pair_of (x ++ y) ≡ Some p
pair_longer x y p h =
    let b = begun x p h in
    grind (arith, append_assoc, pair_of-parts)

-- ---- the order of pairs

pub pair_cmp_total : IsTotalOrder pair_cmp
pair_cmp_total = grind (arith, nat_list_cmp_total)
