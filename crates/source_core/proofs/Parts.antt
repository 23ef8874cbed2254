use Rattle.source_core.proofs.Words.{[], ℕ, ◌++◌, ◌+◌, ◌-◌, ◌<◌, ◌∙◌, ◌∷◌, ◌≡◌, ◌≤◌, AreBytesAt, List, NoFeed, Option}
use Rattle.source_core.proofs.Words.{PartOf, append-nil, append_assoc, ap₂, arith, drop, drop-drop, drop-take, drop_all}
use Rattle.source_core.proofs.Words.{false, length, length-drop, lines, refl, sym, take, take-append-drop, take-take}
use Rattle.source_core.proofs.Words.{take_all, true}

-- a line that ends with its LF
pub lines_front : (u v : List ℕ) → NoFeed u → lines (u ++ 10 ∷ v) ≡ (u ++ 10 ∷ []) ∷ lines v
lines_front [] v h = refl
lines_front (b ∷ u) v h = grind (arith, lines_front u v h.1)

-- one that the end cuts
pub lines_last : (b : ℕ) (u : List ℕ) → NoFeed (b ∷ u) → lines (b ∷ u) ≡ (b ∷ u) ∷ []
lines_last b [] h = grind arith
lines_last b (c ∷ u) h = grind (arith, lines_last c u h.1)

pub no_feed-append : (u v : List ℕ) → NoFeed u → NoFeed v → NoFeed (u ++ v)
no_feed-append [] v h k = k
no_feed-append (b ∷ u) v h k = (h.0, no_feed-append u v h.1 k)

-- What is held of a text from an offset on, and n bytes of it
module _ (t held : List ℕ) (m at n : ℕ) (bytes : held ≡ take m (drop at t)) (inside : n ≤ m) where
  pub here : drop at t ≡ take n held ++ drop (at + n) t
  here = sym (take-append-drop n (drop at t)) ∙ ap₂ (λ u v. u ++ v) (grind (arith, take-take)) (drop-drop n at t)

  pub left : drop n held ≡ take (m - n) (drop (at + n) t)
  left = let e : n + (m - n) ≡ m = omega arith in grind (arith, drop-take, drop-drop)

  -- the line that ends here
  pub ended : (at0 : ℕ) (line : List ℕ) → drop at0 t ≡ line ++ drop at t → NoFeed line → PartOf held n true
      → lines (drop at0 t) ≡ (line ++ take n held) ∷ lines (drop (at + n) t)
  ended at0 line e f p = grind (arith, here, append_assoc, lines_front, no_feed-append)

  -- the line goes on
  pub goes_on : (at0 : ℕ) (line : List ℕ) → drop at0 t ≡ line ++ drop at t → NoFeed line → PartOf held n false
      → (drop at0 t ≡ (line ++ take n held) ++ drop (at + n) t) × NoFeed (line ++ take n held)
  goes_on at0 line e f p = grind (arith, here, append_assoc, no_feed-append, take_all)

-- at the end
pub cut_short : (t : List ℕ) (at0 at : ℕ) (line : List ℕ) → drop at0 t ≡ line ++ drop at t → NoFeed line → length t
    ≡ at → 0 < length line → lines (drop at0 t) ≡ line ∷ lines (drop at t)
cut_short t at0 at [] e f l h = absurd (omega arith)
cut_short t at0 at (b ∷ u) e f l h = grind (arith, drop_all, append-nil, lines_last)

-- one line more was given
pub given_more : {X : Type 0} (all now later : List X) (l : X) (n : ℕ) → now ≡ drop n all → now ≡ l ∷ later → later
    ≡ drop (n + 1) all
given_more all now later l n e f = grind (arith, drop-drop 1 n all)

-- n bytes of those held were given out
pub given_out : (text : Option (List ℕ)) (extent at n : ℕ) (held : List ℕ) → AreBytesAt text extent at held
    → n ≤ length held → AreBytesAt text extent (at + n) (drop n held)
given_out text extent at n held f l = grind (arith, length-drop, left)
