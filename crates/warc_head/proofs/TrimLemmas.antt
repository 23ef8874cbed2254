-- White space at the ends of a text, and where the text between it stands.
use Rattle.warc_head.proofs.Words.{◌≡◌, ℕ, ◌+◌, ◌-◌, ◌≤◌, true, false, List, [], ◌∷◌, ◌++◌, length}
use Rattle.warc_head.proofs.Words.{drop, refl, ap, arith, length-append, append_assoc}
use Rattle.warc_head.proofs.Words.{if◌then◌else◌, take-append-drop, drop-drop, drop-append_seam}
use Rattle.warc_head.proofs.Words.{take-append_seam, between}
use Rattle.std.proofs.Common.{reverse}
use Rattle.std.proofs.lemmas.List.{reverse-append, reverse-reverse, length-drop, length-take-le}
use Rattle.warc_head.specs.Lines.{is_white_space, trim_front, trim_end}
use Rattle.warc_head.specs.Spans.{IsTrimmed}

trimmed_front : (bs : List ℕ) → (before : List ℕ) × (bs ≡ before ++ trim_front bs)
trimmed_front [] = ([], refl)
trimmed_front (b ∷ bs) =
    let p = trimmed_front bs in
    elim (is_white_space b) as
    (λ t. (before : List ℕ) × (b ∷ bs ≡ before ++ (if t then trim_front bs else b ∷ bs))) [
      | true ↦ (b ∷ p.0, ap (λ t. b ∷ t) p.1)
      | false ↦ ([], refl)
    ]

trimmed_end : (bs : List ℕ) → (after : List ℕ) × (bs ≡ trim_end bs ++ after)
trimmed_end bs =
    let p = trimmed_front (reverse bs) in
    (reverse p.0, grind (arith, reverse-reverse, reverse-append))

-- the bytes between two offsets, of which some in front and some behind are left out
between_part : (text : List ℕ) (from to : ℕ) (before middle after : List ℕ) → between from to text ≡ before
    ++ (middle ++ after)
    → between (from + length before) (from + length before + length middle) text ≡ middle
between_part text from to before middle after e =
    let rest = drop (to - from) (drop from text) in
    let size : from + length before + length middle - (from + length before) ≡ length middle = omega arith in
    let whole : drop from text ≡ before ++ (middle ++ (after ++ rest)) =
    grind (arith, take-append-drop, append_assoc) in
    let behind = drop-drop (length before) from text in
    grind (arith, size, drop-append_seam, take-append_seam)

-- where the bytes between two offsets stand without the white space at both ends
module _ (text : List ℕ) (from to : ℕ) (order : from ≤ to) (within : to ≤ length text)
    (front end : List ℕ) (front_is : front ≡ trim_front (between from to text)) (end_is : end ≡ trim_end front) where
  abbrev bytes : List ℕ
  bytes = between from to text

  abbrev before : List ℕ
  before = (trimmed_front bytes).0

  abbrev after : List ℕ
  after = (trimmed_end front).0

  front_whole : front ≡ end ++ after
  front_whole = grind arith

  whole : bytes ≡ before ++ front
  whole = grind arith

  size : to - from ≡ length before + length front
  size = grind (arith, length-take-le, length-drop, length-append before front, ap length whole)

  end_size : length front ≡ length end + length after
  end_size = grind (arith, front_whole, length-append)

  pub front_fits : length front ≤ to
  front_fits = omega (arith, size)

  pub is_trimmed : IsTrimmed text from to (to - length front) (to - length front + length end)
  is_trimmed =
      let start : from + length before ≡ to - length front = omega (arith, size, order) in
      grind (arith, size, end_size, between_part, whole, front_whole)
