-- Where the first line feed of a piece stands.
use Rattle.std.proofs.Common.{◌≡◌, ℕ, zero, suc, ◌+◌, ◌<◌, ◌≤◌, List, [], ◌∷◌, ◌++◌, length, take, drop, get_or}
use Rattle.std.proofs.Common.{ap, subst, arith, eqb, eqb-true, false, Option, Some, None}
use Rattle.std.proofs.lemmas.List.{take_all}
use Rattle.std.specs.Prelude.{MatchOption}
use Rattle.memchr.specs.Find.{is_byte, IsFirstByte}
use Rattle.devices.specs.LineCuts.{HasNoLineFeed}

no_line_feed_at : (n : ℕ) (u : List ℕ) → n ≤ length u → ((k : ℕ) → k < n → eqb (get_or u k 0) 10 ≡ false)
    → HasNoLineFeed (take n u)
no_line_feed_at zero u l h = tt
no_line_feed_at (suc n) [] l h = tt
no_line_feed_at (suc n) (b ∷ u) l h =
    (h 0 (omega arith), no_line_feed_at n u (omega arith) (λ k l. h (suc k) (omega arith)))

parted_at_line_feed : (k : ℕ) (u : List ℕ) → k < length u → get_or u k 0 ≡ 10 → u ≡ take k u ++ 10 ∷ drop (k + 1) u
parted_at_line_feed k [] l e = absurd (omega arith)
parted_at_line_feed zero (b ∷ u) l e = ap (λ b. b ∷ u) e
parted_at_line_feed (suc k) (b ∷ u) l e = grind (arith, parted_at_line_feed k u (omega arith) e)

pub first_line_feed : (piece : List ℕ) (r : Option ℕ) → IsFirstByte (is_byte 10) piece r
    → MatchOption r (HasNoLineFeed piece) (λ at. (at < length piece) × HasNoLineFeed (take at piece)
    × (piece ≡ take at piece ++ 10 ∷ drop (at + 1) piece))
first_line_feed piece None h =
    subst HasNoLineFeed (take_all (length piece) piece (omega arith)) (grind (arith, no_line_feed_at, eqb))
first_line_feed piece (Some i) (h, e) = grind (arith, no_line_feed_at, eqb, parted_at_line_feed, eqb-true)
