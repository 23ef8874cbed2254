-- A line cut at its spaces.
use Rattle.std.proofs.Common.{arith, ◌≡◌, ℕ, true, List, ◌∷◌, ◌++◌}
use Rattle.std.specs.List.{before_first, after_first}
use Rattle.cdxj_places.specs.Pair.{is_key, is_space, is_stamp}
use Rattle.cdxj_places.proofs.PlaceLaw.{before_first_at, after_first_at, digits_no_space, key_no_space}

-- a stamp and a space cut a text at its first space
pub first_stamp : (text stamp rest : List ℕ) → (text ≡ stamp ++ 32 ∷ rest) × (is_stamp stamp ≡ true)
    → (before_first is_space text ≡ stamp) × (after_first is_space text ≡ rest)
first_stamp text stamp rest cut = grind (arith, digits_no_space, before_first_at, after_first_at)

-- a key and a space cut a text at its first space
pub first_key : (text key rest : List ℕ) → text ≡ key ++ 32 ∷ rest → is_key key ≡ true
    → (before_first is_space text ≡ key) × (after_first is_space text ≡ rest)
first_key text key rest cut good = grind (arith, key_no_space, before_first_at, after_first_at)
