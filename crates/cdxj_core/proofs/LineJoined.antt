-- The line of an entry, piece after piece.
use Rattle.std.proofs.Common.{◌≡◌, ℕ, List, [], ◌∷◌, ◌++◌, append_assoc, arith}

abbrev pub line_with : List ℕ → List ℕ → List ℕ → List ℕ
line_with key stamp object = (key ++ 32 ∷ (stamp ++ 32 ∷ object)) ++ 10 ∷ []

pub joined_line : (key stamp object start front body line : List ℕ) → start ≡ key → front ≡ start ++ 32
    ∷ (stamp ++ 32 ∷ []) → body ≡ front ++ object → line ≡ body ++ 10 ∷ [] → line ≡ line_with key stamp object
joined_line key stamp object start front body line s f b l = grind (arith, append_assoc)
