-- An option of a command, and the words beside it.
use Rattle.std.proofs.Common.{arith, refl, ◌≡◌, ◌⊎◌, inl, inr, List, ◌∷◌, Bool, true, false, codes}
use Rattle.std.proofs.lemmas.Slice.Eq.{bytes_eq-Decides}
use Rattle.command_line.specs.Words.{Text}
use Rattle.command_line.specs.Commands.{takes_option, other_words}

-- the words are a command and its option
pub record IsTaken (command option word name : Text) : Type 0 where
  pub named : word ≡ command
  pub taken : name ≡ option

pub taken : (word option : Text) → takes_option word option ≡ true
    → IsTaken (codes "index") (codes "--types") word option
    ⊎ (IsTaken (codes "scan") (codes "--types") word option ⊎ IsTaken (codes "get") (codes "--length") word option)
taken word option h = grind (arith, bytes_eq-Decides)

-- an option directly after a command that takes it
pub record IsChoice (word option : Text) (rest : List Text) : Type 0 where
  pub takes : takes_option word option ≡ true
  pub others : other_words (word ∷ option ∷ rest) ≡ rest

pub choice : (word option : Text) (rest : List Text) → IsChoice word option rest
    ⊎ (other_words (word ∷ option ∷ rest) ≡ word ∷ option ∷ rest)
choice word option rest = go (takes_option word option) refl
  where
    go : (b : Bool) → takes_option word option ≡ b → IsChoice word option rest
        ⊎ (other_words (word ∷ option ∷ rest) ≡ word ∷ option ∷ rest)
    go true e = inl (record { takes = e; others = rw e refl })
    go false e = inr (rw e refl)
