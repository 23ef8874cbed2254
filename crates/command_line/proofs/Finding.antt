-- The first word that passes a test, as a text.
use Rattle.std.proofs.Common.{arith, refl, ◌≡◌, List, [], ◌∷◌, Option, Some, Bool, true, false, String}
use Rattle.std.proofs.Common.{string_bytes, option_map, find, is_some}
use Rattle.std.specs.Global.{Global}
use Rattle.std.specs.List.{list_any}
use Rattle.command_line.specs.Words.{Text}

pub in_turn : {A : Type 0} (o : Option A) (f : A → String Global) → option_map (λ x. string_bytes (f x)) o
    ≡ option_map string_bytes (option_map f o)
in_turn o f = grind arith

-- a word passes the test where one is found
pub any_found : (test : Text → Bool) (words : List Text) (found : Option Text) → found ≡ find test words
    → list_any test words ≡ is_some found
any_found test [] found h = rw h refl
any_found test (word ∷ words) found h = go (test word) refl h (any_found test words found)
  where
    go : (b : Bool) → test word ≡ b → found ≡ find test (word ∷ words)
        → (found ≡ find test words → list_any test words ≡ is_some found) → list_any test (word ∷ words) ≡ is_some found
    go true e h rest = grind arith
    go false e h rest = grind arith

-- what is found passes the test
pub found_passes : (test : Text → Bool) (words : List Text) (word : Text) → find test words ≡ Some word → test word
    ≡ true
found_passes test [] word h = cc
found_passes test (first ∷ words) word h = go (test first) refl h (found_passes test words word)
  where
    go : (b : Bool) → test first ≡ b → find test (first ∷ words) ≡ Some word
        → (find test words ≡ Some word → test word ≡ true) → test word ≡ true
    go true e h rest = grind arith
    go false e h rest = rest (rw e at h)
