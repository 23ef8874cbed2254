-- The names of archives, as the keys of a set.
use Rattle.index_core.proofs.Words.{arith, ◌≡◌, ℕ, List, [], ◌∷◌, ◌++◌, map, refl, is_among}
use Rattle.std.proofs.Common.{false, if◌then◌else◌}
use Rattle.std.specs.List.{list_any}
use Rattle.std.specs.Str.{bytes_eq}
use Rattle.std.proofs.lemmas.Bool.{cond-false}
use Rattle.std.proofs.lemmas.List.{map-append}

module _ {K : Type 0} (text : K → List ℕ) where
  -- a name is among the texts of the keys that are compared with it
  pub among_texts : (keys : List K) (name : List ℕ) → is_among (map text keys) name
      ≡ list_any (λ key. bytes_eq name (text key)) keys
  among_texts [] name = refl
  among_texts (key ∷ keys) name = grind (arith, among_texts keys name)

  -- a key whose text isn't among those of the others goes last
  pub new_goes_last : (keys new : List K) (key : K) → is_among (map text keys) (text key) ≡ false
      → new ≡ (if list_any (λ other. bytes_eq (text key) (text other)) keys then keys else keys ++ key ∷ [])
      → map text new ≡ map text keys ++ text key ∷ []
  new_goes_last keys new key absent is = grind (arith, cond-false, among_texts, map-append)
