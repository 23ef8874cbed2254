-- Values that JSON writes without escapes.
use Rattle.std.proofs.Common.{arith, ◌≡◌, List, [], ◌∷◌, ◌++◌, ℕ, true, append_assoc, map, flat_map, refl}
use Rattle.std.specs.List.{join_by, list_all}
use Rattle.json.specs.Print.{quoted}
use Rattle.json.specs.Run.{is_plain}
use Rattle.cdxj_objects.proofs.PlainLaw.{escape_plain}
use Rattle.page_core.specs.Rows.{between_quotes}

quoted_plain : (text : List ℕ) → list_all is_plain text ≡ true → between_quotes text ≡ quoted text
quoted_plain text h = grind (arith, escape_plain)

module _ {X : Type 0} (value : X → List ℕ) (plain : (x : X) → list_all is_plain (value x) ≡ true) where
  later_plain : (xs : List X) → flat_map (λ t. (44 ∷ []) ++ between_quotes t) (map value xs) ≡ flat_map (λ t. (44 ∷ [])
      ++ quoted t) (map value xs)
  later_plain [] = refl
  later_plain (x ∷ xs) = λ i. ((44 ∷ []) ++ quoted_plain (value x) (plain x) i) ++ later_plain xs i

  pub values_plain : (xs : List X) → join_by between_quotes (44 ∷ []) (map value xs) ≡ join_by quoted (44 ∷ [])
      (map value xs)
  values_plain [] = refl
  values_plain (x ∷ xs) = λ i. quoted_plain (value x) (plain x) i ++ later_plain xs i

-- with a quote, a comma and a quote before each, and a quote at the end, each stands between quotes
pub between_each : {X : Type 0} (value : X → List ℕ) (xs : List X) → flat_map (λ x. (34 ∷ 44 ∷ 34 ∷ []) ++ value x) xs
    ++ 34 ∷ [] ≡ 34 ∷ flat_map (λ t. (44 ∷ []) ++ between_quotes t) (map value xs)
between_each value [] = refl
between_each value (x ∷ xs) = grind (arith, append_assoc, between_each value xs)
