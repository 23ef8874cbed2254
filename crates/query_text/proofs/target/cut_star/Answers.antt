use Rattle.std.proofs.Common.{◌≡◌, ◌≢◌, ◌-◌, ◌==◌, ℕ, suc, false, List, [], ◌∷◌, ◌++◌, None, length, slice_index, refl}
use Rattle.std.proofs.Common.{ap, ◌∙◌, arith}
use Rattle.std.proofs.lemmas.Bool.{ne_eqb}
use Rattle.std.proofs.lemmas.Str.Pattern.{strip_suffix_char}
use Rattle.query_text.specs.Targets.{ends_with_star}
use Rattle.query_text.proofs.target.cut_star.Goals as goal

no_star : (text : List ℕ) → ((front : List ℕ) → text ≢ front ++ 42 ∷ []) → ends_with_star text ≡ false
no_star [] h = refl
no_star (b ∷ []) h = ne_eqb b 42 (λ e. h [] (ap (λ x. x ∷ []) e))
no_star (b ∷ c ∷ bytes) h =
    let last : length (b ∷ c ∷ bytes) - 1 ≡ suc (length (c ∷ bytes) - 1) = omega arith in
    ap (λ n. slice_index (b ∷ c ∷ bytes) n == 42) last
    ∙ no_star (c ∷ bytes) (λ front e. h (b ∷ front) (ap (λ l. b ∷ l) e))

pub returns-in-None : goal.returns-in-None
returns-in-None c =
    grind (
      arith,
      no_star c.args.text.now
          (strip_suffix_char 42 c.args.text.now None c.in-None.ensures.cases (omega arith)),
    )
