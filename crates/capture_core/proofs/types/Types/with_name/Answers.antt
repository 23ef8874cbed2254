use Rattle.std.proofs.Common.{arith, ◌≡◌, false, List, ℕ, bytes_eq, refl}
use Rattle.std.proofs.lemmas.Slice.Eq.{bytes_eq-Decides}
use Rattle.capture_core.specs.Types.{with_name}
use Rattle.capture_core.proofs.types.Types.with_name.Goals as goal

other : (kind name : List ℕ) → (name ≡ kind → ⊥) → bytes_eq kind name ≡ false
other kind name differ = grind (arith, bytes_eq-Decides)

pub returns-in_default : goal.returns-in_default
unfolding with_name
returns-in_default c =
    let d = c.in_default in
    rw (
      other _ _ d.not-response,
      other _ _ d.not-resource,
      other _ _ d.not-revisit,
      other _ _ d.not-conversion,
      other _ _ d.not-metadata,
    ) refl
