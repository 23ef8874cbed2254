use Rattle.std.proofs.Common.{arith, ◌≡◌, false, List, ℕ, bytes_eq, refl}
use Rattle.std.proofs.lemmas.Slice.Eq.{bytes_eq-Decides}
use Rattle.command_line.proofs.matches.command_task.Goals as goal

other : (name word : List ℕ) → (name ≡ word → ⊥) → bytes_eq word name ≡ false
other name word differ = grind (arith, bytes_eq, bytes_eq-Decides)

pub returns-in_default : goal.returns-in_default
returns-in_default c =
    let d = c.in_default in
    rw (
      other _ _ d.not-list,
      other _ _ d.not-verify,
      other _ _ d.not-index,
      other _ _ d.not-merge,
      other _ _ d.not-check,
      other _ _ d.not-query,
      other _ _ d.not-pages,
      other _ _ d.not-serve,
      other _ _ d.not-get,
      other _ _ d.not-scan,
    ) refl
