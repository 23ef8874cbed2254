-- Archives of which nothing was read, one more at a time.
use Rattle.std.proofs.Common.{List, [], ◌∷◌, ◌++◌}
use Rattle.std.specs.List.{AllByRecursion}

pub all_more : {X : Type 0} (P : X → Type 0) (xs : List X) (x : X) → AllByRecursion P xs → P x
    → AllByRecursion P (xs ++ x ∷ [])
all_more P [] x all more = (more, tt)
all_more P (y ∷ xs) x all more = (all.0, all_more P xs x all.1 more)
