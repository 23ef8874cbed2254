-- What comes next in an archive of any form.
use Rattle.index_core.proofs.Words.{◌≡◌, ℕ, ◌<◌, List, None, Option, Some, arith}
use Rattle.archives.specs.Form.{Form, ComesRecord, IsLawful, Placed, StandsFrom, Stored, end_of, placed_of}

module _ (form : Form) (offset : ℕ) (p : Placed) where
  -- of the record that comes holds what follows from what is known of it
  pub ComesRecord-map : (P Q : Stored → Type 0) (before after : Option (List ℕ))
      → ((r : Stored) → placed_of r ≡ p → P r → Q r) → ComesRecord form offset p P before after
      → ComesRecord form offset p Q before after
  ComesRecord-map P Q None after f c = tt
  ComesRecord-map P Q (Some bytes) after f (r, same, comes, k) = (r, same, comes, f r same k)

  -- a record ends behind the offset from which it is found
  pub ends_behind : IsLawful form → StandsFrom form offset p → offset < end_of p.place
  ends_behind law s =
      let from = law.onward offset p.place.offset s.follows in
      let filled = s.filled in
      omega arith
