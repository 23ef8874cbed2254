-- Walks over the records of an archive of any form.
use Rattle.archives.proofs.Words.{◌≡◌, ℕ, ◌≤◌, ◌⊎◌, List, [], ◌∷◌, ◌++◌, Some}
use Rattle.archives.proofs.Words.{Ok, append-nil, arith, refl}
use Rattle.archives.specs.Form.{Form, Stored, IsLawful, WalksOver, end_of}

module _ (form : Form) where
  -- the walk to gs at p, with t left, is that to hs at o, with r left, and more
  abbrev pub GoesOnFrom : List Stored → List Stored → ℕ → ℕ → List ℕ → List ℕ → Type 0
  GoesOnFrom hs gs o p r t = (more : List Stored) × (gs ≡ hs ++ more) × WalksOver form o r more p t

  -- of two walks from one place, one goes on where the other stopped
  pub two_walks : (start : ℕ) (bytes : List ℕ) (hs gs : List Stored) (o p : ℕ) (r t : List ℕ)
      → WalksOver form start bytes hs o r → WalksOver form start bytes gs p t
      → GoesOnFrom hs gs o p r t ⊎ GoesOnFrom gs hs p o t r
  two_walks start bytes (h ∷ hs) (g ∷ gs) o p r t v w =
      grind (arith, two_walks (end_of h.place) v.0 hs gs o p r t)
  two_walks start bytes hs gs o p r t v w = grind arith

  -- one record further
  pub walks_more : (start : ℕ) (bytes : List ℕ) (hs : List Stored) (o : ℕ) (rest : List ℕ) (r : Stored) (l : List ℕ)
      → WalksOver form start bytes hs o rest → form.next o rest ≡ Ok (Some r, l)
      → WalksOver form start bytes (hs ++ r ∷ []) (end_of r.place) l
  walks_more start bytes (g ∷ hs) o rest r l w e =
      grind (arith, walks_more (end_of g.place) w.0 hs o rest r l)
  walks_more start bytes [] o rest r l w e = grind arith

-- ---- forms that keep the laws

module _ (form : Form) (law : IsLawful form) where
  -- a walk ends where it began, or behind
  walk_onward : (start : ℕ) (bytes : List ℕ) (records : List Stored) (end : ℕ) (rest : List ℕ)
      → WalksOver form start bytes records end rest → start ≤ end
  walk_onward start bytes [] end rest w = omega arith
  walk_onward start bytes (r ∷ records) end rest w =
      let from = law.onward start r.place.offset (law.found start bytes w.0 r w.1) in
      let on = walk_onward (end_of r.place) w.0 records end rest w.2 in
      omega arith

  -- a walk that ends where it began is over no records
  walk_nowhere : (o : ℕ) (more : List Stored) (r t : List ℕ) → WalksOver form o r more o t → more ≡ []
  walk_nowhere o [] r t w = refl
  walk_nowhere o (h ∷ more) r t w =
      let from = law.onward o h.place.offset (law.found o r w.0 h w.1) in
      let filled = law.filled o r w.0 h w.1 in
      let on = walk_onward (end_of h.place) w.0 more o t w.2 in
      absurd (omega arith)

  -- two walks that end at one offset are over the same records
  pub same_records : (start : ℕ) (bytes : List ℕ) (hs gs : List Stored) (o : ℕ) (r t : List ℕ)
      → WalksOver form start bytes hs o r → WalksOver form start bytes gs o t → hs ≡ gs
  same_records start bytes hs gs o r t v w = grind (arith, two_walks, walk_nowhere, append-nil)
