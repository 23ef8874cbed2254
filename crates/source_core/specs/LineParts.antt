-- Parts of lines.
use Rattle.std.specs.Prelude.{◌≡◌, ℕ, ◌+◌, ◌<◌, ◌≤◌, List, [], ◌∷◌, ◌++◌, length, take, drop, Bool, true, false, nat_eq}
use Rattle.std.specs.Prelude.{Option, Some}
use Rattle.std.specs.List.{AllByRecursion}
use Rattle.cdxj_places.specs.TextLines.{lines}

-- no byte is a line feed
abbrev pub NoFeed : List ℕ → Type 0
NoFeed = AllByRecursion (λ b. nat_eq b 10 ≡ false)

-- so many bytes of the piece belong to its first line, and whether that line ends with them
abbrev pub PartOf : List ℕ → ℕ → Bool → Type 0
PartOf piece n true = (k : ℕ) × (n ≡ k + 1) × NoFeed (take k piece) × (take n piece ≡ take k piece ++ 10 ∷ [])
PartOf piece n false = (n ≡ length piece) × NoFeed piece

-- the line that begins at the offset begins with these bytes, and goes on
pub record BeginsWith (text : List ℕ) (offset : ℕ) (front : List ℕ) : Type 0 where
  pub is : drop offset text ≡ front ++ drop (offset + length front) text
  pub goes_on : NoFeed front

-- the line that begins at the offset begins with these bytes, and whether they are all of it, with its line feed
abbrev pub ReadsOn : List ℕ → ℕ → List ℕ → Bool → Type 0
ReadsOn text offset front true = lines (drop offset text) ≡ front ∷ lines (drop (offset + length front) text)
ReadsOn text offset front false = BeginsWith text offset front

-- the line that begins at the offset begins with these bytes, or is these bytes
abbrev pub IsFrontOf : List ℕ → ℕ → List ℕ → Type 0
IsFrontOf text offset front = (ends : Bool) × ReadsOn text offset front ends

-- these first bytes of the line are held of a source, and whether they are all of it
pub record IsFront (text : Option (List ℕ)) (extent offset : ℕ) (front : List ℕ) (ends : Bool) : Type 0 where
  pub within : offset + length front ≤ extent
  pub short : length front ≤ 8192
  pub reads : (t : List ℕ) → text ≡ Some t → ReadsOn t offset front ends

-- more first bytes of the line were read, no more than so many, and none beyond the source's end
pub record FrontGrows (extent offset wanted : ℕ) (old new : List ℕ) : Type 0 where
  pub within : offset + length new ≤ extent
  pub some : length old < length new
  pub most : length new ≤ wanted
