-- Laws of reading in steps.
use Rattle.warc_core.proofs.Words.{length-append, length-drop, ◌≡◌, ℕ, List, [], ◌++◌}
use Rattle.warc_core.proofs.Words.{Option, None, Some, Result, Ok, length, take, drop, arith}
use Rattle.warc_core.proofs.Words.{append_assoc, Consumes, prepend_known, take-append-drop, Cause}
use Rattle.warc_core.proofs.Words.{Reads}
use Rattle.std.specs.Io.KnownBytes.{Keeps, IsAtEnd}
use Rattle.std.proofs.Math.Seq.{take-append_seam, drop-nil}
use Rattle.std.proofs.lemmas.List.{nil_from_length}

-- Reading by g from here on is reading by f from the start.
abbrev pub GoesOn : {A : Type 0} → (List ℕ → Result A Cause) → (List ℕ → Result A Cause) → Option (List ℕ)
    → Option (List ℕ) → Type 0
GoesOn f g None now = Unit {0}
GoesOn f g (Some z) None = ⊥
GoesOn f g (Some z) (Some w) = f z ≡ g w

-- reading on gives what reading from the start gives
pub GoesOn-reads : {A : Type 0} (f g : List ℕ → Result (A × List ℕ) Cause) (r : Result A Cause)
    (before now after : Option (List ℕ)) → GoesOn f g before now → Reads g r now after → Reads f r before after
GoesOn-reads f g r before now after h k = grind arith

-- equal answers have equal values and equal rests
pub answered : {A B : Type 0} (x y : A) (v w : B) → ◌≡◌ {A = Result (A × B) Cause} (Ok (x, v)) (Ok (y, w)) → (x ≡ y)
    × (v ≡ w)
answered {A} {B} x y v w h = grind arith

-- what a read that succeeded gave, where the bytes are known
pub was_read : {A : Type 0} (f : List ℕ → Result (A × List ℕ) Cause) (x : A) (now after : Option (List ℕ)) (w : List ℕ)
    → Reads f (Ok x) now after → now ≡ Some w → (v : List ℕ) × (f w ≡ Ok (x, v))
was_read f x now after w h k = grind arith

pub nil_of : {A : Type 0} (xs : List A) → length xs ≡ 0 → xs ≡ []
nil_of xs h = nil_from_length xs h

-- what was given out of what is held
pub gave : (before left : Option (List ℕ)) (b : List ℕ) (count : ℕ) (out : List ℕ) → Keeps before (prepend_known b left)
    → out ≡ take count b → Consumes before (prepend_known (drop count b) left) out
gave before left b count out h e =
    grind (arith, take-append-drop count b, append_assoc (take count b) (drop count b))

pub at_end : (count : ℕ) (b : List ℕ) (left : Option (List ℕ)) → b ≡ [] → IsAtEnd left
    → IsAtEnd (prepend_known (drop count b) left)
at_end count b left e h = grind (arith, drop-nil)

pub front_of : {A : Type 0} (n : ℕ) (xs ys : List A) → length xs ≡ n → take n (xs ++ ys) ≡ xs
front_of n xs ys h = grind (arith, take-append_seam)

pub ruleset give_rules = (front_of, gave, nil_of, length-append, length-drop, at_end)
