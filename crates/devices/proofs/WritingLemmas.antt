-- Texts written one after another.
use Rattle.std.proofs.Common.{arith, ℕ, List, [], ◌++◌, Option, Result, refl, append_assoc}
use Rattle.std.specs.Io.KnownBytes.{Appends}
use Rattle.std.specs.Prelude.{IsErrAnd}
use Rattle.devices.specs.Device.{AppendsPrefix}
use Rattle.devices.specs.Writing.{WritesText}
use Rattle.devices.proofs.DeviceLemmas.{Appends-none}

-- nothing is a front of each text
pub wrote_nothing : (old : Option (List ℕ)) (text : List ℕ) → AppendsPrefix old old text
wrote_nothing old text = (text, record { front = []; whole = refl; grown = Appends-none old })

-- a front of a text is a front of a longer one
pub prefix_longer : (old new : Option (List ℕ)) (text more : List ℕ) → AppendsPrefix old new text
    → AppendsPrefix old new (text ++ more)
prefix_longer old new text more (rest, w) = (rest ++ more, grind (arith, append_assoc))

-- a text and then a front of the next
pub prefix_after : (old mid new : Option (List ℕ)) (text more : List ℕ) → Appends old mid text
    → AppendsPrefix mid new more → AppendsPrefix old new (text ++ more)
prefix_after old mid new text more a (rest, w) = grind (arith, append_assoc)

-- a whole text is a front of it
pub prefix_whole : (old new : Option (List ℕ)) (text more : List ℕ) → Appends old new text
    → AppendsPrefix old new (text ++ more)
prefix_whole old new text more a = grind arith

-- ---- an answer and what it says of the text

-- a refusal, after which the output has a front of the text
pub writes_prefix : {A E : Type 0} (Q : E → Type 0) (r : Result A E) (old new : Option (List ℕ)) (text : List ℕ)
    → IsErrAnd r Q → AppendsPrefix old new text → WritesText r old new text
writes_prefix Q r old new text h p = grind arith

-- a refusal before anything was written
pub writes_nothing : {A E : Type 0} (Q : E → Type 0) (r : Result A E) (old : Option (List ℕ)) (text : List ℕ)
    → IsErrAnd r Q → WritesText r old old text
writes_nothing Q r old text h = writes_prefix Q r old old text h (wrote_nothing old text)
