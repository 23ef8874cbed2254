-- How bytes are read from the front of a text, and what a call that reads owes to the bytes it is given.
use Rattle.std.specs.Prelude.{◌≡◌, ◌⊎◌, ℕ, ⊤, List, [], ◌∷◌, drop, Option, None, Some, Result, Ok, Err}
use Rattle.warc_core.specs.declared.fault.Cause.{Cause}
use Rattle.warc_core.specs.declared.fault.Cause.TheVariants as causes

infixl 10 ◌>>=◌
abbrev pub ◌>>=◌ : {A B : Type 0} → Result A Cause → (A → Result B Cause) → Result B Cause
(Ok x) >>= f = f x
(Err e) >>= f = Err e

-- the first byte, if there is one
abbrev pub first_of : List ℕ → Result (Option ℕ × List ℕ) Cause
first_of [] = Ok (None, [])
first_of (b ∷ bytes) = Ok (Some b, bytes)

-- what is behind the first n bytes, or nothing if there are fewer
abbrev pub past : ℕ → List ℕ → Result (Unit {0} × List ℕ) Cause
past n bytes = Ok (tt, drop n bytes)

-- A cause other than Memory and Read is the one that the bytes give.
abbrev pub IsPossibleCause : {A : Type 0} → Cause → Result A Cause → Type 0
IsPossibleCause c read = (c ≡ causes.Memory) ⊎ ((c ≡ causes.Read) ⊎ (read ≡ Err c))

-- What f reads at the front of the known bytes gives this cause, if it is neither Memory nor Read.
abbrev pub IsPossibleFault : {A : Type 0} → (List ℕ → Result A Cause) → Cause → Option (List ℕ) → Type 0
IsPossibleFault f c None = ⊤
IsPossibleFault f c (Some z) = IsPossibleCause c (f z)

-- A call answered what f reads at the front of the known bytes, and left the bytes after it.
abbrev pub Reads : {A : Type 0} → (List ℕ → Result (A × List ℕ) Cause) → Result A Cause → Option (List ℕ)
    → Option (List ℕ) → Type 0
Reads f r None after = ⊤
Reads f (Ok x) (Some z) None = ⊥
Reads f (Ok x) (Some z) (Some rest) = f z ≡ Ok (x, rest)
Reads f (Err c) (Some z) after = IsPossibleCause c (f z)
