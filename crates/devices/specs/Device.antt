-- What a device's call does to its count of failures, and to its known bytes.
use Rattle.std.specs.Prelude.{◌≡◌, ℕ, ◌+◌, ◌-◌, ◌^◌, ◌<◌, ◌≤◌, min, max, List, ◌++◌, length, Option, MatchResult}
use Rattle.std.specs.Prelude.{Result}
use Rattle.std.specs.Io.KnownBytes.{Appends}

-- the count after one more failure: it stays at 2^64 - 1
abbrev pub next_count : ℕ → ℕ
next_count n = max n (min (n + 1) (2 ^ 64 - 1))

-- an Err adds one to the count of failures, an Ok none
abbrev pub CountsFailure : {A E : Type 0} → Result A E → ℕ → ℕ → Type 0
CountsFailure r old new = MatchResult r (λ _. new ≡ old) (λ _. new ≡ next_count old)

-- Ok(n) took the first n bytes, at least one of a non-empty piece
pub record TakesSome (piece : List ℕ) (n : ℕ) : Type 0 where
  pub bound : n ≤ length piece
  pub some : 0 < length piece → 0 < n

-- known bytes grew by the front of bs, and rest is what of bs wasn't written
pub record WroteUpTo (old new : Option (List ℕ)) (bs rest : List ℕ) : Type 0 where
  pub front : List ℕ
  pub whole : bs ≡ front ++ rest
  pub grown : Appends old new front

-- known bytes stay at the front, and may grow
pub record Grows (old new : Option (List ℕ)) : Type 0 where
  pub text : List ℕ
  pub grown : Appends old new text

-- known bytes grow by a prefix of bs
abbrev pub AppendsPrefix : Option (List ℕ) → Option (List ℕ) → List ℕ → Type 0
AppendsPrefix old new bs = (rest : List ℕ) × WroteUpTo old new bs rest
