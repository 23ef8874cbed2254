-- What a reader of a text answers.
use Rattle.std.specs.Prelude.{◌≡◌, ◌≢◌, ℕ, List, Result, Ok, Err, MatchResult}
use Rattle.query_text.specs.declared.fault.QueryFault.{QueryFault}
use Rattle.query_text.specs.declared.fault.QueryFault.TheVariants.{Memory}

abbrev pub Text : Type 0
Text = List ℕ

-- a value that is read, or the first refusal
abbrev pub Read : Type 0 → Type 0
Read T = Result T QueryFault

-- what follows a reading, or the refusal that came first
abbrev pub and_then : {T U : Type 0} → Read T → (T → Read U) → Read U
and_then (Ok x) f = f x
and_then (Err e) f = Err e

-- The answer, under a view of its value, is the one that is expected; memory may be refused for any.
abbrev pub IsReadingBy : {T U : Type 0} → (T → U) → Read U → Read T → Type 0
IsReadingBy view expected result =
    MatchResult result (λ x. expected ≡ Ok (view x)) (λ e. e ≢ Memory → expected ≡ Err e)

-- the same of the value itself
abbrev pub IsReading : {T : Type 0} → Read T → Read T → Type 0
IsReading expected result =
    MatchResult result (λ x. expected ≡ Ok x) (λ e. e ≢ Memory → expected ≡ Err e)
