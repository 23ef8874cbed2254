-- What a call answers that may run out of memory.
use Rattle.std.specs.Prelude.{◌≡◌, ⊤, MatchResult, Result, Ok, Err}
use Rattle.warc_head.specs.declared.fault.HeadFault.{HeadFault}
use Rattle.warc_head.specs.declared.fault.HeadFault.TheVariants as faults

infixl 10 ◌>>=◌
abbrev pub ◌>>=◌ : {A B : Type 0} → Result A HeadFault → (A → Result B HeadFault) → Result B HeadFault
(Ok x) >>= f = f x
(Err e) >>= f = Err e

-- the definition gives this fault, or memory ran out
abbrev pub IsFound : {A : Type 0} → HeadFault → Result A HeadFault → Type 0
IsFound faults.Memory defined = ⊤
IsFound e defined = defined ≡ Err e

-- the result, seen by the view, is what the definition gives, or memory ran out
abbrev pub AgreesWith : {X A : Type 0} → (X → A) → Result X HeadFault → Result A HeadFault → Type 0
AgreesWith view r defined = MatchResult r (λ x. defined ≡ Ok (view x)) (λ e. IsFound e defined)
