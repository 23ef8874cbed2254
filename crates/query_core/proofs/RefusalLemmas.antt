-- What refusals and the faults of a check say.
use Rattle.query_core.proofs.Words.{arith, inl, inr, lt-ltb, nat_lt, refl}
use Rattle.query_core.specs.declared.fault.AnswerFault.TheVariants as fault
use Rattle.query_core.specs.RefusalLaws.{BadSizesAreFirst, CheckNamesItsIndex, TooManyAreRefused, TwoAreBeforeReading}

pub too_many_refused : TooManyAreRefused
too_many_refused count before after result refused = grind (arith, lt-ltb, nat_lt)

pub sizes_first : BadSizesAreFirst
sizes_first sizes count before after result refused = grind (arith, lt-ltb, nat_lt)

pub two_before : TwoAreBeforeReading
two_before fault.TooManySources = (λ h. inl refl, λ h. tt)
two_before fault.BadSizes = (λ h. inr refl, λ h. tt)
two_before f = grind arith

pub check_names : CheckNamesItsIndex
check_names fault.Memory is = inl refl
check_names (fault.Read i) is = inr (inl (grind arith))
check_names (fault.BadLine i offset) is = inr (inr (offset, inl (grind arith)))
check_names (fault.OutOfOrder i offset) is = inr (inr (offset, inr (grind arith)))
check_names f is = grind arith
