use Rattle.std.proofs.Common.{◌≢◌, List, ℕ, Result, Ok, Err, refl}
use Rattle.deflate_bits.specs.declared.fault.DeflateFault.{DeflateFault}
use Rattle.deflate_bits.specs.declared.fault.DeflateFault.TheVariants.{Bad, Cut}
use Rattle.gzip_members.specs.Members.{member_in}
use Rattle.gzip_members.proofs.StayLemmas.{IsWhole, member_stays}
use Rattle.gzip_members.proofs.laws.bytes_behind_a_member_stay_behind.Goals as goal

not_cut : (r : Result (List ℕ × List ℕ) DeflateFault) → r ≢ Err Cut → IsWhole r
not_cut (Ok x) h = tt
not_cut (Err Bad) h = tt
not_cut (Err Cut) h = h refl

pub returns : goal.returns
returns c = λ bytes more whole. member_stays bytes more (not_cut (member_in bytes) whole)
