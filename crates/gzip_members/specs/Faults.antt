-- Faults of a member's data.
use Rattle.deflate_bits.specs.declared.fault.DeflateFault.{DeflateFault}
use Rattle.deflate_bits.specs.declared.fault.DeflateFault.TheVariants as faults
use Rattle.gzip_members.specs.declared.fault.MemberFault.{MemberFault}
use Rattle.gzip_members.specs.declared.fault.MemberFault.TheVariants.{Bad, Cut}

abbrev pub member_fault : DeflateFault → MemberFault
member_fault faults.Bad = Bad
member_fault faults.Cut = Cut
