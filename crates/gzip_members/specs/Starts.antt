-- What a member begins with (RFC 1952, 2.3.1): ID1 and ID2.
use Rattle.std.specs.Prelude.{◌≡◌, ℕ, ◌+◌, ◌-◌, ◌^◌, ◌<◌, ◌==◌, ◌&&◌, length, ⊤, ◌⊎◌, Bool, true, false, List, [], ◌∷◌, Option, None, Some, Result, Ok, Err, if◌then◌else◌}
use Rattle.gzip_members.specs.declared.fault.MemberFault.{MemberFault}
use Rattle.gzip_members.specs.declared.fault.MemberFault.TheVariants.{Read, NoMember, Bad, Cut, TooFar, TooLong}
use Rattle.deflate_bits.specs.declared.fault.DeflateFault.TheVariants as faults
use Rattle.gzip_members.specs.Header.{header_in}

-- whether a member begins these bytes; none does at the end of the file
abbrev pub begins_member : List ℕ → Result Bool MemberFault
begins_member [] = Ok false
begins_member (first ∷ []) = if first == 31 then Err Cut else Err NoMember
begins_member (first ∷ second ∷ bytes) = if first == 31 && second == 139 then Ok true else Err NoMember

-- that was answered of the known bytes, unless the input failed
abbrev pub AnswersStart : Result Bool MemberFault → Option (List ℕ) → Type 0
AnswersStart result None = ⊤
AnswersStart result (Some bytes) = (result ≡ Err Read) ⊎ (result ≡ begins_member bytes)

-- a member began these bytes, and its header was read; or why not
abbrev pub StartsFrom : Result Bool MemberFault → ℕ → ℕ → Option (List ℕ) → Option (List ℕ) → Type 0
StartsFrom r was is None after = ⊤
StartsFrom (Ok false) was is (Some bytes) after = begins_member bytes ≡ Ok false
StartsFrom (Ok true) was is (Some bytes) None = ⊥
StartsFrom (Ok true) was is (Some bytes) (Some rest) = (begins_member bytes ≡ Ok true)
    × ((now : List ℕ) × (header_in ([], bytes) ≡ Ok (tt, (now, rest)))) × (is + length rest ≡ was + length bytes)
StartsFrom (Err Read) was is (Some bytes) after = ⊤
StartsFrom (Err NoMember) was is (Some bytes) after = begins_member bytes ≡ Err NoMember
StartsFrom (Err Bad) was is (Some bytes) after =
    (begins_member bytes ≡ Ok true) × (header_in ([], bytes) ≡ Err faults.Bad)
StartsFrom (Err Cut) was is (Some bytes) after = (begins_member bytes ≡ Err Cut)
    ⊎ ((begins_member bytes ≡ Ok true) × (header_in ([], bytes) ≡ Err faults.Cut))
StartsFrom (Err TooFar) was is (Some bytes) after = 2 ^ 63 - 1 < was + length bytes
StartsFrom (Err TooLong) was is (Some bytes) after = ⊥
