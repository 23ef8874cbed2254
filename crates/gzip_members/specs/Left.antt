-- What is left of the member that is read, where the file's bytes are known.
use Rattle.std.specs.Prelude.{◌≡◌, ◌<◌, ◌≤◌, ℕ, ◌+◌, ◌-◌, ◌*◌, ◌^◌, ◌||◌, ◌⊎◌, ⊤, suc, nat_lt, not, ◌++◌, Bool, true, false, List, [], length, Option, None, Some, Result, Ok, Err, if◌then◌else◌}
use Rattle.std.specs.Io.KnownBytes.{prepend_known}
use Rattle.deflate_bits.specs.declared.fault.DeflateFault.{DeflateFault}
use Rattle.gzip_members.specs.declared.body.Body.{Body}
use Rattle.gzip_members.specs.declared.body.Stage.{Stage}
use Rattle.gzip_members.specs.declared.members.Members.{Members}
use Rattle.deflate_bits.specs.declared.fault.DeflateFault.TheVariants as faults
use Rattle.gzip_members.specs.declared.fault.MemberFault.{MemberFault}
use Rattle.gzip_members.specs.declared.fault.MemberFault.TheVariants.{Read, NoMember, Bad, Cut, TooFar, TooLong}
use Rattle.gzip_members.specs.Faults.{member_fault}
use Rattle.gzip_members.specs.Starts.{begins_member}
use Rattle.gzip_members.specs.Members.{member_in}
use Rattle.gzip_members.specs.Windows.{WindowView}
use Rattle.gzip_members.specs.Bodies.{is_over, left_in, parts_left}

-- what is left of a member, by the bytes ahead; nothing is said of a file of 2^63 bytes or more
abbrev pub left_ahead : Body → ℕ → Option (List ℕ) → Option (Result (List ℕ × List ℕ) DeflateFault)
left_ahead b passed None = None
left_ahead b passed (Some bytes) = if nat_lt (2 ^ 63 - 1) (passed + length bytes) then None else Some (left_in b bytes)

abbrev pub left_of : {I : Type 0} {g : _} → Members I g → Option (Result (List ℕ × List ℕ) DeflateFault)
left_of {I} {g} m = left_ahead m.body m.source.passed (prepend_known m.source.ahead (g.remaining m.source.input))

-- the text that is left of a member, where there is one
abbrev pub text_of : Option (Result (List ℕ × List ℕ) DeflateFault) → Option (List ℕ)
text_of None = None
text_of (Some (Ok (text, behind))) = Some text
text_of (Some (Err fault)) = None

-- what stands behind the member, or why there is none
abbrev pub behind_of : Result (List ℕ × List ℕ) DeflateFault → Result (List ℕ) DeflateFault
behind_of (Ok (text, behind)) = Ok behind
behind_of (Err fault) = Err fault

-- whether neither text nor the end of the member was reached
abbrev pub waits : Stage → WindowView → Bool
waits stage w = not (is_over stage || nat_lt w.given (length w.text))

-- how much is to be done before there is text, or the end of the member
abbrev pub work_left : Stage → WindowView → ℕ → ℕ → ℕ
work_left stage w passed held =
    if is_over stage || nat_lt w.given (length w.text)
    then 0
    else suc (parts_left stage * 2 ^ 80 + (2 ^ 63 - passed) * 8193 + (8192 - held))

-- text was given out; else the same is left
pub record GivesText (old new : Option (Result (List ℕ × List ℕ) DeflateFault)) (given : List ℕ) : Type 0 where
  pub text : (text behind : List ℕ) → old ≡ Some (Ok (text, behind))
      → (rest : List ℕ) × (new ≡ Some (Ok (rest, behind))) × (text ≡ given ++ rest)
  pub fault : (fault : DeflateFault) → old ≡ Some (Err fault) → new ≡ Some (Err fault)

-- so many bytes of text were given out
abbrev pub SkipsText : ℕ → Option (Result (List ℕ × List ℕ) DeflateFault) → Option (Result (List ℕ × List ℕ) DeflateFault) → Type 0
SkipsText n old new = (given : List ℕ) × (length given ≡ n) × GivesText old new given

-- whether a member begins these bytes, what is then left of it, and else why not
abbrev pub BeginsMember : List ℕ → Result Bool MemberFault → Option (Result (List ℕ × List ℕ) DeflateFault) → Type 0
BeginsMember bytes (Ok false) left = bytes ≡ []
BeginsMember bytes (Ok true) left = (begins_member bytes ≡ Ok true) × (left ≡ Some (member_in bytes))
BeginsMember bytes (Err Read) left = ⊤
BeginsMember bytes (Err NoMember) left = begins_member bytes ≡ Err NoMember
BeginsMember bytes (Err Bad) left = (begins_member bytes ≡ Ok true) × (member_in bytes ≡ Err faults.Bad)
BeginsMember bytes (Err Cut) left = (begins_member bytes ≡ Err Cut)
    ⊎ ((begins_member bytes ≡ Ok true) × (member_in bytes ≡ Err faults.Cut))
BeginsMember bytes (Err TooFar) left = ⊥
BeginsMember bytes (Err TooLong) left = ⊥

-- text was passed over, some at least; or none is left, and the same is
abbrev pub PassesText : Bool → Option (Result (List ℕ × List ℕ) DeflateFault) → Option (Result (List ℕ × List ℕ) DeflateFault) → Type 0
PassesText true old new = (given : List ℕ) × (0 < length given) × GivesText old new given
PassesText false old new = GivesText old new []

-- all text was passed over, of which there was some or none; it was too much where nothing is answered
abbrev pub PassesRest : Option Bool → List ℕ → List ℕ → Option (Result (List ℕ × List ℕ) DeflateFault) → Type 0
PassesRest (Some had) text behind new = (new ≡ Some (Ok ([], behind))) × (had ≡ nat_lt 0 (length text))
PassesRest None text behind new = 2 ^ 64 - 1 ≤ length text

-- the end of a member of this text was reached, and these bytes are ahead; unless the input failed or the text is too long
abbrev pub EndsMember : Result Bool MemberFault → List ℕ → List ℕ → Option (List ℕ) → Type 0
EndsMember (Ok had) text behind ahead = (had ≡ nat_lt 0 (length text)) × (ahead ≡ Some behind)
EndsMember (Err Read) text behind ahead = ⊤
EndsMember (Err NoMember) text behind ahead = ⊥
EndsMember (Err Bad) text behind ahead = ⊥
EndsMember (Err Cut) text behind ahead = ⊥
EndsMember (Err TooFar) text behind ahead = ⊥
EndsMember (Err TooLong) text behind ahead = 2 ^ 64 - 1 ≤ length text

-- the member was refused for this fault, unless the input failed or its text is too long
abbrev pub RefusesMember : Result Bool MemberFault → DeflateFault → Type 0
RefusesMember (Ok had) fault = ⊥
RefusesMember (Err Read) fault = ⊤
RefusesMember (Err TooFar) fault = ⊥
RefusesMember (Err TooLong) fault = ⊤
RefusesMember (Err other) fault = other ≡ member_fault fault
