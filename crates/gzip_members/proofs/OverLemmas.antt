-- Behind the end of a member its bytes are those ahead, or it was refused.
use Rattle.std.proofs.Common.{◌≡◌, ℕ, ◌+◌, ◌<◌, ◌++◌, arith, length-append, true, nat_lt, List, [], length, drop, Option, None, Some, Ok, Err, refl, sym, ap, ◌∙◌, subst, ◌^◌, ◌-◌}
use Rattle.std.specs.Bool.{if◌then◌else◌}
use Rattle.std.proofs.lemmas.Bool.{lt-ltb}
use Rattle.std.specs.Io.KnownBytes.{prepend_known}
use Rattle.deflate_bits.specs.declared.fault.DeflateFault.{DeflateFault}
use Rattle.gzip_members.specs.declared.body.Body.{Body}
use Rattle.gzip_members.specs.declared.body.Stage.{Stage}
use Rattle.gzip_members.specs.declared.body.Stage.TheVariants.{Data, Trailer, Ended, Refused}
use Rattle.gzip_members.specs.Bodies.{fault_of, is_over, left_by, left_in}
use Rattle.deflate_bits.specs.declared.fault.DeflateFault.TheVariants as faults
use Rattle.gzip_members.specs.declared.fault.MemberFault.{MemberFault}
use Rattle.gzip_members.specs.declared.fault.MemberFault.TheVariants.{Bad, Cut}
use Rattle.gzip_members.specs.Faults.{member_fault}
use Rattle.gzip_members.specs.Left.{RefusesMember, left_ahead}
use Rattle.gzip_members.proofs.EndLemmas.{Left, some_left}

abbrev behind_or : Left → List ℕ → List ℕ
behind_or (Ok (text, behind)) other = behind
behind_or (Err fault) other = other

abbrev fault_in : Left → DeflateFault → DeflateFault
fault_in (Ok left) other = other
fault_in (Err fault) other = fault

over-ok : (stage : Stage) (b : Body) → b.stage ≡ stage → is_over stage ≡ true → (bytes text behind : List ℕ)
    → left_in b bytes ≡ Ok (text, behind) → (fault_of stage ≡ None) × (bytes ≡ behind)
unfolding left_in
over-ok Data b at over bytes text behind e = absurd cc
over-ok Trailer b at over bytes text behind e = absurd cc
over-ok Ended b at over bytes text behind e =
    let l : ◌≡◌ {A = Left} (Ok (drop b.window.given b.window.text, bytes)) (Ok (text, behind)) = sym (ap (λ (s : Stage). left_by s b bytes) at) ∙ e in
    (refl, ap (λ r. behind_or r []) l)
over-ok (Refused fault) b at over bytes text behind e =
    let l : ◌≡◌ {A = Left} (Err fault) (Ok (text, behind)) = sym (ap (λ (s : Stage). left_by s b bytes) at) ∙ e in
    absurd cc

over-err : (stage : Stage) (b : Body) → b.stage ≡ stage → is_over stage ≡ true → (bytes : List ℕ) (fault : DeflateFault)
    → left_in b bytes ≡ Err fault → fault_of stage ≡ Some fault
unfolding left_in
over-err Data b at over bytes fault e = absurd cc
over-err Trailer b at over bytes fault e = absurd cc
over-err Ended b at over bytes fault e =
    let l : ◌≡◌ {A = Left} (Ok (drop b.window.given b.window.text, bytes)) (Err fault) = sym (ap (λ (s : Stage). left_by s b bytes) at) ∙ e in
    absurd cc
over-err (Refused other) b at over bytes fault e =
    let l : ◌≡◌ {A = Left} (Err other) (Err fault) = sym (ap (λ (s : Stage). left_by s b bytes) at) ∙ e in
    ap (λ r. Some (fault_in r other)) l

pub ends-at : (b : Body) (passed : ℕ) (known : Option (List ℕ)) (text behind : List ℕ) → is_over b.stage ≡ true
    → left_ahead b passed known ≡ Some (Ok (text, behind)) → (fault_of b.stage ≡ None) × (known ≡ Some behind)
ends-at b passed None text behind over e = absurd cc
ends-at b passed (Some bytes) text behind over e =
    let p = over-ok b.stage b refl over bytes text behind (some_left (nat_lt (2 ^ 63 - 1) (passed + length bytes)) (left_in b bytes) (Ok (text, behind)) e) in
    (p.0, ap (λ l. Some l) p.1)

pub refused-for : (b : Body) (passed : ℕ) (known : Option (List ℕ)) (fault : DeflateFault) → is_over b.stage ≡ true
    → left_ahead b passed known ≡ Some (Err fault) → fault_of b.stage ≡ Some fault
refused-for b passed None fault over e = absurd cc
refused-for b passed (Some bytes) fault over e =
    over-err b.stage b refl over bytes fault (some_left (nat_lt (2 ^ 63 - 1) (passed + length bytes)) (left_in b bytes) (Err fault) e)

-- nothing is known to be left in a file of 2^63 bytes or more
pub none-far : (b : Body) (passed : ℕ) (held : List ℕ) (known : Option (List ℕ)) (left : Left) → 2 ^ 63 - 1 < passed + length held
    → left_ahead b passed (prepend_known held known) ≡ Some left → ⊥
none-far b passed held None left far e = absurd cc
none-far b passed held (Some bytes) left far e =
    let longer : 2 ^ 63 - 1 < passed + length (held ++ bytes) = omega (arith, length-append held bytes) in
    let n : ◌≡◌ {A = Option Left} None (Some left) =
    sym (ap (λ v. if v then None else Some (left_in b (held ++ bytes))) (lt-ltb (2 ^ 63 - 1) (passed + length (held ++ bytes)) longer)) ∙ e in
    absurd cc

-- the fault that was found is that of the member
pub same-fault : (fault found : DeflateFault) (told : MemberFault) (at : Option DeflateFault) → at ≡ Some fault → at ≡ Some found → told ≡ member_fault found
    → RefusesMember (Err told) fault
same-fault faults.Bad found told at e f is =
    let s : told ≡ Bad = cc in subst (λ t. RefusesMember (Err t) faults.Bad) (sym s) refl
same-fault faults.Cut found told at e f is =
    let s : told ≡ Cut = cc in subst (λ t. RefusesMember (Err t) faults.Cut) (sym s) refl
