use Rattle.std.proofs.Common.{◌≡◌, ◌<◌, List, [], ◌++◌, ℕ, length, Result, Ok, Err, refl, sym, ap, ◌∙◌, arith, length-append, subst}
use Rattle.std.proofs.lemmas.List.{append_cancel_right}
use Rattle.deflate_bits.specs.declared.fault.DeflateFault.{DeflateFault}
use Rattle.deflate_bits.specs.declared.fault.DeflateFault.TheVariants.{Bad, Cut}
use Rattle.inflate.specs.Laws.{followed}
use Rattle.gzip_members.specs.Laws.{Begins, IsMember}
use Rattle.gzip_members.specs.Members.{member_in}
use Rattle.gzip_members.proofs.AloneLemmas.{member_alone}
use Rattle.gzip_members.proofs.StayLemmas.{IsWhole, member_followed, member_stays}
use Rattle.gzip_members.proofs.laws.no_member_begins_another.Goals as goal

abbrev Left : Type 0
Left = List ℕ × List ℕ

same_left : (x y : Left) → ◌≡◌ {A = Result Left DeflateFault} (Ok x) (Ok y) → x ≡ y
same_left x y e = grind arith

pub returns-clause-one : goal.returns-clause-one
returns-clause-one c = λ bytes more text other this that.
    let same = same_left (text, more) (other, []) (sym (member_followed bytes more text this) ∙ that.reads) in
    (ap (λ (x : Left). x.1) same, sym (ap (λ (x : Left). x.0) same))

-- a part that isn't cut leaves what follows it
part_is : (more text : List ℕ) (r : Result Left DeflateFault) → 0 < length more → (IsWhole r → followed more r ≡ Ok (text, []))
    → r ≡ Err Cut
part_is more text (Ok x) some e =
    let none = ap (λ (x : Left). length x.1) (same_left (x.0, x.1 ++ more) (text, []) (e tt)) in
    absurd (omega (arith, length-append x.1 more))
part_is more text (Err Bad) some e = absurd (let h = e tt in cc)
part_is more text (Err Cut) some e = refl

pub returns-clause-part : goal.returns-clause-part
returns-clause-part c = λ bytes more text some is.
    part_is more text (member_in bytes) some (λ whole. sym (member_stays bytes more whole) ∙ is.reads)

-- the bytes in front of those behind a member are its own
own_bytes : (own behind text : List ℕ) → Begins (own ++ behind) text behind → IsMember own text
own_bytes own behind text b =
    let p = member_alone (own ++ behind) text behind b.begins b.reads in
    subst (λ l. IsMember l text) (sym (append_cancel_right own p.0 behind p.1)) p.2

pub returns-clause-offset : goal.returns-clause-offset
returns-clause-offset c = λ own more behind rest text other this that.
    returns-clause-one c own more text other (own_bytes own behind text this) (own_bytes (own ++ more) rest other that)
