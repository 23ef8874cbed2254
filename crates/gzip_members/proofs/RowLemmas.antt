-- A file is one row of members.
use Rattle.std.proofs.Common.{◌≡◌, ℕ, zero, suc, ◌<◌, Bool, true, false, List, [], ◌∷◌, ◌++◌, length, Result, Ok, Err, refl, sym, ap, ◌∙◌, subst, inl, inr, arith, append_assoc, length-append}
use Rattle.std.proofs.lemmas.List.{append_cancel_right}
use Rattle.deflate_bits.specs.declared.fault.DeflateFault.{DeflateFault}
use Rattle.gzip_members.specs.declared.fault.MemberFault.{MemberFault}
use Rattle.gzip_members.specs.Laws.{AreMembers, BeginsNone, IsMember, IsOfMembers, in_a_row}
use Rattle.gzip_members.specs.Members.{member_in}
use Rattle.gzip_members.specs.Starts.{begins_member}
use Rattle.gzip_members.proofs.AloneLemmas.{member_alone}
use Rattle.gzip_members.proofs.StayLemmas.{member_followed}

-- a member begins its bytes, whatever is behind them
pub begins_more : (bytes more : List ℕ) → begins_member bytes ≡ Ok true → begins_member (bytes ++ more) ≡ Ok true
begins_more [] more e = absurd (grind arith)
begins_more (first ∷ []) more e = absurd (grind arith)
begins_more (first ∷ second ∷ bytes) more e = e

begins_some : (bytes : List ℕ) → begins_member bytes ≡ Ok true → 0 < length bytes
begins_some [] e = absurd (grind arith)
begins_some (first ∷ bytes) e = omega arith

begins_not : (bytes : List ℕ) → begins_member bytes ≡ Ok false → bytes ≡ []
begins_not [] e = refl
begins_not (first ∷ []) e = absurd (grind arith)
begins_not (first ∷ second ∷ bytes) e = absurd (grind arith)

-- where none begins, no bytes of a member do
not_there : (own more text : List ℕ) → IsMember own text → BeginsNone (own ++ more) → ⊥
not_there own more text is (inl e) =
    let some = begins_some own is.begins in
    omega (arith, ap (λ (l : List ℕ). length l) e, length-append own more)
not_there own more text is (inr (inl (fault, e))) = (let k = sym e ∙ begins_more own more is.begins in cc)
not_there own more text is (inr (inr (fault, begins, e))) = (let k = sym e ∙ member_followed own more text is in cc)

same_behind : (text other behind rest : List ℕ)
    → ◌≡◌ {A = Result (List ℕ × List ℕ) DeflateFault} (Ok (text, behind)) (Ok (other, rest)) → behind ≡ rest
same_behind text other behind rest e = grind arith

one_row : (members others : List (List ℕ)) (rest more : List ℕ) → AreMembers members → AreMembers others
    → BeginsNone rest → BeginsNone more → in_a_row members ++ rest ≡ in_a_row others ++ more
    → (members ≡ others) × (rest ≡ more)
one_row [] [] rest more are were none never e = (refl, e)
one_row [] (other ∷ others) rest more are ((text, is), were) none never e =
    absurd (not_there other (in_a_row others ++ more) text is
    (subst BeginsNone (e ∙ append_assoc other (in_a_row others) more) none))
one_row (member ∷ members) [] rest more ((text, is), are) were none never e =
    absurd (not_there member (in_a_row members ++ rest) text is
    (subst BeginsNone (sym e ∙ append_assoc member (in_a_row members) rest) never))
one_row (member ∷ members) (other ∷ others) rest more ((text, is), are) ((text', was), were) none never e =
    let behind = in_a_row members ++ rest in
    let after = in_a_row others ++ more in
    let same : member ++ behind ≡ other ++ after =
    sym (append_assoc member (in_a_row members) rest) ∙ e ∙ append_assoc other (in_a_row others) more in
    let left : behind ≡ after = same_behind text text' behind after
    (sym (member_followed member behind text is) ∙ ap member_in same ∙ member_followed other after text' was) in
    let first : member ≡ other =
    append_cancel_right member other after (ap (λ (l : List ℕ). member ++ l) (sym left) ∙ same) in
    let others_are = one_row members others rest more are were none never left in
    (ap (λ l. member ∷ l) others_are.0 ∙ ap (λ (l : List ℕ). l ∷ others) first, others_are.1)

pub one_list : (file : List ℕ) (members others : List (List ℕ)) (rest more : List ℕ) → IsOfMembers file members rest
    → IsOfMembers file others more → (members ≡ others) × (rest ≡ more)
one_list file members others rest more this that =
    one_row members others rest more this.whole that.whole this.none that.none (sym this.spelled ∙ that.spelled)

-- ---- every file is some

abbrev HasMembers : List ℕ → Type 0
HasMembers file = (members : List (List ℕ)) × (rest : List ℕ) × IsOfMembers file members rest

no_more : (file : List ℕ) → BeginsNone file → HasMembers file
no_more file none = ([], file, record { spelled = refl; whole = tt; none = none })

one_more : (file own behind text : List ℕ) → file ≡ own ++ behind → IsMember own text → HasMembers behind → HasMembers file
one_more file own behind text e is (members, rest, of) = (
  own ∷ members,
  rest,
  record {
    spelled = e ∙ ap (λ (l : List ℕ). own ++ l) of.spelled ∙ sym (append_assoc own (in_a_row members) rest);
    whole = ((text, is), of.whole);
    none = of.none;
  },
)

by_member : (file : List ℕ) (r : Result (List ℕ × List ℕ) DeflateFault) → begins_member file ≡ Ok true → member_in file ≡ r
    → ((behind : List ℕ) → length behind < length file → HasMembers behind) → HasMembers file
by_member file (Ok (text, behind)) begins e more =
    let p = member_alone file text behind begins e in
    let some = begins_some p.0 p.2.begins in
    let less : length behind < length file = omega (arith, some, ap (λ (l : List ℕ). length l) p.1, length-append p.0 behind) in
    one_more file p.0 behind text p.1 p.2 (more behind less)
by_member file (Err fault) begins e more = no_more file (inr (inr (fault, begins, e)))

by_start : (file : List ℕ) (b : Result Bool MemberFault) → begins_member file ≡ b
    → ((behind : List ℕ) → length behind < length file → HasMembers behind) → HasMembers file
by_start file (Ok true) e more = by_member file (member_in file) e refl more
by_start file (Ok false) e more = no_more file (inl (begins_not file e))
by_start file (Err fault) e more = no_more file (inr (inl (fault, e)))

some_row : (n : ℕ) (file : List ℕ) → length file < n → HasMembers file
some_row zero file h = absurd (omega arith)
some_row (suc n) file h = by_start file (begins_member file) refl (λ behind less. some_row n behind (omega arith))

pub some_list : (file : List ℕ) → HasMembers file
some_list file = some_row (suc (length file)) file (omega arith)
