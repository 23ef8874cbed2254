-- The text of a member is read as an input.
use Rattle.std.proofs.Common.{◌≡◌, ℕ, List, [], Option, None, Some, Result, Ok, Err, IfOk, option_map, length, take, refl, ap, ◌∙◌, subst, sym, ◌<◌}
use Rattle.std.specs.Prelude.{OnErr}
use Rattle.std.specs.Io.KnownBytes.{Consumes, Keeps, IsAtEnd, ReadConsumes, ConsumesCount}
use Rattle.deflate_bits.specs.declared.fault.DeflateFault.{DeflateFault}
use Rattle.gzip_members.specs.Left.{behind_of, text_of, GivesText, SkipsText}
use Rattle.gzip_members.proofs.EndLemmas.{Left}

-- the text that is given out is taken from what is left
pub text-given : (old new : Option Left) (given : List ℕ) → GivesText old new given → Consumes (text_of old) (text_of new) given
text-given None new given gives = tt
text-given (Some (Err fault)) new given gives = tt
text-given (Some (Ok (text, behind))) new given gives =
    let p = gives.text text behind refl in
    subst (λ (left : Option Left). Consumes (Some text) (text_of left) given) (sym p.1) p.2

pub text-kept : (old new : Option Left) → ((r : Left) → old ≡ Some r → new ≡ Some r) → Keeps (text_of old) (text_of new)
text-kept None new keeps = tt
text-kept (Some (Err fault)) new keeps = tt
text-kept (Some (Ok (text, behind))) new keeps =
    subst (λ (left : Option Left). Keeps (Some text) (text_of left)) (sym (keeps (Ok (text, behind)) refl)) refl

pub text-ends : (left : Option Left) → ((text behind : List ℕ) → left ≡ Some (Ok (text, behind)) → text ≡ []) → IsAtEnd (text_of left)
text-ends None end = tt
text-ends (Some (Err fault)) end = tt
text-ends (Some (Ok (text, behind))) end = end text behind refl

-- what stands behind the member stays the same
pub behind-given : (old new : Option Left) (given : List ℕ) → GivesText old new given → (r : Result (List ℕ) DeflateFault)
    → option_map behind_of old ≡ Some r → option_map behind_of new ≡ Some r
behind-given None new given gives r e = absurd cc
behind-given (Some (Err fault)) new given gives r e = ap (option_map behind_of) (gives.fault fault refl) ∙ e
behind-given (Some (Ok (text, behind))) new given gives r e =
    ap (option_map behind_of) ((gives.text text behind refl).1) ∙ e

pub behind-kept : (old new : Option Left) → ((r : Left) → old ≡ Some r → new ≡ Some r) → (r : Result (List ℕ) DeflateFault)
    → option_map behind_of old ≡ Some r → option_map behind_of new ≡ Some r
behind-kept None new keeps r e = absurd cc
behind-kept (Some left) new keeps r e = ap (option_map behind_of) (keeps left refl) ∙ e

-- by what a read answered
pub text-read : {E : Type 0} (old new : Option Left) (r : Result ℕ E) (piece : List ℕ) → IfOk r (λ n. GivesText old new (take n piece))
    → ((left : Left) → OnErr r (old ≡ Some left → new ≡ Some left))
    → (r ≡ Ok 0 → 0 < length piece → (text behind : List ℕ) → new ≡ Some (Ok (text, behind)) → text ≡ [])
    → ReadConsumes (text_of old) (text_of new) r piece
text-read old new (Ok n) piece gives keeps end = (
  text-given old new (take n piece) gives,
  λ none some. text-ends new (end (ap (λ k. Ok k) none) some),
)
text-read old new (Err e) piece gives keeps end = text-kept old new keeps

pub behind-read : {E : Type 0} (old new : Option Left) (r : Result ℕ E) (piece : List ℕ) → IfOk r (λ n. GivesText old new (take n piece))
    → ((left : Left) → OnErr r (old ≡ Some left → new ≡ Some left)) → (behind : Result (List ℕ) DeflateFault)
    → option_map behind_of old ≡ Some behind → option_map behind_of new ≡ Some behind
behind-read old new (Ok n) piece gives keeps = behind-given old new (take n piece) gives
behind-read old new (Err e) piece gives keeps = behind-kept old new keeps

-- by what a skip answered
pub text-skipped : {E : Type 0} (old new : Option Left) (r : Result ℕ E) → IfOk r (λ n. SkipsText n old new)
    → ((left : Left) → OnErr r (old ≡ Some left → new ≡ Some left)) → ConsumesCount (text_of old) (text_of new) r
text-skipped old new (Ok n) (given, count, gives) keeps = (given, text-given old new given gives, count)
text-skipped old new (Err e) gives keeps = text-kept old new keeps

pub behind-skipped : {E : Type 0} (old new : Option Left) (r : Result ℕ E) → IfOk r (λ n. SkipsText n old new)
    → ((left : Left) → OnErr r (old ≡ Some left → new ≡ Some left)) → (behind : Result (List ℕ) DeflateFault)
    → option_map behind_of old ≡ Some behind → option_map behind_of new ≡ Some behind
behind-skipped old new (Ok n) (given, count, gives) keeps = behind-given old new given gives
behind-skipped old new (Err e) gives keeps = behind-kept old new keeps

-- what is left, by what stands behind the member
pub left-behind : (left : Option Left) (behind : List ℕ) → option_map behind_of left ≡ Some (Ok behind)
    → (text : List ℕ) × (left ≡ Some (Ok (text, behind)))
left-behind None behind e = absurd cc
left-behind (Some (Ok (text, other))) behind e =
    let same : other ≡ behind = cc in (text, ap (λ l. Some (Ok (text, l))) same)
left-behind (Some (Err fault)) behind e = absurd cc

pub left-refused : (left : Option Left) (fault : DeflateFault) → option_map behind_of left ≡ Some (Err fault) → left ≡ Some (Err fault)
left-refused None fault e = absurd cc
left-refused (Some (Ok (text, behind))) fault e = absurd cc
left-refused (Some (Err other)) fault e =
    let same : other ≡ fault = cc in ap (λ f. Some (Err f)) same
