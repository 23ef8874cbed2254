-- The head in front of a damaged record.
use Rattle.warc_core.proofs.Words.{arith, ◌≡◌, ℕ, List, [], ◌∷◌, Option, None, Some, Result, Ok, Err, refl, Cause}
use Rattle.warc_core.proofs.Words.{HeadParts, HeadView, ◌>>=◌, closed_at}
use Rattle.warc_core.proofs.NextLemmas.{as_next, head_of}
use Rattle.std.proofs.Common.{subst}
use Rattle.warc_core.specs.Cause.{StopsHead}
use Rattle.warc_core.specs.Head.{parts_or_cause}
use Rattle.warc_core.specs.HeadText.{head_text}
use Rattle.warc_core.specs.Laws.{HeadIsSpelled, HeadAtDamage}
use Rattle.warc_core.specs.Next.{head_at, next_at, within_limit}
use Rattle.warc_core.specs.Walk.{record_at}
use Rattle.warc_core.proofs.HeadTextLemmas.{found-spelled}
use Rattle.warc_core.proofs.SpelledLemmas.{head-there, head-read-there, next-there}

pub head-spelled : HeadIsSpelled
head-spelled limit start bytes rest h e =
    let r = head-read-there limit start bytes rest h (next-there limit start bytes rest h e) in
    let t = head-there limit bytes h.raw rest r.0 in
    let s = found-spelled limit h.raw h.parts t.0 r.1 in
    grind arith

-- ---- what ends the reading of a head

text-stops : (limit : ℕ) (bytes : List ℕ) (c : Cause) → head_text limit bytes ≡ Err c → StopsHead c
unfolding head_text
text-stops limit bytes c e = grind arith

parts-stops : (raw : List ℕ) (c : Cause) → parts_or_cause raw ≡ Err c → StopsHead c
unfolding parts_or_cause
parts-stops raw c e = grind (arith)

-- behind the text of a head its parts are read, and where the record ends
behind-stops : (start : ℕ) (text : List ℕ × List ℕ) (c : Cause) (parts : Result HeadParts Cause)
    → parts_or_cause text.0 ≡ parts
    → (parts >>= λ parts. within_limit (head_of start text.0 parts) text.1) ≡ Err c → StopsHead c
behind-stops start text c (Ok parts) r e = grind arith
behind-stops start text c (Err cause) r e =
    let same : cause ≡ c = cc in subst StopsHead same (parts-stops text.0 cause r)

head-stops : (limit start : ℕ) (bytes : List ℕ) (c : Cause) → head_at limit start bytes ≡ Err c → StopsHead c
unfolding head_at
head-stops limit start bytes c e = of_text (head_text limit bytes) refl e
  where
    of_text : (text : Result (List ℕ × List ℕ) Cause) → head_text limit bytes ≡ text
        → (text >>= λ t. parts_or_cause t.0 >>= λ parts. within_limit (head_of start t.0 parts) t.1) ≡ Err c
        → StopsHead c
    of_text (Ok text) r e = behind-stops start text c (parts_or_cause text.0) refl e
    of_text (Err cause) r e =
        let same : cause ≡ c = cc in subst StopsHead same (text-stops limit bytes cause r)

as-next-stops : (limit start : ℕ) (bytes : List ℕ) (c : Cause) (head : Result (HeadView × List ℕ) Cause)
    → head_at limit start bytes ≡ head → (head >>= as_next) ≡ Err c → StopsHead c
as-next-stops limit start bytes c (Ok head) r e = absurd cc
as-next-stops limit start bytes c (Err cause) r e =
    let same : cause ≡ c = cc in subst StopsHead same (head-stops limit start bytes cause r)

next-stops : (limit start : ℕ) (bytes : List ℕ) (c : Cause) → next_at limit start bytes ≡ Err c → StopsHead c
unfolding next_at
next-stops limit start [] c e = absurd cc
next-stops limit start (b ∷ bytes) c e = as-next-stops limit start (b ∷ bytes) c (head_at limit start (b ∷ bytes)) refl e

-- a record that is refused behind its head has a head
head-of : (limit start : ℕ) (bytes : List ℕ) (c : Cause) → (StopsHead c → ⊥)
    → (r : Result (Option HeadView × List ℕ) Cause) → next_at limit start bytes ≡ r → (r >>= closed_at) ≡ Err c
    → (h : HeadView) × (rest : List ℕ) × (next_at limit start bytes ≡ Ok (Some h, rest))
head-of limit start bytes c n (Ok (Some h, rest)) e k = (h, rest, e)
head-of limit start bytes c n (Ok (None, rest)) e k = absurd cc
head-of limit start bytes c n (Err cause) e k =
    let same : cause ≡ c = cc in absurd (n (subst StopsHead same (next-stops limit start bytes cause e)))

pub head-at-damage : HeadAtDamage
unfolding record_at
head-at-damage limit archive heads offset cause d n =
    let f = head-of limit offset d.rest cause n (next_at limit offset d.rest) refl d.refused in
    let s = head-spelled limit offset d.rest f.1 f.0 f.2 in
    grind arith
