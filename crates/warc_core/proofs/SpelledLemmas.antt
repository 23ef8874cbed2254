-- What is read as a record is spelled as one.
use Rattle.warc_core.proofs.Words.{◌≡◌, ℕ, ◌+◌, ◌<◌, ◌≤◌, true, false, List, [], ◌∷◌, ◌++◌, Option}
use Rattle.warc_core.proofs.Words.{Some, Result, Ok, Err, ap, refl, length, take, drop, ◌⊎◌, ◌-◌}
use Rattle.warc_core.proofs.Words.{suc, length-append, append_assoc, append-nil, arith}
use Rattle.warc_core.proofs.Words.{take-append-drop, length-take-le, Cause, closing, is_closed}
use Rattle.warc_core.proofs.Words.{IsFoundHead, ◌>>=◌, Reads, prepend_known, HeadView}
use Rattle.warc_core.proofs.Words.{record_length, closed_at, Walks}
use Rattle.std.proofs.Common.{Bool, ◌^◌, zero, length-take}
use Rattle.std.proofs.Math.Seq.{drop-append_seam, take-append_seam}
use Rattle.warc_core.specs.Record.{after_text, after_block, after_record}
use Rattle.warc_core.specs.HeadText.{shortest, head_text}
use Rattle.warc_core.specs.Head.{parts_or_cause}
use Rattle.warc_core.specs.Next.{head_at, next_at}
use Rattle.warc_core.specs.Walk.{record_at}
use Rattle.warc_core.specs.Laws.{ReadIsSpelled, SpelledIsRead, NoPrefix, RecordsOrDamage}
use Rattle.warc_core.proofs.HeadTextLemmas.{found-spelled, spelled-found}
use Rattle.warc_core.proofs.GatherLemmas.{has_version-front}
use Rattle.warc_core.proofs.WalkLemmas.{none_at_end}
use Rattle.warc_core.proofs.HeadLemmas.{going-start, going-piece, going-found}
use Rattle.warc_core.proofs.ReadingLemmas.{nil_of}

-- what follows a text stands behind it
pub after_text-spelled : (text bytes rest : List ℕ) → after_text text bytes ≡ Ok (tt, rest) → bytes ≡ text ++ rest
unfolding after_text
after_text-spelled (c ∷ text) (b ∷ bytes) rest e = grind (arith, after_text-spelled text bytes rest)
after_text-spelled text bytes rest e = grind arith

-- the shortest front is a front
pub shortest-front : (test : List ℕ → Bool) (seen bytes head : List ℕ) → shortest test seen bytes ≡ Some head
    → seen ++ bytes ≡ head ++ drop (length head) (seen ++ bytes)
unfolding shortest
shortest-front test seen (b ∷ bytes) head e =
    grind (arith, append_assoc, drop-append_seam, shortest-front test (seen ++ b ∷ []) bytes head)
shortest-front test seen [] head e = grind (arith, drop-append_seam)

-- the shortest front passes the test
pub shortest-passes : (test : List ℕ → Bool) (seen bytes head : List ℕ) → shortest test seen bytes ≡ Some head
    → test head ≡ true
unfolding shortest
shortest-passes test seen (b ∷ bytes) head e =
    grind (arith, shortest-passes test (seen ++ b ∷ []) bytes head)
shortest-passes test seen [] head e = grind arith

-- the shortest front begins with what was seen
shortest-extends : (test : List ℕ → Bool) (seen bytes head : List ℕ) → shortest test seen bytes ≡ Some head
    → (more : List ℕ) × (head ≡ seen ++ more)
unfolding shortest
shortest-extends test seen (b ∷ bytes) head e =
    grind (arith, append-nil, append_assoc, shortest-extends test (seen ++ b ∷ []) bytes head)
shortest-extends test seen [] head e = grind (arith, append-nil)

-- no shorter front passes
shortest-first : (test : List ℕ → Bool) (seen bytes head : List ℕ) → shortest test seen bytes ≡ Some head → (n : ℕ)
    → length seen ≤ n → n < length head → test (take n head) ≡ false
unfolding shortest
shortest-first test seen (b ∷ bytes) head e n l m =
    let more = shortest-extends test seen (b ∷ bytes) head e in
    let front = take-append_seam seen more.0 in
    let size = length-append seen (b ∷ []) in
    grind (arith, shortest-first test (seen ++ b ∷ []) bytes head)
shortest-first test seen [] head e n l m = grind arith

-- a head text is read, whatever follows
head-back : (limit : ℕ) (raw x : List ℕ) → IsFoundHead limit raw → head_text limit (raw ++ x) ≡ Ok (raw, x)
head-back limit raw x h = grind (arith, going-start, going-piece, going-found)

-- a head that was taken from what is held
pub taken-head : (limit : ℕ) (raw b rest : List ℕ) (left : Option (List ℕ)) → IsFoundHead limit raw → b ≡ raw ++ rest
    → Reads (head_text limit) (Ok raw) (prepend_known b left) (prepend_known rest left)
taken-head limit raw b rest left found e = grind (arith, head-back, append_assoc)

-- what is read as a head is a head text, and the rest follows it
pub head-there : (limit : ℕ) (bytes raw rest : List ℕ) → head_text limit bytes ≡ Ok (raw, rest) → IsFoundHead limit raw
    × (bytes ≡ raw ++ rest)
unfolding head_text
head-there limit bytes raw rest e =
    let found : shortest is_closed [] (take limit bytes) ≡ Some raw = grind arith in
    let front = shortest-front is_closed [] (take limit bytes) raw found in
    let all : bytes ≡ raw ++ (drop (length raw) (take limit bytes) ++ drop limit bytes) =
    grind (arith, take-append-drop, append_assoc) in
    let len = ap length front in
    grind (arith, has_version-front, shortest-passes, shortest-first, length-take, length-append, drop-append_seam)

-- what follows a block and its closing
pub block-there : (n : ℕ) (bytes rest : List ℕ) → after_record n bytes ≡ Ok (tt, rest) → (block : List ℕ)
    × (length block ≡ n) × (bytes ≡ block ++ (closing ++ rest))
unfolding after_record after_block
block-there n bytes rest e =
    let s = after_text-spelled closing (drop n bytes) rest (grind arith) in
    (take n bytes, grind (arith, length-take-le), rw (← s, take-append-drop))

closing-back : (rest : List ℕ) → after_text closing (closing ++ rest) ≡ Ok (tt, rest)
unfolding after_text
closing-back rest = refl

block-back : (block rest : List ℕ) → after_record (length block) (block ++ (closing ++ rest)) ≡ Ok (tt, rest)
unfolding after_record after_block
block-back block rest = grind (arith, length-append, drop-append_seam, closing-back)

-- what is read as a head here
pub head-read-there : (limit start : ℕ) (bytes rest : List ℕ) (h : HeadView) → head_at limit start bytes ≡ Ok (h, rest)
    → (head_text limit bytes ≡ Ok (h.raw, rest)) × (parts_or_cause h.raw ≡ Ok h.parts) × (h.start ≡ start)
    × (start + record_length h ≤ 2 ^ 63 - 1)
unfolding head_at
head-read-there limit start bytes rest h e = grind arith

pub next-there : (limit start : ℕ) (bytes rest : List ℕ) (h : HeadView) → next_at limit start bytes ≡ Ok (Some h, rest)
    → head_at limit start bytes ≡ Ok (h, rest)
unfolding next_at
next-there limit start bytes rest h e = grind arith

closed-there : (r : Result (Option HeadView × List ℕ) Cause) (h : HeadView) (rest : List ℕ)
    → (r >>= closed_at) ≡ Ok (Some h, rest)
    → (later : List ℕ) × (r ≡ Ok (Some h, later)) × (after_record h.parts.block_length later ≡ Ok (tt, rest))
closed-there r h rest e = grind arith

pub read-spelled : ReadIsSpelled
unfolding record_at
read-spelled limit start bytes rest h e =
    let c = closed-there (next_at limit start bytes) h rest e in
    let r = head-read-there limit start bytes c.0 h (next-there limit start bytes c.0 h c.1) in
    let w = head-there limit bytes h.raw c.0 r.0 in
    let b = block-there h.parts.block_length c.0 rest c.2 in
    let head = found-spelled limit h.raw h.parts w.0 r.1 in
    grind (arith, append_assoc)

-- a head that is there
head-read-back : (limit start : ℕ) (h : HeadView) (x : List ℕ) → IsFoundHead limit h.raw
    → parts_or_cause h.raw ≡ Ok h.parts
    → h.start ≡ start → start + record_length h ≤ 2 ^ 63 - 1 → head_at limit start (h.raw ++ x) ≡ Ok (h, x)
unfolding head_at
head-read-back limit start h x t p s f = grind (arith, head-back)

next-back : (limit start : ℕ) (bytes rest : List ℕ) (h : HeadView) → 0 < length bytes → head_at limit start bytes
    ≡ Ok (h, rest) → next_at limit start bytes ≡ Ok (Some h, rest)
unfolding next_at
next-back limit start bytes rest h l e = grind arith

pub spelled-read : SpelledIsRead
unfolding record_at
spelled-read limit start h block text rest r =
    let t = r.is_text in
    let f = spelled-found limit h.raw h.parts t.is_head in
    let head = head-read-back limit start h (block ++ (closing ++ rest)) f.found f.says r.start_is r.fits in
    grind (arith, length-append, next-back, block-back, append_assoc)

pub no-prefix : NoPrefix
no-prefix limit head head' parts parts' block block' text more t u =
    let a : text ++ more ≡ head ++ ((block ++ closing) ++ more) = grind (arith, append_assoc) in
    let f = spelled-found limit head parts t.is_head in
    let g = spelled-found limit head' parts' u.is_head in
    let p = head-back limit head ((block ++ closing) ++ more) f.found in
    let q = head-back limit head' (block' ++ closing) g.found in
    let same : (head ≡ head') × (length ((block ++ closing) ++ more) ≡ length (block' ++ closing)) = grind arith in
    grind (arith, nil_of, length-append)

abbrev pub Outcome : ℕ → ℕ → List ℕ → Type 0
Outcome limit start bytes = (heads : List HeadView) × (end : ℕ) × (rest : List ℕ)
    × Walks limit start bytes heads end rest × ((rest ≡ []) ⊎ ((c : Cause) × (record_at limit end rest ≡ Err c)))

outcome-of : (limit start n : ℕ) (bytes : List ℕ) → length bytes ≤ suc n
    → ((start : ℕ) (later : List ℕ) → length later ≤ n → Outcome limit start later)
    → (r : Result (Option HeadView × List ℕ) Cause) → record_at limit start bytes ≡ r → Outcome limit start bytes
outcome-of limit start n bytes l more (Ok (Some h, rest)) e =
    let p = read-spelled limit start bytes rest h e in
    let o = more (start + record_length h) rest (grind (arith, length-append)) in
    (h ∷ o.0, o.1, o.2, (rest, e, o.3), o.4)
outcome-of limit start n bytes l more r e = grind (arith, none_at_end)

outcome : (limit n start : ℕ) (bytes : List ℕ) → length bytes ≤ n → Outcome limit start bytes
outcome limit zero start bytes l = grind (arith, nil_of)
outcome limit (suc n) start bytes l = outcome-of limit start n bytes l (λ s later k. outcome limit n s later k)
    (record_at limit start bytes) refl

pub total : RecordsOrDamage
total limit archive = grind (arith, outcome limit (length archive) 0 archive)

pub ruleset spelling_rules = (read-spelled, spelled-read)
