-- Laws of the bytes that are held.
use Rattle.std.proofs.Common.{◌≡◌, ℕ, zero, suc, [], ◌∷◌, zero-add, ◌+◌, ◌-◌, ◌≤◌, List, ◌++◌, Option, None, Some, length, take, drop, arith, sym, ap, ◌∙◌, append_assoc}
use Rattle.std.proofs.Math.Nat.{suc-add}
use Rattle.std.proofs.Math.Seq.{take-nil, take-append_seam}
use Rattle.std.proofs.lemmas.List.{drop-take, drop-drop}
use Rattle.std.proofs.lemmas.Grind.{common_steps}
use Rattle.std.specs.Io.KnownBytes.{Keeps, Consumes, prepend_known}

-- what is held is told by the bytes up to its end
pub held-is : (from to : ℕ) (bytes : List ℕ) → from ≤ to → take (to - from) (drop from bytes) ≡ drop from (take to bytes)
held-is from to bytes h =
    let e : from + (to - from) ≡ to = omega arith in
    grind (arith, drop-take)

-- it is the same where those bytes are
pub held-same : (from to : ℕ) (old new : List ℕ) → from ≤ to → take to new ≡ take to old
    → take (to - from) (drop from new) ≡ take (to - from) (drop from old)
held-same from to old new h e = held-is from to new h ∙ ap (drop from) e ∙ sym (held-is from to old h)

take-more : (m n : ℕ) (xs : List ℕ) → take (m + n) xs ≡ take m xs ++ take n (drop m xs)
take-more zero n xs = ap (λ k. take k xs) (zero-add n)
take-more (suc m) n [] = rw suc-add (sym (take-nil n))
take-more (suc m) n (x ∷ xs) = rw suc-add (ap (λ ys. x ∷ ys) (take-more m n xs))

-- more of them
pub held-more : (from to n : ℕ) (bytes : List ℕ) → from ≤ to
    → take (to + n - from) (drop from bytes) ≡ take (to - from) (drop from bytes) ++ take n (drop to bytes)
held-more from to n bytes h =
    let e : to + n - from ≡ (to - from) + n = omega arith in
    let f : from + (to - from) ≡ to = omega arith in
    rw e (take-more (to - from) n (drop from bytes) ∙ ap (λ xs. take (to - from) (drop from bytes) ++ take n xs) (drop-drop (to - from) from bytes ∙ ap (λ k. drop k bytes) f))

-- the first of them are taken
pub consumed : (from to count : ℕ) (bytes : List ℕ) → count ≤ to - from
    → take (to - (from + count)) (drop (from + count) bytes) ≡ drop count (take (to - from) (drop from bytes))
consumed from to count bytes h =
    let e : to - from ≡ count + (to - (from + count)) = omega arith in
    grind (arith, drop-take, drop-drop)

-- a read behind what is held keeps what is known
pub read-keeps : (before after : Option (List ℕ)) (held more : List ℕ) → Consumes before after more
    → Keeps (prepend_known held before) (prepend_known (held ++ more) after)
read-keeps None after held more c = tt
read-keeps (Some z) None held more c = absurd c
read-keeps (Some z) (Some w) held more c = grind (arith, append_assoc)

-- bytes that were written over all of a vector are its bytes
pub items-are : (n : ℕ) (new old : List ℕ) → length new ≡ n → take n (new ++ old) ≡ new
items-are n new old e = rw (← e) (take-append_seam new old)

-- what is held after it was moved by `by`, and read behind
pub held-moved : (from to by : ℕ) (old mid new : List ℕ) → from ≤ to → by ≤ from
    → take (to - from) (drop (from - by) mid) ≡ take (to - from) (drop from old) → take (to - by) new ≡ take (to - by) mid
    → take (to - by - (from - by)) (drop (from - by) new) ≡ take (to - from) (drop from old)
held-moved from to by old mid new order within same front =
    let e : to - by - (from - by) ≡ to - from = omega arith in
    held-same (from - by) (to - by) mid new (omega arith) front ∙ rw e same

pub held-read : (from to by n : ℕ) (old mid new : List ℕ) → from ≤ to → by ≤ from
    → take (to - from) (drop (from - by) mid) ≡ take (to - from) (drop from old) → take (to - by) new ≡ take (to - by) mid
    → take (to - by + n - (from - by)) (drop (from - by) new) ≡ take (to - from) (drop from old) ++ take n (drop (to - by) new)
held-read from to by n old mid new order within same front =
    held-more (from - by) (to - by) n new (omega arith)
    ∙ ap (λ xs. xs ++ take n (drop (to - by) new)) (held-moved from to by old mid new order within same front)

pub ruleset held_rules = (held-moved, held-same)

pub ruleset read_rules = (held-more, read-keeps, items-are, common_steps)
