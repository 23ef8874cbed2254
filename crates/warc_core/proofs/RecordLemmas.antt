-- Laws of what follows a block and its closing.
use Rattle.warc_core.proofs.Words.{◌≡◌, ℕ, ◌-◌, ◌<◌, ◌≤◌, List, [], ◌∷◌, ◌++◌, Option, Ok, Err}
use Rattle.warc_core.proofs.Words.{length, drop, refl, arith, length-append, length-drop, get_or}
use Rattle.warc_core.proofs.Words.{suc, Reads, prepend_known, closing}
use Rattle.std.proofs.Common.{◌≢◌}
use Rattle.std.proofs.lemmas.Bool.Decides.{nat_tests}
use Rattle.std.proofs.lemmas.List.{drop-append-le, drop-drop}
use Rattle.warc_core.proofs.ReadingLemmas.{GoesOn}
use Rattle.warc_core.specs.Record.{after_block, after_text}
use Rattle.warc_core.specs.declared.fault.Cause.TheVariants as causes

pub after_block-zero : (n : ℕ) (w : List ℕ) → n ≡ 0 → after_block n w ≡ Ok (tt, w)
unfolding after_block
after_block-zero n w e = grind (arith, nat_tests)

pub after_block-short : (n : ℕ) (w : List ℕ) → 0 < n → w ≡ [] → after_block n w ≡ Err causes.ShortBlock
unfolding after_block
after_block-short n w h e = grind (arith, nat_tests)

pub after_block-part : (n count : ℕ) (b z : List ℕ) → count ≤ n → count ≤ length b → after_block n (b ++ z)
    ≡ after_block (n - count) (drop count b ++ z)
unfolding after_block
after_block-part n count b z h k =
    grind (arith, drop-drop (n - count) count (b ++ z), drop-append-le count b z k, length-append, length-drop)

-- another byte, or none, in a text's place
pub after_text-other : (c b : ℕ) (text w : List ℕ) → b ≢ c → after_text (c ∷ text) (b ∷ w) ≡ Err causes.Closing
unfolding after_text
after_text-other c b text w h = grind (arith, nat_tests)

pub after_text-end : (c : ℕ) (text w : List ℕ) → w ≡ [] → after_text (c ∷ text) w ≡ Err causes.Closing
unfolding after_text
after_text-end c text w h = rw h refl

pub after_text-here : (c : ℕ) (text w : List ℕ) → after_text (c ∷ text) (c ∷ w) ≡ after_text text w
unfolding after_text
after_text-here c text w = grind (arith, nat_tests)

-- a closing that stands whole in front of what is known
pub closing-held : (held left : List ℕ) (known : Option (List ℕ)) → held ≡ closing ++ drop 4 held → left ≡ drop 4 held
    → Reads (after_text closing) (Ok tt) (prepend_known held known) (prepend_known left known)
unfolding after_text
closing-held held left known h l = grind arith

pub after_text-done : (w : List ℕ) → after_text [] w ≡ Ok (tt, w)
unfolding after_text
after_text-done w = refl

module _ (before now after : Option (List ℕ)) (i : ℕ) (within : i < length closing)
    (same : GoesOn (after_text closing) (after_text (drop i closing)) before now) where
  pub here : GoesOn (after_text closing) (after_text (get_or closing i 0 ∷ drop (suc i) closing)) before now
  here = grind arith
