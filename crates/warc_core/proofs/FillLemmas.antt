-- A block's first bytes, piece by piece.
use Rattle.warc_core.proofs.Words.{◌≡◌, ℕ, ◌+◌, ◌-◌, ◌≤◌, List, [], ◌++◌, Option, Ok, Err, length}
use Rattle.warc_core.proofs.Words.{take, arith, append_assoc, length-drop, length-take-le, drop_all}
use Rattle.warc_core.proofs.Words.{take-take, take-append-add, Consumes, Cause, Open}
use Rattle.std.proofs.lemmas.Slice.{take-put_mid}
use borrow.Rule.Slice.PartMut.{put_mid, same_len_mid}
use Rattle.warc_core.specs.declared.fault.Fault.{Fault}
use Rattle.warc_core.specs.Reading.{IsPossibleFault}
use Rattle.warc_core.specs.Record.{after_block}
use Rattle.warc_core.specs.ReaderView.{ReaderState, HasLeft, IfOpen, StandsAt, ahead}
use Rattle.warc_core.proofs.OpenLemmas.{left_in, length_in}
use Rattle.warc_core.specs.Calls.{GivesBlock, Fills}
use Rattle.warc_core.proofs.RecordLemmas.{after_block-part}

pub Consumes-none : (known : Option (List ℕ)) → Consumes known known []
Consumes-none known = grind arith

pub Consumes-join : (before mid after : Option (List ℕ)) (a b : List ℕ) → Consumes before mid a → Consumes mid after b
    → Consumes before after (a ++ b)
Consumes-join before mid after a b h k = grind (arith, append_assoc)

-- what is found behind the first bytes of a block is found of the block
pub found-behind : (c : Cause) (left n : ℕ) (piece : List ℕ) (before mid : Option (List ℕ)) → length piece ≡ n
    → n ≤ left → Consumes before mid piece → IsPossibleFault (after_block (left - n)) c mid
    → IsPossibleFault (after_block left) c before
found-behind c left n piece before mid l h k f = grind (arith, drop_all n piece, after_block-part left n piece)

-- the first n bytes of what was written at the place a
pub take-written : (a k n : ℕ) (xs ys : List ℕ) → a ≤ length xs → n ≤ length ys → take (a + n) (put_mid a k xs ys)
    ≡ take a xs ++ take n ys
take-written a k n xs ys h m =
    let len = length-take-le a xs h in
    let cut = take-take (a + n) (a + length ys) (put_mid a k xs ys) (omega arith) in
    grind (arith, take-put_mid, take-append-add)

-- So many bytes of a piece were filled from an open record's block.
pub record Filling (size : ℕ) (old now : ReaderState) (filled : ℕ) (piece : List ℕ) : Type 0 where
  pub fits : HasLeft size old.reader.phase
  pub long : length piece ≡ size
  pub within : filled ≤ size
  pub stands : StandsAt now.reader old.reader.offset
      (Open (left_in old.reader.phase - filled) (length_in old.reader.phase))
  pub given : Consumes (ahead old) (ahead now) (take filled piece)
  pub failures : now.failures ≡ old.failures

module _ (size filled : ℕ) (old now next : ReaderState) (piece part : List ℕ) (f : Filling size old now filled piece) where
  pub Filling-more : (n : ℕ) → IfOpen now.reader.phase (λ left len. GivesBlock left len now next (Ok n) part)
      → length part ≡ size - filled
      → Filling size old next (filled + n) (put_mid filled (length piece - filled) piece part)
  Filling-more n gave long =
      grind (arith, take-written, Consumes-join, same_len_mid, length-take-le, length-drop)

  pub Filling-fault : (fault : Fault) (whole : List ℕ)
      → IfOpen now.reader.phase (λ left len. GivesBlock left len now next (Err fault) part)
      → IfOpen old.reader.phase (λ left len. Fills left len old next (Err fault) whole)
  Filling-fault fault whole gave =
      let left = left_in old.reader.phase in
      grind (arith, found-behind fault.cause left filled (take filled piece), length-take-le filled piece)

pub ruleset fill_rules = (Filling-more, Filling-fault)
