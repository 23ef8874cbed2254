-- A block's head is the only one, and is found in as many of its first bytes as a head may have.
use Rattle.std.proofs.lemmas.Grind.{common_steps}
use Rattle.std.proofs.Common.{◌≡◌, ℕ, List, length, length-append, arith, Some, None}
use Rattle.httparse.specs.Grammar.{print_response}
use Rattle.httparse.proofs.GrammarLemmas.{response_unique}
use Rattle.warc_core.proofs.DigestLemmas.{take_past}
use Rattle.capture_core.specs.HttpHead.{FrontDecides, HasNoHead, OneHead}

pub one_head : OneHead
one_head bytes fields block None h a b = grind arith
one_head bytes fields block (Some x) None a b = absurd (b x.0 x.1 a)
one_head bytes fields block (Some x) (Some y) a b = grind (arith, response_unique block x.0 y.0 x.1 y.1 a.reads b.reads)

pub front_decides : FrontDecides
front_decides bytes fields block k h = grind (arith, take_past, common_steps)

-- no head stands in no bytes
pub no_head_in_nothing : (bytes fields : ℕ) (block : List ℕ) → length block ≡ 0 → HasNoHead bytes fields block
unfolding print_response
no_head_in_nothing bytes fields block none = grind (arith, length-append)
