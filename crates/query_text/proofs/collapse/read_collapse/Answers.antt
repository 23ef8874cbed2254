use Rattle.std.proofs.Common.{arith, ◌≡◌, ◌≢◌, ◌++◌, false, nat_eq, bytes_eq, codes, refl}
use Rattle.std.specs.List.{starts_with}
use Rattle.std.proofs.lemmas.Bool.{false_from_ne_true}
use Rattle.std.proofs.lemmas.Slice.Eq.{bytes_eq-Decides}
use Rattle.query_text.specs.Collapses.{collapse_of, width_of}
use Rattle.query_text.specs.Readings.{Text}
use Rattle.query_text.proofs.Occurs.{begun}
use Rattle.query_text.proofs.collapse.read_collapse.Goals as goal

other : (text word : Text) → (text ≡ word → ⊥) → bytes_eq text word ≡ false
other text word differ = grind (arith, bytes_eq-Decides)

behind : (text digits : Text) → text ≡ codes "timestamp:" ++ digits → collapse_of text ≡ width_of digits
behind text digits e = rw e refl

lacks : (text : Text) → ((rest : Text) → text ≢ codes "timestamp:" ++ rest)
    → starts_with nat_eq text (codes "timestamp:") ≡ false
lacks text none = false_from_ne_true _ (λ e. let front = begun (codes "timestamp:") text e in none front.0 front.1)

pub returns-in-None : goal.returns-in-None
returns-in-None c =
    let d = c.in_default in
    rw (other _ _ d.not-urlkey, other _ _ d.not-timestamp, lacks _ c.in-None.ensures.cases) (λ e. refl)
