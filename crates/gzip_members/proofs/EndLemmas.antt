-- At the end of a member no text is left.
use Rattle.std.proofs.Common.{◌≡◌, ℕ, ◌+◌, ◌≤◌, Bool, true, false, not, nat_lt, List, [], length, drop, Option, None, Some, Result, Ok, Err, refl, sym, ap, ◌∙◌, ◌^◌, ◌-◌, arith}
use Rattle.std.specs.Prelude.{◌||◌}
use Rattle.std.specs.Bool.{if◌then◌else◌}
use Rattle.std.proofs.Math.ListN.{drop_of_length-le}
use Rattle.std.proofs.lemmas.Bool.{le-ltb}
use Rattle.deflate_bits.specs.declared.fault.DeflateFault.{DeflateFault}
use Rattle.gzip_members.specs.declared.body.Body.{Body}
use Rattle.gzip_members.specs.declared.body.Stage.{Stage}
use Rattle.gzip_members.specs.declared.body.Stage.TheVariants.{Data, Trailer, Ended, Refused}
use Rattle.gzip_members.specs.Windows.{WindowView}
use Rattle.gzip_members.specs.Bodies.{is_over, left_by, left_in}
use Rattle.gzip_members.specs.Left.{left_ahead, waits}

abbrev pub Left : Type 0
Left = Result (List ℕ × List ℕ) DeflateFault

pub some_left : (b : Bool) (left r : Left) → (if b then None else Some left) ≡ Some r → left ≡ r
some_left true left r e = absurd cc
some_left false left r e = cc

abbrev text_or : Left → List ℕ → List ℕ
text_or (Ok (text, behind)) other = text
text_or (Err fault) other = other

-- nothing waits where nothing is left to be given
stopped : (stage : Stage) (b : Body) → b.stage ≡ stage → waits stage b.window ≡ false → length b.window.text ≤ b.window.given → (bytes text behind : List ℕ)
    → left_in b bytes ≡ Ok (text, behind) → text ≡ []
unfolding left_in
stopped Data b at stop given bytes text behind e =
    let h : nat_lt b.window.given (length b.window.text) ≡ false = le-ltb b.window.given (length b.window.text) given in
    let w : true ≡ false = sym (ap not h) ∙ stop in
    absurd cc
stopped Trailer b at stop given bytes text behind e =
    let h : nat_lt b.window.given (length b.window.text) ≡ false = le-ltb b.window.given (length b.window.text) given in
    let w : true ≡ false = sym (ap not h) ∙ stop in
    absurd cc
stopped Ended b at stop given bytes text behind e =
    let l : ◌≡◌ {A = Left} (Ok (drop b.window.given b.window.text, bytes)) (Ok (text, behind)) = sym (ap (λ (s : Stage). left_by s b bytes) at) ∙ e in
    let none : drop b.window.given b.window.text ≡ [] = drop_of_length-le b.window.text {i = b.window.given} given in
    sym (ap (λ r. text_or r []) l) ∙ none
stopped (Refused fault) b at stop given bytes text behind e =
    let l : ◌≡◌ {A = Left} (Err fault) (Ok (text, behind)) = sym (ap (λ (s : Stage). left_by s b bytes) at) ∙ e in
    absurd cc

pub no-text : (b : Body) (passed : ℕ) (known : Option (List ℕ)) (text behind : List ℕ) → waits b.stage b.window ≡ false
    → length b.window.text ≤ b.window.given → left_ahead b passed known ≡ Some (Ok (text, behind)) → text ≡ []
no-text b passed None text behind stop given e = absurd cc
no-text b passed (Some bytes) text behind stop given e =
    stopped b.stage b refl stop given bytes text behind (some_left (nat_lt (2 ^ 63 - 1) (passed + length bytes)) (left_in b bytes) (Ok (text, behind)) e)

-- nothing more was given out
pub nothing-given : (old new : Stage) (w v : WindowView) (n : ℕ) → n ≡ 0 → new ≡ old → v.text ≡ w.text → v.given ≡ w.given + n
    → waits old w ≡ false → length w.text ≤ w.given → (waits new v ≡ false) × (length v.text ≤ v.given)
nothing-given old new w v n none stage text given stop all =
    let g : v.given ≡ w.given = omega arith in (
      ap (λ (s : Stage). waits s v) stage ∙ ap (λ k. not (is_over old || nat_lt k (length v.text))) g
          ∙ ap (λ l. not (is_over old || nat_lt w.given (length l))) text ∙ stop,
      omega (arith, ap length text),
    )
