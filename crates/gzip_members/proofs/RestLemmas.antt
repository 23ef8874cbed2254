-- The rest of a member is passed over.
use Rattle.std.proofs.Common.{◌≡◌, ℕ, ◌+◌, ◌-◌, ◌^◌, ◌<◌, ◌≤◌, Bool, true, false, nat_lt, List, [], length, drop, Option, None, Some, Ok, Err, sym, ap, ◌∙◌, arith, length-append, length-drop}
use Rattle.std.specs.Bool.{if◌then◌else◌}
use Rattle.std.proofs.lemmas.Bool.{le-ltb, lt-ltb, ltb-false, ltb-true}
use Rattle.deflate_bits.specs.declared.fault.DeflateFault.{DeflateFault}
use Rattle.gzip_members.specs.declared.body.Body.{Body}
use Rattle.gzip_members.specs.Bodies.{left_in, GivesLeft}
use Rattle.gzip_members.specs.Left.{left_ahead, GivesText, PassesRest, PassesText}
use Rattle.gzip_members.proofs.EndLemmas.{Left}

abbrev pair_or : Option Left → List ℕ × List ℕ → List ℕ × List ℕ
pair_or (Some (Ok pair)) other = pair
pair_or (Some (Err fault)) other = other
pair_or None other = other

given-some : (x y : Left) (given : List ℕ) → GivesLeft x y given → GivesText (Some x) (Some y) given
given-some (Ok (t, b)) (Ok (r, c)) given (parts, same) = record {
  text = λ text behind e.
      let p : ◌≡◌ {A = List ℕ × List ℕ} (t, b) (text, behind) = ap (λ o. pair_or o (t, b)) e in
      (r, ap (λ l. Some (Ok (r, l))) (same ∙ ap (λ (q : List ℕ × List ℕ). q.1) p), sym (ap (λ (q : List ℕ × List ℕ). q.0) p) ∙ parts);
  fault = λ fault e. absurd cc;
}
given-some (Ok x) (Err e) given h = absurd h
given-some (Err e) (Ok y) given h = absurd h
given-some (Err e) (Err f) given h = record {
  text = λ text behind e. absurd cc;
  fault = λ fault k. ap (λ x. Some (Err x)) h ∙ k;
}

given-where : (b : Bool) (x y : Left) (given : List ℕ) → GivesLeft x y given → GivesText (if b then None else Some x) (if b then None else Some y) given
given-where true x y given h = record { text = λ text behind e. absurd cc; fault = λ fault e. absurd cc }
given-where false x y given h = given-some x y given h

pub given-ahead : (old new : Body) (passed : ℕ) (known : Option (List ℕ)) (given : List ℕ)
    → ((bytes : List ℕ) → GivesLeft (left_in old bytes) (left_in new bytes) given) → GivesText (left_ahead old passed known) (left_ahead new passed known) given
given-ahead old new passed None given h = record { text = λ text behind e. absurd cc; fault = λ fault e. absurd cc }
given-ahead old new passed (Some bytes) given h = given-where (nat_lt (2 ^ 63 - 1) (passed + length bytes)) (left_in old bytes) (left_in new bytes) given (h bytes)

-- what was left before is left later, but for what is given
pub given-later : (old mid new : Option Left) (given : List ℕ) → ((r : Left) → old ≡ Some r → mid ≡ Some r) → GivesText mid new given → GivesText old new given
given-later old mid new given keeps gives = record {
  text = λ text behind e. gives.text text behind (keeps (Ok (text, behind)) e);
  fault = λ fault e. gives.fault fault (keeps (Err fault) e);
}

pub passed-text : (had : Bool) (old mid new : Option Left) (text : List ℕ) (given : ℕ) → had ≡ true → ((r : Left) → old ≡ Some r → mid ≡ Some r)
    → had ≡ nat_lt given (length text) → GivesText mid new (drop given text) → PassesText had old new
passed-text true old mid new text given e keeps some gives =
    let h : given < length text = ltb-true given (length text) (sym some) in
    (drop given text, omega (arith, length-drop given text), given-later old mid new (drop given text) keeps gives)
passed-text false old mid new text given e keeps some gives = absurd cc

pub at-end : (given l : ℕ) → nat_lt given l ≡ false → l ≤ given
at-end given l e = ltb-false given l e

-- how far all text was passed over
abbrev pub PassedTo : Bool → ℕ → Option Left → Option Left → Type 0
PassedTo had turns old new = ((text behind : List ℕ) → old ≡ Some (Ok (text, behind))
    → (rest : List ℕ) × (new ≡ Some (Ok (rest, behind))) × (turns + length rest ≤ length text) × (had ≡ nat_lt (length rest) (length text)))
    × ((fault : DeflateFault) → old ≡ Some (Err fault) → new ≡ Some (Err fault))

pub passed-none : (left : Option Left) → PassedTo false 0 left left
passed-none left = (λ text behind e. (text, e, omega arith, sym (le-ltb (length text) (length text) (omega arith))), λ fault e. e)

-- more text was passed over
pub passed-more : (had : Bool) (turns : ℕ) (old mid new : Option Left) → PassedTo had turns old mid → PassesText true mid new → PassedTo true (turns + 1) old new
passed-more had turns old mid new (texts, faults) (given, some, gives) = (
  λ text behind e.
      let p = texts text behind e in
      let q = gives.text p.0 behind p.1 in
      let l : length p.0 ≡ length given + length q.0 = ap length q.2 ∙ length-append given q.0 in
      let far : turns + 1 + length q.0 ≤ length text = omega (arith, p.2) in
      (q.0, q.1, far, sym (lt-ltb (length q.0) (length text) (omega arith))),
  λ fault e. gives.fault fault (faults fault e),
)

-- all was
pub passed-all : (had : Bool) (turns : ℕ) (old mid new : Option Left) → PassedTo had turns old mid → PassesText false mid new
    → ((text behind : List ℕ) → new ≡ Some (Ok (text, behind)) → text ≡ []) → (text behind : List ℕ) → old ≡ Some (Ok (text, behind))
    → PassesRest (Some had) text behind new
passed-all had turns old mid new (texts, faults) gives none text behind e =
    let p = texts text behind e in
    let q = gives.text p.0 behind p.1 in
    let end : q.0 ≡ [] = none q.0 behind q.1 in
    let empty : p.0 ≡ [] = q.2 ∙ end in
    (q.1 ∙ ap (λ l. Some (Ok (l, behind))) end, p.3 ∙ ap (λ l. nat_lt (length l) (length text)) empty)
