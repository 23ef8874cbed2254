use Rattle.std.proofs.Common.{rules, ◌≡◌, ◌∙◌, ℕ, List, length, nat_lt, None, Some, true, false, cond, ap, sym}
use Rattle.std.specs.Str.Parse.{digits_value}
use Rattle.cdxj_core.specs.Pair.{is_key, is_stamp}
use Rattle.cdxj_core.specs.Places.{PlaceValue, is_offset, offset_of, place_from, resume_place}
use Rattle.door_examples.proofs.lines.resume_key.Goals as goal

abbrev place_of : List ℕ → List ℕ → List ℕ → ℕ → PlaceValue
place_of key stamp filename offset = record { key = key; stamp = stamp; filename = filename; offset = offset }

-- the parts of a place make it
made : (key stamp filename digits : List ℕ) (offset : ℕ) → is_key key ≡ true → is_stamp stamp ≡ true
    → nat_lt 0 (length filename) ≡ true → Some offset ≡ offset_of digits
    → place_from key stamp filename digits ≡ Some (place_of key stamp filename offset)
made key stamp filename digits offset k s f o =
    rw (k, s, f)
    ((elim (is_offset digits) as (λ b. Some offset ≡ cond b (Some (digits_value 10 digits)) None
    → cond b (Some (place_of key stamp filename (digits_value 10 digits))) None
    ≡ Some (place_of key stamp filename offset)) [
      | true ↦ (λ e. let is : digits_value 10 digits ≡ offset = cc in ap (λ n. Some (place_of key stamp filename n)) is)
      | false ↦ (λ e. cc)
    ]) o)

pub returns-in_ok-text-clause-place : goal.returns-in_ok-text-clause-place
returns-in_ok-text-clause-place c =
    let place = place_of c.args.key.now c.args.stamp c.args.filename.now c.in-Some.offset in
    let key : is_key c.args.key.now ≡ true = search rules in
    let stamp : is_stamp c.args.stamp ≡ true = search rules in
    let named : nat_lt 0 (length c.args.filename.now) ≡ true = search rules in
    let number : Some c.in-Some.offset ≡ offset_of c.args.offset.now = search rules in
    ap resume_place c.in_ok-text.ensures ∙ c.resume_key_is_read.ensures place c.place_is_good.ensures
    ∙ sym (made c.args.key.now c.args.stamp c.args.filename.now c.args.offset.now c.in-Some.offset
    key stamp named number)
