-- How many bytes of the input were taken.
use Rattle.std.proofs.Common.{ℕ, List, ◌∙◌, Option, Some, None}
use Rattle.devices.specs.LineReading.{CountsTaken}

pub taken-join : (before now after : Option (List ℕ)) (k m n : ℕ) → CountsTaken before now k m
    → CountsTaken now after m n → CountsTaken before after k n
taken-join None now after k m n h j = tt
taken-join (Some text) None after k m n h j = absurd h
taken-join (Some text) (Some now) None k m n h j = absurd j
taken-join (Some text) (Some now) (Some rest) k m n h j = h ∙ j
