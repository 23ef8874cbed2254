-- Growing twice is growing by both, and what wasn't written is a rest.
use Rattle.std.proofs.Common.{arith, ℕ, List, [], ◌++◌, Option, take, drop, append_assoc}
use Rattle.std.proofs.Common.{append-nil}
use Rattle.std.proofs.lemmas.List.{take-append-drop}
use Rattle.std.specs.Io.KnownBytes.{Appends}
use Rattle.devices.specs.Device.{Grows, WroteUpTo, AppendsPrefix}

pub Appends-none : (old : Option (List ℕ)) → Appends old old []
Appends-none old = grind (arith, append-nil)

pub Appends-join : (old mid new : Option (List ℕ)) (a b : List ℕ) → Appends old mid a → Appends mid new b
    → Appends old new (a ++ b)
Appends-join old mid new a b h k = grind (arith, append_assoc)

pub WroteUpTo-more : (old mid new : Option (List ℕ)) (bs rest : List ℕ) (n : ℕ) → WroteUpTo old mid bs rest
    → Appends mid new (take n rest) → WroteUpTo old new bs (drop n rest)
WroteUpTo-more old mid new bs rest n w k = record {
  front = w.front ++ take n rest;
  whole = grind (arith, take-append-drop, append_assoc);
  grown = Appends-join old mid new w.front (take n rest) w.grown k;
}

-- a prefix behind what was written before
pub AppendsPrefix-behind : (old mid new : Option (List ℕ)) (a b more : List ℕ) → Appends old mid a
    → AppendsPrefix mid new b → AppendsPrefix old new (a ++ (b ++ more))
AppendsPrefix-behind old mid new a b more h p = (
  p.0 ++ more,
  record {
    front = a ++ p.1.front;
    whole = grind (arith, append_assoc);
    grown = Appends-join old mid new a p.1.front h p.1.grown;
  },
)

-- ---- outputs that grow

pub grows_not : (old : Option (List ℕ)) → Grows old old
grows_not old = record { text = []; grown = Appends-none old }

pub grows_on : (old mid new : Option (List ℕ)) → Grows old mid → Grows mid new → Grows old new
grows_on old mid new h k = record {
  text = h.text
      ++ k.text;
  grown = Appends-join old mid new h.text k.text h.grown k.grown;
}

pub grows_by : (old new : Option (List ℕ)) (text : List ℕ) → Appends old new text → Grows old new
grows_by old new text h = grind arith

pub grows_part : (old new : Option (List ℕ)) (text : List ℕ) → AppendsPrefix old new text → Grows old new
grows_part old new text (rest, w) = grind arith
