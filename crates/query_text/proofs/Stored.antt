-- What is read of a parameter's value and stored.
use Rattle.std.proofs.Common.{◌≡◌, ◌≢◌, Option, Some, Ok, Err, MatchResult, ap, ◌∙◌, arith, option_map, refl, sym}
use Rattle.query_text.specs.declared.fault.QueryFault.TheVariants.{Memory}
use Rattle.query_text.specs.declared.parameter.Parameter.{Parameter}
use Rattle.query_text.specs.declared.parameters.Parameters.{Parameters}
use Rattle.query_text.specs.{Filters.FilterValue, ParameterViews.IsReadingInto}
use Rattle.query_text.specs.Readings.{Text, Read, IsReading, IsReadingBy, and_then}
use Rattle.query_text.specs.Parameters.{ParameterValues, with_filter, with_value}

kept_value : {T : Type 0} (wanted : Read ParameterValues) (of : Text → Read T) (put : Option T → ParameterValues)
    (value kept text : Text) (read : Read T) (slot : Option T) (result : Read (Unit {0}))
    → wanted ≡ and_then (of text) (λ x. Ok (put (Some x))) → value ≡ kept → kept ≡ text → IsReading (of value) read
    → MatchResult read (λ x. (result ≡ Ok tt) × (slot ≡ Some x)) (λ e. result ≡ Err e)
    → MatchResult result (λ _. wanted ≡ Ok (put slot)) (λ e. e ≢ Memory → wanted ≡ Err e)
kept_value wanted of put value kept text read slot result w v k is done = grind arith

pub stored : {T : Type 0} (of : Text → Read T) (put : ParameterValues → Option T → ParameterValues)
    (v : ParameterValues) (text : Text) (p q : Parameter) (value kept shown : Text) (read : Read T) (slot : Option T)
    (result : Read (Unit {0}))
    → p ≡ q → with_value q v text ≡ and_then (of shown) (λ x. Ok (put v (Some x))) → value ≡ kept → kept ≡ shown
    → IsReading (of value) read → MatchResult read (λ x. (result ≡ Ok tt) × (slot ≡ Some x)) (λ e. result ≡ Err e)
    → MatchResult result (λ _. with_value p v text ≡ Ok (put v slot)) (λ e. e ≢ Memory → with_value p v text ≡ Err e)
stored of put v text p q value kept shown read slot result named w e k is done =
    kept_value (with_value p v text) of (put v) value kept shown read slot result
    (ap (λ r. with_value r v text) named ∙ w) e k is done

-- a value that is seen by a view
pub stored_view : {T U : Type 0} (view : T → U) (wanted : Read U) (put : Option U → ParameterValues) (read : Read T)
    (slot : Option T) (result : Read (Unit {0})) → IsReadingBy view wanted read
    → MatchResult read (λ x. (result ≡ Ok tt) × (slot ≡ Some x)) (λ e. result ≡ Err e)
    → MatchResult result (λ _. and_then wanted (λ x. Ok (put (Some x))) ≡ Ok (put (option_map view slot)))
    (λ e. e ≢ Memory → and_then wanted (λ x. Ok (put (Some x))) ≡ Err e)
stored_view view wanted put (Ok x) slot result is done = rw (done.0, done.1, is) refl
stored_view view wanted put (Err e) slot result is done = rw done (λ other. rw (is other) refl)

-- a text that is kept
pub owned_text : {S : Type 0} (bytes : S → Text) (text shown : Text) (read : Read S)
    → MatchResult read (λ s. bytes s ≡ text) (λ e. e ≡ Memory) → text ≡ shown → IsReadingBy bytes (Ok shown) read
owned_text bytes text shown (Ok s) is same = ap Ok (sym (is ∙ same))
owned_text bytes text shown (Err e) is same = λ other. absurd (other is)

-- a filter more
pub filtered : (wanted : Read FilterValue) (read : Read FilterValue) (v : ParameterValues) (new : Parameters)
    (result : Read (Unit {0})) → IsReading wanted read
    → MatchResult read (λ f. IsReadingInto new (Ok (with_filter v f)) result) (λ e. result ≡ Err e)
    → IsReadingInto new (and_then wanted (λ f. Ok (with_filter v f))) result
filtered wanted (Ok f) v new result is done = rw is done
filtered wanted (Err e) v new result is done = rw done (λ other. rw (is other) refl)
