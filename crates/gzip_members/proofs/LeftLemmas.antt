-- A member is read to its end.
use Rattle.std.proofs.Common.{◌≡◌, ℕ, zero, suc, add-zero, ◌+◌, ◌-◌, ◌*◌, ◌^◌, ◌<◌, ◌≤◌, ◌⊎◌, Bool, true, false, not, nat_lt, [], length, refl, ap, ◌∙◌, inl, inr, arith, length-drop}
use Rattle.std.specs.Bool.{if◌then◌else◌}
use Rattle.std.specs.Prelude.{◌||◌}
use Rattle.std.proofs.lemmas.Bool.{le-ltb, lt-ltb, true≢false}
use Rattle.deflate_bits.specs.declared.fault.DeflateFault.{DeflateFault}
use Rattle.gzip_members.specs.declared.body.Stage.{Stage}
use Rattle.gzip_members.specs.declared.body.Stage.TheVariants.{Refused}
use Rattle.gzip_members.specs.Windows.{WindowView, pending}
use Rattle.gzip_members.specs.Bodies.{is_over, parts_left, GoesOn}
use Rattle.gzip_members.specs.Left.{waits, work_left}

-- what is to be done where something is to be done
work-is : (stage : Stage) (w : WindowView) (passed held : ℕ) → is_over stage ≡ false → pending w ≡ []
    → work_left stage w passed held ≡ suc (parts_left stage * 2 ^ 80 + (2 ^ 63 - passed) * 8193 + (8192 - held))
work-is stage w passed held more given =
    let h : length w.text ≤ w.given = omega (arith, ap length given, length-drop w.given w.text) in
    let far : nat_lt w.given (length w.text) ≡ false = le-ltb w.given (length w.text) h in
    ap (λ v. if v || nat_lt w.given (length w.text) then 0 else suc (parts_left stage * 2 ^ 80 + (2 ^ 63 - passed) * 8193 + (8192 - held))) more
    ∙ ap (λ v. if v then 0 else suc (parts_left stage * 2 ^ 80 + (2 ^ 63 - passed) * 8193 + (8192 - held))) far

-- at most so much is to be done
work-most : (b c : Bool) (n : ℕ) → (if b || c then 0 else n) ≤ n
work-most true c n = omega arith
work-most false true n = omega arith
work-most false false n = omega arith

least-of : (a b c : ℕ) → a ≤ b → b < c → a < c
least-of a b c h k = omega arith

none-left : (b : Bool) (g l n : ℕ) → g < l → (if b || nat_lt g l then 0 else n) ≡ 0
none-left true g l n h = refl
none-left false g l n h = ap (λ v. if v then 0 else n) (lt-ltb g l h)

-- by numbers alone: a part was read to its end, or bytes were taken, or more are held
fewer : (p p' passed passed' held held' : ℕ) → passed' ≤ 2 ^ 63 - 1 → p' < p
    → suc (p' * 2 ^ 80 + (2 ^ 63 - passed') * 8193 + (8192 - held')) < suc (p * 2 ^ 80 + (2 ^ 63 - passed) * 8193 + (8192 - held))
fewer p p' passed passed' held held' near h = omega arith

taken_on : (p passed taken held held' : ℕ) → passed + taken ≤ 2 ^ 63 - 1 → 0 < taken
    → suc (p * 2 ^ 80 + (2 ^ 63 - (passed + taken)) * 8193 + (8192 - held')) < suc (p * 2 ^ 80 + (2 ^ 63 - passed) * 8193 + (8192 - held))
taken_on p passed taken held held' near some = omega arith

held_on : (p passed held held' : ℕ) → held < held' → held' < 2048
    → suc (p * 2 ^ 80 + (2 ^ 63 - passed) * 8193 + (8192 - held')) < suc (p * 2 ^ 80 + (2 ^ 63 - passed) * 8193 + (8192 - held))
held_on p passed held held' more few = omega arith

-- bytes were taken, or there are more
goes-further : (p passed taken held mid : ℕ) → passed + taken ≤ 2 ^ 63 - 1 → mid - taken < 2048 → (held < mid) ⊎ (8192 ≤ mid)
    → suc (p * 2 ^ 80 + (2 ^ 63 - (passed + taken)) * 8193 + (8192 - (mid - taken))) < suc (p * 2 ^ 80 + (2 ^ 63 - passed) * 8193 + (8192 - held))
goes-further p passed zero held mid near few (inl more) =
    rw (add-zero passed) (held_on p passed held (mid - 0) (omega arith) few)
goes-further p passed zero held mid near few (inr much) = absurd (omega arith)
goes-further p passed (suc n) held mid near few read = taken_on p passed (suc n) held (mid - suc n) near (omega arith)

at_most : (a b c : ℕ) → a ≤ b → b ≤ c → a ≤ c
at_most a b c h k = omega arith

no_further : (p passed taken held : ℕ) → passed + taken ≤ 2 ^ 63 - 1 → taken ≤ held
    → suc (p * 2 ^ 80 + (2 ^ 63 - (passed + taken)) * 8193 + (8192 - (held - taken))) ≤ suc (p * 2 ^ 80 + (2 ^ 63 - passed) * 8193 + (8192 - held))
no_further p passed taken held near inside = omega arith

done-by : (b : Bool) (n m : ℕ) → not b ≡ false → (if b then 0 else n) < suc m
done-by true n m e = omega arith
done-by false n m e = absurd (true≢false e)

falls : (old new : Stage) (w v : WindowView) (is_whole : Bool) (passed passed' held mid held' taken : ℕ)
    → is_over old ≡ false → pending w ≡ [] → passed ≤ 2 ^ 63 - 1 → passed' ≤ 2 ^ 63 - 1
    → passed' ≡ passed + taken → held' ≡ mid - taken → taken ≤ mid
    → (is_whole ≡ false → (held < mid) ⊎ (8192 ≤ mid)) → GoesOn old new v is_whole (mid - taken)
    → work_left new v passed' held' < work_left old w passed held
falls old new w v is_whole passed passed' held mid held' taken more given near near' count left inside read (inl part) =
    rw (work-is old w passed held more given)
    (least-of _ _ _ (work-most (is_over new) (nat_lt v.given (length v.text)) _) (fewer (parts_left old) (parts_left new) passed passed' held held' near' part))
falls old new w v is_whole passed passed' held mid held' taken more given near near' count left inside read (inr (inl text)) =
    rw (work-is old w passed held more given, none-left (is_over new) v.given (length v.text) _ text) (omega arith)
falls old new w v is_whole passed passed' held mid held' taken more given near near' count left inside read (inr (inr (same, waits, few))) =
    rw (work-is old w passed held more given, count, left)
    (least-of _ _ _ (work-most (is_over new) (nat_lt v.given (length v.text)) _)
    (rw same (goes-further (parts_left old) passed taken held mid (omega arith) few (read waits))))

-- each turn leaves less to do
pub work-falls : (old new : Stage) (w v : WindowView) (is_whole : Bool) (passed passed' held mid held' taken : ℕ)
    → is_over old ≡ false → pending w ≡ [] → passed ≤ 2 ^ 63 - 1 → passed' ≤ 2 ^ 63 - 1
    → passed' ≡ passed + taken → held' ≡ mid - taken → taken ≤ mid
    → (is_whole ≡ false → (held < mid) ⊎ (8192 ≤ mid)) → GoesOn old new v is_whole (mid - taken)
    → work_left new v passed' held' < work_left old w passed held
work-falls old new w v is_whole passed passed' held mid held' taken more given near near' count left inside read on =
    falls old new w v is_whole passed passed' held mid held' taken more given near near' count left inside read on

-- where nothing was read, no more is to be done than before
kept-by : (old new : Stage) (w v : WindowView) (is_whole : Bool) (passed passed' held held' taken : ℕ)
    → is_over old ≡ false → pending w ≡ [] → passed' ≤ 2 ^ 63 - 1 → passed' ≡ passed + taken → held' ≡ held - taken
    → taken ≤ held → GoesOn old new v is_whole (held - taken)
    → work_left new v passed' held' ≤ work_left old w passed held
kept-by old new w v is_whole passed passed' held held' taken more given near count left inside (inl part) =
    rw (work-is old w passed held more given)
    (omega (
      arith,
      least-of _ _ _ (work-most (is_over new) (nat_lt v.given (length v.text)) _)
          (fewer (parts_left old) (parts_left new) passed passed' held held' near part),
    ))
kept-by old new w v is_whole passed passed' held held' taken more given near count left inside (inr (inl text)) =
    rw (work-is old w passed held more given, none-left (is_over new) v.given (length v.text) _ text) (omega arith)
kept-by old new w v is_whole passed passed' held held' taken more given near count left inside (inr (inr (same, waits, few))) =
    rw (work-is old w passed held more given, count, left)
    (at_most _ _ _ (work-most (is_over new) (nat_lt v.given (length v.text)) _)
    (rw same (no_further (parts_left old) passed taken held (omega arith) inside)))

pub work-kept : (old new : Stage) (w v : WindowView) (is_whole : Bool) (passed passed' held held' taken : ℕ)
    → is_over old ≡ false → pending w ≡ [] → passed' ≤ 2 ^ 63 - 1 → passed' ≡ passed + taken → held' ≡ held - taken
    → taken ≤ held → GoesOn old new v is_whole (held - taken)
    → work_left new v passed' held' ≤ work_left old w passed held
work-kept old new w v is_whole passed passed' held held' taken more given near count left inside on =
    kept-by old new w v is_whole passed passed' held held' taken more given near count left inside on

-- where there is text or the end, nothing is to be done
pub work-done : (old new : Stage) (w v : WindowView) (passed passed' held held' : ℕ)
    → is_over old ≡ false → pending w ≡ [] → waits new v ≡ false
    → work_left new v passed' held' < work_left old w passed held
work-done old new w v passed passed' held held' more given over =
    rw (work-is old w passed held more given) (done-by (is_over new || nat_lt v.given (length v.text)) _ _ over)

-- also where no more is read
pub work-ends : (old : Stage) (fault : DeflateFault) (w v : WindowView) (passed passed' held held' : ℕ) → is_over old ≡ false → pending w ≡ []
    → work_left (Refused fault) v passed' held' < work_left old w passed held
work-ends old fault w v passed passed' held held' more given = rw (work-is old w passed held more given) (omega arith)
