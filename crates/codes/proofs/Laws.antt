-- An enum's answer told as a number. Assumes nothing.
use Prim.Native.Nat.{ℕ, zero, suc}
use mathlib.Core.List.{List}
use mathlib.Core.Path.{◌≡◌, refl}
use Rattle.answers.specs.Outcome.{Ruling, Outcome, call_of}
use Rattle.codes.specs.Code.{Value, reported, export_of, report, export}

-- What is reported of the answer, with the contents at exit, is what is exported of the call that answer and contents come to.
pub exported : {A B : Type 0} (read : A → List Value) {n : ℕ} {values : List Value} (old : List Value) (ruling : Ruling A) {exits : B} (came : Outcome A B) → report n values ≡ reported read old ruling → record { ruling = ruling; holds = exits } ≡ came → export n values exits ≡ export_of read old came
unfolding export_of
exported read old ruling came e f = rw (e, ← f)

-- The number of a call's export is that of its refusal: 0 exactly where nothing is refused.
pub numbered : {A B : Type 0} (read : A → List Value) (old : List Value) (n : ℕ) (value : A) (before after : B) → (export_of read old (call_of n value before after)).report.refusal ≡ n
unfolding export_of reported call_of
numbered read old zero value before after = refl
numbered read old (suc n) value before after = refl
