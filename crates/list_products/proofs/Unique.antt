-- Each public call's contract leaves one answer and one final contents of what it was lent. Written by tools/surface. Assumes nothing.
use Prim.Native.Nat.{ℕ}
use mathlib.Core.Path.{◌≡◌}
use mathlib.Core.List.{List}
use lib.Ieee.{Float}
use Rattle.std.specs.Prelude.{Result}
use Rattle.answers.specs.declared.Refusal.{Refusal}
use Rattle.answers.specs.Outcome.{tells, of_answer}
use Rattle.answers.proofs.Unique.{one_answer}
use Rattle.conelist.specs.declared.Place.{Place}
use Rattle.conecalls.specs.Deed.{Whole, Tuple, comes_at}
use Rattle.list_products.specs.Product.{mul_w_deed, mul_winv_deed}

pub mul_w_at_lem : (p : Place) {r r' : Result (Unit {0}) Refusal} (α β : Float) (y x w η : List Float) (marks : List ℕ) {e e' : Tuple Whole (mul_w_deed α β).writes} → tells (of_answer r) e ≡ comes_at p (mul_w_deed α β) y x w η marks → tells (of_answer r') e' ≡ comes_at p (mul_w_deed α β) y x w η marks → (r ≡ r') × (e ≡ e')
mul_w_at_lem p α β y x w η marks = one_answer

pub mul_winv_at_lem : (p : Place) {r r' : Result (Unit {0}) Refusal} (α β : Float) (y x w η : List Float) (marks : List ℕ) {e e' : Tuple Whole (mul_winv_deed α β).writes} → tells (of_answer r) e ≡ comes_at p (mul_winv_deed α β) y x w η marks → tells (of_answer r') e' ≡ comes_at p (mul_winv_deed α β) y x w η marks → (r ≡ r') × (e ≡ e')
mul_winv_at_lem p α β y x w η marks = one_answer
