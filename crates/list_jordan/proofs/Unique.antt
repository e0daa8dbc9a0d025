-- Each public call's contract leaves one answer and one final contents of what it was lent. Written by tools/surface. Assumes nothing.
use Prim.Native.Nat.{ℕ}
use mathlib.Core.Path.{◌≡◌}
use mathlib.Core.List.{List}
use lib.Ieee.{Float}
use Rattle.std.specs.Prelude.{Result}
use Rattle.answers.specs.declared.Refusal.{Refusal}
use Rattle.answers.specs.Outcome.{tells, of_answer}
use Rattle.answers.proofs.Unique.{one_answer}
use Rattle.conelist.specs.declared.Place.{Place}
use Rattle.conecalls.specs.Deed.{Whole, Tuple, comes_at}
use Rattle.list_jordan.specs.Jordan.{affine_ds_deed, circ_op_deed, inv_circ_op_deed, lambda_inv_circ_op_deed}

pub affine_ds_at_lem : (p : Place) {r r' : Result (Unit {0}) Refusal} (ds lambda : List Float) (marks : List ℕ) {e e' : Tuple Whole affine_ds_deed.writes} → tells (of_answer r) e ≡ comes_at p affine_ds_deed ds lambda marks → tells (of_answer r') e' ≡ comes_at p affine_ds_deed ds lambda marks → (r ≡ r') × (e ≡ e')
affine_ds_at_lem p ds lambda marks = one_answer

pub circ_op_at_lem : (p : Place) {r r' : Result (Unit {0}) Refusal} (x y z : List Float) {e e' : Tuple Whole circ_op_deed.writes} → tells (of_answer r) e ≡ comes_at p circ_op_deed x y z → tells (of_answer r') e' ≡ comes_at p circ_op_deed x y z → (r ≡ r') × (e ≡ e')
circ_op_at_lem p x y z = one_answer

pub inv_circ_op_at_lem : (p : Place) {r r' : Result (Unit {0}) Refusal} (x y z : List Float) {e e' : Tuple Whole inv_circ_op_deed.writes} → tells (of_answer r) e ≡ comes_at p inv_circ_op_deed x y z → tells (of_answer r') e' ≡ comes_at p inv_circ_op_deed x y z → (r ≡ r') × (e ≡ e')
inv_circ_op_at_lem p x y z = one_answer

pub lambda_inv_circ_op_at_lem : (p : Place) {r r' : Result (Unit {0}) Refusal} (x z lambda : List Float) (marks : List ℕ) {e e' : Tuple Whole lambda_inv_circ_op_deed.writes} → tells (of_answer r) e ≡ comes_at p lambda_inv_circ_op_deed x z lambda marks → tells (of_answer r') e' ≡ comes_at p lambda_inv_circ_op_deed x z lambda marks → (r ≡ r') × (e ≡ e')
lambda_inv_circ_op_at_lem p x z lambda marks = one_answer
