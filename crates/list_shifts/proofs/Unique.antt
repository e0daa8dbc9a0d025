-- Each public call's contract leaves one answer and one final contents of what it was lent. Written by tools/surface. Assumes nothing.
use Prim.Native.Nat.{ℕ}
use mathlib.Core.Path.{◌≡◌}
use mathlib.Core.List.{List}
use lib.Ieee.{Float}
use Rattle.std.specs.Prelude.{Result}
use Rattle.answers.specs.declared.Refusal.{Refusal}
use Rattle.answers.specs.Outcome.{tells, of_answer}
use Rattle.answers.proofs.Unique.{one_answer}
use Rattle.conelist.specs.declared.Place.{Place}
use Rattle.conecalls.specs.Deed.{Whole, Tuple, comes_at}
use Rattle.list_shifts.specs.Shift.{scaled_unit_shift_deed, combined_ds_shift_deed, ds_from_dz_offset_deed}

pub scaled_unit_shift_at_lem : (p : Place) {r r' : Result (Unit {0}) Refusal} (α : Float) (z : List Float) {e e' : Tuple Whole (scaled_unit_shift_deed α).writes} → tells (of_answer r) e ≡ comes_at p (scaled_unit_shift_deed α) z → tells (of_answer r') e' ≡ comes_at p (scaled_unit_shift_deed α) z → (r ≡ r') × (e ≡ e')
scaled_unit_shift_at_lem p α z = one_answer

pub combined_ds_shift_at_lem : (p : Place) {r r' : Result (Unit {0}) Refusal} (σμ : Float) (shift step_z step_s w η : List Float) (marks : List ℕ) {e e' : Tuple Whole (combined_ds_shift_deed σμ).writes} → tells (of_answer r) e ≡ comes_at p (combined_ds_shift_deed σμ) shift step_z step_s w η marks → tells (of_answer r') e' ≡ comes_at p (combined_ds_shift_deed σμ) shift step_z step_s w η marks → (r ≡ r') × (e ≡ e')
combined_ds_shift_at_lem p σμ shift step_z step_s w η marks = one_answer

pub ds_from_dz_offset_at_lem : (p : Place) {r r' : Result (Unit {0}) Refusal} (out ds z w lambda η : List Float) (marks : List ℕ) {e e' : Tuple Whole ds_from_dz_offset_deed.writes} → tells (of_answer r) e ≡ comes_at p ds_from_dz_offset_deed out ds z w lambda η marks → tells (of_answer r') e' ≡ comes_at p ds_from_dz_offset_deed out ds z w lambda η marks → (r ≡ r') × (e ≡ e')
ds_from_dz_offset_at_lem p out ds z w lambda η marks = one_answer
