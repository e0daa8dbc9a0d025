-- The Jordan product of one cone of a list, its inverse, that by lambda, and affine_ds: what the cone's kind asks on its own ranges (document 01,
-- "Second-order rules" and "Nonnegative rules"), and each call's deed. Assumes nothing.
use Rattle.std.specs.Prelude.{List, [], ◌∷◌, Float}
use Rattle.soc_jordan.specs.Jordan.{circ}
use Rattle.soc_inverse.specs.Inverse.{inv_circ}
use Rattle.nn_jordan.specs.Jordan.{nonneg_circ, nonneg_affine_ds}
use Rattle.nn_inverse.specs.Inverse.{nonneg_inv_circ}
use Rattle.conelist.specs.declared.Kind.{Kind}
use Rattle.conelist.specs.declared.Kind.TheVariants.{Nonnegative, SecondOrder}
use Rattle.answers.specs.Outcome.{◌⨾◌}
use Rattle.conecalls.specs.Deed.{real, per_entry, Deed, plain, writes_of}
use Rattle.conecalls.specs.Marked.{marked}
use Rattle.marks.specs.Mark.{unscaled}

unfoldable pub kind_circ_op : Kind → (y z : List Float) → List Float
kind_circ_op (Nonnegative n) y z = nonneg_circ y z
kind_circ_op (SecondOrder n) y z = circ y z

abbrev pub circ_op_deed : Deed
circ_op_deed = plain (per_entry real ∷ []) (per_entry real ∷ per_entry real ∷ []) (λ kind x y z. writes_of (kind_circ_op kind y z ⨾ tt))

unfoldable pub kind_inv_circ_op : Kind → (y z : List Float) → List Float
kind_inv_circ_op (Nonnegative n) y z = nonneg_inv_circ y z
kind_inv_circ_op (SecondOrder n) y z = inv_circ y z

abbrev pub inv_circ_op_deed : Deed
inv_circ_op_deed = plain (per_entry real ∷ []) (per_entry real ∷ per_entry real ∷ []) (λ kind x y z. writes_of (kind_inv_circ_op kind y z ⨾ tt))

-- lambda takes y's part
unfoldable pub kind_lambda_inv_circ_op : Kind → (z lambda : List Float) → List Float
kind_lambda_inv_circ_op (Nonnegative n) z lambda = nonneg_inv_circ lambda z
kind_lambda_inv_circ_op (SecondOrder n) z lambda = inv_circ lambda z

abbrev pub lambda_inv_circ_op_unmarked : Deed
lambda_inv_circ_op_unmarked = plain (per_entry real ∷ []) (per_entry real ∷ per_entry real ∷ []) (λ kind x z lambda. writes_of (kind_lambda_inv_circ_op kind z lambda ⨾ tt))

-- document 02, item 4: it reads lambda, so on a Scaled cone alone
abbrev pub lambda_inv_circ_op_deed : Deed
lambda_inv_circ_op_deed = marked (λ kind m. unscaled m) lambda_inv_circ_op_unmarked

unfoldable pub kind_affine_ds : Kind → (lambda : List Float) → List Float
kind_affine_ds (Nonnegative n) lambda = nonneg_affine_ds lambda
kind_affine_ds (SecondOrder n) lambda = circ lambda lambda

abbrev pub affine_ds_unmarked : Deed
affine_ds_unmarked = plain (per_entry real ∷ []) (per_entry real ∷ []) (λ kind ds lambda. writes_of (kind_affine_ds kind lambda ⨾ tt))

-- document 02, item 4: it reads lambda, so on a Scaled cone alone
abbrev pub affine_ds_deed : Deed
affine_ds_deed = marked (λ kind m. unscaled m) affine_ds_unmarked
