-- Document 01, "Second-order rules": inverse products; source document 000, lines 325 to 327, 351 to 353 and 369 to 382, in order. z₁ is
-- tail z. Assumes nothing.
use Rattle.std.specs.Prelude.{List, [], ◌∷◌, length, Float}
use Rattle.vecmath.specs.Double.{◌⊖◌, ◌⊗◌, ◌⊘◌, 𝟏, ◌!◌}
use Rattle.vecmath.specs.Vector.{dot, axpby}
use Rattle.tails.specs.Tail.{tail}
use Rattle.answers.specs.Refusal.{refusal}
use Rattle.answers.specs.Outcome.{done, Came, call_of, ◌⨾◌}
use Rattle.soc_residual.specs.Residual.{residual}

-- ---- the values

-- the Jordan product's inverse: the x whose product with y is z (_inv_circ_op)
unfoldable pub inv_circ : (y z : List Float) → List Float
inv_circ y z =
    let p⁻¹ = 𝟏 ⊘ residual y in
    let v = dot (tail y) (tail z) in
    let x₀ = (y ! 0 ⊗ z ! 0 ⊖ v) ⊗ p⁻¹ in
    let c₁ = p⁻¹ ⊗ (v ⊘ y ! 0 ⊖ z ! 0) in
    let c₂ = 𝟏 ⊘ y ! 0 in
    x₀ ∷ axpby c₁ (tail y) c₂ (tail z)

-- ---- the bare calls

abbrev pub soc_inv_circ_op : (x y z : List Float) → Came 1 0
soc_inv_circ_op x y z = call_of (refusal 2 (length x) (length y ∷ length z ∷ [])) done (x ⨾ tt) (inv_circ y z ⨾ tt)

-- the inverse product by lambda
abbrev pub soc_lambda_inv_circ_op : (x z lambda : List Float) → Came 1 0
soc_lambda_inv_circ_op x z lambda = call_of (refusal 2 (length x) (length z ∷ length lambda ∷ [])) done (x ⨾ tt) (inv_circ lambda z ⨾ tt)
