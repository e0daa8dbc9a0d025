-- Document 01, "Second-order rules": the update of the scaling, as document 02, item 4, changes it; source document 000, lines 134 to 211, in
-- order. Assumes nothing.
use Rattle.std.specs.Prelude.{true, false, cond, ◌||◌, List, [], ◌∷◌, length, Float}
use Rattle.std.specs.Float.Ieee.{eq}
use Rattle.root.specs.Root.{root}
use Rattle.vecmath.specs.Double.{◌⊘◌, 𝟎}
use Rattle.answers.specs.Refusal.{is_sparse, refusal}
use Rattle.answers.specs.Outcome.{Reply, truth, Gives, call_does, ◌⨾◌, Came, Contents}
use Rattle.soc_residual.specs.Residual.{root_scale}
use Rattle.soc_terms.specs.Terms.{point_of, normed_of, lambda_of}
use Rattle.soc_sparse.specs.Sparse.{sparse_d, sparse_u, sparse_v}

-- what a second-order cone stores: w, lambda, u, v, η, d
abbrev pub stored : (w lambda u v : List Float) (η d : Float) → Contents 4 2
stored w lambda u v η d = w ⨾ lambda ⨾ u ⨾ v ⨾ η ⨾ d ⨾ tt

-- ---- scaling, with ζ, σ and ω the root scales of z, s and w; w and lambda are of soc_terms, the sparse terms of soc_sparse

-- the answer with what is then stored. An early false, where the scale of z or s is zero, changes nothing; "A late false shall change nothing,
-- as an early one does" (document 02, item 4): where the scale of w is zero
unfoldable pub update_scaling : (s z w lambda u v : List Float) (η d : Float) → Gives Reply (Contents 4 2)
update_scaling s z w lambda u v η d =
    let ζ = root_scale z in
    let σ = root_scale s in
    let point = point_of s z σ ζ in
    let ω = root_scale point in
    let η' = root (σ ⊘ ζ) in
    let w' = normed_of point ω in
    let sparse = is_sparse (length s) in
    let kept : Gives Reply (Contents 4 2) = record { reply = truth false; news = stored w lambda u v η d } in
    cond (eq ζ 𝟎 || eq σ 𝟎) kept
    (cond (eq ω 𝟎) kept
    (record { reply = truth true; news = stored w' (lambda_of s z σ ζ ω) (cond sparse (sparse_u w' u) u) (cond sparse (sparse_v w' v) v) η' (cond sparse (sparse_d w') d) }))

-- ---- the bare calls

abbrev pub soc_update_scaling : (s z w lambda u v : List Float) (η d : Float) → Came 4 2
soc_update_scaling s z w lambda u v η d =
    call_does (refusal 2 (length s) (length z ∷ length w ∷ length lambda ∷ length u ∷ length v ∷ []))
    (stored w lambda u v η d) (update_scaling s z w lambda u v η d)
