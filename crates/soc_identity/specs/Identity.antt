-- Document 01, "Second-order rules": identity scaling; source document 000, lines 121 to 132. Assumes nothing.
use Rattle.std.specs.Prelude.{cond, List, [], ◌∷◌, length, Float}
use Rattle.std.specs.Float.{binary64}
use Rattle.std.specs.Float.Ieee.{of_bits}
use Rattle.vecmath.specs.Double.{𝟎, 𝟏, ½}
use Rattle.vecmath.specs.Vector.{constant}
use Rattle.tails.specs.Tail.{leading}
use Rattle.answers.specs.Refusal.{is_sparse, refusal}
use Rattle.answers.specs.Outcome.{done, Contents, Came, call_of, ◌⨾◌}

-- ---- identity

-- 1/√2, as the paper's bits
abbrev pub 1/√2 : Float
1/√2 = of_bits binary64 0x3FE6_A09E_667F_3BCD

-- w = (1, 0, ..), η = 1; sparse also d = 0.5, u = (1/√2, 0, ..), v = 0. The contents are w, u, v, η, d
unfoldable pub identity_scaling : (w u v : List Float) (d : Float) → Contents 3 2
identity_scaling w u v d =
    let sparse = is_sparse (length w) in
    leading (length w) 𝟏
    ⨾ cond sparse (leading (length w) 1/√2) u
    ⨾ cond sparse (constant (length w) 𝟎) v
    ⨾ 𝟏
    ⨾ cond sparse ½ d
    ⨾ tt

-- ---- the bare calls

abbrev pub soc_set_identity_scaling : (w u v : List Float) (η d : Float) → Came 3 2
soc_set_identity_scaling w u v η d =
    call_of (refusal 2 (length w) (length u ∷ length v ∷ [])) done (w ⨾ u ⨾ v ⨾ η ⨾ d ⨾ tt) (identity_scaling w u v d)
