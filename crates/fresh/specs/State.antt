-- Document 01, "The list and its buffers": "A fresh state is w, lambda, u, v, η all +0 and d all 1." Assumes nothing.
use Rattle.std.specs.Prelude.{List, length, Float}
use Rattle.vecmath.specs.Double.{𝟎, 𝟏}
use Rattle.vecmath.specs.Vector.{constant}
use Rattle.answers.specs.Outcome.{Contents, ◌⨾◌}

-- w, lambda, u, v, η, d: each buffer by itself, whatever its length and what it held
abbrev pub fresh_state : (w lambda u v η d : List Float) → Contents 6 0
fresh_state w lambda u v η d =
    constant (length w) 𝟎 ⨾ constant (length lambda) 𝟎 ⨾ constant (length u) 𝟎 ⨾ constant (length v) 𝟎 ⨾ constant (length η) 𝟎 ⨾ constant (length d) 𝟏 ⨾ tt
