-- The single scalings of a list's cones, made one by one (document 02, item 1), as requests over a store. Assumes nothing.
use Rattle.std.specs.Prelude.{ℕ, zero, suc, Bool, List, [], ◌∷◌, get_or, Float}
use Rattle.answers.specs.Outcome.{truth, gives, ◌⨾◌}
use Rattle.conecalls.specs.Deed.{real, mark, per_entry, per_cone, per_block, Numbers}
use Rattle.list_scaling.specs.Scaling.{update_scaling_deed}
use Rattle.sequences.specs.Rearranged.{Answered}
use Rattle.sequences.specs.Local as local
use Rattle.sequences.specs.Local.{called, Store}
use Rattle.whole_scaling.specs.List.{Written}
use Rattle.orders.specs.Calls.{update_scaling, Request, task_of}

-- the seven buffers of a scaling, by number: w, lambda, u, v are 0 to 3 of those per entry, η, d are 0, 1 of those per cone, and the marks are 0 of theirs
abbrev pub seven : Numbers update_scaling_deed.writes
seven = 0 ⨾ 1 ⨾ 2 ⨾ 3 ⨾ 0 ⨾ 1 ⨾ 0 ⨾ tt

-- cone k's scaling, from the buffers s and z per entry
abbrev pub scaling : (k s z : ℕ) → Request
scaling k s z = record { cone = k; call = update_scaling; writes = seven; reads = s ⨾ z ⨾ tt }

-- "the single calls", with s and z 4 and 5
abbrev pub scale : ℕ → Request
scale k = scaling k 4 5

-- the store that holds these nine buffers, and nothing in every other
abbrev pub holding : Written → (s z : List Float) → Store
holding ys s z (called (per_entry real) n) = get_or (ys.0 ∷ ys.1.0 ∷ ys.1.1.0 ∷ ys.1.1.1.0 ∷ s ∷ z ∷ []) n []
holding ys s z (called (per_cone real) n) = get_or (ys.1.1.1.1.0 ∷ ys.1.1.1.1.1.0 ∷ []) n []
holding ys s z (called (per_block real) n) = []
holding ys s z (called (per_entry mark) n) = []
holding ys s z (called (per_cone mark) n) = get_or (ys.1.1.1.1.1.1.0 ∷ []) n []
holding ys s z (called (per_block mark) n) = []

-- "in order": cone k and those behind it, so many
abbrev pub counted : (left k : ℕ) → List ℕ
counted zero k = []
counted (suc left) k = k ∷ counted left (suc k)

-- a single call on cone k that answered t
abbrev pub told_of : Bool → ℕ → Answered Request (local.Reply task_of)
told_of t k = record { call = scale k; answer = gives (truth t) }
