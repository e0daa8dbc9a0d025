-- The first entries of a place. Assumes nothing.
use mathlib.Core.Path.{sym}
use mathlib.Core.List.{List}
use Prim.Native.Nat.{ℕ, ◌≤◌}
use lib.ListN.{length}
use lib.Seq.{length-take-le}
use Rattle.cases.specs.Text.{Counts}

pub counts : {A : Type 0} (n : ℕ) (xs : List A) → n ≤ length xs → Counts n xs
counts n xs h = record { within = h; part = sym (length-take-le n xs h) }
