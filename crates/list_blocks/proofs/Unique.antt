-- Each public call's contract leaves one answer and one final contents of what it was lent. Assumes nothing.
use Prim.Native.Nat.{ℕ}
use mathlib.Core.Path.{◌≡◌}
use mathlib.Core.List.{List}
use lib.Ieee.{Float}
use Rattle.std.specs.Prelude.{Result}
use Rattle.answers.specs.declared.Refusal.{Refusal}
use Rattle.answers.specs.Outcome.{tells, of_answer}
use Rattle.answers.proofs.Unique.{one_answer}
use Rattle.conelist.specs.declared.Place.{Place}
use Rattle.conecalls.specs.Deed.{Whole, Tuple, comes_at}
use Rattle.list_blocks.specs.Block.{get_hs_deed}

module _ (p : Place) where
  get_hs_at_lem : {r r' : Result (Unit {0}) Refusal} (hs w η d : List Float) (marks : List ℕ) {e e' : Tuple Whole get_hs_deed.writes} → tells (of_answer r) e ≡ comes_at p get_hs_deed hs w η d marks → tells (of_answer r') e' ≡ comes_at p get_hs_deed hs w η d marks → (r ≡ r') × (e ≡ e')
  get_hs_at_lem hs w η d marks = one_answer
