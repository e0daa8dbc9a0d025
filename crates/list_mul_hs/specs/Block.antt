-- The product with Hs of one cone of a list: what the cone's kind asks on its own ranges (document 01, "Second-order rules" and "Nonnegative rules"), and
-- the call's deed. Nonnegative cones use no u, v, η, d. Assumes nothing.
use Rattle.std.specs.Prelude.{List, [], ◌∷◌, Float}
use Rattle.soc_mul_hs.specs.Block.{mul_hs}
use Rattle.nn_mul_hs.specs.Block.{nonneg_mul_hs}
use Rattle.conelist.specs.declared.Kind.{Kind}
use Rattle.conelist.specs.declared.Kind.TheVariants.{Nonnegative, SecondOrder}
use Rattle.answers.specs.Outcome.{◌⨾◌}
use Rattle.conecalls.specs.Deed.{real, per_entry, per_cone, Deed, plain, writes_of}
use Rattle.conecalls.specs.Marked.{marked}
use Rattle.marks.specs.Mark.{unset}

unfoldable pub kind_mul_hs : Kind → (x w : List Float) (η : Float) → List Float
kind_mul_hs (Nonnegative n) x w η = nonneg_mul_hs x w
kind_mul_hs (SecondOrder n) x w η = mul_hs x w η

abbrev pub mul_hs_unmarked : Deed
mul_hs_unmarked = plain (per_entry real ∷ []) (per_entry real ∷ per_entry real ∷ per_cone real ∷ []) (λ kind y x w η. writes_of (kind_mul_hs kind x w η ⨾ tt))

-- document 02, item 4: it reads w and η, so not on a Fresh cone
abbrev pub mul_hs_deed : Deed
mul_hs_deed = marked (λ kind m. unset m) mul_hs_unmarked
