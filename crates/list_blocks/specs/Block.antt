-- The packed block of one cone of a list: what the cone's kind asks on its own ranges (document 01, "Second-order rules" and "Nonnegative rules"), and
-- the call's deed. Nonnegative cones use no u, v, η, d. Assumes nothing.
use Rattle.std.specs.Prelude.{List, [], ◌∷◌, Float}
use Rattle.soc_blocks.specs.Block.{hs_of}
use Rattle.nn_blocks.specs.Block.{nonneg_hs}
use Rattle.conelist.specs.declared.Kind.{Kind}
use Rattle.conelist.specs.declared.Kind.TheVariants.{Nonnegative, SecondOrder}
use Rattle.answers.specs.Outcome.{◌⨾◌}
use Rattle.conecalls.specs.Deed.{real, per_entry, per_cone, per_block, Deed, plain, writes_of}
use Rattle.conecalls.specs.Marked.{marked}
use Rattle.marks.specs.Mark.{unset}

unfoldable pub kind_hs : Kind → (w : List Float) (η d : Float) → List Float
kind_hs (Nonnegative n) w η d = nonneg_hs w
kind_hs (SecondOrder n) w η d = hs_of w η d

-- hs; w, η, d, and the mark (document 02, item 4: not on a Fresh cone)
abbrev pub get_hs_deed : Deed
get_hs_deed = marked (λ kind m. unset m) (plain (per_block real ∷ []) (per_entry real ∷ per_cone real ∷ per_cone real ∷ []) (λ kind hs w η d. writes_of (kind_hs kind w η d ⨾ tt)))
