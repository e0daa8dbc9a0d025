-- The square block of one cone of a list: what the cone's kind asks on its own ranges (document 01, "Second-order rules" and "Nonnegative rules"), and
-- the call's deed. Nonnegative cones use no u, v, η, d. Assumes nothing.
use Rattle.std.specs.Prelude.{ℕ, List, [], ◌∷◌, Float}
use Rattle.answers.specs.Refusal.{not_dense}
use Rattle.conelist.specs.declared.Kind.{Kind}
use Rattle.conelist.specs.declared.Kind.TheVariants.{Nonnegative, SecondOrder}
use Rattle.soc_square.specs.Square.{square_hs}
use Rattle.conecalls.specs.Deed.{real, per_entry, per_cone, Deed}
use Rattle.conecalls.specs.Marked.{marked}
use Rattle.marks.specs.Mark.{unset}

-- 7: the square block is asked of a cone that is not dense
unfoldable pub kind_not_dense : Kind → ℕ
kind_not_dense (Nonnegative n) = 7
kind_not_dense (SecondOrder n) = not_dense n

-- the square block, from w, η and the mark (document 02, item 4: not on a Fresh cone). 7 ranks before 5
abbrev pub square_hs_deed : Deed
square_hs_deed =
    marked (λ kind m. unset m)
    (record {
      writes = [];
      reads = per_entry real ∷ per_cone real ∷ [];
      early = λ kind. kind_not_dense kind ∷ [];
      late = λ kind w η. [];
      Replies = List (List Float);
      rule = λ kind w η. record { reply = square_hs w η; news = tt };
    })
