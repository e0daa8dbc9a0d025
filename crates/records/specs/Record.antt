-- The two forms of a record: what a row of either is in document 01's list ("The list and its buffers"). Assumes nothing.
use Rattle.std.specs.Prelude.{ℕ, ◌≡◌, refl, cond, List, [], ◌∷◌, map, eqb, get_or}
use Rattle.std.proofs.Common.{ap}
use Rattle.conelist.specs.declared.Kind.{Kind}
use Rattle.conelist.specs.declared.Kind.TheVariants.{Nonnegative, SecondOrder}
use Rattle.conelist.specs.declared.Cone.{Cone}

-- ---- as C has it

-- 0 is nonnegative, 1 second-order. A record of any other kind is refused with 1: it is told as a second-order cone of no entries
unfoldable pub kind_of : (kind dimension : ℕ) → Kind
kind_of kind n = cond (eqb kind 0) (Nonnegative n) (cond (eqb kind 1) (SecondOrder n) (SecondOrder 0))

-- a record is its start, its kind and its dimension
unfoldable pub cone_of : List ℕ → Cone
cone_of r = record { start = get_or r 0 0; kind = kind_of (get_or r 1 0) (get_or r 2 0) }

abbrev pub cones : List (List ℕ) → List Cone
cones list = map cone_of list

-- ---- as a program has it: a row is the list itself

pub each_itself : (row : List Cone) → row ≡ map (λ c. c) row
each_itself [] = refl
each_itself (c ∷ row) = ap (λ cs. c ∷ cs) (each_itself row)
