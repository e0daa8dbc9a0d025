-- `list_units::unit_initialization_in` meets its contract. Assumes nothing.
use mathlib.Core.Path.{refl}
use Rattle.answers.proofs.Laws.{and_more}
use Rattle.conelist.proofs.Placed.{lent, back}
use Rattle.list_units.proofs.unit_initialization_in.Goals as goal

pub returns : goal.returns
returns c =
    let long = c.dim.ensures in
    and_more (back long _ _ (simp (lent long) at c.kind_unit.ensures)) (and_more (back long _ _ (simp (lent long) at c.kind_unit-2.ensures)) refl)
