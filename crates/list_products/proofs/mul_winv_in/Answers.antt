-- `list_products::mul_winv_in` meets its contract. Written by tools/surface. Assumes nothing.
use mathlib.Core.Path.{refl}
use mathlib.Core.List.{[], ◌∷◌}
use borrow.Author.Rules.{rules}
use Rattle.answers.specs.Outcome.{◌⨾◌}
use Rattle.answers.proofs.Laws.{and_more}
use Rattle.conelist.proofs.Placed.{lent}
use Rattle.conecalls.proofs.Ranges.{cuts_fit}
use Rattle.conecalls.proofs.Return.{backs}
use Rattle.list_products.specs.Product.{mul_winv_unmarked}
use Rattle.list_products.proofs.mul_winv_in.Goals as goal

pub kind_mul_winv-requires : goal.kind_mul_winv-requires
kind_mul_winv-requires c =
    let a = c.args in
    let same = c.requires.same in
    cuts_fit a.p _ c.requires.here c.dim.ensures (search rules) a.y.now (a.x.now ∷ a.w.now ∷ []) same.0 (same.1.0, (same.1.1.0, tt))

pub returns : goal.returns
returns c =
    let long = c.dim.ensures in
    let a = c.args in
    backs a.p long refl (mul_winv_unmarked a.alpha a.beta).writes (a.y.now ⨾ tt)
    (and_more (simp (lent long) at c.kind_mul_winv.ensures) refl)
