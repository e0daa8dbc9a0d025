-- `root::sqrt` meets its contract: each return by the tests that led there. Assumes nothing.
use Rattle.std.proofs.Common.{T, sym, ap, ◌∙◌, subst}
use lib.Ieee.{binary64, fits}
use lib.Ieee.Bits.{of_bits-to_bits}
use Rattle.root.specs.Root.{root}
use Rattle.root.proofs.Specials.{root_below, root_infinity, root_neither, is_positive}
use Rattle.root.proofs.sqrt.Goals as goal
use Rattle.root.proofs.sqrt.Goals.{Start}

held : (c : Start) → T (fits binary64 c.args.x)
held c = subst T (sym c.well_formed.0.1) tt

pub returns-then-b-eq9218868437227405312 : goal.returns-then-b-eq9218868437227405312
returns-then-b-eq9218868437227405312 c = root_infinity _ (held c.before.before) c.if-b-eq9218868437227405312.true

pub positive_root-requires : goal.positive_root-requires
positive_root-requires c = rw (of_bits-to_bits binary64 _ (held c.before.before)) (is_positive _ c.if-x.true c.if-b-eq9218868437227405312.false)

pub returns-then-x : goal.returns-then-x
returns-then-x c = c.positive_root.ensures ∙ ap root (of_bits-to_bits binary64 _ (held c.before.before.before))

pub returns-then-x-2 : goal.returns-then-x-2
returns-then-x-2 c = root_below _ c.if-x-2.true

pub returns : goal.returns
returns c = root_neither _ c.if-x.false c.if-x-2.false
