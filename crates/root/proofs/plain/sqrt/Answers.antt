-- `root::plain::sqrt` meets its contract. Assumes nothing.
use Rattle.std.proofs.Common.{T, sym, ap, ◌∙◌, subst}
use lib.Ieee.{binary64, fits}
use lib.Ieee.Bits.{of_bits-to_bits}
use Rattle.root.specs.Root.{root}
use Rattle.root.proofs.Specials.{is_positive}
use Rattle.root.proofs.plain.sqrt.Goals as goal
use Rattle.root.proofs.plain.sqrt.Goals.{Start}

held : (c : Start) → T (fits binary64 c.args.x)
held c = subst T (sym c.well_formed.0.1) tt

pub positive_root-requires : goal.positive_root-requires
positive_root-requires c = rw (of_bits-to_bits binary64 _ (held c.before.before)) (is_positive _ c.if-x.true c.if-b-ne9218868437227405312.true)

pub returns-then-b-ne9218868437227405312 : goal.returns-then-b-ne9218868437227405312
returns-then-b-ne9218868437227405312 c = c.positive_root.ensures ∙ ap root (of_bits-to_bits binary64 _ (held c.before.before.before))
