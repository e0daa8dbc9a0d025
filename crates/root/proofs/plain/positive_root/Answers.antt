-- `root::plain::positive_root` meets its contract. Assumes nothing.
use Rattle.std.proofs.Common.{sym, ◌∙◌}
use Rattle.root.proofs.Rounded.{lifted, finished}
use Rattle.root.proofs.Specials.{root_positive}
use Rattle.root.proofs.plain.positive_root.Goals as goal

pub drawn_root-c-requires : goal.drawn_root-c-requires
drawn_root-c-requires c = (lifted c.split-v.ensures).word

pub overflow_add-result : goal.overflow_add-result
overflow_add-result c = record { fits = (finished c.split-v.ensures c.drawn_root-c.ensures).word }

pub float_from_bits-result : goal.float_from_bits-result
float_from_bits-result c = (finished c.split-v.ensures c.drawn_root-c.ensures).number

pub returns : goal.returns
returns c = (finished c.split-v.ensures c.drawn_root-c.ensures).value ∙ sym (root_positive _ c.requires)
