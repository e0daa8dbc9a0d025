-- `tails_write::set_first` meets its contract. Assumes nothing.
use Rattle.tails.proofs.Laws.{set_head}
use Rattle.tails_write.proofs.set_first.Goals as goal

pub returns : goal.returns
returns c = set_head c.args.z.now c.args.v c.requires
