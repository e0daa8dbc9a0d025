-- `root::bit` meets its contract. Assumes nothing.
use Rattle.std.proofs.Common.{◌≡◌, Bool, true, false, refl}
use mir.Val.{bool_byte}
use Rattle.root.specs.Scaling.{bit}
use Rattle.root.proofs.bit.Goals as goal

byte_is : (t : Bool) → bool_byte t ≡ bit t
unfolding bit
byte_is true = refl
byte_is false = refl

pub returns : goal.returns
returns c = byte_is c.args.test
