-- Document 01, "Nonnegative rules": identity scaling; source document 001, lines 73 to 75. Assumes nothing.
use Rattle.std.specs.Prelude.{List, [], length, Float}
use Rattle.answers.specs.Refusal.{refusal}
use Rattle.answers.specs.Outcome.{done, Came, call_of, ◌⨾◌}
use Rattle.nn_units.specs.Units.{nonneg_unit}

-- lambda stays: it is not even lent
abbrev pub nn_set_identity_scaling : List Float → Came 1 0
nn_set_identity_scaling w = call_of (refusal 0 (length w) []) done (w ⨾ tt) (nonneg_unit (length w) ⨾ tt)
