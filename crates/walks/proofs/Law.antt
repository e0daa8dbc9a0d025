-- One law of all walks of a lent row of records. A walk that stands at index i has still to go over the rest of the row, from the state it is in: that
-- comes to the same at every turn, and at the end it is the state itself. A walk's invariant says it of its state, and cites these. Assumes nothing.
use Rattle.std.proofs.Common.{◌≡◌, ℕ, ◌+◌, ◌<◌, ◌≤◌, List, length, get_or, drop}
use Rattle.std.proofs.lemmas.List.{at_drop_more, at_drop_all}
use Rattle.conelist.specs.declared.Cone.{Cone}
use Rattle.walks.specs.Records.{no_cone, over_records}

-- what is left of the walk at index i, in the state z
abbrev pub rest : {Z : Type 0} (f : Z → Cone → Z) (cs : List Cone) (i : ℕ) (z : Z) → Z
rest f cs i z = over_records f (drop i cs) z

pub turned : {Z : Type 0} (f : Z → Cone → Z) (cs : List Cone) (i : ℕ) (z : Z) → i < length cs → rest f cs i z ≡ rest f cs (i + 1) (f z (get_or cs i no_cone))
turned f cs i z l = at_drop_more (λ ds. over_records f ds z) cs i no_cone l

pub ended : {Z : Type 0} (f : Z → Cone → Z) (cs : List Cone) (i : ℕ) (z : Z) → length cs ≤ i → rest f cs i z ≡ z
ended f cs i z l = at_drop_all (λ ds. over_records f ds z) cs i l
