-- Over the records of a list, from a state. Assumes nothing.
use Rattle.std.specs.Prelude.{List, [], ◌∷◌}
use Rattle.conelist.specs.declared.Kind.TheVariants.{Nonnegative}
use Rattle.conelist.specs.declared.Cone.{Cone}

-- what stands past the end of a list
abbrev pub no_cone : Cone
no_cone = record { start = 0; kind = Nonnegative 0 }

abbrev pub over_records : {Z : Type 0} → (Z → Cone → Z) → List Cone → Z → Z
over_records f [] z = z
over_records f (c ∷ cs) z = over_records f cs (f z c)
