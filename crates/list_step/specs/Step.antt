-- The step lengths of one cone of a list: what the cone's kind asks on its own ranges (document 01, "Second-order rules" and "Nonnegative rules"), and
-- the call's deed. Assumes nothing.
use Rattle.std.specs.Prelude.{List, [], ◌∷◌, Float}
use Rattle.extrema.specs.Extrema.{least_of}
use Rattle.soc_step.specs.Step.{soc_step_by}
use Rattle.nn_step.specs.Step.{nonneg_step}
use Rattle.conelist.specs.declared.Kind.{Kind}
use Rattle.conelist.specs.declared.Kind.TheVariants.{Nonnegative, SecondOrder}
use Rattle.answers.specs.Refusal.{bad_limit}
use Rattle.answers.specs.Outcome.{Reply, lengths}
use Rattle.conecalls.specs.Deed.{real, per_entry, Deed}

-- the step of the point z along dz, over the operation called least
unfoldable pub kind_step_by : (Float → Float → Float) → Kind → (z dz : List Float) (αmax : Float) → Float
kind_step_by ◌⊓◌ (Nonnegative n) z dz αmax = nonneg_step ◌⊓◌ z dz αmax
kind_step_by ◌⊓◌ (SecondOrder n) z dz αmax = soc_step_by ◌⊓◌ z dz αmax

abbrev pub kind_step : Kind → (z dz : List Float) (αmax : Float) → Float
kind_step kind z dz αmax = kind_step_by least_of kind z dz αmax

-- the pair, z side and s side, from dz, ds, z, s; 6 ranks last
abbrev pub step_length_deed : (αmax : Float) → Deed
step_length_deed αmax =
    record {
      writes = [];
      reads = per_entry real ∷ per_entry real ∷ per_entry real ∷ per_entry real ∷ [];
      early = λ kind. [];
      late = λ kind dz ds z s. bad_limit αmax ∷ [];
      Replies = Reply;
      rule = λ kind dz ds z s. record { reply = lengths (kind_step kind z dz αmax) (kind_step kind s ds αmax); news = tt };
    }
