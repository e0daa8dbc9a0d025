-- The update of the scaling of one cone of a list: what the cone's kind asks on its own ranges (document 01, "Second-order rules" and "Nonnegative rules"), and
-- the call's deed. Nonnegative cones use no u, v, η, d. Assumes nothing.
use Rattle.std.specs.Prelude.{ℕ, Bool, true, false, cond, List, [], ◌∷◌, ◌++◌, Float}
use Rattle.answers.specs.Outcome.{Reply, done, margins, truth, number, lengths, stands, Gives, Contents, ◌⨾◌}
use Rattle.soc_scaling.specs.Scaling.{stored, update_scaling}
use Rattle.nn_scaling.specs.Scaling.{nonneg_lambda, nonneg_w}
use Rattle.conelist.specs.declared.Kind.{Kind}
use Rattle.conelist.specs.declared.Kind.TheVariants.{Nonnegative, SecondOrder}
use Rattle.conelist.specs.declared.Place.{Place}
use Rattle.conecalls.specs.Deed.{real, per_entry, per_cone, Deed, lengths_of, tests_of, plain}
use Rattle.conecalls.specs.Marked.{marking}
use Rattle.marks.specs.Mark.{scaled_mark}

unfoldable pub kind_scaling : Kind → (s z w lambda u v : List Float) (η d : Float) → Gives Reply (Contents 4 2)
kind_scaling (Nonnegative n) s z w lambda u v η d = record { reply = truth true; news = stored (nonneg_w s z) (nonneg_lambda s z) u v η d }
kind_scaling (SecondOrder n) s z w lambda u v η d = update_scaling s z w lambda u v η d

-- w, lambda, u, v, η, d; s, z
abbrev pub update_scaling_unmarked : Deed
update_scaling_unmarked =
    plain (per_entry real ∷ per_entry real ∷ per_entry real ∷ per_entry real ∷ per_cone real ∷ per_cone real ∷ []) (per_entry real ∷ per_entry real ∷ [])
    (λ kind w lambda u v η d s z. kind_scaling kind s z w lambda u v η d)

-- a scaling answers `truth` alone
abbrev pub is_true : Reply → Bool
is_true (truth t) = t
is_true done = false
is_true (margins α β) = false
is_true (number x) = false
is_true (lengths z s) = false
is_true (stands x) = false

-- and the mark: a true sets Scaled, a false keeps it (document 02, item 4)
abbrev pub update_scaling_deed : Deed
update_scaling_deed = marking update_scaling_unmarked (λ reply m. cond (is_true reply) scaled_mark m)

-- each buffer's length, and the length that the record asks for at a place (document 01, "The list and its buffers"; of the marks document 02, item 4)
abbrev pub lengths_at : Place → (s z w lambda u v η d : List Float) (marks : List ℕ) → List (ℕ × ℕ)
lengths_at p s z w lambda u v η d marks =
    tests_of p update_scaling_deed.writes (lengths_of update_scaling_deed.writes (w ⨾ lambda ⨾ u ⨾ v ⨾ η ⨾ d ⨾ marks ⨾ tt)) ++ tests_of p update_scaling_deed.reads (lengths_of update_scaling_deed.reads (s ⨾ z ⨾ tt))
