-- Where the lengths fit, a place's own refusals are all; and the rule gives ranges of the right lengths. Assumes nothing.
use Prim.Native.Nat.{ℕ, ◌<◌}
use native.Mathlib.Omega.{arith}
use mathlib.Core.Path.{◌≡◌, sym, ap, ◌∙◌}
use mathlib.Core.Bool.{Bool, cond}
use mathlib.Core.List.{List, ◌++◌}
use lib.ListN.{length, get_or, set}
use lib.Ieee.{Float}
use Rattle.answers.specs.Refusal.{◌⊳◌, unlike}
use Rattle.answers.specs.Outcome.{Reply, truth, Gives, ◌⨾◌}
use Rattle.answers.proofs.Laws.{first_none}
use Rattle.soc_scaling.proofs.Laws.{lengths_update_scaling}
use Rattle.nn_scaling.proofs.Laws as scale
use Rattle.conelist.specs.declared.Kind.TheVariants.{Nonnegative, SecondOrder}
use Rattle.conelist.specs.declared.Place.{Place}
use Rattle.conelist.specs.Layout.{spot_of, fit_all, Fits, Open}
use Rattle.conelist.proofs.Placed.{clear_spot, fits_all}
use Rattle.conecalls.specs.Deed.{mark, per_cone, Whole, Tuple, lengths_of, tests_of, works, Keeps}
use Rattle.conecalls.specs.Marked.{append}
use Rattle.conecalls.proofs.Marked.{keeps_marking}
use Rattle.marks.specs.Mark.{scaled_mark}
use Rattle.list_scaling.specs.Scaling.{kind_scaling, is_true, update_scaling_unmarked, update_scaling_deed, lengths_at}

module _ (p : Place) (s z w lambda u v η d : List Float) (marks : List ℕ) where
  abbrev asked : List (ℕ × ℕ)
  asked = lengths_at p s z w lambda u v η d marks

  -- n is the number in what `check_spot` gave
  pub alike : {n : ℕ} → Fits asked → n ≡ spot_of p → n ≡ spot_of p ⊳ unlike (fit_all asked)
  unfolding unlike
  alike f e = e ∙ sym (first_none (spot_of p)) ∙ ap (λ t. spot_of p ⊳ unlike t) (sym (fits_all asked f))

  pub opened : Fits asked → 0 ≡ spot_of p → Open p asked
  opened f e = record { here = (clear_spot p (sym e)).1; same = f }

  -- what the functions behind the call have of that: all but the marks, and the marks
  pub unmarked : Open p asked → Open p (tests_of p update_scaling_unmarked.writes (lengths_of update_scaling_unmarked.writes (w ⨾ lambda ⨾ u ⨾ v ⨾ η ⨾ d ⨾ tt)) ++ tests_of p update_scaling_unmarked.reads (lengths_of update_scaling_unmarked.reads (s ⨾ z ⨾ tt)))
  unmarked o = let f = o.same in record { here = o.here; same = (f.0, (f.1.0, (f.1.1.0, (f.1.1.1.0, (f.1.1.1.1.0, (f.1.1.1.1.1.0, f.1.1.1.1.1.1.1)))))) }

  pub mark_within : Open p asked → p.index < length marks
  mark_within o = omega (arith, o.here.named, o.same.1.1.1.1.1.1.0)

  -- the scaling with its mark, from the scaling and from what the mark became
  pub with_mark : {t : Bool} {news : Tuple Whole update_scaling_unmarked.writes} {after : List ℕ}
      → record { reply = truth t; news = news } ≡ works p update_scaling_unmarked (w ⨾ lambda ⨾ u ⨾ v ⨾ η ⨾ d ⨾ tt) (s ⨾ z ⨾ tt) → after ≡ set marks p.index (cond t scaled_mark (get_or marks p.index 0))
      → record { reply = truth t; news = append Whole (per_cone mark) update_scaling_unmarked.writes news after } ≡ works p update_scaling_deed (w ⨾ lambda ⨾ u ⨾ v ⨾ η ⨾ d ⨾ marks ⨾ tt) (s ⨾ z ⨾ tt)
  with_mark {t} {news} {after} e f =
      let put : Reply → List ℕ = λ r. set marks p.index (cond (is_true r) scaled_mark (get_or marks p.index 0)) in
      ap (λ m. record { reply = truth t; news = append Whole (per_cone mark) update_scaling_unmarked.writes news m }) f
      ∙ ap (λ (g : Gives Reply (Tuple Whole update_scaling_unmarked.writes)). record { reply = g.reply; news = append Whole (per_cone mark) update_scaling_unmarked.writes g.news (put g.reply) }) e

unmarked_keeps : Keeps update_scaling_unmarked
unfolding kind_scaling
unmarked_keeps (Nonnegative n) h ws f rs g = (rw (scale.length_w, g.0), (rw (scale.length_lambda, g.0), f.1.1))
unmarked_keeps (SecondOrder n) h ws f rs g = lengths_update_scaling n (omega arith) _ _ _ _ _ _ _ _ g.0 g.1.0 f.0 f.1.0 f.1.1.0 f.1.1.1.0

pub keeps : Keeps update_scaling_deed
keeps = keeps_marking update_scaling_unmarked (λ reply m. cond (is_true reply) scaled_mark m) unmarked_keeps
