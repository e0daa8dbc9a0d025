-- A scaling answers true or false, and a false changes nothing (document 02, item 4): all that this crate takes from the scaling's own rule. Assumes
-- nothing.
use mathlib.Core.Path.{◌≡◌, refl, sym}
use mathlib.Core.Bool.{Bool, true, false, cond, ◌||◌, false≢true}
use mathlib.Core.List.{List}
use lib.Ieee.{Float, eq}
use Rattle.vecmath.specs.Double.{𝟎}
use Rattle.answers.specs.Outcome.{Reply, truth, Gives}
use Rattle.conelist.specs.declared.Kind.{Kind}
use Rattle.conelist.specs.declared.Kind.TheVariants.{Nonnegative, SecondOrder}
use Rattle.soc_residual.specs.Residual.{root_scale}
use Rattle.soc_terms.specs.Terms.{point_of}
use Rattle.soc_scaling.specs.Scaling.{stored, update_scaling}
use Rattle.list_scaling.specs.Scaling.{kind_scaling, is_true}

by_tests : {B : Type 0} (a b : Bool) (old new : B)
    → let does : Gives Reply B = cond a (record { reply = truth false; news = old }) (cond b (record { reply = truth false; news = old }) (record { reply = truth true; news = new })) in
    (does.reply ≡ truth (is_true does.reply)) × (is_true does.reply ≡ false → does.news ≡ old)
by_tests true b old new = (refl, λ e. refl)
by_tests false true old new = (refl, λ e. refl)
by_tests false false old new = (refl, λ e. absurd (false≢true (sym e)))

module _ (s z w lambda u v : List Float) (η d : Float) where
  scaled : (kind : Kind) → let does = kind_scaling kind s z w lambda u v η d in
      (does.reply ≡ truth (is_true does.reply)) × (is_true does.reply ≡ false → does.news ≡ stored w lambda u v η d)
  unfolding kind_scaling update_scaling
  scaled (Nonnegative n) = (refl, λ e. absurd (false≢true (sym e)))
  scaled (SecondOrder n) = by_tests (eq (root_scale z) 𝟎 || eq (root_scale s) 𝟎) (eq (root_scale (point_of s z (root_scale s) (root_scale z))) 𝟎) _ _

  -- it answers `truth` alone
  pub truthful : (kind : Kind) → let reply = (kind_scaling kind s z w lambda u v η d).reply in reply ≡ truth (is_true reply)
  truthful kind = (scaled kind).0

  -- "A late false shall change nothing, as an early one does"
  pub false_keeps : (kind : Kind) → is_true (kind_scaling kind s z w lambda u v η d).reply ≡ false → (kind_scaling kind s z w lambda u v η d).news ≡ stored w lambda u v η d
  false_keeps kind = (scaled kind).1
