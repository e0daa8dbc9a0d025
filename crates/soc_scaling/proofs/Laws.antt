-- The three ends of a scaling, from what its steps computed; and that what a scaling writes has its slice's length, for every n. Assumes
-- nothing.
use Prim.Native.Nat.{ℕ, ◌≤◌}
use mathlib.Core.Path.{◌≡◌, refl, ap}
use mathlib.Core.Bool.{Bool, true, false, cond, ◌||◌}
use mathlib.Core.List.{List, [], ◌∷◌}
use lib.ListN.{length, get_or}
use lib.Ieee.{Float, eq}
use Rattle.root.specs.Root.{root}
use Rattle.vecmath.specs.Double.{◌⊘◌, 𝟎}
use Rattle.answers.specs.Outcome.{Reply, truth, Gives, Contents}
use Rattle.answers.proofs.Laws.{Long}
use Rattle.soc_residual.specs.Residual.{root_scale}
use Rattle.soc_terms.specs.Terms.{point_of, normed_of, lambda_of}
use Rattle.soc_sparse.specs.Sparse.{sparse_u, sparse_v, sparse_d}
use Rattle.soc_terms.proofs.Laws.{length_point, length_normed, length_lambda}
use Rattle.soc_sparse.proofs.Laws.{length_sparse_u, length_sparse_v}
use Rattle.answers.specs.Refusal.{is_sparse}
use Rattle.soc_scaling.specs.Scaling.{stored, update_scaling}
use Rattle.soc_identity.proofs.Laws.{length_cond, cond_same}

-- ---- the ends of a scaling

module _ (s z w lambda u v : List Float) (η d : Float) {ζ σ : Float} (of_z : ζ ≡ root_scale z) (of_s : σ ≡ root_scale s) where
  pub early : (eq ζ 𝟎 || eq σ 𝟎) ≡ true → record { reply = truth false; news = stored w lambda u v η d } ≡ update_scaling s z w lambda u v η d
  unfolding update_scaling
  early test = rw (← of_z, ← of_s, test)

  module _ (test : (eq ζ 𝟎 || eq σ 𝟎) ≡ false) {ω : Float} (of_ω : ω ≡ root_scale (point_of s z σ ζ)) where
    pub late : eq ω 𝟎 ≡ true → record { reply = truth false; news = stored w lambda u v η d } ≡ update_scaling s z w lambda u v η d
    unfolding update_scaling
    late test' = rw (← of_z, ← of_s, test, ← of_ω, test')

    pub scaled : {point w' lambda' u' v' : List Float} {η' d' : Float} → eq ω 𝟎 ≡ false
        → η' ≡ root (σ ⊘ ζ) → point ≡ point_of s z σ ζ → w' ≡ normed_of point ω → lambda' ≡ lambda_of s z σ ζ ω
        → u' ≡ cond (is_sparse (length s)) (sparse_u w' u) u → v' ≡ cond (is_sparse (length s)) (sparse_v w' v) v → d' ≡ cond (is_sparse (length s)) (sparse_d w') d
        → record { reply = truth true; news = stored w' lambda' u' v' η' d' } ≡ update_scaling s z w lambda u v η d
    unfolding update_scaling
    scaled test' of_η of_point of_w of_lambda of_u of_v of_d = rw (← of_z, ← of_s, test, ← of_ω, test', of_η, of_u, of_v, of_d, of_lambda, of_w, of_point)

-- ---- lengths

-- how long w, lambda, u and v are
unfoldable sizes_of : Contents 4 2 → List ℕ
sizes_of t = length t.0 ∷ length t.1.0 ∷ length t.1.1.0 ∷ length t.1.1.1.0 ∷ []

sizes_stored : (w lambda u v : List Float) (η d : Float) → sizes_of (stored w lambda u v η d) ≡ length w ∷ length lambda ∷ length u ∷ length v ∷ []
unfolding sizes_of
sizes_stored w lambda u v η d = refl

sizes_cond : (t : Bool) (x y : Gives Reply (Contents 4 2)) → sizes_of (cond t x y).news ≡ cond t (sizes_of x.news) (sizes_of y.news)
sizes_cond true x y = refl
sizes_cond false x y = refl

module _ (n : ℕ) where
  of_sizes : (t : Contents 4 2) → sizes_of t ≡ n ∷ n ∷ n ∷ n ∷ [] → Long n 4 2 t
  unfolding sizes_of
  of_sizes t e = (ap (λ l. get_or l 0 0) e, (ap (λ l. get_or l 1 0) e, (ap (λ l. get_or l 2 0) e, (ap (λ l. get_or l 3 0) e, (tt, (tt, tt))))))

  module _ (some : 1 ≤ n) where
    sizes : (s z w lambda u v : List Float) (η d : Float) → length s ≡ n → length z ≡ n → length w ≡ n → length lambda ≡ n → length u ≡ n → length v ≡ n
        → sizes_of (update_scaling s z w lambda u v η d).news ≡ n ∷ n ∷ n ∷ n ∷ []
    unfolding update_scaling
    sizes s z w lambda u v η d of_s of_z of_w of_lambda of_u of_v =
        let ζ = root_scale z in
        let σ = root_scale s in
        let point = point_of s z σ ζ in
        let normed = normed_of point (root_scale point) in
        let of_point = length_point n some s z σ ζ of_z in
        let of_normed = length_normed n some point (root_scale point) of_point in
        simp (sizes_cond, sizes_stored, length_cond, of_w, of_lambda, of_u, of_v, of_normed, length_lambda n some s z σ ζ (root_scale point) of_s, length_sparse_u n some normed u of_normed, length_sparse_v n some normed v of_normed, cond_same)

    pub lengths_update_scaling : (s z w lambda u v : List Float) (η d : Float) → length s ≡ n → length z ≡ n → length w ≡ n → length lambda ≡ n → length u ≡ n → length v ≡ n
        → Long n 4 2 (update_scaling s z w lambda u v η d).news
    lengths_update_scaling s z w lambda u v η d of_s of_z of_w of_lambda of_u of_v = of_sizes _ (sizes s z w lambda u v η d of_s of_z of_w of_lambda of_u of_v)
