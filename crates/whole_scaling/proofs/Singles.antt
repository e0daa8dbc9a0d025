-- From its list's first cone on, behind k cones that answered true, what is left to do is the single calls on cone k and those behind it, each at its own
-- place. Assumes nothing.
use Prim.Native.Nat.{ℕ, suc, ◌+◌, ◌-◌, ◌≤◌, ◌<◌}
use native.Mathlib.Omega.{arith}
use native.Mathlib.Numerals.{add-one}
use mathlib.Core.Path.{◌≡◌, sym, ap, ◌∙◌}
use mathlib.Core.Bool.{Bool, true, false, cond}
use mathlib.Core.List.{List, ◌++◌, map}
use lib.Dec.{ltb, eqb}
use lib.ListN.{length, get_or}
use lib.Ieee.{Float}
use Rattle.answers.specs.declared.Refusal.{Refusal}
use Rattle.answers.specs.Refusal.{number_of, ◌⊳◌}
use Rattle.answers.specs.Outcome.{Reply, truth, Scaled, all_true, false_at, Ruling, gives, refuses, Outcome, tells, ◌⨾◌}
use Rattle.answers.proofs.Laws.{clear_both, clear_lengths, answered}
use Rattle.conelist.specs.declared.Kind.{Kind}
use Rattle.conelist.specs.declared.Cone.{Cone}
use Rattle.conelist.specs.declared.Place.{Place}
use Rattle.conelist.specs.Layout.{kind_of_cone, bad_list, bad_place, place_of, carried, spot_of, Fits}
use Rattle.conelist.proofs.Placed.{all_fit}
use Rattle.walks.proofs.Indexed.{kind_at}
use Rattle.conewalk.proofs.Laid.{spot}
use Rattle.conecalls.specs.Deed.{lengths_of, tests_of, comes}
use Rattle.list_scaling.specs.Scaling.{update_scaling_deed, lengths_at}
use Rattle.whole_scaling.specs.List.{Written, behind_of, singly_of, unless, list_update_scaling}
use Rattle.whole_scaling.specs.Walk.{ahead_of, past_of, started, scaling_from}
use Rattle.whole_scaling.proofs.Laws as walk
use Rattle.whole_scaling.proofs.Laws.{Small, still_fit, answered_small}
use Rattle.whole_scaling.proofs.Walked.{next, ahead, carries, five, number, same_refusals, walked as walked_from}

-- cone k is in the list, and of that kind
abbrev At : List Cone → ℕ → Kind → Type 0
At cs k kind = (k < length cs) × (kind ≡ kind_of_cone cs k)

-- so is the cone c that record k tells
pub told_by : {R : Type 0} (cone : R → Cone) (row : List R) (cs : List Cone) → cs ≡ map cone row → {k : ℕ} {r : R} {c : Cone} → k < length row → r ≡ get_or row k r → c ≡ cone r → At cs k c.kind
told_by cone row cs each {k} l is e = let told = walk.told_by cone row cs each l is e in (told.0, told.1 ∙ kind_at cs k)

-- from what the buffers hold, the single calls on cone k and those behind it come to `all`; cone k lies at p, which need not have its kind; and each
-- buffer has its length
pub record Behind (cs : List Cone) (s z : List Float) (all : Outcome Scaled Written) (k : ℕ) (p : Place) (holds : Written) : Type 0 where
  pub left : singly_of cs s z (length cs - k) k holds ≡ all
  pub here : k < length cs → ahead_of p (kind_of_cone cs k) ≡ place_of cs k
  pub fits : Fits (tests_of p update_scaling_deed.writes (lengths_of update_scaling_deed.writes holds) ++ tests_of p update_scaling_deed.reads (lengths_of update_scaling_deed.reads (s ⨾ z ⨾ tt)))

-- the list is not refused where one of its places is not
unbarred : (cs : List Cone) (k : ℕ) → bad_place cs k ≡ 0 → bad_list cs ≡ 0
unfolding ◌⊳◌
unbarred cs k e =
    let r = clear_both (cond (ltb 256 (length cs)) 2 0) _ e in
    rw r.0 (clear_both _ _ r.1).0

-- past cone k lies the next
shifted : (cs : List Cone) (k : ℕ) → ahead_of (past_of (next cs k (kind_of_cone cs k))) (kind_of_cone cs (k + 1)) ≡ next cs (k + 1) (kind_of_cone cs (k + 1))
shifted cs k = rw (add-one k)

-- ---- before the first cone, which lies at p

module _ (s z w lambda u v η d : List Float) (marks : List ℕ) where
  abbrev held : Written
  held = w ⨾ lambda ⨾ u ⨾ v ⨾ η ⨾ d ⨾ marks ⨾ tt

  -- of n cones, the refusals by the first one's place, and by what that carries
  abbrev tested : ℕ → Place → ℕ
  tested n p = cond (eqb n 0) 0 (spot_of p) ⊳ five s z w lambda u v η d marks p

  abbrev handed : ℕ → Place → ℕ
  handed n p = cond (eqb n 0) 0 (carried p) ⊳ five s z w lambda u v η d marks p

  module _ {n : ℕ} {p : Place} (cs : List Cone) (place : p ≡ place_of cs 0) (many : n ≡ length cs) where
    as_handed : tested n p ≡ handed n p
    as_handed = ap (λ (m : ℕ). cond (eqb n 0) 0 m ⊳ five s z w lambda u v η d marks p) (ap spot_of place ∙ spot cs 0 ∙ sym (ap carried place ∙ carries cs 0))

    met : handed n p ≡ number s z w lambda u v η d marks cs
    met = ap (λ (n : ℕ). handed n p) many ∙ ap (handed (length cs)) place ∙ same_refusals s z w lambda u v η d marks cs

    pub refused : (x : Refusal) → number_of x ≡ tested n p → tells (refuses (number_of x)) held ≡ list_update_scaling cs s z w lambda u v η d marks
    refused x e =
        walk.refused s z w lambda u v η d marks cs p many x (e ∙ as_handed)
        ∙ ap (λ (p : Place). scaling_from cs p s z w lambda u v η d marks) place
        ∙ walked_from s z w lambda u v η d marks cs

    abbrev Begun : Place → Type 0
    Begun p = Behind cs s z (list_update_scaling cs s z w lambda u v η d marks) 0 p held

    begins : 0 ≡ handed n p → Begun p × Begun (started p)
    unfolding unless
    begins e =
        let f = e ∙ met in
        let whole : length cs - 0 ≡ length cs = omega arith in
        let left = ap (λ (n : ℕ). singly_of cs s z n 0 held) whole ∙ ap (λ (n : ℕ). unless n held (singly_of cs s z (length cs) 0 held)) f in
        let fits = all_fit (lengths_at p s z w lambda u v η d marks) (clear_lengths _ (clear_both _ _ (sym e)).1) in
        let at : 0 < length cs → place_of cs 0 ≡ next cs 0 (kind_of_cone cs 0) = λ l. sym (ahead cs (clear_both _ _ (sym f)).0 0 l) in (
          record { left = left; here = λ l. ap (λ (p : Place). ahead_of p (kind_of_cone cs 0)) (place ∙ at l) ∙ sym (at l); fits = fits },
          record { left = left; here = λ l. ap (λ (p : Place). ahead_of (started p) (kind_of_cone cs 0)) (place ∙ at l) ∙ sym (at l); fits = fits },
        )

    pub begun : 0 ≡ tested n p → Begun p
    begun e = (begins (e ∙ as_handed)).0

    -- so where the walk begins
    pub begun_walk : 0 ≡ handed n p → Begun (started p)
    begun_walk e = (begins e).1

-- ---- a turn, and the end

module _ {cs : List Cone} {s z : List Float} {all : Outcome Scaled Written} {k : ℕ} {p : Place} {holds : Written} (h : Behind cs s z all k p holds) where
  -- behind the last cone
  pub walked : length cs ≤ k → tells (gives all_true) holds ≡ all
  walked l =
      let none : 0 ≡ length cs - k = omega arith in
      ap (λ (n : ℕ). singly_of cs s z n k holds) none ∙ h.left

  -- the single call on cone k, which is of that kind
  module _ {kind : Kind} (told : At cs k kind) where
    abbrev came : Outcome Reply Written
    came = comes (ahead_of p kind) update_scaling_deed holds (s ⨾ z ⨾ tt)

    abbrev onward : Written → Outcome Scaled Written
    onward news = singly_of cs s z (length cs - (k + 1)) (k + 1) news

    placed : ahead_of p kind ≡ place_of cs k
    placed = ap (ahead_of p) told.1 ∙ h.here told.0

    -- it, and what follows it
    one : (ruling : Ruling Reply) (news : Written) → tells ruling news ≡ came → behind_of k ruling news onward ≡ all
    one ruling news f =
        let more : suc (length cs - (k + 1)) ≡ length cs - k = omega (arith, told.0) in
        ap (λ (o : Outcome Reply Written). behind_of k o.ruling o.holds onward) f
        ∙ ap (λ (q : Place). let o : Outcome Reply Written = comes q update_scaling_deed holds (s ⨾ z ⨾ tt) in behind_of k o.ruling o.holds onward) placed
        ∙ ap (λ (j : ℕ). let o : Outcome Reply Written = comes (place_of cs k) update_scaling_deed holds (s ⨾ z ⨾ tt) in behind_of k o.ruling o.holds (singly_of cs s z (length cs - (k + 1)) j)) (add-one k)
        ∙ ap (λ (n : ℕ). singly_of cs s z n k holds) more ∙ h.left

    -- it is refused
    pub stopped : {n : ℕ} {news : Written} → tells (refuses n) news ≡ came → tells (refuses n) news ≡ all
    unfolding behind_of
    stopped f = one _ _ f

    -- it answers t
    module _ {t : Bool} {news : Written} (f : tells (gives (truth t)) news ≡ came) where
      pub small : Small (ahead_of p kind)
      small = answered_small p kind s z holds f

      clear : bad_list cs ≡ 0
      clear = unbarred cs k (sym (spot cs k) ∙ ap spot_of (sym placed) ∙ (clear_both _ _ (answered _ _ _ _ f)).0)

      at : ahead_of p kind ≡ next cs k (kind_of_cone cs k)
      at = placed ∙ sym (ahead cs clear k told.0)

      pub told_false : t ≡ false → tells (gives (false_at p.index)) news ≡ all
      unfolding behind_of
      told_false g = ap (λ (j : ℕ). tells (gives (false_at j)) news) (ap (λ (q : Place). q.index) at) ∙ sym (ap (λ (t : Bool). behind_of k (gives (truth t)) news onward) g) ∙ one _ _ f

      pub told_true : t ≡ true → Behind cs s z all (k + 1) (past_of (ahead_of p kind)) news
      unfolding behind_of
      told_true g =
          record {
            left = sym (ap (λ (t : Bool). behind_of k (gives (truth t)) news onward) g) ∙ one _ _ f;
            here = λ m. ap (λ (q : Place). ahead_of (past_of q) (kind_of_cone cs (k + 1))) at ∙ shifted cs k ∙ ahead cs clear (k + 1) m;
            fits = still_fit p kind s z holds f h.fits;
          }
