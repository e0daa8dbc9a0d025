-- What is left of the walk, over one record more and at its end; and the lengths, which stay. Assumes nothing.
use Prim.Native.Nat.{ℕ, zero, suc, ◌+◌, ◌≤◌, ◌<◌}
use native.Mathlib.Omega.{arith}
use mathlib.Core.Path.{◌≡◌, refl, sym, ap, ◌∙◌, subst}
use mathlib.Core.Bool.{Bool, true, false, cond, ◌&&◌}
use mathlib.Core.List.{List, [], ◌∷◌, ◌++◌, map}
use borrow.Author.Tests.{leb-true}
use lib.Dec.{leb, eqb}
use lib.ListN.{length, get_or, drop}
use lib.Ieee.{Float}
use Rattle.answers.specs.declared.Refusal.{Refusal}
use Rattle.answers.specs.Refusal.{number_of, ◌⊳◌, unlike}
use Rattle.answers.specs.Outcome.{Reply, truth, Scaled, all_true, false_at, Ruling, gives, refuses, Outcome, tells, ◌⨾◌}
use Rattle.answers.proofs.Laws.{both, clear_both, clear_lengths, answered, numbered}
use Rattle.conelist.specs.declared.Kind.{Kind}
use Rattle.conelist.specs.declared.Cone.{Cone}
use Rattle.conelist.specs.declared.Place.{Place}
use Rattle.conelist.specs.Layout.{dim, block_dim, carried, counted_of, misplaced, fit_all, Fits}
use Rattle.conelist.proofs.Placed.{clear_misplaced, all_fit}
use Rattle.walks.specs.Records.{no_cone, over_records}
use Rattle.walks.proofs.Law.{rest, turned, ended}
use Rattle.records.proofs.Laws.{cone_at}
use Rattle.conecalls.specs.Deed.{lengths_of, tests_of, comes}
use Rattle.conecalls.proofs.Own.{lengths_kept}
use Rattle.list_scaling.specs.Scaling.{update_scaling_deed, lengths_at}
use Rattle.list_scaling.proofs.Laws.{keeps}
use Rattle.whole_scaling.specs.List.{Written, unless}
use Rattle.whole_scaling.specs.Walk.{underway, over, ahead_of, past_of, passed_of, scaling_further, scaling_closing, started, scaling_from}

-- cone k is in the list, and of that kind
abbrev At : List Cone → ℕ → Kind → Type 0
At cs k kind = (k < length cs) × (kind ≡ (get_or cs k no_cone).kind)

-- so is the cone c that record k tells
pub told_by : {R : Type 0} (cone : R → Cone) (row : List R) (cs : List Cone) → cs ≡ map cone row → {k : ℕ} {r : R} {c : Cone} → k < length row → r ≡ get_or row k r → c ≡ cone r → At cs k c.kind
told_by cone row cs each l is e = let here = cone_at cone row cs each l is in (here.0, ap (λ (c : Cone). c.kind) (e ∙ here.1))

-- the numbers past a cone that is not refused are small
pub record Small (p : Place) : Type 0 where
  pub next_index : p.index + 1 ≤ 256
  pub next_start : p.start + dim p.kind ≤ 65536
  pub next_block : p.block + block_dim p.kind ≤ 196608

in_range : (p : Place) → misplaced p ≡ 0 → Small p
unfolding misplaced
in_range p e =
    let here = clear_misplaced p e in
    let counts = both (leb p.count 256 && leb p.entries 65536) (leb p.blocks 196608) (last _ (counted_of p) e) in
    let others = both (leb p.count 256) (leb p.entries 65536) counts.0 in
    record {
      next_index = omega (arith, here.named, leb-true p.count 256 others.0);
      next_start = omega (arith, here.inside, leb-true p.entries 65536 others.1);
      next_block = omega (arith, here.block_inside, leb-true p.blocks 196608 counts.1);
    }
  where
    last : (s t : Bool) → ◌≡◌ {A = ℕ} (cond (s && t) 0 4) 0 → t ≡ true
    last true true e = refl
    last true false e = absurd (omega arith)
    last false t e = absurd (omega arith)

-- behind a single call on the cone at p, which is of that kind, each buffer has its length still; and where it answered, the numbers past it are small
module _ (p : Place) (kind : Kind) (s z : List Float) (holds : Written) {news : Written} where
  pub still_fit : {r : Ruling Reply} → tells r news ≡ comes (ahead_of p kind) update_scaling_deed holds (s ⨾ z ⨾ tt)
      → Fits (tests_of p update_scaling_deed.writes (lengths_of update_scaling_deed.writes holds) ++ tests_of p update_scaling_deed.reads (lengths_of update_scaling_deed.reads (s ⨾ z ⨾ tt)))
      → Fits (tests_of p update_scaling_deed.writes (lengths_of update_scaling_deed.writes news) ++ tests_of p update_scaling_deed.reads (lengths_of update_scaling_deed.reads (s ⨾ z ⨾ tt)))
  still_fit f =
      subst (λ ns. Fits (tests_of p update_scaling_deed.writes ns ++ tests_of p update_scaling_deed.reads (lengths_of update_scaling_deed.reads (s ⨾ z ⨾ tt))))
      (sym (ap (λ (o : Outcome Reply Written). lengths_of update_scaling_deed.writes o.holds) f ∙ lengths_kept (ahead_of p kind) update_scaling_deed keeps holds (s ⨾ z ⨾ tt)))

  pub answered_small : {t : Bool} → tells (gives (truth t)) news ≡ comes (ahead_of p kind) update_scaling_deed holds (s ⨾ z ⨾ tt) → Small (ahead_of p kind)
  answered_small f = in_range (ahead_of p kind) (clear_both _ _ (clear_both _ _ (answered _ _ _ _ f)).0).1

-- a walk that is over stays so
pub stays : (s z : List Float) (cs : List Cone) (all : Outcome Scaled Written) → over_records (scaling_further s z) cs (over all) ≡ over all
unfolding scaling_further
stays s z [] all = refl
stays s z (c ∷ cs) all = stays s z cs all

-- at record k, with p the next cone's place, what is left of the walk comes to `all`; and each buffer has its length
pub record Behind (cs : List Cone) (s z : List Float) (all : Outcome Scaled Written) (k : ℕ) (p : Place) (holds : Written) : Type 0 where
  pub left : scaling_closing (rest (scaling_further s z) cs k (underway p holds)) ≡ all
  pub fits : Fits (tests_of p update_scaling_deed.writes (lengths_of update_scaling_deed.writes holds) ++ tests_of p update_scaling_deed.reads (lengths_of update_scaling_deed.reads (s ⨾ z ⨾ tt)))

-- ---- before the first record: the refusals, as they are tested

module _ (s z w lambda u v η d : List Float) (marks : List ℕ) where
  abbrev held : Written
  held = w ⨾ lambda ⨾ u ⨾ v ⨾ η ⨾ d ⨾ marks ⨾ tt

  abbrev asked : Place → List (ℕ × ℕ)
  asked p = lengths_at p s z w lambda u v η d marks

  -- of n cones
  abbrev number : ℕ → Place → ℕ
  number n p = cond (eqb n 0) 0 (carried p) ⊳ unlike (fit_all (asked p))

  module _ {n : ℕ} (cs : List Cone) (p : Place) (many : n ≡ length cs) where
    pub refused : (x : Refusal) → number_of x ≡ number n p → tells (refuses (number_of x)) held ≡ scaling_from cs p s z w lambda u v η d marks
    unfolding unless
    refused x e = go (number_of x) refl (e ∙ ap (λ (n : ℕ). number n p) many)
      where
        go : (m : ℕ) → number_of x ≡ m → m ≡ number (length cs) p → tells (refuses m) held ≡ scaling_from cs p s z w lambda u v η d marks
        go zero f e = absurd (numbered x f)
        go (suc m) f e = ap (λ (m : ℕ). unless m held (scaling_closing (over_records (scaling_further s z) cs (underway (started p) held)))) e

    pub begun : 0 ≡ number n p → Behind cs s z (scaling_from cs p s z w lambda u v η d marks) 0 (started p) held
    unfolding unless
    begun e =
        let f = e ∙ ap (λ (n : ℕ). number n p) many in
        record {
          left = ap (λ (m : ℕ). unless m held (scaling_closing (over_records (scaling_further s z) cs (underway (started p) held)))) f;
          fits = all_fit (asked p) (clear_lengths _ (clear_both _ _ (sym e)).1);
        }

-- ---- over one record more, and behind the last

module _ {cs : List Cone} {s z : List Float} {all : Outcome Scaled Written} {k : ℕ} {p : Place} {holds : Written} (h : Behind cs s z all k p holds) where
  pub closed : length cs ≤ k → tells (gives all_true) holds ≡ all
  unfolding scaling_closing
  closed l = ap scaling_closing (sym (ended (scaling_further s z) cs k (underway p holds) l)) ∙ h.left

  -- the single call on cone k, which is of that kind
  module _ {kind : Kind} (told : At cs k kind) where
    abbrev came : Outcome Reply Written
    came = comes (ahead_of p kind) update_scaling_deed holds (s ⨾ z ⨾ tt)

    -- what follows it
    abbrev onward : Kind → Ruling Reply → Written → Outcome Scaled Written
    onward kind ruling news = scaling_closing (rest (scaling_further s z) cs (k + 1) (passed_of (ahead_of p kind) ruling news))

    one : (ruling : Ruling Reply) (news : Written) → tells ruling news ≡ came → onward kind ruling news ≡ all
    unfolding scaling_further
    one ruling news f =
        ap (λ (o : Outcome Reply Written). onward kind o.ruling o.holds) f
        ∙ ap (λ (kind : Kind). let o : Outcome Reply Written = comes (ahead_of p kind) update_scaling_deed holds (s ⨾ z ⨾ tt) in onward kind o.ruling o.holds) told.1
        ∙ ap scaling_closing (sym (turned (scaling_further s z) cs k (underway p holds) told.0)) ∙ h.left

    -- it is refused
    pub stopped : {n : ℕ} {news : Written} → tells (refuses n) news ≡ came → tells (refuses n) news ≡ all
    unfolding passed_of scaling_closing
    stopped f = ap scaling_closing (sym (stays s z (drop (k + 1) cs) _)) ∙ one _ _ f

    -- it answers t
    module _ {t : Bool} {news : Written} (f : tells (gives (truth t)) news ≡ came) where
      pub small : Small (ahead_of p kind)
      small = answered_small p kind s z holds f

      pub told_false : t ≡ false → tells (gives (false_at p.index)) news ≡ all
      unfolding passed_of scaling_closing
      told_false g = ap scaling_closing (sym (stays s z (drop (k + 1) cs) _)) ∙ sym (ap (λ (t : Bool). onward kind (gives (truth t)) news) g) ∙ one _ _ f

      pub told_true : t ≡ true → Behind cs s z all (k + 1) (past_of (ahead_of p kind)) news
      unfolding passed_of
      told_true g =
          record {
            left = sym (ap (λ (t : Bool). onward kind (gives (truth t)) news) g) ∙ one _ _ f;
            fits = still_fit p kind s z holds f h.fits;
          }
