-- From its list's first cone the walk comes to document 02's scaling of a list: it refuses by the list's rank, or makes the single calls one by one.
-- Assumes nothing.
use Prim.Native.Nat.{ℕ, zero, suc, ◌+◌, ◌<◌}
use native.Mathlib.Omega.{arith}
use native.Mathlib.Numerals.{add-one}
use mathlib.Core.Path.{◌≡◌, refl, sym, ap, ◌∙◌}
use mathlib.Core.Bool.{Bool, true, false, cond}
use mathlib.Core.List.{List, [], ◌∷◌}
use borrow.Author.Tests.{lt-ltb, ne_eqb}
use lib.Dec.{ltb, eqb}
use lib.ListN.{length, get_or, drop}
use lib.Ieee.{Float}
use Rattle.answers.specs.Refusal.{◌⊳◌, unlike}
use Rattle.answers.specs.Outcome.{Reply, Scaled, Ruling, gives, refuses, false_at, Outcome, ◌⨾◌}
use Rattle.answers.proofs.Laws.{clear_both, first_left}
use Rattle.conelist.specs.declared.Kind.{Kind}
use Rattle.conelist.specs.declared.Cone.{Cone}
use Rattle.conelist.specs.declared.Place.{Place}
use Rattle.conelist.specs.Layout.{dim, block_dim, kind_of_cone, sum_before, bad_records, bad_list, bad_place, laid_at, alone, found_of, place_of, carried, misplaced, spot_of, fit_all}
use Rattle.conelist.proofs.Placed.{clear_carried}
use Rattle.walks.specs.Records.{no_cone, over_records}
use Rattle.walks.proofs.Law.{rest, turned, ended}
use Rattle.walks.proofs.Indexed.{kind_at}
use Rattle.conewalk.proofs.Laid.{spot}
use Rattle.conecalls.specs.Deed.{comes}
use Rattle.list_scaling.specs.Scaling.{is_true, update_scaling_deed, lengths_at}
use Rattle.whole_scaling.specs.List.{Written, behind_of, singly_of, unless, list_update_scaling}
use Rattle.whole_scaling.specs.Walk.{Walk, underway, over, past_of, passed_of, scaling_further, scaling_closing, started, scaling_from}
use Rattle.whole_scaling.proofs.Laws.{stays}

module _ (cs : List Cone) where
  -- where it stands behind k cones that answered true
  abbrev pub next : ℕ → Kind → Place
  next k kind =
      record {
        no = 0;
        index = k;
        start = sum_before dim cs k;
        kind = kind;
        block = sum_before block_dim cs k;
        entries = sum_before dim cs (length cs);
        count = length cs;
        blocks = sum_before block_dim cs (length cs);
      }

  past : (k : ℕ) → past_of (next k (kind_of_cone cs k)) ≡ next (suc k) (kind_of_cone cs k)
  past k = rw (add-one k)

  pub ahead : bad_list cs ≡ 0 → (k : ℕ) → k < length cs → next k (kind_of_cone cs k) ≡ place_of cs k
  unfolding place_of ◌⊳◌
  ahead e k l = let r = clear_both (cond (ltb 256 (length cs)) 2 0) (bad_records 0 cs) e in rw (r.0, r.1, lt-ltb k (length cs) l)

  -- what a list's place carries is the list's refusal
  pub carries : (k : ℕ) → carried (place_of cs k) ≡ bad_place cs k
  unfolding place_of
  carries k = go (bad_place cs k) (spot cs k)
    where
      go : (n : ℕ) → spot_of (found_of n (laid_at cs k)) ≡ n → carried (found_of n (laid_at cs k)) ≡ n
      go zero e = (clear_both (carried (laid_at cs k)) (misplaced (laid_at cs k)) e).0
      go (suc n) e =
          let p : Place = alone (suc n) in
          let some : carried p ≡ 0 → ⊥ = λ q. let f : suc n ≡ 0 = clear_carried p q in omega arith in
          sym (first_left (carried p) (misplaced p) some) ∙ e

  -- the cones from k on, so many that are left
  module _ (s z : List Float) (clear : bad_list cs ≡ 0) where
    abbrev ends : ℕ → Walk → Outcome Scaled Written
    ends k t = scaling_closing (rest (scaling_further s z) cs k t)

    singly : (left k : ℕ) (kind : Kind) → k + left ≡ length cs → (holds : Written) → ends k (underway (next k kind) holds) ≡ singly_of cs s z left k holds
    unfolding scaling_closing scaling_further passed_of behind_of
    singly zero k kind l holds = ap scaling_closing (ended (scaling_further s z) cs k (underway (next k kind) holds) (omega arith))
    singly (suc left) k kind l holds =
        ap scaling_closing (turned (scaling_further s z) cs k (underway (next k kind) holds) (omega arith))
        ∙ one (get_or cs k no_cone) (kind_at cs k) (singly left (suc k) here (omega arith))
      where
        here : Kind
        here = kind_of_cone cs k

        -- what the cones behind k come to
        Onward : Type 0
        Onward = (news : Written) → ends (suc k) (underway (next (suc k) here) news) ≡ singly_of cs s z left (suc k) news

        -- behind the single call
        behind : Onward → (ruling : Ruling Reply) (news : Written) → ends (k + 1) (passed_of (next k here) ruling news) ≡ behind_of k ruling news (singly_of cs s z left (suc k))
        behind on (gives reply) news = by_truth (is_true reply)
          where
            by_truth : (t : Bool) → ends (k + 1) (cond t (underway (past_of (next k here)) news) (over (record { ruling = gives (false_at k); holds = news }))) ≡ cond t (singly_of cs s z left (suc k) news) (record { ruling = gives (false_at k); holds = news })
            by_truth true = ap (λ (j : ℕ). ends j (underway (past_of (next k here)) news)) (add-one k) ∙ ap (λ (p : Place). ends (suc k) (underway p news)) (past k) ∙ on news
            by_truth false = ap scaling_closing (stays s z (drop (k + 1) cs) _)
        behind on (refuses n) news = ap scaling_closing (stays s z (drop (k + 1) cs) _)

        one : (c : Cone) → c.kind ≡ here → Onward → ends (k + 1) (scaling_further s z (underway (next k kind) holds) c) ≡ singly_of cs s z (suc left) k holds
        one c f on =
            let came : Place → Outcome Reply Written = λ p. comes p update_scaling_deed holds (s ⨾ z ⨾ tt) in
            ap (λ (kind : Kind). let o = came (next k kind) in ends (k + 1) (passed_of (next k kind) o.ruling o.holds)) f
            ∙ ap (λ (p : Place). let o = came p in ends (k + 1) (passed_of (next k here) o.ruling o.holds)) (ahead clear k (omega arith))
            ∙ behind on (came (place_of cs k)).ruling (came (place_of cs k)).holds

-- ---- all of it, from the first cone's place

module _ (s z w lambda u v η d : List Float) (marks : List ℕ) where
  abbrev held : Written
  held = w ⨾ lambda ⨾ u ⨾ v ⨾ η ⨾ d ⨾ marks ⨾ tt

  abbrev pub five : Place → ℕ
  five p = unlike (fit_all (lengths_at p s z w lambda u v η d marks))

  -- the refusal's number, as the walk begins with it, and document 02's, which names no first cone
  abbrev first : List Cone → Place → ℕ
  first cs p = cond (eqb (length cs) 0) 0 (carried p) ⊳ five p

  abbrev pub number : List Cone → ℕ
  number cs = bad_list cs ⊳ five (laid_at cs 0)

  pub same_refusals : (cs : List Cone) → first cs (place_of cs 0) ≡ number cs
  unfolding place_of ◌⊳◌
  same_refusals [] = refl
  same_refusals (c ∷ cs) = rw (ne_eqb (length (c ∷ cs)) 0 (λ q. omega arith), carries (c ∷ cs) 0) (go (cond (ltb 256 (length (c ∷ cs))) 2 0) (bad_records 0 (c ∷ cs)))
    where
      go : (a b : ℕ) → let n = a ⊳ b ⊳ cond (ltb 0 (length (c ∷ cs))) 0 4 in n ⊳ five (found_of n (laid_at (c ∷ cs) 0)) ≡ (a ⊳ b) ⊳ five (laid_at (c ∷ cs) 0)
      go zero zero = rw (lt-ltb 0 (length (c ∷ cs)) (omega arith))
      go zero (suc b) = refl
      go (suc a) b = refl

  pub walked : (cs : List Cone) → scaling_from cs (place_of cs 0) s z w lambda u v η d marks ≡ list_update_scaling cs s z w lambda u v η d marks
  unfolding unless scaling_closing
  walked cs = ap (λ (n : ℕ). unless n held (all cs (place_of cs 0))) (same_refusals cs) ∙ go cs (number cs) refl
    where
      all : List Cone → Place → Outcome Scaled Written
      all cs p = scaling_closing (over_records (scaling_further s z) cs (underway (started p) held))

      go : (cs : List Cone) (n : ℕ) → number cs ≡ n → unless n held (all cs (place_of cs 0)) ≡ unless n held (singly_of cs s z (length cs) 0 held)
      go [] zero e = refl
      go (c ∷ cs) zero e =
          let clear = (clear_both (bad_list (c ∷ cs)) (five (laid_at (c ∷ cs) 0)) e).0 in
          ap (all (c ∷ cs)) (sym (ahead (c ∷ cs) clear 0 (omega arith))) ∙ singly (c ∷ cs) s z clear (length (c ∷ cs)) 0 c.kind (omega arith) held
      go cs (suc n) e = refl
