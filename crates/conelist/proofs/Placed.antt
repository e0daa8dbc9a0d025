-- What a call over a place has where it is not refused. Assumes nothing.
use Prim.Native.Nat.{ℕ, ◌+◌, ◌-◌, ◌≤◌, ◌<◌}
use native.Mathlib.Omega.{arith}
use native.Mathlib.Nat.{add-sub_cancel_left}
use mathlib.Core.Path.{◌≡◌, refl, sym, ap}
use mathlib.Core.Bool.{Bool, true, false, cond, ◌&&◌}
use mathlib.Core.List.{List, [], ◌∷◌, ◌++◌}
use borrow.Author.Tests.{ltb-true, leb-true, leb-false, le-leb, lt-leb, eqb-true, eq-eqb}
use lib.Dec.{ltb, leb, eqb}
use lib.ListN.{take, drop}
use lib.Ieee.{Float}
use Rattle.answers.specs.Refusal.{unlike}
use Rattle.answers.proofs.Laws.{both, clear_both, clear_lengths}
use Rattle.conelist.specs.declared.Kind.{Kind}
use Rattle.conelist.specs.declared.Kind.TheVariants.{SecondOrder}
use Rattle.conelist.specs.declared.Place.{Place}
use Rattle.conelist.specs.Layout.{dim, least_dim, block_dim, carried, counted_of, misplaced, spot_of, fit_and, fit_all, refusal_at, Ready, Fits, Open, part_of, with_part}

-- ---- the tests of `within`

pub past : (at n all : ℕ) → all < n → false ≡ leb (at + n) all
past at n all h = sym (lt-leb (at + n) all (omega arith))

pub moved : (at n all : ℕ) → n ≤ all → leb at (all - n) ≡ leb (at + n) all
moved at n all h = go (leb at (all - n)) refl
  where
    go : (t : Bool) → leb at (all - n) ≡ t → t ≡ leb (at + n) all
    go true e = let l = leb-true at (all - n) e in sym (le-leb (at + n) all (omega arith))
    go false e = let l = leb-false at (all - n) e in sym (lt-leb (at + n) all (omega arith))

-- ---- the test of `check_inside`: n, least, m, s, t and q are what it computed
module _ (p : Place) (n least m : ℕ) (s t q : Bool) (e : n ≡ dim p.kind) (f : least ≡ least_dim p.kind) (d : m ≡ block_dim p.kind) (u : s ≡ leb (p.start + n) p.entries)
    (v : t ≡ leb (p.block + m) p.blocks) (w : q ≡ counted_of p) where
  pub fine : leb least n && leb n 4096 && s && ltb p.index p.count && t && q ≡ true → 0 ≡ misplaced p
  unfolding misplaced
  fine h = rw (← d, ← f, ← e, ← u, ← v, ← w, h)

  pub bad : leb least n && leb n 4096 && s && ltb p.index p.count && t && q ≡ false → 4 ≡ misplaced p
  unfolding misplaced
  bad h = rw (← d, ← f, ← e, ← u, ← v, ← w, h)

pub ruleset spots = (fine, bad)

-- ---- no refusal: the cone's ranges lie inside

clear : (t : Bool) → ◌≡◌ {A = ℕ} (cond t 0 4) 0 → t ≡ true
clear true e = refl
clear false e = absurd (omega arith)

pub clear_misplaced : (p : Place) → misplaced p ≡ 0 → Ready p
unfolding misplaced
clear_misplaced p e =
    let r = both _ _ (both _ _ (clear _ e)).0 in
    let s = both _ _ r.0 in
    let t = both _ _ s.0 in
    let u = both _ _ t.0 in
    record {
      enough = leb-true _ _ u.0;
      most = leb-true _ _ u.1;
      inside = leb-true _ _ t.1;
      named = ltb-true _ _ s.1;
      block_inside = leb-true _ _ r.1;
    }

-- it carries no refusal, and lies inside
pub clear_carried : (p : Place) → carried p ≡ 0 → p.no ≡ 0
unfolding carried
clear_carried p e = go (leb p.no 4) e
  where
    go : (t : Bool) → ◌≡◌ {A = ℕ} (cond t p.no 4) 0 → p.no ≡ 0
    go true e = e
    go false e = absurd (omega arith)

pub clear_spot : (p : Place) → spot_of p ≡ 0 → (p.no ≡ 0) × Ready p
clear_spot p e = let r = clear_both _ _ e in (clear_carried p r.0, clear_misplaced p r.1)

fit_and_lem : (t : Bool) (ms : List (ℕ × ℕ)) → fit_and t ms ≡ true → (t ≡ true) × Fits ms
fit_and_lem t [] e = (e, tt)
fit_and_lem t (m ∷ ms) e =
    let r = fit_and_lem (t && eqb m.0 m.1) ms e in
    let b = both t (eqb m.0 m.1) r.0 in
    (b.0, (eqb-true m.0 m.1 b.1, r.1))

pub all_fit : (ms : List (ℕ × ℕ)) → fit_all ms ≡ true → Fits ms
all_fit [] e = tt
all_fit (m ∷ ms) e = let r = fit_and_lem (eqb m.0 m.1) ms e in (eqb-true m.0 m.1 r.0, r.1)

-- and back: where each slice has its length, or there is none, nothing is refused for it
fits_and : (ms : List (ℕ × ℕ)) → Fits ms → fit_and true ms ≡ true
fits_and [] h = refl
fits_and (m ∷ ms) h = rw (eq-eqb m.0 m.1 h.0) (fits_and ms h.1)

pub fits_all : (ms : List (ℕ × ℕ)) → Fits ms → fit_all ms ≡ true
fits_all [] h = refl
fits_all (m ∷ ms) h = rw (eq-eqb m.0 m.1 h.0) (fits_and ms h.1)

pub open_of : (p : Place) (ms : List (ℕ × ℕ)) → 0 ≡ spot_of p → 0 ≡ unlike (fit_all ms) → Open p ms
open_of p ms e f = record { here = (clear_spot p (sym e)).1; same = all_fit ms (clear_lengths _ (sym f)) }

pub open_at : (p : Place) (ms : List (ℕ × ℕ)) → 0 ≡ refusal_at p ms → Open p ms
open_at p ms e = let r = clear_both _ _ (sym e) in open_of p ms (sym r.0) (sym r.1)

-- ---- a range that is lent, and given back: n is what `dim` gave for m

pub lent : {n m : ℕ} → n ≡ m → (at : ℕ) (z : List Float) → take (at + n - at) (drop at z) ≡ part_of at m z
unfolding part_of
lent e at z = rw (add-sub_cancel_left, e)

pub back : {A : Type 0} {n m : ℕ} → n ≡ m → (at : ℕ) (z : List A) {part new : List A} → part ≡ new → take at z ++ (part ++ drop (at + n - at) (drop at z)) ≡ with_part at m z new
unfolding with_part
back e at z f = rw (add-sub_cancel_left, e, f)

-- ---- what a second-order kernel asks: the rest is in hand
pub two_least : (kind : Kind) (n : ℕ) → kind ≡ SecondOrder n → least_dim kind ≡ 2
two_least kind n e = ap least_dim e
