-- What the borrow checker asks where a call over a place lends the cone's own ranges: that each lies inside its buffer, that its numbers fit,
-- and that the buffers keep their lengths. Assumes nothing.
use Prim.Native.Nat.{ℕ, ◌+◌, ◌-◌, ◌*◌, ◌^◌, ◌≤◌, ◌<◌}
use native.Mathlib.Omega.{arith}
use mathlib.Core.Path.{◌≡◌, sym, ◌∙◌}
use mathlib.Core.List.{List, [], ◌∷◌, ◌++◌, map}
use lib.ListN.{length, take, drop, length-append, length-take, length-drop, length-set}
use lib.Ieee.{Float}
use mir.Syntax.{w64}
use mir.Val.{Fits as Word}
use Rattle.answers.specs.Refusal.{Same, Fit}
use Rattle.conelist.specs.declared.Place.{Place}
use Rattle.conelist.specs.Layout.{dim, least_dim, Ready, Fits}

pub from_start : (at n : ℕ) → at ≤ at + n
from_start at n = omega arith

-- ---- a buffer y of a number per entry, which takes fewer than 2 ^ 63 bytes

module _ (p : Place) (y : List Float) (here : Ready p) (same : length y ≡ p.entries) where
  pub start_fits : length y * 8 < 2 ^ 63 → Word w64 (p.start * 8)
  start_fits room = record { fits = omega arith }

  -- n is what `dim` gave
  module _ (n : ℕ) (long : n ≡ dim p.kind) where
    pub end_fits : length y * 8 < 2 ^ 63 → Word w64 (p.start + n)
    end_fits room = record { fits = omega arith }

    pub to_end : p.start + n ≤ length y
    to_end = omega arith

    -- what is lent has the cone's dimension, from the cone's start on or from anywhere before it
    cut_long : (at : ℕ) → at ≤ p.start → length (take (at + n - at) (drop at y)) ≡ dim p.kind
    cut_long at low = simp (length-take, length-drop) (omega arith)

    -- the range came back as `part`
    pub kept_long : (part : List Float) → length part ≡ length (take (p.start + n - p.start) (drop p.start y))
        → length (take p.start y ++ (part ++ drop (p.start + n - p.start) (drop p.start y))) ≡ length y
    kept_long part e = let l = e ∙ cut_long p.start (omega arith) in simp (length-append, length-take, length-drop) (omega arith)

-- ---- a buffer y of a number per cone

module _ (p : Place) (y : List Float) (here : Ready p) (same : length y ≡ p.count) where
  pub index_within : p.index < length y
  index_within = omega arith

  pub index_fits : length y * 8 < 2 ^ 63 → Word w64 (p.index * 8)
  index_fits room = record { fits = omega arith }

-- ---- several ranges of entries, as a kernel requires them: y is the first

module _ (p : Place) {at : ℕ} (n : ℕ) (here : Ready p) (long : n ≡ dim p.kind) (low : at ≤ p.start) where
  abbrev cut : List Float → List Float
  cut y = take (at + n - at) (drop at y)

  cuts_same : {m : ℕ} → m ≡ dim p.kind → (ys : List (List Float)) → Fits (map (λ y. (length y, p.entries)) ys) → Same m (map (λ y. length (cut y)) ys)
  cuts_same e [] fits = tt
  cuts_same e (y ∷ ys) fits = (cut_long p y here fits.0 n long at low ∙ sym e, cuts_same e ys fits.1)

  pub cuts_fit : (y : List Float) (ys : List (List Float)) → length y ≡ p.entries → Fits (map (λ y. (length y, p.entries)) ys) → Fit (least_dim p.kind) (length (cut y)) (map (λ y. length (cut y)) ys)
  cuts_fit y ys same fits =
      let e = cut_long p y here same n long at low in
      record { enough = rw e here.enough; most = rw e here.most; same = cuts_same e ys fits }

-- what the needs of such a call are searched with
pub ruleset ranges = (from_start, start_fits, end_fits, to_end, kept_long, index_within, index_fits, length-set)
