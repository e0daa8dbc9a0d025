-- The walk comes to document 01's place: record by record it meets the refusals in their rank, or the cone. Assumes nothing.
use Prim.Native.Nat.{ℕ, zero, suc, ◌+◌, ◌*◌, ◌≤◌, ◌<◌, ◌^◌}
use native.Mathlib.Omega.{arith}
use native.Mathlib.Nat.{add-zero, zero-add}
use mathlib.Core.Path.{◌≡◌, refl, ap, ◌∙◌}
use mathlib.Core.Bool.{Bool, true, false, cond}
use mathlib.Core.List.{List, [], ◌∷◌}
use borrow.Author.Tests.{ltb-true, ltb-false, eq-eqb, ne_eqb}
use lib.Dec.{ltb, eqb}
use lib.ListN.{length}
use Rattle.answers.specs.Refusal.{◌⊳◌}
use Rattle.answers.proofs.Laws.{clear_both}
use Rattle.conelist.specs.declared.Kind.{Kind}
use Rattle.conelist.specs.declared.Kind.TheVariants.{Nonnegative}
use Rattle.conelist.specs.declared.Cone.{Cone}
use Rattle.conelist.specs.declared.Place.{Place}
use Rattle.conelist.specs.Layout.{dim, block_dim, kind_of_cone, sum_before, bad_record, bad_records, alone, found_of, place_of}
use Rattle.walks.specs.Records.{over_records}
use Rattle.place_turns.specs.Walk.{place_opening, place_seen, place_further, place_closing, Going}
use Rattle.conelist.proofs.Blocks.{block_most}
use Rattle.place_turns.proofs.Records.{good}

-- ---- its sums stay small: behind i records

pub record Along (i : ℕ) (p : Place) : Type 0 where
  pub counted : p.count ≤ i
  pub held : p.blocks ≤ 3 * p.entries
  pub few : p.entries ≤ 65536

pub along_start : (cones k : ℕ) → Along 0 (place_opening cones k)
unfolding place_opening
along_start cones k = go (ltb 256 cones)
  where
    go : (t : Bool) → Along 0 (found_of (cond t 2 0) (record { no = 0; index = k; start = 0; kind = Nonnegative 0; block = 0; entries = 0; count = 0; blocks = 0 }))
    go true = record { counted = omega arith; held = omega arith; few = omega arith }
    go false = record { counted = omega arith; held = omega arith; few = omega arith }

pub along_step : (i : ℕ) (p : Place) (c : Cone) → Along i p → Along (i + 1) (place_further p c)
unfolding place_further
along_step i p c a = go (eqb p.no 0) (bad_record p.entries c) refl
  where
    go : (t : Bool) (n : ℕ) → bad_record p.entries c ≡ n → Along (i + 1) (cond t (found_of n (place_seen p c)) p)
    go true zero e = let g = good p.entries c e in record { counted = omega arith; held = omega (arith, block_most c.kind); few = omega arith }
    go true (suc n) e = record { counted = omega arith; held = omega arith; few = omega arith }
    go false n e = record { counted = omega arith; held = omega arith; few = omega arith }

-- ---- what the fold comes to

-- a place that is not refused
abbrev so_far : (index start : ℕ) (kind : Kind) (block entries count blocks : ℕ) → Place
so_far index start kind block entries count blocks = record { no = 0; index = index; start = start; kind = kind; block = block; entries = entries; count = count; blocks = blocks }

stays : (cs : List Cone) (n : ℕ) → over_records place_further cs (alone (suc n)) ≡ alone (suc n)
unfolding place_further
stays [] n = refl
stays (c ∷ cs) n = rw (ne_eqb (suc n) 0 (λ e. omega arith)) (stays cs n)

pub before_cons : (size : Kind → ℕ) (c : Cone) (cs : List Cone) (k : ℕ) → sum_before size (c ∷ cs) (suc k) ≡ size c.kind + sum_before size cs k
before_cons size c cs zero = omega arith
before_cons size c cs (suc k) = omega (arith, before_cons size c cs k)

module _ (index : ℕ) where
  wrong : (cs : List Cone) (start : ℕ) (kind : Kind) (block entries count blocks n : ℕ) → bad_records entries cs ≡ suc n → over_records place_further cs (so_far index start kind block entries count blocks) ≡ alone (suc n)
  unfolding place_further ◌⊳◌
  wrong [] start kind block entries count blocks n e = absurd (omega arith)
  wrong (c ∷ cs) start kind block entries count blocks n e = go (bad_record entries c) (λ f. wrong cs _ _ _ _ _ _ n f) e
    where
      go : (m : ℕ) → (bad_records (entries + dim c.kind) cs ≡ suc n → over_records place_further cs (place_seen (so_far index start kind block entries count blocks) c) ≡ alone (suc n))
          → m ⊳ bad_records (entries + dim c.kind) cs ≡ suc n → over_records place_further cs (found_of m (place_seen (so_far index start kind block entries count blocks) c)) ≡ alone (suc n)
      go zero again e = again e
      go (suc m) again e = stays cs m ∙ ap alone e

  -- the records are good, and the list has E entries, C cones and B block numbers in all
  module _ (E C B : ℕ) where
    -- the cone is not among them: it was met before, or is not in the list
    unmet : (cs : List Cone) (start : ℕ) (kind : Kind) (block entries count blocks : ℕ) → bad_records entries cs ≡ 0
        → entries + sum_before dim cs (length cs) ≡ E → count + length cs ≡ C → blocks + sum_before block_dim cs (length cs) ≡ B
        → ((j : ℕ) → j < length cs → count + j ≡ index → ⊥) → over_records place_further cs (so_far index start kind block entries count blocks) ≡ so_far index start kind block E C B
    unfolding place_further
    unmet [] start kind block entries count blocks e x y z h =
        let x' : entries ≡ E = omega arith in
        let y' : count ≡ C = omega arith in
        let z' : blocks ≡ B = omega arith in
        rw (x', y', z')
    unmet (c ∷ cs) start kind block entries count blocks e x y z h =
        let r = clear_both _ _ e in
        rw (r.0, ne_eqb count index (λ f. h 0 (omega arith) (omega arith)))
        (unmet cs start kind block (entries + dim c.kind) (count + 1) (blocks + block_dim c.kind) r.1
        (omega (arith, before_cons dim c cs (length cs))) (omega arith) (omega (arith, before_cons block_dim c cs (length cs)))
        (λ j l f. h (suc j) (omega arith) (omega arith)))

    -- the cone is j records ahead
    met : (cs : List Cone) (start : ℕ) (kind : Kind) (block entries count blocks j : ℕ) → bad_records entries cs ≡ 0
        → entries + sum_before dim cs (length cs) ≡ E → count + length cs ≡ C → blocks + sum_before block_dim cs (length cs) ≡ B
        → j < length cs → count + j ≡ index → over_records place_further cs (so_far index start kind block entries count blocks) ≡ so_far index (entries + sum_before dim cs j) (kind_of_cone cs j) (blocks + sum_before block_dim cs j) E C B
    unfolding place_further
    met [] start kind block entries count blocks j e x y z h f = absurd (omega arith)
    met (c ∷ cs) start kind block entries count blocks zero e x y z h f =
        let r = clear_both _ _ e in
        rw (r.0, eq-eqb count index (omega arith), add-zero entries, add-zero blocks)
        (unmet cs entries c.kind blocks (entries + dim c.kind) (count + 1) (blocks + block_dim c.kind) r.1
        (omega (arith, before_cons dim c cs (length cs))) (omega arith) (omega (arith, before_cons block_dim c cs (length cs)))
        (λ j l g. omega arith))
    met (c ∷ cs) start kind block entries count blocks (suc j) e x y z h f =
        let r = clear_both _ _ e in
        let u : entries + sum_before dim (c ∷ cs) (suc j) ≡ entries + dim c.kind + sum_before dim cs j = omega (arith, before_cons dim c cs j) in
        let v : blocks + sum_before block_dim (c ∷ cs) (suc j) ≡ blocks + block_dim c.kind + sum_before block_dim cs j = omega (arith, before_cons block_dim c cs j) in
        rw (r.0, ne_eqb count index (λ g. omega arith), u, v)
        (met cs start kind block (entries + dim c.kind) (count + 1) (blocks + block_dim c.kind) j r.1
        (omega (arith, before_cons dim c cs (length cs))) (omega arith) (omega (arith, before_cons block_dim c cs (length cs)))
        (omega arith) (omega arith))

pub walked : (cs : List Cone) (k : ℕ) → place_closing (over_records place_further cs (place_opening (length cs) k)) ≡ place_of cs k
unfolding place_closing place_opening place_of ◌⊳◌
walked cs k = go (ltb 256 (length cs)) (bad_records 0 cs) (ltb k (length cs)) refl refl
  where
    E : ℕ
    E = sum_before dim cs (length cs)

    C : ℕ
    C = length cs

    B : ℕ
    B = sum_before block_dim cs (length cs)

    go : (s : Bool) (n : ℕ) (t : Bool) → bad_records 0 cs ≡ n → ltb k C ≡ t → let no = cond s 2 0 ⊳ n ⊳ cond t 0 4 in
        place_closing (over_records place_further cs (found_of (cond s 2 0) (so_far k 0 (Nonnegative 0) 0 0 0 0)))
        ≡ found_of no (record { no = no; index = k; start = sum_before dim cs k; kind = kind_of_cone cs k; block = sum_before block_dim cs k; entries = E; count = C; blocks = B })
    go true n t f g = rw (stays cs 1)
    go false (suc n) t f g = rw (wrong k cs 0 (Nonnegative 0) 0 0 0 0 n f, ne_eqb (suc n) 0 (λ h. omega arith))
    go false zero true f g =
        let l = ltb-true k C g in
        rw (met k E C B cs 0 (Nonnegative 0) 0 0 0 0 k f (omega arith) (omega arith) (omega arith) l (omega arith), g, zero-add (sum_before dim cs k), zero-add (sum_before block_dim cs k))
    go false zero false f g =
        let l = ltb-false k C g in
        rw (unmet k E C B cs 0 (Nonnegative 0) 0 0 0 0 f (omega arith) (omega arith) (omega arith) (λ j i h. omega arith), g)

-- ---- a turn may be made

pub going : (cs : List Cone) (i : ℕ) (p : Place) → length cs < 2 ^ 64 → i < length cs → Along i p → Going p
going cs i p few l h = record { counted = omega (arith, h.counted); held = h.held; few = h.few }
