-- The cones of a list lie one behind another; and where the list is not refused, each starts where its record says. Assumes nothing.
use Prim.Native.Nat.{ℕ, zero, suc, ◌+◌, ◌*◌, ◌≤◌, ◌<◌, zero-le}
use native.Mathlib.Omega.{arith}
use native.Mathlib.Nat.{eq-or-lt_of_le, le_refl}
use mathlib.Core.Logic.{◌⊎◌, inl, inr}
use mathlib.Core.Path.{◌≡◌, refl, ◌∙◌}
use mathlib.Core.Bool.{Bool, true, false, cond, ◌||◌}
use mathlib.Core.List.{List, [], ◌∷◌}
use borrow.Author.Tests.{ltb-true, ltb-false, lt-ltb, le-leb}
use lib.Dec.{ltb, eqb}
use lib.ListN.{length, get_or}
use Rattle.answers.specs.Refusal.{◌⊳◌, bad_dimension}
use Rattle.answers.proofs.Laws.{clear_both}
use Rattle.conelist.specs.declared.Kind.{Kind}
use Rattle.conelist.specs.declared.Cone.{Cone}
use Rattle.conelist.specs.Layout.{dim, least_dim, block_dim, kind_of_cone, sum_before, bad_record, bad_records, bad_place, laid_at, found_of, place_of, carried, counted_of, misplaced, spot_of}
use Rattle.conelist.proofs.Blocks.{block_most}
use Rattle.place_turns.proofs.Records.{good}
use Rattle.conewalk.proofs.Walked.{before_cons}

-- ---- a range ends where the next begins, so none is past the end of all

pub behind : (size : Kind → ℕ) (cs : List Cone) (i j : ℕ) → i < j → sum_before size cs i + size (kind_of_cone cs i) ≤ sum_before size cs j
behind size cs i zero h = absurd (omega arith)
behind size cs i (suc j) h = let l : i ≤ j = omega arith in go (eq-or-lt_of_le l) (behind size cs i j)
  where
    go : (i ≡ j) ⊎ (i < j) → (i < j → sum_before size cs i + size (kind_of_cone cs i) ≤ sum_before size cs j) → sum_before size cs i + size (kind_of_cone cs i) ≤ sum_before size cs (suc j)
    go (inl e) again = rw e (le_refl _)
    go (inr l) again = omega (arith, again l)

-- ---- no refusal: cone k is in the list, its dimension is in range, and its record's start is its own

present : (k n : ℕ) → ◌≡◌ {A = ℕ} (cond (ltb k n) 0 4) 0 → k < n
present k n e = go (ltb k n) refl e
  where
    go : (t : Bool) → ltb k n ≡ t → ◌≡◌ {A = ℕ} (cond t 0 4) 0 → k < n
    go true h e = ltb-true k n h
    go false h e = absurd (omega arith)

pub record Listed (cs : List Cone) (k : ℕ) : Type 0 where
  pub listed : k < length cs
  pub enough : least_dim (kind_of_cone cs k) ≤ dim (kind_of_cone cs k)
  pub most : dim (kind_of_cone cs k) ≤ 4096

in_range : (cs : List Cone) (total k : ℕ) → bad_records total cs ≡ 0 → (least_dim (kind_of_cone cs k) ≤ dim (kind_of_cone cs k)) × (dim (kind_of_cone cs k) ≤ 4096)
in_range [] total k e = (zero-le, zero-le)
in_range (c ∷ cs) total zero e = let g = good total c (clear_both _ _ e).0 in (g.enough, g.most)
in_range (c ∷ cs) total (suc k) e = in_range cs (total + dim c.kind) k (clear_both _ _ e).1

pub listed : (cs : List Cone) (k : ℕ) → bad_place cs k ≡ 0 → Listed cs k
listed cs k e =
    let r = clear_both _ _ (clear_both _ _ e).1 in
    let d = in_range cs 0 k r.0 in
    record { listed = present k (length cs) r.1; enough = d.0; most = d.1 }

tiles_from : (cs : List Cone) (total k : ℕ) (d : Cone) → bad_records total cs ≡ 0 → k < length cs → (get_or cs k d).start ≡ total + sum_before dim cs k
tiles_from [] total k d e h = absurd (omega arith)
tiles_from (c ∷ cs) total zero d e h = omega (arith, (good total c (clear_both _ _ e).0).tiles)
tiles_from (c ∷ cs) total (suc k) d e h = tiles_from cs (total + dim c.kind) k d (clear_both _ _ e).1 (omega arith) ∙ omega (arith, before_cons dim c cs k)

pub tiles : (cs : List Cone) (k : ℕ) (d : Cone) → bad_place cs k ≡ 0 → (get_or cs k d).start ≡ sum_before dim cs k
tiles cs k d e = tiles_from cs 0 k d (clear_both _ _ (clear_both _ _ e).1).0 (listed cs k e).listed ∙ omega arith

-- ---- the place that a list gives

pub found : (cs : List Cone) (k : ℕ) → (place_of cs k).no ≡ 0 → place_of cs k ≡ laid_at cs k
unfolding place_of
found cs k e = go (bad_place cs k) e
  where
    go : (n : ℕ) → (found_of n (laid_at cs k)).no ≡ 0 → found_of n (laid_at cs k) ≡ laid_at cs k
    go zero e = refl
    go (suc n) e = absurd (omega arith)

-- ---- what every list has: a refusal's number up to 4, and counts in range

first_most : (a b : ℕ) → a ≤ 4 → b ≤ 4 → (a ⊳ b) ≤ 4
unfolding ◌⊳◌
first_most zero b f g = g
first_most (suc a) b f g = f

cond_most : (t : Bool) (a b : ℕ) → a ≤ 4 → b ≤ 4 → cond t a b ≤ 4
cond_most true a b f g = f
cond_most false a b f g = g

record_most : (total : ℕ) (c : Cone) → bad_record total c ≤ 4
unfolding bad_record bad_dimension
record_most total c =
    first_most _ _ (cond_most (ltb (dim c.kind) (least_dim c.kind) || ltb 4096 (dim c.kind)) 1 0 (omega arith) (omega arith))
    (first_most _ _ (cond_most (eqb c.start total) 0 3 (omega arith) (omega arith)) (cond_most (ltb 65536 (total + dim c.kind)) 2 0 (omega arith) (omega arith)))

records_most : (total : ℕ) (cs : List Cone) → bad_records total cs ≤ 4
records_most total [] = zero-le
records_most total (c ∷ cs) = first_most _ _ (record_most total c) (records_most (total + dim c.kind) cs)

place_most : (cs : List Cone) (k : ℕ) → bad_place cs k ≤ 4
place_most cs k =
    first_most _ _ (cond_most (ltb 256 (length cs)) 2 0 (omega arith) (omega arith))
    (first_most _ _ (records_most 0 cs) (cond_most (ltb k (length cs)) 0 4 (omega arith) (omega arith)))

few_cones : (n : ℕ) → ◌≡◌ {A = ℕ} (cond (ltb 256 n) 2 0) 0 → n ≤ 256
few_cones n e = go (ltb 256 n) refl e
  where
    go : (t : Bool) → ltb 256 n ≡ t → ◌≡◌ {A = ℕ} (cond t 2 0) 0 → n ≤ 256
    go true h e = absurd (omega arith)
    go false h e = ltb-false 256 n h

few_entries : (cs : List Cone) (total : ℕ) → total ≤ 65536 → bad_records total cs ≡ 0 → total + sum_before dim cs (length cs) ≤ 65536
few_entries [] total h e = omega arith
few_entries (c ∷ cs) total h e =
    let g = good total c (clear_both _ _ e).0 in
    omega (arith, few_entries cs (total + dim c.kind) g.few (clear_both _ _ e).1, before_cons dim c cs (length cs))

few_blocks : (cs : List Cone) (k : ℕ) → sum_before block_dim cs k ≤ 3 * sum_before dim cs k
few_blocks cs zero = omega arith
few_blocks cs (suc k) = omega (arith, few_blocks cs k, block_most (kind_of_cone cs k))

counted : (cs : List Cone) (k : ℕ) → bad_place cs k ≡ 0 → counted_of (laid_at cs k) ≡ true
counted cs k e =
    let r = clear_both _ _ e in
    let entries = few_entries cs 0 (omega arith) (clear_both _ _ r.1).0 in
    rw (
      le-leb (length cs) 256 (few_cones (length cs) r.0),
      le-leb (sum_before dim cs (length cs)) 65536 (omega arith),
      le-leb (sum_before block_dim cs (length cs)) 196608 (omega (arith, few_blocks cs (length cs))),
    )

-- it is refused as document 01 has it, and not for itself
pub spot : (cs : List Cone) (k : ℕ) → spot_of (place_of cs k) ≡ bad_place cs k
unfolding place_of ◌⊳◌ carried misplaced
spot cs k = go (bad_place cs k) refl
  where
    go : (n : ℕ) → bad_place cs k ≡ n → spot_of (found_of n (laid_at cs k)) ≡ n
    go zero e =
        let r = listed cs k e in
        rw (
          e,
          le-leb (least_dim (kind_of_cone cs k)) (dim (kind_of_cone cs k)) r.enough,
          le-leb (dim (kind_of_cone cs k)) 4096 r.most,
          le-leb (sum_before dim cs k + dim (kind_of_cone cs k)) (sum_before dim cs (length cs)) (behind dim cs k (length cs) r.listed),
          lt-ltb k (length cs) r.listed,
          le-leb (sum_before block_dim cs k + block_dim (kind_of_cone cs k)) (sum_before block_dim cs (length cs)) (behind block_dim cs k (length cs) r.listed),
          counted cs k e,
        )
    go (suc n) e = let few : suc n ≤ 4 = rw (← e) (place_most cs k) in rw (le-leb (suc n) 4 few)
