-- How a walk over a row of records goes, in either form: a turn, and the end. Assumes nothing.
use Prim.Native.Nat.{ℕ, zero, suc, ◌+◌, ◌≤◌, ◌<◌}
use native.Mathlib.Omega.{arith}
use mathlib.Core.Path.{◌≡◌, refl, sym, ap, ◌∙◌}
use mathlib.Core.List.{List, [], ◌∷◌, map}
use lib.ListN.{length, get_or}
use Rattle.conelist.specs.declared.Cone.{Cone}
use Rattle.walks.specs.Records.{no_cone}
use Rattle.walks.proofs.Law.{rest, turned, ended}

-- a row of any records, each of which tells a cone: cs is the list that it is, as the law of `Record` has it

module _ {R : Type 0} (cone : R → Cone) where
  length_row : (row : List R) → length (map cone row) ≡ length row
  length_row [] = refl
  length_row (r ∷ row) = ap suc (length_row row)

  record_at : (row : List R) (i : ℕ) (r : R) → i < length row → get_or (map cone row) i no_cone ≡ cone (get_or row i r)
  record_at [] i r l = absurd (omega arith)
  record_at (s ∷ row) zero r l = refl
  record_at (s ∷ row) (suc i) r l = record_at row i r (omega arith)

module _ {R : Type 0} (cone : R → Cone) (row : List R) (cs : List Cone) (each : cs ≡ map cone row) where
  pub as_many : length cs ≡ length row
  as_many = ap length each ∙ length_row cone row

  -- what stands in the list at i is the cone that record i tells
  pub record_is : (i : ℕ) (r : R) → i < length row → r ≡ get_or row i r → get_or cs i no_cone ≡ cone r
  record_is i r l e = ap (λ (ds : List Cone). get_or ds i no_cone) each ∙ record_at cone row i r l ∙ ap cone (sym e)

  -- and it does stand there
  pub cone_at : {i : ℕ} {r : R} → i < length row → r ≡ get_or row i r → (i < length cs) × (cone r ≡ get_or cs i no_cone)
  cone_at {i} {r} l e = (omega (arith, as_many), sym (record_is i r l e))

  module _ {Z : Type 0} (f : Z → Cone → Z) (i : ℕ) (z : Z) where
    -- one record more, r
    pub record_turned : (r : R) → i < length row → r ≡ get_or row i r → rest f cs i z ≡ rest f cs (i + 1) (f z (cone r))
    record_turned r l e = turned f cs i z (omega (arith, as_many)) ∙ ap (λ (c : Cone). rest f cs (i + 1) (f z c)) (record_is i r l e)

    pub records_ended : length row ≤ i → rest f cs i z ≡ z
    records_ended l = ended f cs i z (omega (arith, as_many))
