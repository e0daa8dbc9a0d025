-- Demand 3, second half: a side's step over a list has one value in whatever order the cones are visited, and where the running least is handed
-- on. Assumes nothing.
use Prim.Native.Nat.{ℕ, zero, suc}
use native.Mathlib.Omega.{arith}
use mathlib.Core.Path.{◌≡◌, refl, sym, ap, ◌∙◌}
use mathlib.Core.Bool.{Bool, true, false, not, cond, ◌||◌, false≢true}
use mathlib.Core.List.Perm
use mathlib.Core.List.{List, [], ◌∷◌, map, map-append, Perm}
use lib.ListN.{length}
use lib.Ieee.{Float, nan, inf, fin, is_nan, lt, le, eq, of_bits}
use Rattle.extrema.specs.Extrema.{least_of}
use Rattle.vecmath.specs.Double.{𝟎, ∞}
use Rattle.vecmath.specs.Vector.{each}
use Rattle.answers.specs.declared.StepPair.{StepPair}
use Rattle.std.specs.Prelude.{Ok}
use Rattle.answers.specs.Refusal.{bad_limit}
use Rattle.answers.specs.Outcome.{lengths, gives, call_of, of_steps, tells}
use Rattle.answers.proofs.Laws.{clear_both}
use Rattle.ordering.proofs.Order.{le_is, eq_trans}
use Rattle.ordering.proofs.Least.{All, Trims}
use Rattle.ordering.proofs.Shortens.{UpTo, document_01, Shortens, at_least_zero}
use Rattle.ordering.proofs.Listed.{by_value, any_order, is_number, handed_on, passed_on, limits_admitted, handed_limits_admitted}
use Rattle.soc_step.proofs.Laws as soc
use Rattle.nn_step.proofs.Laws as nonneg
use Rattle.conelist.specs.declared.Kind.{Kind}
use Rattle.conelist.specs.declared.Kind.TheVariants.{Nonnegative, SecondOrder}
use Rattle.conelist.specs.declared.Cone.{Cone}
use Rattle.conelist.specs.Layout.{kind_of_cone, place_of, range_of}
use Rattle.conelist.proofs.Placed.{clear_spot}
use Rattle.conewalk.proofs.Laid.{found}
use Rattle.conecalls.specs.Deed.{comes_at}
use Rattle.list_step.specs.Step.{kind_step, kind_step_by, step_length_deed}
use Rattle.whole_step.specs.List.{step_of_cone, side_step, list_step_length}
use Rattle.orders.specs.Sides.{cone_indices, steps_by, visited_step, handed_step, handed_limits, passed_step, passed_limits, NonnegAt, NonnegEntries}

-- each kind's step is the least of its limit and what it is without one, where no nonnegative entry is below zero; and it always counts as
-- much beside its limit as it does without one
kind_shortens : (kind : Kind) (dz z : List Float) → NonnegAt kind z → Shortens false least_of document_01 (kind_step kind z dz)
unfolding kind_step_by
kind_shortens (Nonnegative n) dz z h = nonneg.shortens false least_of document_01 𝟎 dz z h (λ e. absurd (false≢true e))
kind_shortens (SecondOrder n) dz z h = soc.shortens false least_of document_01 𝟎 z dz (λ e. absurd (false≢true e))

kind_trims : (kind : Kind) (dz z : List Float) → Trims (UpTo false) least_of document_01 ∞ (kind_step kind z dz)
unfolding kind_step_by
kind_trims (Nonnegative n) dz z = nonneg.trims false least_of document_01 dz z
kind_trims (SecondOrder n) dz z = soc.trims false least_of document_01 z dz

all_map : {A B : Type 0} (P : B → Type 0) (f : A → B) → ((a : A) → P (f a)) → (l : List A) → All P (map f l)
all_map P f h [] = tt
all_map P f h (a ∷ l) = (h a, all_map P f h l)

-- the cones in their list's order
in_order : {A : Type 0} (f : ℕ → A) (n : ℕ) → map f (each n (λ k. k)) ≡ each n f
unfolding each
in_order f zero = refl
in_order f (suc n) = simp map-append (rw (in_order f n))

-- a limit that is zero or more is a number, and is not refused
a_number : (l : Float) → le 𝟎 l ≡ true → is_nan l ≡ false
unfolding le lt eq is_nan of_bits
a_number nan e = absurd (false≢true e)
a_number (inf s) e = refl
a_number (fin s m k) e = refl

zero_number : is_nan 𝟎 ≡ false
unfolding is_nan of_bits
zero_number = refl

pub good_limit : (l : Float) → le 𝟎 l ≡ true → bad_limit l ≡ 0
unfolding bad_limit
good_limit l e = rw (a_number l e, at_least_zero l e)

-- and such a limit is zero or more
pub from_zero : (l : Float) → bad_limit l ≡ 0 → le 𝟎 l ≡ true
unfolding bad_limit
from_zero l e = go (is_nan l) (lt l 𝟎) refl refl e
  where
    go : (p q : Bool) → is_nan l ≡ p → lt l 𝟎 ≡ q → ◌≡◌ {A = ℕ} (cond (p || q) 6 0) 0 → le 𝟎 l ≡ true
    go true q u v e = absurd (omega arith)
    go false true u v e = absurd (omega arith)
    go false false u v e = le_is 𝟎 l zero_number u ∙ ap not v

good_limits : (ls : List Float) → All (λ l. le 𝟎 l ≡ true) ls → All (λ l. bad_limit l ≡ 0) ls
good_limits [] h = tt
good_limits (l ∷ ls) h = (good_limit l h.0, good_limits ls h.1)

-- ---- the theorems, of `side_step least_of list z dz αmax`, by which the list step answers for each side (whole_step, `list_step_length`): for any list,
-- any point and direction, a limit that is zero or more (−0 and infinity too), and any order ks in which the cones are visited

module _ (list : List Cone) (dz z : List Float) (αmax : Float) (zero_or_more : le 𝟎 αmax ≡ true) where
  number : is_nan αmax ≡ false
  number = a_number αmax zero_or_more

  admitted : lt αmax 𝟎 ≡ false
  admitted = at_least_zero αmax zero_or_more

  -- a least of numbers
  of_least : (ks : List ℕ) → is_nan (visited_step list z dz ks αmax) ≡ false
  of_least ks = is_number false least_of document_01 αmax refl number (map (λ step. step αmax) (steps_by list z dz ks))

  -- a side's step over the list has one value by comparison
  pub one_value : (ks : List ℕ) → Perm ks (cone_indices list) → eq (visited_step list z dz ks αmax) (side_step least_of list z dz αmax) ≡ true
  one_value ks p =
      rw (← (in_order (step_of_cone least_of list z dz) (length list)))
      (by_value _ _ (of_least (cone_indices list)) (any_order false least_of document_01 αmax {steps = steps_by list z dz ks} {steps' = steps_by list z dz (cone_indices list)} (Perm.map (step_of_cone least_of list z dz) p)))

  -- handing the running least on as the next limit gives that value, for any point
  pub handed : (ks : List ℕ) → Perm ks (cone_indices list) → eq (handed_step list z dz ks αmax) (side_step least_of list z dz αmax) ≡ true
  handed ks p =
      let trim = all_map (Trims (UpTo false) least_of document_01 ∞) (step_of_cone least_of list z dz) (λ k. kind_trims (kind_of_cone list k) _ _) ks in
      eq_trans _ (visited_step list z dz ks αmax) _ (handed_on false least_of document_01 αmax number (steps_by list z dz ks) (of_least ks) trim) (one_value ks p)

  -- if no nonnegative-cone entry of the point is below zero, so does handing each answer on by itself; and no limit is then refused
  module _ (h : NonnegEntries list z) where
    shorten : (ks : List ℕ) → All (Shortens false least_of document_01) (steps_by list z dz ks)
    shorten ks = all_map (Shortens false least_of document_01) (step_of_cone least_of list z dz) (λ k. kind_shortens (kind_of_cone list k) _ _ (h k)) ks

    pub passed : (ks : List ℕ) → Perm ks (cone_indices list) → eq (passed_step list z dz ks αmax) (side_step least_of list z dz αmax) ≡ true
    passed ks p = eq_trans _ (visited_step list z dz ks αmax) _ (passed_on false least_of document_01 αmax number admitted (steps_by list z dz ks) (shorten ks)) (one_value ks p)

    pub limits : (ks : List ℕ) → All (λ l. bad_limit l ≡ 0) (passed_limits list z dz ks αmax)
    limits ks = good_limits (passed_limits list z dz ks αmax) (limits_admitted false least_of document_01 αmax number admitted (steps_by list z dz ks) (shorten ks))

    -- nor is one where the running least is handed on
    pub handed_limits_lem : (ks : List ℕ) → All (λ l. bad_limit l ≡ 0) (handed_limits list z dz ks αmax)
    handed_limits_lem ks = good_limits (handed_limits list z dz ks αmax) (handed_limits_admitted false least_of document_01 αmax number admitted (steps_by list z dz ks) (shorten ks))

-- ---- so of the list step's contract: where it answers, each side's answer is that value

pair_is : {B : Type 0} (n : ℕ) (a b c d : Float) (old new : B) → gives (lengths a b) ≡ (call_of n (lengths c d) old new).ruling → (n ≡ 0) × (c ≡ a) × (d ≡ b)
unfolding call_of
pair_is zero a b c d old new e = (refl, cc, cc)
pair_is (suc n) a b c d old new e = let z : ◌≡◌ {A = ℕ} 0 1 = cc in absurd (omega arith)

pub list_step : (list : List Cone) (dz ds z s : List Float) (αmax : Float) (p : StepPair) → tells (of_steps (Ok p)) tt ≡ list_step_length list dz ds z s αmax
    → (ks : List ℕ) → Perm ks (cone_indices list) → (eq (visited_step list z dz ks αmax) p.z ≡ true) × (eq (visited_step list s ds ks αmax) p.s ≡ true)
list_step list dz ds z s αmax p e ks perm =
    let t = pair_is _ p.z p.s _ _ _ _ (ap (λ o. o.ruling) e) in
    let limit = from_zero αmax (clear_both _ _ t.0).1 in
    (rw (← t.1) (one_value list dz z αmax limit ks perm), rw (← t.2) (one_value list ds s αmax limit ks perm))

-- ---- and of the contract of one cone's step: where it answers, its pair is the cone's own step of each side, so that handing on can be done by calls

pub cone_step : (list : List Cone) (k : ℕ) (dz ds z s : List Float) (αmax : Float) (p : StepPair) → tells (of_steps (Ok p)) tt ≡ comes_at (place_of list k) (step_length_deed αmax) dz ds z s
    → (p.z ≡ step_of_cone least_of list z dz k αmax) × (p.s ≡ step_of_cone least_of list s ds k αmax)
cone_step list k dz ds z s αmax p e =
    let t = pair_is _ p.z p.s _ _ _ _ (ap (λ o. o.ruling) e) in
    let row = found list k (clear_spot _ (clear_both _ _ (clear_both _ _ t.0).0).0).0 in
    (sym t.1 ∙ ap (λ q. kind_step q.kind (range_of q z) (range_of q dz) αmax) row, sym t.2 ∙ ap (λ q. kind_step q.kind (range_of q s) (range_of q ds) αmax) row)
