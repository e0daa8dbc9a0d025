-- When a number is up to another, NaN included, and the least of several, for any operation called least. Assumes nothing.
use Rattle.std.specs.Prelude.{◌≡◌, Bool, true, false, not, cond, List, [], ◌∷◌, map, Float}
use Rattle.std.specs.Float.Ieee.{is_nan, lt}

-- x is up to y: both are numbers and x is not above y; or a NaN is among them, which counts as below all numbers, where `low` says so,
-- as for a least that hands it on, and else as above them, as for document 01's least, which passes it over
unfoldable pub upto : Bool → Float → Float → Bool
upto low x y = cond (is_nan x) (cond (is_nan y) true low) (cond (is_nan y) (not low) (not (lt y x)))

-- one value: both are NaN, or neither is, and then neither is below the other (zeros compare by value)
abbrev pub SameValue : Float → Float → Type 0
SameValue x y = (is_nan x ≡ is_nan y) × (lt x y ≡ false) × (lt y x ≡ false)

module _ {A : Type 0} (◌⊓◌ : A → A → A) where
  infixl 70 ◌⊓◌
  -- the least of a limit and several answers
  abbrev pub over : A → List A → A
  over limit [] = limit
  over limit (x ∷ xs) = over (limit ⊓ x) xs

  -- the same with the running least handed on: each step is called with it as its limit
  abbrev pub handed_of : A → List (A → A) → A
  handed_of running [] = running
  handed_of running (step ∷ steps) = handed_of (running ⊓ step running) steps

  -- the limits that the steps are then called with
  abbrev pub least_limits : A → List (A → A) → List A
  least_limits running [] = []
  least_limits running (step ∷ steps) = running ∷ least_limits (running ⊓ step running) steps

  -- the step over a list, from each cone's own step (its answer by its limit): each gets the caller's limit, and the least is the answer
  abbrev pub list_step : A → List (A → A) → A
  list_step limit steps = over limit (map (λ step. step limit) steps)

module _ {A : Type 0} where
  -- the answer itself handed on: each step is called with the answer of the one before as its limit, and the last answer counts
  abbrev pub passed_of : A → List (A → A) → A
  passed_of limit [] = limit
  passed_of limit (step ∷ steps) = passed_of (step limit) steps

  -- the limits that the steps are then called with
  abbrev pub limits_of : A → List (A → A) → List A
  limits_of limit [] = []
  limits_of limit (step ∷ steps) = limit ∷ limits_of (step limit) steps
