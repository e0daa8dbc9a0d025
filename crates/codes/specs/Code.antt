-- What a C export comes to: the refusal's number, 0 for none, what the numbers that it was lent for its answer then hold, and what the
-- slices hold. It is read off what the bare call comes to. Assumes nothing.
use Rattle.std.specs.Prelude.{ℕ, cond, List, [], ◌∷◌, Float}
use Rattle.answers.specs.Outcome.{Reply, done, margins, truth, number, lengths, stands, standing_number, Scaled, all_true, false_at, Ruling, gives, refuses, Outcome}

-- what a lent number holds: a double, or a small whole number
pub data Value : Type 0 where
  real : Float → Value
  whole : ℕ → Value

-- the values of an answer of document 01, in the order of the lent numbers; a scaling's true is 1, its false 0
unfoldable pub values_of : Reply → List Value
values_of done = []
values_of (margins α β) = real α ∷ real β ∷ []
values_of (truth t) = whole (cond t 1 0) ∷ []
values_of (number x) = real x ∷ []
values_of (lengths z s) = real z ∷ real s ∷ []
values_of (stands x) = whole (standing_number x) ∷ []

-- those of a whole list's scaling (document 02, item 1): a true leaves the lent index, `cone`, as it was
unfoldable pub scaled_values : ℕ → Scaled → List Value
scaled_values cone all_true = whole 1 ∷ whole cone ∷ []
scaled_values cone (false_at k) = whole 0 ∷ whole k ∷ []

-- the number that is returned, and what the lent numbers hold
pub record Report : Type 0 where
  pub refusal : ℕ
  pub values : List Value

-- an answer is 0, with its values; a refusal is its number, and the lent numbers hold what they held. `values` reads the values off a reply of
-- any type
unfoldable pub reported : {A : Type 0} → (values : A → List Value) → (old : List Value) → Ruling A → Report
reported values old (gives reply) = record { refusal = 0; values = values reply }
reported values old (refuses k) = record { refusal = k; values = old }

-- the whole export
pub record Export (B : Type 0) : Type 0 where
  pub report : Report
  pub holds : B

-- by what the lent numbers held and what the bare call comes to
unfoldable pub export_of : {A B : Type 0} → (values : A → List Value) → (old : List Value) → Outcome A B → Export B
export_of values old came = record { report = reported values old came.ruling; holds = came.holds }

-- ---- a contract's left side

abbrev pub report : ℕ → List Value → Report
report r values = record { refusal = r; values = values }

abbrev pub export : {B : Type 0} → ℕ → List Value → B → Export B
export r values exits = record { report = report r values; holds = exits }
