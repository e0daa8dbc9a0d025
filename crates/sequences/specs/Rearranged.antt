-- Sequences of calls that each name one cone, as data. Assumes nothing.
use Rattle.std.specs.Prelude.{ℕ, ◌≡◌, cond, List, [], ◌∷◌, eqb}

-- those of a list that name cone j, in their order
abbrev pub naming : {A : Type 0} → (A → ℕ) → ℕ → List A → List A
naming cone j [] = []
naming cone j (c ∷ cs) = cond (eqb (cone c) j) (c ∷ naming cone j cs) (naming cone j cs)

-- a call, with its answer, of a type of its own
pub record Answered (C : Type 0) (A : C → Type 0) : Type 0 where
  pub call : C
  pub answer : A call

-- what a sequence of calls comes to: each call with its answer, and the store at the end
pub record Ended (C : Type 0) (A : C → Type 0) (S : Type 0) : Type 0 where
  pub answers : List (Answered C A)
  pub store : S

module _ {C : Type 0} {A : C → Type 0} {S : Type 0} (answer : (c : C) → S → A c) (after : C → S → S) where
  -- one call after another: each is made on the store that the one before left
  abbrev pub run_each : List C → S → Ended C A S
  run_each [] σ = record { answers = []; store = σ }
  run_each (c ∷ cs) σ =
      let rest = run_each cs (after c σ) in
      record { answers = record { call = c; answer = answer c σ } ∷ rest.answers; store = rest.store }

module _ {C : Type 0} (cone : C → ℕ) where
  -- rearranged, each cone's own order kept: for every cone the calls that name it are the same list
  abbrev pub Rearranged : List C → List C → Type 0
  Rearranged cs ds = (j : ℕ) → naming cone j cs ≡ naming cone j ds

  -- by swaps of neighbours that name different cones
  pub data Swapped : List C → List C → Type 0 where
    swap : {c d : C} {cs : List C} → ¬ (cone c ≡ cone d) → Swapped (c ∷ d ∷ cs) (d ∷ c ∷ cs)
    same : {cs : List C} → Swapped cs cs
    behind : {c : C} {cs ds : List C} → Swapped cs ds → Swapped (c ∷ cs) (c ∷ ds)
    further : {cs ds es : List C} → Swapped cs ds → Swapped ds es → Swapped cs es
