-- The row of records with which the words of a line begin behind the first five (docs/CASES.md). Assumes nothing.
use Rattle.std.specs.Prelude.{ℕ, ◌+◌, ◌*◌, cond, List, [], ◌∷◌, ◌++◌, ltb, length, get_or, drop, Result, Ok, Err}
use Rattle.vecmath.specs.Vector.{each}
use Rattle.case_words.specs.declared.Cut.{Cut}
use Rattle.cases.specs.declared.Fault.{Fault}
use Rattle.cases.specs.declared.Fault.TheVariants.{LongRow, MissingWords}

-- what was read or what is wrong with it, and where it was put
pub record Put : Type 0 where
  pub cut : Result Cut Fault
  pub holds : List (List ℕ)

-- n records, each of three words, and behind them what was there
unfoldable pub records : List ℕ → (n : ℕ) → List (List ℕ) → List (List ℕ)
records words n y = each n (λ i. get_or words (3 * i) 0 ∷ get_or words (3 * i + 1) 0 ∷ get_or words (3 * i + 2) 0 ∷ []) ++ drop n y

-- a row of n records, of which there are at most 260
unfoldable pub list_of : (n : ℕ) → List ℕ → List (List ℕ) → Put
list_of n words y =
    cond (ltb 260 n) (record { cut = Err LongRow; holds = y })
    (cond (ltb (length words) (3 * n)) (record { cut = Err MissingWords; holds = y })
    (record { cut = Ok (record { at = 3 * n; length = n }); holds = records words n y }))
