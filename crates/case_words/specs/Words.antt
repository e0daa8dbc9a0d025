-- What the words of a line say behind the row of records (docs/CASES.md): its slices. Assumes nothing.
use Rattle.std.specs.Prelude.{ℕ, ◌+◌, ◌-◌, ◌%◌, cond, List, ◌++◌, ltb, leb, eqb, length, get_or, drop, Result, Ok, Err, Float}
use Rattle.std.specs.Float.{binary64}
use Rattle.std.specs.Float.Ieee.{of_bits}
use Rattle.vecmath.specs.Vector.{each, fold_of}
use Rattle.cases.specs.declared.Fault.{Fault}
use Rattle.cases.specs.declared.Fault.TheVariants.{MissingWords, LongSlice, WordsLeftOver}
use Rattle.case_words.specs.declared.Cut.{Cut}

-- nothing is read yet
abbrev pub uncut : Cut
uncut = record { at = 0; length = 0 }

-- a slice, its length and its entries, of which there are at most 64
unfoldable pub slice : List ℕ → (at : ℕ) → Result Cut Fault
slice words at =
    let n = get_or words at 0 in
    cond (leb (length words) at) (Err MissingWords)
    (cond (ltb 64 n) (Err LongSlice)
    (cond (ltb (length words - (at + 1)) n) (Err MissingWords)
    (Ok (record { at = at + 1 + n; length = n }))))

-- the slice behind what is read so far; what is wrong stays
abbrev pub behind : List ℕ → Result Cut Fault → Result Cut Fault
behind words (Ok had) = slice words had.at
behind words (Err f) = Err f

-- slice k, counted from 1 on
unfoldable pub nth : List ℕ → (k : ℕ) → Result Cut Fault
nth words k = fold_of k (Ok uncut) (λ i had. behind words had)

-- what is wrong once all is read: no word may be left over
abbrev pub left : List ℕ → Result Cut Fault → Result (Unit {0}) Fault
left words (Ok had) = cond (eqb had.at (length words)) (Ok tt) (Err WordsLeftOver)
left words (Err f) = Err f

-- the double that a word tells, by its bits
abbrev pub double_of_word : ℕ → Float
double_of_word word = of_bits binary64 word

-- the mark that a word tells, by its last byte
abbrev pub mark_of_word : ℕ → ℕ
mark_of_word word = word % 256

-- the entries, each told by one word, and behind them what was there
unfoldable pub entries : {A : Type 0} → (ℕ → A) → List ℕ → List A → List A
entries entry words y = each (length words) (λ i. entry (get_or words i 0)) ++ drop (length words) y
