-- A line of words in hex, read byte by byte (docs/CASES.md). Assumes nothing.
use Rattle.std.specs.Prelude.{ℕ, ◌+◌, ◌-◌, ◌*◌, ◌≤◌, ◌≡◌, cond, ◌||◌, List, ltb, leb, eqb, length, set, take, Result, Ok, Err}
use Rattle.cases.specs.declared.Fault.{Fault}
use Rattle.cases.specs.declared.Fault.TheVariants.{NoDigit, EmptyWord, LongWord, TooManyWords, NoSuchCall, MissingWords, LongSlice, LongRow, WordsLeftOver, NotOneEntry, NoLineEnd}
use Rattle.cases.specs.declared.Line.{Line}

-- n counts the first entries of xs. The second part follows from the first: both are stated, so that `&xs[..n]` asks for no proof
pub record Counts {A : Type 0} (n : ℕ) (xs : List A) : Type 0 where
  pub within : n ≤ length xs
  pub part : n ≡ length (take n xs)

-- a fault's number, in the order of the faults, from 1 on
abbrev pub number_of : Fault → ℕ
number_of NoDigit = 1
number_of EmptyWord = 2
number_of LongWord = 3
number_of TooManyWords = 4
number_of NoSuchCall = 5
number_of MissingWords = 6
number_of LongSlice = 7
number_of LongRow = 8
number_of WordsLeftOver = 9
number_of NotOneEntry = 10
number_of NoLineEnd = 11

-- a line of which nothing is read
abbrev pub blank : Line
blank = record { count = 0; digits = 0; word = 0 }

-- a line or what is wrong with it, a fault of F, and the words that have been read
pub record Reading (F : Type 0) : Type 0 where
  pub line : Result Line F
  pub words : List ℕ

-- what is wrong with the text is told as a fault of F
module _ {F : Type 0} (told : Fault → F) where
  -- the value of a digit, 0 to 9 and a to f; any other byte is no digit
  unfoldable pub digit : ℕ → Result ℕ F
  digit b =
      cond (ltb b 48) (Err (told NoDigit))
      (cond (ltb b 58) (Ok (b - 48))
      (cond (ltb b 97) (Err (told NoDigit))
      (cond (ltb b 103) (Ok (b - 87)) (Err (told NoDigit)))))

  -- with the digit d more, where the word does not have 16 already, and has room for one more; what is no digit is told first
  abbrev pub grown_by : Line → Result ℕ F → Result Line F
  grown_by l (Err f) = Err f
  grown_by l (Ok d) =
      cond (ltb 15 l.digits || ltb 0xfff_ffff_ffff_ffff l.word) (Err (told LongWord))
      (Ok (record { count = l.count; digits = l.digits + 1; word = l.word * 16 + d }))

  unfoldable pub grown : ℕ → Line → Result Line F
  grown b l = grown_by l (digit b)

  -- at a word's end, where the word has a digit and there is a place for it
  unfoldable pub ends : Line → List ℕ → Reading F
  ends l words =
      cond (eqb l.digits 0) (record { line = Err (told EmptyWord); words = words })
      (cond (leb (length words) l.count) (record { line = Err (told TooManyWords); words = words })
      (record {
        line = Ok (record { count = l.count + 1; digits = 0; word = 0 });
        words = set words l.count l.word;
      }))

  -- with one byte more: a space ends a word. What is wrong stays
  unfoldable pub takes : ℕ → Result Line F → List ℕ → Reading F
  takes b (Ok l) words = cond (eqb b 32) (ends l words) (record { line = grown b l; words = words })
  takes b (Err f) words = record { line = Err f; words = words }

  -- at the line's end, which ends a word too
  unfoldable pub closes : Result Line F → List ℕ → Reading F
  closes (Ok l) words = ends l words
  closes (Err f) words = record { line = Err f; words = words }
