-- Document 02, item 4: a cone's mark, "Fresh, Identity or Scaled", as a number, and 8, the refusal of an unfit one. Assumes nothing.
use Rattle.std.specs.Prelude.{ℕ, ◌≡◌, cond, ◌||◌, eqb}
use Rattle.marks.specs.declared.Mark.{Mark}
use Rattle.marks.specs.declared.Mark.TheVariants.{Fresh, Identity, Scaled}
use Rattle.conelist.specs.declared.Kind.{Kind}
use Rattle.conelist.specs.declared.Kind.TheVariants.{Nonnegative, SecondOrder}

-- Fresh is 0; "an unknown mark counts as Fresh", so that nothing asks for it
unfoldable pub read_mark : ℕ → Mark
read_mark n = cond (eqb n 1) Identity (cond (eqb n 2) Scaled Fresh)

-- what `Mark::from` gives of a number
abbrev pub IsMark : ℕ → Mark → Type 0
IsMark n mark = mark ≡ read_mark n

abbrev pub mark_number : Mark → ℕ
mark_number Fresh = 0
mark_number Identity = 1
mark_number Scaled = 2

-- what `u8::from` gives of a mark
abbrev pub IsMarkNumber : Mark → ℕ → Type 0
IsMarkNumber mark n = n ≡ mark_number mark

abbrev pub identity_mark : ℕ
identity_mark = 1

abbrev pub scaled_mark : ℕ
scaled_mark = 2

-- 8: "What reads stored w, η or d is refused on a Fresh cone"
unfoldable pub unset : ℕ → ℕ
unset m = cond (eqb m identity_mark || eqb m scaled_mark) 0 8

-- 8: "What reads lambda is refused unless the mark is Scaled"
unfoldable pub unscaled : ℕ → ℕ
unscaled m = cond (eqb m scaled_mark) 0 8

-- 8, of the offset: that of a second-order cone reads lambda; "The nonnegative offset reads neither and stays open"
unfoldable pub offset_unscaled : Kind → ℕ → ℕ
offset_unscaled (Nonnegative n) m = 0
offset_unscaled (SecondOrder n) m = unscaled m
