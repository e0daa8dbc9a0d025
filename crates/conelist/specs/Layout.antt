-- Document 01, "The list and its buffers" and "Refusal numbers": where each cone of a list lies, and the refusals of rank up to 4. Assumes nothing.
use Rattle.std.specs.Prelude.{ℕ, zero, suc, ◌+◌, ◌≤◌, ◌<◌, ◌≡◌, Bool, true, cond, ◌&&◌, List, [], ◌∷◌, ◌++◌, ltb, leb, eqb, length, take, drop}
use Rattle.answers.specs.Refusal.{◌⊳◌, bad_dimension, block_length, unlike}
use Rattle.conelist.specs.declared.Kind.{Kind}
use Rattle.conelist.specs.declared.Kind.TheVariants.{Nonnegative, SecondOrder}
use Rattle.conelist.specs.declared.Cone.{Cone}
use Rattle.conelist.specs.declared.Place.{Place}

-- ---- a kind

-- "the kind carries the dimension"
abbrev pub dim : Kind → ℕ
dim (Nonnegative n) = n
dim (SecondOrder n) = n

-- "Second-order: 2 to 4,096. Nonnegative: 0 to 4,096": the least that is in range
abbrev pub least_dim : Kind → ℕ
least_dim (Nonnegative n) = 0
least_dim (SecondOrder n) = 2

-- "A block has n numbers for a nonnegative cone or a second-order cone above 4 (sparse), n(n+1)/2 for a dense one"
abbrev pub block_dim : Kind → ℕ
block_dim (Nonnegative n) = n
block_dim (SecondOrder n) = block_length n

-- ---- one cone behind another

-- the kind of cone k; past the end, that of no entries
abbrev pub kind_of_cone : List Cone → ℕ → Kind
kind_of_cone [] k = Nonnegative 0
kind_of_cone (c ∷ cs) zero = c.kind
kind_of_cone (c ∷ cs) (suc k) = kind_of_cone cs k

-- the sizes of the cones before cone k, together: by their dimensions, where its entries start; by their blocks, where its block does
abbrev pub sum_before : (Kind → ℕ) → List Cone → ℕ → ℕ
sum_before size cs zero = 0
sum_before size cs (suc k) = sum_before size cs k + size (kind_of_cone cs k)

-- all entries together
abbrev pub entries_of : List Cone → ℕ
entries_of cs = sum_before dim cs (length cs)

-- ---- refusals 1 to 4

-- of a record behind `total` entries. 1: its dimension is outside its range; 3: its start does not tile ("the first is 0, each next is the
-- last start plus its dimension"); 2: the running total passes 65,536
unfoldable pub bad_record : ℕ → Cone → ℕ
bad_record total c = bad_dimension (least_dim c.kind) (dim c.kind) ⊳ cond (eqb c.start total) 0 3 ⊳ cond (ltb 65536 (total + dim c.kind)) 2 0

-- "record by record 1, 3, total (2)"
abbrev pub bad_records : ℕ → List Cone → ℕ
bad_records total [] = 0
bad_records total (c ∷ cs) = bad_record total c ⊳ bad_records (total + dim c.kind) cs

-- "Rank: cone count (2); then record by record ..": of a call that names no single cone, so there is no 4
abbrev pub bad_list : List Cone → ℕ
bad_list cs = cond (ltb 256 (length cs)) 2 0 ⊳ bad_records 0 cs

-- "Rank: cone count (2); then record by record ..; then 4": over 256 cones; the records; the cone named is not in the list
abbrev pub bad_place : List Cone → ℕ → ℕ
bad_place cs k = cond (ltb 256 (length cs)) 2 0 ⊳ bad_records 0 cs ⊳ cond (ltb k (length cs)) 0 4

-- ---- the place of cone k

-- a refusal's number alone
abbrev pub alone : ℕ → Place
alone n = record { no = n; index = 0; start = 0; kind = Nonnegative 0; block = 0; entries = 0; count = 0; blocks = 0 }

-- by the refusal's number: where it is 0, p; else the number alone
abbrev pub found_of : ℕ → Place → Place
found_of zero p = p
found_of (suc n) p = alone (suc n)

-- cone k, where the list is not refused: "w, lambda, .. are as long as all entries together; η and d have one number per cone; the block
-- buffer holds each cone's Hs block behind the other"
abbrev pub laid_at : List Cone → ℕ → Place
laid_at cs k =
    record {
      no = bad_place cs k;
      index = k;
      start = sum_before dim cs k;
      kind = kind_of_cone cs k;
      block = sum_before block_dim cs k;
      entries = sum_before dim cs (length cs);
      count = length cs;
      blocks = sum_before block_dim cs (length cs);
    }

unfoldable pub place_of : List Cone → ℕ → Place
place_of cs k = found_of (bad_place cs k) (laid_at cs k)

-- ---- a place that is handed to a call: it may be one that no list gives

-- the refusal that it carries: 1 to 4 are a list's; a number above 4 is none, and counts as 4
unfoldable pub carried : Place → ℕ
carried p = cond (leb p.no 4) p.no 4

-- its counts are in range: no list has over 256 cones or 65,536 entries, and no cone over three block numbers an entry
abbrev pub counted_of : Place → Bool
counted_of p = leb p.count 256 && leb p.entries 65536 && leb p.blocks 196608

-- 4 too, where it can be told that no list gives the place: its dimension or a count is outside its range, its entries or its block lie past
-- the end, or its index is not below the count. The rest of it is taken at its word. A place that `place_of` gives is never refused so: `spot`,
-- crates/conewalk/proofs/Laid
unfoldable pub misplaced : Place → ℕ
misplaced p =
    let n = dim p.kind in
    cond (leb (least_dim p.kind) n && leb n 4096 && leb (p.start + n) p.entries && ltb p.index p.count && leb (p.block + block_dim p.kind) p.blocks && counted_of p) 0 4

abbrev pub spot_of : Place → ℕ
spot_of p = carried p ⊳ misplaced p

-- each lent slice, by its length and the length that it must have
abbrev pub fit_and : Bool → List (ℕ × ℕ) → Bool
fit_and t [] = t
fit_and t (m ∷ ms) = fit_and (t && eqb m.0 m.1) ms

abbrev pub fit_all : List (ℕ × ℕ) → Bool
fit_all [] = true
fit_all (m ∷ ms) = fit_and (eqb m.0 m.1) ms

-- a call over a place: its refusals up to 4, then 5
abbrev pub refusal_at : Place → List (ℕ × ℕ) → ℕ
refusal_at p ms = spot_of p ⊳ unlike (fit_all ms)

-- what such a call has where it is not refused: the cone's ranges lie inside, and each slice has its length
pub record Ready (p : Place) : Type 0 where
  pub enough : least_dim p.kind ≤ dim p.kind
  pub most : dim p.kind ≤ 4096
  pub inside : p.start + dim p.kind ≤ p.entries
  pub named : p.index < p.count
  pub block_inside : p.block + block_dim p.kind ≤ p.blocks

abbrev pub Fits : List (ℕ × ℕ) → Type 0
Fits [] = Unit {0}
Fits (m ∷ ms) = (m.0 ≡ m.1) × Fits ms

-- Of place and slices together, so no type of a place alone could say it; and the slices stay parameters (`Fit`, crates/answers)
pub record Open (p : Place) (ms : List (ℕ × ℕ)) : Type 0 where
  pub here : Ready p
  pub same : Fits ms

-- ---- "the cone's own range of each buffer, from its start": n numbers from `at` on; and the buffer with that range replaced

unfoldable pub part_of : {A : Type 0} → ℕ → ℕ → List A → List A
part_of at n y = take n (drop at y)

unfoldable pub with_part : {A : Type 0} → ℕ → ℕ → List A → List A → List A
with_part at n y new = take at y ++ (new ++ drop n (drop at y))

-- a cone's own range of a number per entry, and of the blocks
abbrev pub range_of : {A : Type 0} → Place → List A → List A
range_of p y = part_of p.start (dim p.kind) y

abbrev pub with_range : {A : Type 0} → Place → List A → List A → List A
with_range p y new = with_part p.start (dim p.kind) y new

abbrev pub block_of : {A : Type 0} → Place → List A → List A
block_of p y = part_of p.block (block_dim p.kind) y

abbrev pub with_block : {A : Type 0} → Place → List A → List A → List A
with_block p y new = with_part p.block (block_dim p.kind) y new
