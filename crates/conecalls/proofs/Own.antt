-- A cone's own range of a buffer, and the refusals of a deed: what is put back is there, and nothing else is changed; where the call is refused,
-- all stays. Assumes nothing.
use Prim.Native.Nat.{ℕ, zero, suc, ◌+◌, ◌≤◌}
use native.Mathlib.Omega.{arith}
use mathlib.Core.Path.{◌≡◌, refl, sym, ap, ◌∙◌}
use mathlib.Core.List.{List, [], ◌∷◌, ◌++◌}
use mathlib.Core.Logic.{◌⊎◌, inl, inr}
use lib.ListN.{length, length-set}
use lib.Seq.{get_or-set_same, get_or-set_other}
use Rattle.answers.specs.Refusal.{◌⊳◌, unlike}
use Rattle.answers.specs.Outcome.{refuses, call_of, Gives}
use Rattle.conelist.specs.declared.Kind.{Kind}
use Rattle.conelist.specs.declared.Place.{Place}
use Rattle.answers.proofs.Laws.{and_more}
use Rattle.conelist.specs.Layout.{dim, block_dim, carried, misplaced, spot_of, fit_all, Ready, Fits}
use Rattle.conelist.proofs.Placed.{open_at}
use Rattle.conecalls.specs.Deed.{blank, Buffer, per_entry, per_cone, per_block, Whole, Range, Tuple, lengths_of, tests_of, width_of, own_of, back_of, owns, backs_of, Deed, ruled, later, first, refusal_of, comes, Fitting, Fitted, Keeps}
use Rattle.conecalls.proofs.Parts.{length_part, length_put, part_put, part_put_before, part_put_behind}

-- ---- one buffer

-- a cone's own range of it: how long it is, and where it begins
abbrev pub long_of : Kind → Buffer → ℕ
long_of kind (per_entry e) = dim kind
long_of kind (per_cone e) = 1
long_of kind (per_block e) = block_dim kind

abbrev pub start : Place → Buffer → ℕ
start p (per_entry e) = p.start
start p (per_cone e) = p.index
start p (per_block e) = p.block

-- y is as long as it should be, p's own range lies in it, and new has that range's length
pub record Fills (p : Place) (b : Buffer) (y : Whole b) (new : Range b) : Type 0 where
  pub full : length y ≡ width_of p b
  pub inside : start p b + long_of p.kind b ≤ length y
  pub long : Fitting p.kind b new

pub own_fits : (p : Place) (b : Buffer) (y : Whole b) → start p b + long_of p.kind b ≤ length y → Fitting p.kind b (own_of p b y)
own_fits p (per_entry e) y h = length_part p.start (dim p.kind) y h
own_fits p (per_cone e) y h = tt
own_fits p (per_block e) y h = length_part p.block (block_dim p.kind) y h

module _ (p : Place) where
  pub length_back : (b : Buffer) (y : Whole b) (new : Range b) → Fills p b y new → length (back_of p b y new) ≡ length y
  length_back (per_entry e) y new f = length_put p.start (dim p.kind) y new f.inside f.long
  length_back (per_cone e) y new f = length-set y p.index new
  length_back (per_block e) y new f = length_put p.block (block_dim p.kind) y new f.inside f.long

  pub own_back : (b : Buffer) (y : Whole b) (new : Range b) → Fills p b y new → own_of p b (back_of p b y new) ≡ new
  own_back (per_entry e) y new f = part_put p.start (dim p.kind) y new f.inside f.long
  own_back (per_cone e) y new f = get_or-set_same y p.index new (blank e) (omega (arith, f.inside))
  own_back (per_block e) y new f = part_put p.block (block_dim p.kind) y new f.inside f.long

  -- another place's range, where one lies behind the other
  pub own_apart : (q : Place) (b : Buffer) (y : Whole b) (new : Range b) → Fills p b y new
      → (start q b + long_of q.kind b ≤ start p b) ⊎ (start p b + long_of p.kind b ≤ start q b) → own_of q b (back_of p b y new) ≡ own_of q b y
  own_apart q (per_entry e) y new f (inl l) = part_put_before p.start (dim p.kind) y new f.inside f.long q.start (dim q.kind) l
  own_apart q (per_entry e) y new f (inr l) = part_put_behind p.start (dim p.kind) y new f.inside f.long q.start (dim q.kind) l
  own_apart q (per_cone e) y new f (inl l) = get_or-set_other y p.index q.index new (blank e) (omega arith)
  own_apart q (per_cone e) y new f (inr l) = get_or-set_other y p.index q.index new (blank e) (omega arith)
  own_apart q (per_block e) y new f (inl l) = part_put_before p.block (block_dim p.kind) y new f.inside f.long q.block (block_dim q.kind) l
  own_apart q (per_block e) y new f (inr l) = part_put_behind p.block (block_dim p.kind) y new f.inside f.long q.block (block_dim q.kind) l

-- ---- the refusals of a call: those of the place come first, and where there is none at all, none is of rank 5

pub first_refused : (n : ℕ) (l : List ℕ) → first (suc n) l ≡ suc n
unfolding ◌⊳◌
first_refused n [] = refl
first_refused n (b ∷ l) = first_refused n l

first_zero : (a : ℕ) (l : List ℕ) → first a l ≡ 0 → (a ≡ 0) × (first 0 l ≡ 0)
unfolding ◌⊳◌
first_zero zero l e = (refl, e)
first_zero (suc a) l e = absurd (omega (arith, first_refused a l))

first_later : (l m : List ℕ) → first 0 (l ++ m) ≡ 0 → first 0 m ≡ 0
unfolding ◌⊳◌
first_later [] m e = e
first_later (a ∷ l) m e = first_later l m (first_zero a (l ++ m) e).1

pub clear_first : (a b : ℕ) (early late : List ℕ) → first a (early ++ (b ∷ late)) ≡ 0 → a ⊳ b ≡ 0
unfolding ◌⊳◌
clear_first a b early late e =
    let r = first_zero a (early ++ (b ∷ late)) e in
    rw r.0 (first_zero b late (first_later early (b ∷ late) r.1)).0

pub fits_first : (ms ns : List (ℕ × ℕ)) → Fits (ms ++ ns) → Fits ms × Fits ns
fits_first [] ns f = (tt, f)
fits_first (m ∷ ms) ns f = let r = fits_first ms ns f.1 in ((f.0, r.0), r.1)

-- ---- a call that is refused at its place: it tells so, and leaves all

pub comes_refused : (p : Place) (d : Deed) (ys : Tuple Whole d.writes) (xs : Tuple Whole d.reads) (n : ℕ) → carried p ≡ suc n → comes p d ys xs ≡ record { ruling = refuses (suc n); holds = ys }
unfolding call_of ◌⊳◌
comes_refused p d ys xs n e =
    let ws : Tuple Range d.writes = owns p d.writes ys in
    let rs : Tuple Range d.reads = owns p d.reads xs in
    let rest = d.early p.kind ++ (unlike (fit_all (tests_of p d.writes (lengths_of d.writes ys) ++ tests_of p d.reads (lengths_of d.reads xs))) ∷ later d p.kind ws rs) in
    let no : refusal_of p d (lengths_of d.writes ys) (lengths_of d.reads xs) ws rs ≡ suc n = ap (λ m. first (m ⊳ misplaced p) rest) e ∙ first_refused n rest in
    let does : Gives d.Replies (Tuple Range d.writes) = ruled d p.kind ws rs in
    ap (λ m. call_of m does.reply ys (backs_of p d.writes ys does.news)) no

-- ---- a call leaves the lengths of what it is lent

module _ (p : Place) (here : Ready p) where
  inside : (b : Buffer) (y : Whole b) → length y ≡ width_of p b → start p b + long_of p.kind b ≤ length y
  inside (per_entry e) y f = omega (arith, here.inside)
  inside (per_cone e) y f = omega (arith, here.named)
  inside (per_block e) y f = omega (arith, here.block_inside)

  owns_fit : (bs : List Buffer) (ys : Tuple Whole bs) → Fits (tests_of p bs (lengths_of bs ys)) → Fitted p.kind bs (owns p bs ys)
  owns_fit [] ys f = tt
  owns_fit (b ∷ bs) ys f = (own_fits p b ys.0 (inside b ys.0 f.0), owns_fit bs ys.1 f.1)

  backs_long : (bs : List Buffer) (ys : Tuple Whole bs) (news : Tuple Range bs) → Fits (tests_of p bs (lengths_of bs ys)) → Fitted p.kind bs news → lengths_of bs (backs_of p bs ys news) ≡ lengths_of bs ys
  backs_long [] ys news f g = refl
  backs_long (b ∷ bs) ys news f g =
      and_more (length_back p b ys.0 news.0 (record { full = f.0; inside = inside b ys.0 f.0; long = g.0 })) (backs_long bs ys.1 news.1 f.1 g.1)

pub lengths_kept : (p : Place) (d : Deed) → Keeps d → (ys : Tuple Whole d.writes) (xs : Tuple Whole d.reads) → lengths_of d.writes (comes p d ys xs).holds ≡ lengths_of d.writes ys
unfolding call_of
lengths_kept p d keeps ys xs = go (refusal_of p d (lengths_of d.writes ys) (lengths_of d.reads xs) ws rs) refl
  where
    ws : Tuple Range d.writes
    ws = owns p d.writes ys

    rs : Tuple Range d.reads
    rs = owns p d.reads xs

    ms : List (ℕ × ℕ)
    ms = tests_of p d.writes (lengths_of d.writes ys)

    ns : List (ℕ × ℕ)
    ns = tests_of p d.reads (lengths_of d.reads xs)

    go : (n : ℕ) → refusal_of p d (lengths_of d.writes ys) (lengths_of d.reads xs) ws rs ≡ n → lengths_of d.writes (call_of n (ruled d p.kind ws rs).reply ys (backs_of p d.writes ys (ruled d p.kind ws rs).news)).holds ≡ lengths_of d.writes ys
    go zero e =
        let ready = open_at p (ms ++ ns) (sym (clear_first (spot_of p) (unlike (fit_all (ms ++ ns))) (d.early p.kind) (later d p.kind ws rs) e)) in
        let fits = fits_first ms ns ready.same in
        let here = ready.here in
        backs_long p here d.writes ys _ fits.0 (keeps p.kind here.enough ws (owns_fit p here d.writes ys fits.0) rs (owns_fit p here d.reads xs fits.1))
    go (suc n) e = refl
