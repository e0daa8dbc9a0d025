-- A call on one cone of a list as one record, its deed: the buffers that it is lent, its own refusals, and its rule on the cone's own ranges
-- (document 01, "The list and its buffers", "Refusal numbers"). What it comes to over a place is `comes_at p deed` of the buffers' contents. Assumes
-- nothing.
use Rattle.std.specs.Prelude.{ℕ, ◌≤◌, ◌≡◌, List, [], ◌∷◌, ◌++◌, length, get_or, set, Float}
use Rattle.std.specs.Float.{nan}
use Rattle.answers.specs.Refusal.{◌⊳◌, unlike}
use Rattle.answers.specs.Outcome.{Reply, done, Outcome, Gives, call_does}
use Rattle.conelist.specs.declared.Kind.{Kind}
use Rattle.conelist.specs.declared.Place.{Place}
use Rattle.conelist.specs.Layout.{dim, least_dim, block_dim, spot_of, fit_all, range_of, with_range, block_of, with_block}

-- ---- buffers

-- what a buffer holds: doubles, or marks
pub data Element : Type 0 where
  real mark : Element
  deriving Discrete as Element-discrete

abbrev pub Entry : Element → Type 0
Entry real = Float
Entry mark = ℕ

-- what is read past the end
abbrev pub blank : (e : Element) → Entry e
blank real = nan
blank mark = 0

-- a buffer by its use and what it holds: one for each entry (w, lambda, ..), one for each cone (η, d, marks), or each cone's block behind the other
pub data Buffer : Type 0 where
  per_entry per_cone per_block : Element → Buffer
  deriving Discrete as Buffer-discrete

-- all that it holds, and a cone's own range of that
abbrev pub held : Buffer → Element
held (per_entry e) = e
held (per_cone e) = e
held (per_block e) = e

abbrev pub Whole : Buffer → Type 0
Whole b = List (Entry (held b))

abbrev pub Range : Buffer → Type 0
Range (per_entry e) = List (Entry e)
Range (per_cone e) = Entry e
Range (per_block e) = List (Entry e)

-- ---- several of them: one of F each, as a tuple that ends with tt; and what is given one of F each, one after another

abbrev pub Tuple : (Buffer → Type 0) → List Buffer → Type 0
Tuple F [] = Unit {0}
Tuple F (b ∷ bs) = F b × Tuple F bs

abbrev pub Taking : (Buffer → Type 0) → List Buffer → Type 0 → Type 0
Taking F [] A = A
Taking F (b ∷ bs) A = F b → Taking F bs A

abbrev pub given : (F : Buffer → Type 0) {A : Type 0} (bs : List Buffer) → Taking F bs A → Tuple F bs → A
given F [] f t = f
given F (b ∷ bs) f t = given F bs (f t.0) t.1

abbrev pub taken : (F : Buffer → Type 0) {A : Type 0} (bs : List Buffer) → (Tuple F bs → A) → Taking F bs A
taken F [] f = f tt
taken F (b ∷ bs) f = λ y. taken F bs (λ t. f (y, t))

-- ---- over a place

module _ (p : Place) where
  -- the length that a buffer must have
  abbrev pub width_of : Buffer → ℕ
  width_of (per_entry e) = p.entries
  width_of (per_cone e) = p.count
  width_of (per_block e) = p.blocks

  -- the cone's own range, and the buffer with that range replaced
  abbrev pub own_of : (b : Buffer) → Whole b → Range b
  own_of (per_entry e) y = range_of p y
  own_of (per_cone e) y = get_or y p.index (blank e)
  own_of (per_block e) y = block_of p y

  abbrev pub back_of : (b : Buffer) → Whole b → Range b → Whole b
  back_of (per_entry e) y new = with_range p y new
  back_of (per_cone e) y new = set y p.index new
  back_of (per_block e) y new = with_block p y new

  -- each of several
  abbrev pub owns : (bs : List Buffer) → Tuple Whole bs → Tuple Range bs
  owns [] ys = tt
  owns (b ∷ bs) ys = (own_of b ys.0, owns bs ys.1)

  abbrev pub backs_of : (bs : List Buffer) → Tuple Whole bs → Tuple Range bs → Tuple Whole bs
  backs_of [] ys news = tt
  backs_of (b ∷ bs) ys news = (back_of b ys.0 news.0, backs_of bs ys.1 news.1)

-- ---- deeds

-- A call on one cone: the buffers lent for writing and for reading, its refusals of rank 7 (by the cone's kind) and those behind 5, what it
-- answers, and its rule. Rule and later refusals are given the cone's kind and the cone's own range of each buffer, alone.
pub record Deed : Type 1 where
  pub writes : List Buffer
  pub reads : List Buffer
  pub early : Kind → List ℕ
  pub late : Kind → Taking Range writes (Taking Range reads (List ℕ))
  pub Replies : Type 0
  pub rule : Kind → Taking Range writes (Taking Range reads (Gives Replies (Tuple Range writes)))

-- its rule, and its refusals behind 5
abbrev pub ruled : (d : Deed) → Kind → Tuple Range d.writes → Tuple Range d.reads → Gives d.Replies (Tuple Range d.writes)
ruled d kind ws rs = given Range d.reads (given Range d.writes (d.rule kind) ws) rs

abbrev pub later : (d : Deed) → Kind → Tuple Range d.writes → Tuple Range d.reads → List ℕ
later d kind ws rs = given Range d.reads (given Range d.writes (d.late kind) ws) rs

-- the first of several refusals, by rank
abbrev pub first : ℕ → List ℕ → ℕ
first a [] = a
first a (b ∷ bs) = first (a ⊳ b) bs

-- the lengths of several buffers, each as a tuple of numbers
abbrev pub Numbers : List Buffer → Type 0
Numbers bs = Tuple (λ b. ℕ) bs

abbrev pub lengths_of : (bs : List Buffer) → Tuple Whole bs → Numbers bs
lengths_of [] ys = tt
lengths_of (b ∷ bs) ys = (length ys.0, lengths_of bs ys.1)

abbrev pub tests_of : Place → (bs : List Buffer) → Numbers bs → List (ℕ × ℕ)
tests_of p [] ns = []
tests_of p (b ∷ bs) ns = (ns.0, width_of p b) ∷ tests_of p bs ns.1

module _ (p : Place) (d : Deed) where
  -- its refusal's number, by rank, from the lengths of the buffers and the cone's own ranges
  abbrev pub refusal_of : Numbers d.writes → Numbers d.reads → Tuple Range d.writes → Tuple Range d.reads → ℕ
  refusal_of ms ns ws rs =
      first (spot_of p)
      (d.early p.kind ++ (unlike (fit_all (tests_of p d.writes ms ++ tests_of p d.reads ns)) ∷ later d p.kind ws rs))

  -- what it does: its rule's answer, and the buffers that it was lent for writing with the rule's new ranges
  abbrev pub works : Tuple Whole d.writes → Tuple Whole d.reads → Gives d.Replies (Tuple Whole d.writes)
  works ys xs =
      let does : Gives d.Replies (Tuple Range d.writes) = ruled d p.kind (owns p d.writes ys) (owns p d.reads xs) in
      record { reply = does.reply; news = backs_of p d.writes ys does.news }

  -- what it comes to: that, or its refusal and the buffers as they were
  abbrev pub comes : Tuple Whole d.writes → Tuple Whole d.reads → Outcome d.Replies (Tuple Whole d.writes)
  comes ys xs = call_does (refusal_of (lengths_of d.writes ys) (lengths_of d.reads xs) (owns p d.writes ys) (owns p d.reads xs)) ys (works ys xs)

  -- the same, of one buffer's contents after another: those lent for writing, then those for reading
  abbrev pub comes_at : Taking Whole d.writes (Taking Whole d.reads (Outcome d.Replies (Tuple Whole d.writes)))
  comes_at = taken Whole d.writes (λ ys. taken Whole d.reads (λ xs. comes ys xs))

  abbrev pub works_at : Taking Whole d.writes (Taking Whole d.reads (Gives d.Replies (Tuple Whole d.writes)))
  works_at = taken Whole d.writes (λ ys. taken Whole d.reads (λ xs. works ys xs))

-- ---- deeds of the usual forms

abbrev pub never : (bs cs : List Buffer) → Taking Range bs (Taking Range cs (List ℕ))
never bs cs = taken Range bs (λ ws. taken Range cs (λ rs. []))

-- no refusals of its own
abbrev pub plain : (writes reads : List Buffer) → (Kind → Taking Range writes (Taking Range reads (Gives Reply (Tuple Range writes)))) → Deed
plain writes reads rule =
    record { writes = writes; reads = reads; early = λ kind. []; late = λ kind. never writes reads; Replies = Reply; rule = rule }

-- a rule that only writes
abbrev pub writes_of : {B : Type 0} → B → Gives Reply B
writes_of news = record { reply = done; news = news }

-- ---- what is asked of a rule: where it is given ranges of the right lengths, it gives such ranges

-- a range that is as long as the cone's kind says
abbrev pub Fitting : Kind → (b : Buffer) → Range b → Type 0
Fitting kind (per_entry e) r = length r ≡ dim kind
Fitting kind (per_cone e) r = Unit {0}
Fitting kind (per_block e) r = length r ≡ block_dim kind

abbrev pub Fitted : Kind → (bs : List Buffer) → Tuple Range bs → Type 0
Fitted kind [] rs = Unit {0}
Fitted kind (b ∷ bs) rs = Fitting kind b rs.0 × Fitted kind bs rs.1

abbrev pub Keeps : Deed → Type 0
Keeps d =
    (kind : Kind) → least_dim kind ≤ dim kind → (ws : Tuple Range d.writes) → Fitted kind d.writes ws → (rs : Tuple Range d.reads) → Fitted kind d.reads rs
    → Fitted kind d.writes (ruled d kind ws rs).news
