-- A deed done on one cone of a list, over a store of named buffers. Assumes nothing.
use Rattle.std.specs.Prelude.{ℕ, ◌≡◌, List, [], ◌∷◌}
use Rattle.std.proofs.Math.Decide.{ℕ_discrete}
use Rattle.std.proofs.Math.Path.{subst⁻¹}
use Rattle.answers.specs.Outcome.{Ruling, Outcome}
use Rattle.conelist.specs.declared.Cone.{Cone}
use Rattle.conelist.specs.declared.Place.{Place}
use Rattle.conelist.specs.Layout.{place_of}
use Rattle.sequences.specs.Rearranged.{run_each, Ended}
use Rattle.conecalls.specs.Deed.{Element-discrete, Buffer, Buffer-discrete, Whole, Tuple, Numbers, Deed, comes}

-- ---- buffers: "each with one use throughout", so that its name tells its use and what it holds

pub data Name : Type 0 where
  called : Buffer → ℕ → Name
  deriving Discrete as Name-discrete

abbrev pub form : Name → Buffer
form (called b n) = b

-- what all buffers hold
abbrev pub Store : Type 0
Store = (a : Name) → Whole (form a)

-- several, by their numbers
abbrev pub fetch : Store → (bs : List Buffer) → Numbers bs → Tuple Whole bs
fetch σ [] ns = tt
fetch σ (b ∷ bs) ns = (σ (called b ns.0), fetch σ bs ns.1)

abbrev pub same_name : (a b : Name) → Dec (a ≡ b)
same_name a b = Name-discrete (Buffer-discrete Element-discrete) ℕ_discrete a b

-- of several buffers with their new contents, those of buffer a; else its old ones
abbrev pub pick_from : (a : Name) (bs : List Buffer) → Numbers bs → Tuple Whole bs → Whole (form a) → Whole (form a)
pick_from a [] ns news old = old
pick_from a (b ∷ bs) ns news old =
    elim (same_name a (called b ns.0)) [ yes e ↦ subst⁻¹ (λ c. Whole (form c)) e news.0 | no n ↦ pick_from a bs ns.1 news.1 old ]

-- a is none of these
abbrev pub Outside : Name → (bs : List Buffer) → Numbers bs → Type 0
Outside a [] ns = Unit {0}
Outside a (b ∷ bs) ns = ¬ (a ≡ called b ns.0) × Outside a bs ns.1

-- ---- a call: the cone that it names, its deed, and the numbers of the buffers that it is lent

pub record Task : Type 1 where
  pub cone : ℕ
  pub deed : Deed
  pub writes : Numbers deed.writes
  pub reads : Numbers deed.reads

module _ (p : Place) (t : Task) (σ : Store) where
  -- what it comes to at a place
  abbrev pub comes_to : Outcome t.deed.Replies (Tuple Whole t.deed.writes)
  comes_to = comes p t.deed (fetch σ t.deed.writes t.writes) (fetch σ t.deed.reads t.reads)

  abbrev pub answer : Ruling t.deed.Replies
  answer = comes_to.ruling

  -- all buffers after it
  abbrev pub after_of : Store
  after_of = λ a. pick_from a t.deed.writes t.writes comes_to.holds (σ a)

-- ---- calls of any sort C, each a task, made one after another over a list: each with its answer, and what all buffers hold at the end

module _ {C : Type 0} (task : C → Task) where
  -- what a call answers: of a type of its own
  abbrev pub Reply : C → Type 0
  Reply c = Ruling (task c).deed.Replies

module _ (list : List Cone) {C : Type 0} (task : C → Task) where
  abbrev pub run_all : List C → Store → Ended C (Reply task) Store
  run_all = run_each (λ c. answer (place_of list (task c).cone) (task c)) (λ c. after_of (place_of list (task c).cone) (task c))
