-- What a task comes to is what the contract of its call says: `comes_at` of its deed, given what its buffers hold one after another. Assumes nothing.
use mathlib.Core.Path.{◌≡◌, refl, ap, ◌∙◌}
use mathlib.Core.List.{List, [], ◌∷◌}
use Rattle.answers.specs.Outcome.{Outcome}
use Rattle.conelist.specs.declared.Place.{Place}
use Rattle.conecalls.specs.Deed.{Buffer, Whole, Tuple, Taking, given, taken, Deed, comes, comes_at}
use Rattle.sequences.specs.Local.{Store, fetch, Task, comes_to}

given_taken : (F : Buffer → Type 0) {A : Type 0} (bs : List Buffer) (f : Tuple F bs → A) (t : Tuple F bs) → given F bs (taken F bs f) t ≡ f t
given_taken F [] f t = refl
given_taken F (b ∷ bs) f t = given_taken F bs (λ u. f (t.0, u)) t.1

module _ (p : Place) (t : Task) (σ : Store) where
  abbrev d : Deed
  d = t.deed

  -- the contents of the buffers lent for writing, and of those lent for reading
  abbrev outs : Tuple Whole d.writes
  outs = fetch σ d.writes t.writes

  abbrev ins : Tuple Whole d.reads
  ins = fetch σ d.reads t.reads

  pub as_contracted : given Whole d.reads (given Whole d.writes (comes_at p d) outs) ins ≡ comes_to p t σ
  as_contracted =
      ap (λ (g : Taking Whole d.reads (Outcome d.Replies (Tuple Whole d.writes))). given Whole d.reads g ins)
      (given_taken Whole d.writes (λ ys. taken Whole d.reads (λ xs. comes p d ys xs)) outs)
      ∙ given_taken Whole d.reads (λ xs. comes p d outs xs) ins
