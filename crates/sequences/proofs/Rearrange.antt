-- Rearranged calls: the theorem, over any store that can be seen cone by cone. Assumes nothing.
use Prim.Native.Nat.{ℕ}
use native.Mathlib.Decide.{ℕ_discrete}
use mathlib.Core.Path.{◌≡◌, refl, sym, ap, ap₂, ◌∙◌, subst⁻¹}
use mathlib.Core.Bool.{Bool, true, false, cond, false≢true}
use mathlib.Core.List.Perm
use mathlib.Core.List.{List, [], ◌∷◌, map, replicate, count, Perm, nil≢cons, head-eq_of_cons-eq, tail-eq_of_cons-eq}
use mathlib.Core.Logic.{ite}
use mathlib.Core.Nat.{suc}
use borrow.Author.Tests.{eqb-true, eqb-false, eq-eqb, ne_eqb}
use lib.Dec.{eqb}
use Rattle.sequences.specs.Rearranged.{naming, Answered, Ended, run_each, Rearranged, Swapped, same, swap, behind, further}

module _ {C : Type 0} {A : C → Type 0} {S W : Type 0} (cone : C → ℕ) (answer : (c : C) → S → A c) (after : C → S → S) (view : ℕ → S → W) where
  -- What is asked of a store: `view j σ` is all that calls naming cone j see.
  pub record Separate : Type 0 where
    -- a call changes nothing that another cone sees
    pub others : (c : C) (σ : S) (j : ℕ) → ¬ (cone c ≡ j) → view j (after c σ) ≡ view j σ
    -- what a call answers, and what its cone sees afterwards, follow from what its cone sees
    pub own : (c : C) (σ τ : S) (j : ℕ) → cone c ≡ j → view j σ ≡ view j τ → (answer c σ ≡ answer c τ) × (view j (after c σ) ≡ view j (after c τ))
    -- what the cones see is all there is
    pub whole : (σ τ : S) → ((j : ℕ) → view j σ ≡ view j τ) → σ ≡ τ

  module _ (sep : Separate) where
    abbrev run : List C → S → Ended C A S
    run = run_each answer after

    abbrev answers_of : ℕ → List C → S → List (Answered C A)
    answers_of j cs σ = naming (λ t. cone t.call) j (run cs σ).answers

    -- what cone j's calls are answered, and what it sees at the end, is as if they were made alone
    alone : (j : ℕ) (cs : List C) (σ τ : S) → view j σ ≡ view j τ → (answers_of j cs σ ≡ answers_of j (naming cone j cs) τ) × (view j (run cs σ).store ≡ view j (run (naming cone j cs) τ).store)
    alone j [] σ τ e = (refl, e)
    alone j (c ∷ cs) σ τ e = go (eqb (cone c) j) refl (alone j cs)
      where
        go : (t : Bool) → eqb (cone c) j ≡ t
            → ((σ τ : S) → view j σ ≡ view j τ → (answers_of j cs σ ≡ answers_of j (naming cone j cs) τ) × (view j (run cs σ).store ≡ view j (run (naming cone j cs) τ).store))
            → (cond t (record { call = c; answer = answer c σ } ∷ answers_of j cs (after c σ)) (answers_of j cs (after c σ)) ≡ answers_of j (cond t (c ∷ naming cone j cs) (naming cone j cs)) τ)
            × (view j (run cs (after c σ)).store ≡ view j (run (cond t (c ∷ naming cone j cs) (naming cone j cs)) τ).store)
        go true h ih =
            let here = sep.own c σ τ j (eqb-true _ _ h) e in
            let later = ih (after c σ) (after c τ) here.1 in
            (rw (h, here.0, later.0), later.1)
        go false h ih = ih (after c σ) τ (sep.others c σ j (eqb-false _ _ h) ∙ e)

    -- rearranged with each cone's own order kept, calls are answered the same, cone by cone, and leave the same store
    pub rearranged : (cs ds : List C) (σ : S) → Rearranged cone cs ds → ((j : ℕ) → answers_of j cs σ ≡ answers_of j ds σ) × ((run cs σ).store ≡ (run ds σ).store)
    rearranged cs ds σ h = (
      λ j. (alone j cs σ σ refl).0 ∙ ap (λ es. answers_of j es σ) (h j) ∙ sym (alone j ds σ σ refl).0,
      sep.whole _ _ (λ j. (alone j cs σ σ refl).1 ∙ ap (λ es. view j (run es σ).store) (h j) ∙ sym (alone j ds σ σ refl).1),
    )

    -- what a cone sees that no call names
    pub unnamed : (j : ℕ) (cs : List C) (σ : S) → naming cone j cs ≡ [] → view j (run cs σ).store ≡ view j σ
    unnamed j cs σ h = (alone j cs σ σ refl).1 ∙ ap (λ es. view j (run es σ).store) h

-- swaps of neighbours that name different cones keep each cone's own order
module _ {C : Type 0} (cone : C → ℕ) where
  pub swapped : {cs ds : List C} → Swapped cone cs ds → Rearranged cone cs ds
  swapped (swap {c} {d} {cs} n) j = go (eqb (cone c) j) (eqb (cone d) j) refl refl
    where
      go : (s t : Bool) → eqb (cone c) j ≡ s → eqb (cone d) j ≡ t
          → cond s (c ∷ cond t (d ∷ naming cone j cs) (naming cone j cs)) (cond t (d ∷ naming cone j cs) (naming cone j cs))
          ≡ cond t (d ∷ cond s (c ∷ naming cone j cs) (naming cone j cs)) (cond s (c ∷ naming cone j cs) (naming cone j cs))
      go true true h h' = absurd (n (eqb-true _ _ h ∙ sym (eqb-true _ _ h')))
      go true false h h' = refl
      go false t h h' = refl
  swapped same j = refl
  swapped (behind {c} h) j = ap (λ es. cond (eqb (cone c) j) (c ∷ es) es) (swapped h j)
  swapped (further h h') j = swapped h j ∙ swapped h' j

-- where cone k's only call is f k, any order of the cones is a rearrangement
module _ {C : Type 0} (cone : C → ℕ) (f : ℕ → C) (at : (k : ℕ) → cone (f k) ≡ k) where
  repeated : (j : ℕ) (ks : List ℕ) → naming cone j (map f ks) ≡ replicate (count ℕ_discrete j ks) (f j)
  repeated j [] = refl
  repeated j (k ∷ ks) = subst⁻¹ (λ i. cond (eqb i j) (f k ∷ naming cone j (map f ks)) (naming cone j (map f ks)) ≡ replicate (count ℕ_discrete j (k ∷ ks)) (f j)) (at k) (go (ℕ_discrete k j) (repeated j ks))
    where
      go : (t : Dec (k ≡ j)) → naming cone j (map f ks) ≡ replicate (count ℕ_discrete j ks) (f j)
          → cond (eqb k j) (f k ∷ naming cone j (map f ks)) (naming cone j (map f ks)) ≡ replicate (ite t (suc (count ℕ_discrete j ks)) (count ℕ_discrete j ks)) (f j)
      go (yes e) rest = rw (eq-eqb k j e) (ap₂ (λ i l. f i ∷ l) e rest)
      go (no n) rest = rw (ne_eqb k j n) rest

  pub permuted : (ks js : List ℕ) → Perm ks js → (j : ℕ) → naming cone j (map f ks) ≡ naming cone j (map f js)
  permuted ks js p j = repeated j ks ∙ ap (λ n. replicate n (f j)) (Perm.count-eq ℕ_discrete p j) ∙ sym (repeated j js)

-- ---- a list is known from the order of its names, and from those of each name

pair : {A : Type 0} (t : Bool) (x y : A) (l m : List A) → cond t (x ∷ l) l ≡ cond t (y ∷ m) m → (t ≡ true → x ≡ y) × (l ≡ m)
pair true x y l m e = (λ h. head-eq_of_cons-eq e, tail-eq_of_cons-eq e)
pair false x y l m e = (λ h. absurd (false≢true h), e)

pub by_names : {A : Type 0} (name : A → ℕ) (xs ys : List A) → map name xs ≡ map name ys → ((j : ℕ) → naming name j xs ≡ naming name j ys) → xs ≡ ys
by_names name [] [] e h = refl
by_names name [] (y ∷ ys) e h = absurd (nil≢cons e)
by_names name (x ∷ xs) [] e h = absurd (nil≢cons (sym e))
by_names name (x ∷ xs) (y ∷ ys) e h = ap₂ ◌∷◌ ((both (name x)).0 (eq-eqb (name x) (name x) refl)) (by_names name xs ys (tail-eq_of_cons-eq e) (λ j. (both j).1))
  where
    both : (j : ℕ) → (eqb (name x) j ≡ true → x ≡ y) × (naming name j xs ≡ naming name j ys)
    both j = pair (eqb (name x) j) x y _ _ (subst⁻¹ (λ i. naming name j (x ∷ xs) ≡ cond (eqb i j) (y ∷ naming name j ys) (naming name j ys)) (head-eq_of_cons-eq e) (h j))
