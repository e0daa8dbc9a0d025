-- "No half-written scaling" (document 02, item 4): after any sequence of calls a cone's scaling holds what the last call that set it gave. Assumes nothing.
use Prim.Native.Nat.{ℕ, zero, suc, ◌+◌, ◌≤◌}
use native.Mathlib.Decide.{ℕ_discrete}
use native.Mathlib.Omega.{arith}
use mathlib.Core.Path.{◌≡◌, refl, sym, ap, ap₂, ◌∙◌, subst, subst⁻¹, subst⁻¹_refl}
use mathlib.Core.Bool.{Bool, true, false, cond}
use mathlib.Core.List.{List, [], ◌∷◌, ◌++◌, map}
use lib.ListN.{take, drop, take-append-drop}
use lib.Seq.{set-get_or}
use lib.Ieee.{Float}
use Rattle.answers.specs.Outcome.{Reply, done, truth, false_at, gives, refuses, Gives, ◌⨾◌}
use Rattle.answers.proofs.Laws.{and_more}
use Rattle.conelist.specs.declared.Cone.{Cone}
use Rattle.conelist.specs.declared.Place.{Place}
use Rattle.conelist.specs.Layout.{dim, block_dim, kind_of_cone, laid_at, place_of, part_of, with_part}
use Rattle.ordering.proofs.Least.{All}
use Rattle.marks.specs.Mark.{identity_mark, scaled_mark, unset}
use Rattle.conecalls.specs.Deed.{blank, mark, Buffer, per_entry, per_cone, per_block, Whole, Range, Tuple, own_of, back_of, owns, backs_of, Numbers, ruled}
use Rattle.conecalls.specs.Marked.{append}
use Rattle.list_identity.specs.Identity.{set_identity_scaling_deed}
use Rattle.list_scaling.specs.Scaling.{is_true, update_scaling_unmarked, update_scaling_deed}
use Rattle.sequences.specs.Local.{Store, fetch, comes_to, after_of}
use Rattle.sequences.proofs.Local.{outside, left_all, Ending, refusing, giving, ending, same_owns, separate}
use Rattle.orders.specs.Calls.{set_identity_scaling, update_scaling, deed_of, Request, task_of, names, meets_of, run_all}
use Rattle.orders.specs.Scaled.{seven, scaling, scale, holding, counted, told_of}
use Rattle.orders.specs.Marks.{identity, Spares, Orderly, scales, resets, spares, Reported, true_scaling, done_identity, Sets, by_scaling, by_identity, Quiet, kept_of, mark_at, scaled_from, identity_from, LastSet}
use Rattle.whole_scaling.specs.List.{list_update_scaling}
use Rattle.orders.proofs.Demand3.{keeps}
use Rattle.orders.proofs.Scaled as whole
use Rattle.orders.proofs.Truth.{truthful, false_keeps}

-- ---- what is written is read back: under each of the names, and where a range is put back as it was

put : {A : Type 0} (x : A) → subst⁻¹ {A = Unit {0}} (λ u. A) refl x ≡ x
put {A} x = subst⁻¹_refl {A = Unit {0}} (λ u. A) {x = tt} x

module _ (p : Place) (k : ℕ) (σ : Store) where
  scaling_there : (s z : ℕ) → fetch (after_of p (task_of (scaling k s z)) σ) update_scaling_deed.writes seven ≡ (comes_to p (task_of (scaling k s z)) σ).holds
  unfolding ℕ_discrete
  scaling_there s z = and_more (put _) (and_more (put _) (and_more (put _) (and_more (put _) (and_more (put _) (and_more (put _) (and_more (put _) refl))))))

  identity_there : let holds : Tuple Whole set_identity_scaling_deed.writes = (comes_to p (task_of (identity k)) σ).holds in
      fetch (after_of p (task_of (identity k)) σ) update_scaling_deed.writes seven ≡ holds.0 ⨾ (fetch σ update_scaling_deed.writes seven).1.0 ⨾ holds.1
  unfolding ℕ_discrete
  identity_there = and_more (put _) (and_more refl (and_more (put _) (and_more (put _) (and_more (put _) (and_more (put _) (and_more (put _) refl))))))

back_own : (p : Place) (b : Buffer) (y : Whole b) → back_of p b y (own_of p b y) ≡ y
unfolding part_of with_part
back_own p (per_entry e) y = ap (λ r. take p.start y ++ r) (take-append-drop (dim p.kind) (drop p.start y)) ∙ take-append-drop p.start y
back_own p (per_cone e) y = set-get_or y p.index (blank e)
back_own p (per_block e) y = ap (λ r. take p.block y ++ r) (take-append-drop (block_dim p.kind) (drop p.block y)) ∙ take-append-drop p.block y

backs_own : (p : Place) (bs : List Buffer) (ys : Tuple Whole bs) → backs_of p bs ys (owns p bs ys) ≡ ys
backs_own p [] ys = refl
backs_own p (b ∷ bs) ys = and_more (back_own p b ys.0) (backs_own p bs ys.1)

abbrev mark_of : Tuple Range update_scaling_deed.writes → ℕ
mark_of r = r.1.1.1.1.1.1.0

-- ---- which calls set nothing: one that names another cone, one that writes none of the seven buffers, a refused one, and a false scaling

named : (k : ℕ) (t : Reported) → Sets k t → names t.call ≡ k
named k t (by_scaling s z) = refl
named k t by_identity = refl

spared : (k : ℕ) (t : Reported) → Spares t.call update_scaling_deed.writes seven → ¬ Sets k t
spared k t h (by_scaling s z) = h.0.0 refl
spared k t h by_identity = h.0.0 refl

no_scaling : (k j s z n : ℕ) → ¬ Sets k (record { call = scaling j s z; answer = refuses n })
no_scaling k j s z n t = elim t [ ]

false_scaling : (k j s z : ℕ) → ¬ Sets k (record { call = scaling j s z; answer = gives (truth false) })
false_scaling k j s z t = elim t [ ]

no_identity : (k j n : ℕ) → ¬ Sets k (record { call = identity j; answer = refuses n })
no_identity k j n t = elim t [ ]

-- ---- what a call does to the scaling of cone k

module _ (list : List Cone) (k : ℕ) where
  abbrev after : Request → Store → Store
  after r σ = (run_all list (r ∷ []) σ).store

  abbrev told : Request → Store → Reported
  told r σ = record { call = r; answer = (meets_of list r σ).ruling }

  -- it is the cone's true scaling, or its identity scaling, and gives what it should; or it sets nothing, and the scaling stays
  data Does (σ : Store) : Request → Type 0 where
    scaled : (s z : ℕ) → (meets_of list (scaling k s z) σ).ruling ≡ gives (truth true) → kept_of list k (after (scaling k s z) σ) ≡ scaled_from list k s z σ
        → mark_at list k (after (scaling k s z) σ) ≡ scaled_mark → Does σ (scaling k s z)
    reset : (meets_of list (identity k) σ).ruling ≡ gives done → kept_of list k (after (identity k) σ) ≡ identity_from list k σ → Does σ (identity k)
    leaves : (r : Request) → ¬ Sets k (told r σ) → kept_of list k (after r σ) ≡ kept_of list k σ → Does σ r

  -- a call on another cone
  apart : (r : Request) (σ : Store) → ¬ (names r ≡ k) → Does σ r
  apart r σ n =
      leaves r (λ t. n (named k _ t))
      (same_owns list (task_of (scaling k 0 0)) (keeps update_scaling) (after r σ) σ ((separate list task_of (λ r. keeps r.call)).others r σ k n) update_scaling_deed.writes seven)

  -- a call that writes elsewhere
  elsewhere : (r : Request) (σ : Store) → Spares r update_scaling_deed.writes seven → Does σ r
  elsewhere r σ h = leaves r (spared k _ h) (ap (owns (laid_at list k) update_scaling_deed.writes) (go update_scaling_deed.writes seven h))
    where
      go : (bs : List Buffer) (ns : Numbers bs) → Spares r bs ns → fetch (after r σ) bs ns ≡ fetch σ bs ns
      go [] ns h = refl
      go (b ∷ bs) ns h = and_more (outside _ (deed_of r.call).writes r.writes _ _ h.0) (go bs ns.1 h.1)

  -- a scaling of the cone itself
  scaling_does : (s z : ℕ) (σ : Store) → Does σ (scaling k s z)
  scaling_does s z σ = go (ending list (task_of (scaling k s z)) (keeps update_scaling) σ)
    where
      does : Gives Reply (Tuple Range update_scaling_deed.writes)
      does = ruled update_scaling_deed (kind_of_cone list k) (kept_of list k σ) (owns (laid_at list k) update_scaling_deed.reads (fetch σ update_scaling_deed.reads (s ⨾ z ⨾ tt)))

      -- where the rule answers false, it gives what was there
      same : is_true does.reply ≡ false → does.news ≡ kept_of list k σ
      same e = ap₂ (λ n t. append Range (per_cone mark) update_scaling_unmarked.writes n (cond t scaled_mark (mark_at list k σ))) (false_keeps _ _ _ _ _ _ _ _ _ e) e

      by_truth : (t : Bool) → is_true does.reply ≡ t → (meets_of list (scaling k s z) σ).ruling ≡ gives does.reply
          → (meets_of list (scaling k s z) σ).holds ≡ backs_of (laid_at list k) update_scaling_deed.writes (fetch σ update_scaling_deed.writes seven) does.news
          → owns (laid_at list k) update_scaling_deed.writes (meets_of list (scaling k s z) σ).holds ≡ does.news → Does σ (scaling k s z)
      by_truth true e a h o =
          let kept : kept_of list k (after (scaling k s z) σ) ≡ does.news = ap (owns (laid_at list k) update_scaling_deed.writes) (scaling_there (place_of list k) k σ s z) ∙ o in
          scaled s z (a ∙ ap gives (truthful _ _ _ _ _ _ _ _ _ ∙ ap truth e)) kept (ap mark_of kept ∙ ap (λ t. cond t scaled_mark (mark_at list k σ)) e)
      by_truth false e a h o =
          leaves (scaling k s z)
          (subst (λ a. ¬ Sets k (record { call = scaling k s z; answer = a })) (sym (a ∙ ap gives (truthful _ _ _ _ _ _ _ _ _ ∙ ap truth e))) (false_scaling k k s z))
          (ap (kept_of list k) (left_all (place_of list k) (task_of (scaling k s z)) σ (h ∙ ap (backs_of (laid_at list k) update_scaling_deed.writes (fetch σ update_scaling_deed.writes seven)) (same e) ∙ backs_own (laid_at list k) update_scaling_deed.writes (fetch σ update_scaling_deed.writes seven))))

      go : Ending list (task_of (scaling k s z)) (keeps update_scaling) σ (place_of list k) → Does σ (scaling k s z)
      go (refusing n a e) = leaves (scaling k s z) (subst (λ a. ¬ Sets k (record { call = scaling k s z; answer = a })) (sym a) (no_scaling k k s z n)) (ap (kept_of list k) e)
      go (giving a h o) = by_truth (is_true does.reply) refl a h o

  -- an identity scaling of the cone itself
  identity_does : (σ : Store) → Does σ (identity k)
  identity_does σ = go (ending list (task_of (identity k)) (keeps set_identity_scaling) σ)
    where
      go : Ending list (task_of (identity k)) (keeps set_identity_scaling) σ (place_of list k) → Does σ (identity k)
      go (refusing n a e) = leaves (identity k) (subst (λ a. ¬ Sets k (record { call = identity k; answer = a })) (sym a) (no_identity k k n)) (ap (kept_of list k) e)
      go (giving a h o) = reset a (ap (owns (laid_at list k) update_scaling_deed.writes) (identity_there (place_of list k) k σ) ∙ ap (λ (n : Tuple Range set_identity_scaling_deed.writes). n.0 ⨾ (kept_of list k σ).1.0 ⨾ n.1) o)

  by_case : (r : Request) (σ : Store) → Orderly r → Does σ r
  by_case r σ (scales j s z) = go (ℕ_discrete j k)
    where
      go : Dec (j ≡ k) → Does σ (scaling j s z)
      go (yes e) = subst (λ i. Does σ (scaling i s z)) (sym e) (scaling_does s z σ)
      go (no n) = apart (scaling j s z) σ n
  by_case r σ (resets j) = go (ℕ_discrete j k)
    where
      go : Dec (j ≡ k) → Does σ (identity j)
      go (yes e) = subst (λ i. Does σ (identity i)) (sym e) (identity_does σ)
      go (no n) = apart (identity j) σ n
  by_case r σ (spares q h) = elsewhere q σ h

  -- ---- the theorems, for any list, any contents and any sequence of calls that are each orderly

  -- a scaling that no call set holds what it held: refused calls, false scalings, calls on other cones and calls that write elsewhere leave it
  pub untouched : (cs : List Request) (σ : Store) → All Orderly cs → Quiet k (run_all list cs σ).answers → kept_of list k (run_all list cs σ).store ≡ kept_of list k σ
  untouched [] σ os q = refl
  untouched (c ∷ cs) σ os q = untouched cs (after c σ) os.1 q.1 ∙ go (by_case c σ os.0) q.0
    where
      go : {r : Request} → Does σ r → ¬ Sets k (told r σ) → kept_of list k (after r σ) ≡ kept_of list k σ
      go (scaled s z a kept m) n = absurd (n (subst (λ a. Sets k (record { call = scaling k s z; answer = a })) (sym a) (by_scaling s z)))
      go (reset a kept) n = absurd (n (subst (λ a. Sets k (record { call = identity k; answer = a })) (sym a) by_identity))
      go (leaves r n kept) m = kept

  -- no call set it, or one was the last, and the mark says which
  data Found (cs : List Request) (σ : Store) : Type 0 where
    none : Quiet k (run_all list cs σ).answers → Found cs σ
    scaled_last : (s z : ℕ) → LastSet list k cs σ (true_scaling k s z) (scaled_from list k s z) → mark_at list k (run_all list cs σ).store ≡ scaled_mark → Found cs σ
    identity_last : LastSet list k cs σ (done_identity k) (identity_from list k) → mark_at list k (run_all list cs σ).store ≡ identity_mark → Found cs σ

  further : (c : Request) (cs : List Request) (σ : Store) (t : Reported) (gave : Store → Tuple Range update_scaling_deed.writes) → LastSet list k cs (after c σ) t gave → LastSet list k (c ∷ cs) σ t gave
  further c cs σ t gave l =
      record { before = c ∷ l.before; behind = l.behind; parts = ap (λ ds. c ∷ ds) l.parts; answered = l.answered; quiet = l.quiet; kept = l.kept }

  find : (cs : List Request) (σ : Store) → All Orderly cs → Found cs σ
  find [] σ os = none tt
  find (c ∷ cs) σ os = go (by_case c σ os.0) (find cs (after c σ) os.1)
    where
      go : {r : Request} → Does σ r → Found cs (after r σ) → Found (r ∷ cs) σ
      go {r} does (scaled_last s z l m) = scaled_last s z (further r cs σ _ _ l) m
      go {r} does (identity_last l m) = identity_last (further r cs σ _ _ l) m
      go (scaled s z a kept m) (none q) =
          let same = untouched cs (after (scaling k s z) σ) os.1 q in
          scaled_last s z (record { before = []; behind = cs; parts = refl; answered = a; quiet = q; kept = same ∙ kept }) (ap mark_of same ∙ m)
      go (reset a kept) (none q) =
          let all = untouched cs (after (identity k) σ) os.1 q ∙ kept in
          identity_last (record { before = []; behind = cs; parts = refl; answered = a; quiet = q; kept = all }) (ap mark_of all)
      go (leaves r n kept) (none q) = none (n, q)

  -- where none set it, a cone that was Fresh still is
  still : (cs : List Request) (σ : Store) → All Orderly cs → Quiet k (run_all list cs σ).answers → unset (mark_at list k σ) ≡ 8 → unset (mark_at list k (run_all list cs σ).store) ≡ 8
  still cs σ os q f = ap (λ r. unset (mark_of r)) (untouched cs σ os q) ∙ f

  -- a cone that was Fresh and is marked Scaled holds what its last true scaling gave, and no call has set it since
  pub is_scaled : (cs : List Request) (σ : Store) → All Orderly cs → unset (mark_at list k σ) ≡ 8 → mark_at list k (run_all list cs σ).store ≡ scaled_mark
      → (s : ℕ) × (z : ℕ) × LastSet list k cs σ (true_scaling k s z) (scaled_from list k s z)
  unfolding unset
  is_scaled cs σ os f m = go (find cs σ os)
    where
      go : Found cs σ → (s : ℕ) × (z : ℕ) × LastSet list k cs σ (true_scaling k s z) (scaled_from list k s z)
      go (none q) = let e : unset scaled_mark ≡ 8 = ap unset (sym m) ∙ still cs σ os q f in absurd (omega (arith, e))
      go (scaled_last s z l n) = (s, z, l)
      go (identity_last l n) = absurd (omega (arith, m, n))

  -- and one that is marked Identity holds the identity's
  pub is_identity : (cs : List Request) (σ : Store) → All Orderly cs → unset (mark_at list k σ) ≡ 8 → mark_at list k (run_all list cs σ).store ≡ identity_mark
      → LastSet list k cs σ (done_identity k) (identity_from list k)
  unfolding unset
  is_identity cs σ os f m = go (find cs σ os)
    where
      go : Found cs σ → LastSet list k cs σ (done_identity k) (identity_from list k)
      go (none q) = let e : unset identity_mark ≡ 8 = ap unset (sym m) ∙ still cs σ os q f in absurd (omega (arith, e))
      go (scaled_last s z l n) = absurd (omega (arith, m, n))
      go (identity_last l n) = l

-- ---- the cone that a whole list's scaling names keeps all, as those behind it do (`later_kept`, proofs/Scaled)

orderly : (left k : ℕ) → All Orderly (map scale (counted left k))
orderly zero k = tt
orderly (suc left) k = (scales k 4 5, orderly left (suc k))

-- true scalings of cones before k, and a false one of k
quiet : (k left j : ℕ) → left + j ≤ k → Quiet k (map (told_of true) (counted left j) ++ (told_of false k ∷ []))
quiet k zero j h = (false_scaling k k 4 5, tt)
quiet k (suc left) j h = ((λ t. absurd (omega (arith, named k (told_of true j) t))), quiet k left (suc j) (omega arith))

module _ (list : List Cone) (s z w lambda u v η d : List Float) (marks : List ℕ) where
  pub named_kept : (k : ℕ) → let scaled = list_update_scaling list s z w lambda u v η d marks in
      scaled.ruling ≡ gives (false_at k) → owns (laid_at list k) update_scaling_deed.writes scaled.holds ≡ owns (laid_at list k) update_scaling_deed.writes (w ⨾ lambda ⨾ u ⨾ v ⨾ η ⨾ d ⨾ marks ⨾ tt)
  named_kept k e =
      let σ : Store = holding (w ⨾ lambda ⨾ u ⨾ v ⨾ η ⨾ d ⨾ marks ⨾ tt) s z in
      let run = (whole.named list s z w lambda u v η d marks k e).1 in
      sym (ap (λ o. kept_of list k o.store) run)
      ∙ untouched list k (map scale (counted (suc k) 0)) σ (orderly (suc k) 0) (subst (λ o. Quiet k o.answers) (sym run) (quiet k k 0 (omega arith)))
