-- The scaling of a whole list is its single scalings, made one by one (document 02, item 1), and in any order where all answer true. Assumes nothing.
use Prim.Native.Nat.{ℕ, zero, suc, ◌+◌, ◌≤◌, ◌<◌}
use native.Mathlib.Omega.{arith}
use mathlib.Core.Path.{◌≡◌, refl, sym, ap, ap₂, ◌∙◌, fun_ext, subst}
use mathlib.Core.Bool.{Bool, true, false, cond}
use mathlib.Core.List.{List, [], ◌∷◌, ◌++◌, map, Perm}
use borrow.Author.Tests.{ne_eqb, lt-ltb}
use lib.Dec.{ltb}
use lib.ListN.{length}
use lib.Ieee.{Float}
use Rattle.answers.specs.Refusal.{◌⊳◌, unlike}
use Rattle.answers.specs.Outcome.{Reply, truth, Scaled, all_true, false_at, Ruling, gives, refuses, Outcome, call_of, Gives, tells, ◌⨾◌}
use Rattle.answers.proofs.Laws.{clear_both}
use Rattle.conelist.specs.declared.Cone.{Cone}
use Rattle.conelist.specs.declared.Place.{Place}
use Rattle.conelist.specs.Layout.{bad_list, bad_place, bad_records, laid_at, found_of, place_of, fit_all}
use Rattle.conewalk.proofs.Laid.{spot}
use Rattle.conecalls.specs.Deed.{real, mark, per_entry, per_cone, per_block, owns, Numbers, lengths_of, tests_of, refusal_of, works, comes}
use Rattle.conecalls.proofs.Own.{lengths_kept}
use Rattle.list_scaling.specs.Scaling.{is_true, update_scaling_deed, lengths_at}
use Rattle.sequences.specs.Rearranged.{naming, Ended}
use Rattle.sequences.specs.Local as local
use Rattle.sequences.specs.Local.{Name, called, Store, Outside, after_of}
use Rattle.sequences.proofs.Local.{picked_all, view, same_owns, separate}
use Rattle.sequences.proofs.Rearrange.{unnamed, permuted, by_names}
use Rattle.whole_scaling.specs.List.{Written, behind_of, singly_of, unless, list_update_scaling}
use Rattle.orders.specs.Calls.{update_scaling, Request, task_of, names, run_all}
use Rattle.orders.specs.Scaled.{scale, holding, counted, told_of}
use Rattle.orders.proofs.Demand3.{keeps, any_order}
use Rattle.orders.proofs.Truth.{truthful}

-- ---- a single call

-- over such a store it leaves such a store
stored : (p : Place) (k : ℕ) (ys : Written) (s z : List Float) → after_of p (task_of (scale k)) (holding ys s z) ≡ holding (comes p update_scaling_deed ys (s ⨾ z ⨾ tt)).holds s z
stored p k ys s z = let news : Written = (comes p update_scaling_deed ys (s ⨾ z ⨾ tt)).holds in fun_ext (λ a. picked_all (holding ys s z) (holding news s z) a update_scaling_deed.writes (scale k).writes (outside news a))
  where
    outside : (news : Written) (a : Name) → Outside a update_scaling_deed.writes (scale k).writes → holding ys s z a ≡ holding news s z a
    outside news (called (per_entry real) zero) o = absurd (o.0 refl)
    outside news (called (per_entry real) (suc zero)) o = absurd (o.1.0 refl)
    outside news (called (per_entry real) (suc (suc zero))) o = absurd (o.1.1.0 refl)
    outside news (called (per_entry real) (suc (suc (suc zero)))) o = absurd (o.1.1.1.0 refl)
    outside news (called (per_entry real) (suc (suc (suc (suc n))))) o = refl
    outside news (called (per_cone real) zero) o = absurd (o.1.1.1.1.0 refl)
    outside news (called (per_cone real) (suc zero)) o = absurd (o.1.1.1.1.1.0 refl)
    outside news (called (per_cone real) (suc (suc n))) o = refl
    outside news (called (per_block real) n) o = refl
    outside news (called (per_entry mark) n) o = refl
    outside news (called (per_cone mark) zero) o = absurd (o.1.1.1.1.1.1.0 refl)
    outside news (called (per_cone mark) (suc n)) o = refl
    outside news (called (per_block mark) n) o = refl

module _ (list : List Cone) (s z : List Float) where
  abbrev came : ℕ → Written → Outcome Reply Written
  came k ys = comes (place_of list k) update_scaling_deed ys (s ⨾ z ⨾ tt)

  abbrev run : List ℕ → Written → Ended Request (local.Reply task_of) Store
  run ks ys = run_all list (map scale ks) (holding ys s z)

  -- behind a first call that answers t
  abbrev led : Bool → ℕ → Ended Request (local.Reply task_of) Store → Ended Request (local.Reply task_of) Store
  led t k o = record { answers = told_of t k ∷ o.answers; store = o.store }

  -- a first call that answers t and leaves news
  module _ (k : ℕ) (ys news : Written) (t : Bool) (e : came k ys ≡ tells (gives (truth t)) news) where
    left_by : after_of (place_of list k) (task_of (scale k)) (holding ys s z) ≡ holding news s z
    left_by = stored (place_of list k) k ys s z ∙ ap (λ o. holding o.holds s z) e

    first : (ks : List ℕ) → run (k ∷ ks) ys ≡ led t k (run ks news)
    first ks =
        ap₂ (λ (a : Ruling Reply) (σ : Store). let rest = run_all list (map scale ks) σ in
        record { answers = record { call = scale k; answer = a } ∷ rest.answers; store = rest.store }) (ap (λ o. o.ruling) e) left_by

    same_long : lengths_of update_scaling_deed.writes news ≡ lengths_of update_scaling_deed.writes ys
    same_long = sym (ap (λ o. lengths_of update_scaling_deed.writes o.holds) e) ∙ lengths_kept (place_of list k) update_scaling_deed (keeps update_scaling) ys (s ⨾ z ⨾ tt)

  -- the refusal's number, by the buffers' lengths
  abbrev five : Place → Numbers update_scaling_deed.writes → ℕ
  five p ns = unlike (fit_all (tests_of p update_scaling_deed.writes ns ++ tests_of p update_scaling_deed.reads (lengths_of update_scaling_deed.reads (s ⨾ z ⨾ tt))))

  abbrev number : Written → ℕ
  number ys = bad_list list ⊳ five (laid_at list 0) (lengths_of update_scaling_deed.writes ys)

  -- where it is 0, no single call of the list's cones is refused
  abbrev no : ℕ → Written → ℕ
  no k ys = refusal_of (place_of list k) update_scaling_deed (lengths_of update_scaling_deed.writes ys) (lengths_of update_scaling_deed.reads (s ⨾ z ⨾ tt)) (owns (place_of list k) update_scaling_deed.writes ys) (owns (place_of list k) update_scaling_deed.reads (s ⨾ z ⨾ tt))

  clear : (k : ℕ) (ys : Written) → k < length list → number ys ≡ 0 → no k ys ≡ 0
  unfolding place_of ◌⊳◌
  clear k ys l e =
      let r = clear_both (bad_list list) (five (laid_at list 0) (lengths_of update_scaling_deed.writes ys)) e in
      let c = clear_both (cond (ltb 256 (length list)) 2 0) (bad_records 0 list) r.0 in
      let here : bad_place list k ≡ 0 = rw (c.0, c.1, lt-ltb k (length list) l) in
      let placed : place_of list k ≡ laid_at list k = ap (λ n. found_of n (laid_at list k)) here in
      ap (λ n. n ⊳ five (place_of list k) (lengths_of update_scaling_deed.writes ys)) (spot list k ∙ here) ∙ ap (λ p. five p (lengths_of update_scaling_deed.writes ys)) placed ∙ r.1

  -- what so many single calls from cone k on come to, from what the buffers hold, by the ruling and what they then hold
  abbrev Ends : (left k : ℕ) → Written → Ruling Scaled → Written → Type 0
  Ends left k ys (gives all_true) news = run (counted left k) ys ≡ record { answers = map (told_of true) (counted left k); store = holding news s z }
  Ends left k ys (gives (false_at j)) news =
      (m : ℕ) × (m + k ≡ j) × (m < left) × (run (counted (suc m) k) ys ≡ record { answers = map (told_of true) (counted m k) ++ (told_of false j ∷ []); store = holding news s z })
  Ends left k ys (refuses n) news = left + k ≤ length list → number ys ≡ 0 → ⊥

  abbrev EndsAs : (left k : ℕ) → Written → Outcome Scaled Written → Type 0
  EndsAs left k ys o = Ends left k ys o.ruling o.holds

  -- behind a first call that answers true
  further : (left k : ℕ) (ys next : Written) → came k ys ≡ tells (gives (truth true)) next → (r : Ruling Scaled) (news : Written) → Ends left (suc k) next r news → Ends (suc left) k ys r news
  further left k ys next e (gives all_true) news h = first k ys next true e (counted left (suc k)) ∙ ap (led true k) h
  further left k ys next e (gives (false_at j)) news h =
      (suc h.0, omega (arith, h.1), omega (arith, h.2), first k ys next true e (counted (suc h.0) (suc k)) ∙ ap (led true k) h.3)
  further left k ys next e (refuses n) news h =
      λ l f. h (omega arith)
      (ap (λ ns. bad_list list ⊳ five (laid_at list 0) ns) (same_long k ys next true e) ∙ f)

  singly : (left k : ℕ) (ys : Written) → EndsAs left k ys (singly_of list s z left k ys)
  unfolding call_of behind_of
  singly zero k ys = refl
  singly (suc left) k ys = go (no k ys) refl (singly left (suc k))
    where
      rest : Written → Outcome Scaled Written
      rest = singly_of list s z left (suc k)

      does : Gives Reply Written
      does = works (place_of list k) update_scaling_deed ys (s ⨾ z ⨾ tt)

      answered : (t : Bool) → no k ys ≡ 0 → is_true does.reply ≡ t → came k ys ≡ tells (gives (truth t)) does.news
      answered t e f = ap (λ n. call_of n does.reply ys does.news) e ∙ ap (λ r. tells (gives r) does.news) (truthful _ _ _ _ _ _ _ _ _ ∙ ap truth f)

      go : (n : ℕ) → no k ys ≡ n → ((news : Written) → EndsAs left (suc k) news (rest news))
          → let o = call_of n does.reply ys does.news in EndsAs (suc left) k ys (behind_of k o.ruling o.holds rest)
      go zero e again = by_truth (is_true does.reply) refl
        where
          by_truth : (t : Bool) → is_true does.reply ≡ t → EndsAs (suc left) k ys (cond t (rest does.news) (tells (gives (false_at k)) does.news))
          by_truth true f = further left k ys does.news (answered true e f) (rest does.news).ruling (rest does.news).holds (again does.news)
          by_truth false f = (0, omega arith, omega arith, first k ys does.news false (answered false e f) [])
      go (suc n) e again = λ l f. absurd (omega (arith, e, clear k ys (omega arith) f))

-- ---- the theorems: for any list, and any contents of the buffers

-- the first so many cones are not those behind them
passed : (left k j : ℕ) → left + k ≤ j → naming names j (map scale (counted left k)) ≡ []
passed zero k j h = refl
passed (suc left) k j h = rw (ne_eqb k j (λ q. omega arith)) (passed left (suc k) j (omega arith))

-- a run asks as it is told to
asked : (list : List Cone) (ks : List ℕ) (σ : Store) → map (λ t. names t.call) (run_all list (map scale ks) σ).answers ≡ map (λ t. names t.call) (map (told_of true) ks)
asked list [] σ = refl
asked list (k ∷ ks) σ = ap (λ l. k ∷ l) (asked list ks _)

module _ (list : List Cone) (s z w lambda u v η d : List Float) (marks : List ℕ) where
  abbrev held : Written
  held = w ⨾ lambda ⨾ u ⨾ v ⨾ η ⨾ d ⨾ marks ⨾ tt

  abbrev scaled : Outcome Scaled Written
  scaled = list_update_scaling list s z w lambda u v η d marks

  ruled : (r : Ruling Scaled) → scaled.ruling ≡ r → Ends list s z (length list) 0 held r scaled.holds
  unfolding unless
  ruled r e = subst (λ r. Ends list s z (length list) 0 held r scaled.holds) e (go (number list s z held) refl)
    where
      go : (n : ℕ) → number list s z held ≡ n → EndsAs list s z (length list) 0 held (unless n held (singly_of list s z (length list) 0 held))
      go zero e = singly list s z (length list) 0 held
      go (suc n) e = λ l f. absurd (omega arith)

  -- "Buffers and answer equal the single calls made one by one": all cones answer true
  pub every_true : scaled.ruling ≡ gives all_true
      → run_all list (map scale (counted (length list) 0)) (holding held s z) ≡ record { answers = map (told_of true) (counted (length list) 0); store = holding scaled.holds s z }
  every_true e = ruled (gives all_true) e

  -- "up to and including that cone": those before it answer true, and it answers false
  pub named : (k : ℕ) → scaled.ruling ≡ gives (false_at k)
      → (k < length list)
      × (run_all list (map scale (counted (suc k) 0)) (holding held s z) ≡ record { answers = map (told_of true) (counted k 0) ++ (told_of false k ∷ []); store = holding scaled.holds s z })
  named k e =
      let r = ruled (gives (false_at k)) e in
      let m : r.0 ≡ k = omega (arith, r.1) in
      subst (λ m. (m < length list) × (run_all list (map scale (counted (suc m) 0)) (holding held s z) ≡ record { answers = map (told_of true) (counted m 0) ++ (told_of false k ∷ []); store = holding scaled.holds s z })) m (r.2, r.3)

  -- "later cones are untouched": each keeps its own range of every buffer
  pub later_kept : (k j : ℕ) → scaled.ruling ≡ gives (false_at k) → k < j → owns (laid_at list j) update_scaling_deed.writes scaled.holds ≡ owns (laid_at list j) update_scaling_deed.writes held
  later_kept k j e l =
      same_owns list (task_of (scale j)) (keeps update_scaling) (holding scaled.holds s z) (holding held s z)
      (sym (ap (λ o. view list j o.store) (named k e).1)
      ∙ unnamed _ _ _ (view list) (separate list task_of (λ r. keeps r.call)) j (map scale (counted (suc k) 0)) (holding held s z) (passed (suc k) 0 j (omega arith))) update_scaling_deed.writes (scale j).writes

  -- "Refusals: as for a single scaling, without 4": the list's and 5 are all there are, and no single call is refused in the middle
  pub unrefused : bad_list list ⊳ unlike (fit_all (lengths_at (laid_at list 0) s z w lambda u v η d marks)) ≡ 0 → (n : ℕ) → ¬ (scaled.ruling ≡ refuses n)
  unrefused e n q = ruled (refuses n) q (omega arith) e

  -- where every cone answers true, the single calls may be made in any order (demand 3)
  pub any_order_ends : scaled.ruling ≡ gives all_true → (ks : List ℕ) → Perm ks (counted (length list) 0)
      → run_all list (map scale ks) (holding held s z) ≡ record { answers = map (told_of true) ks; store = holding scaled.holds s z }
  any_order_ends e ks p =
      let in_turn : List ℕ = counted (length list) 0 in
      let moved = any_order list (holding held s z) (map scale ks) (map scale in_turn) (permuted names scale (λ k. refl) ks in_turn p) in
      ap₂ (λ answers σ. record { answers = answers; store = σ })
      (by_names (λ t. names t.call) _ (map (told_of true) ks) (asked list ks (holding held s z))
      (λ j. moved.0 j ∙ ap (λ o. naming (λ t. names t.call) j o.answers) (every_true e) ∙ sym (permuted (λ t. names t.call) (told_of true) (λ k. refl) ks in_turn p j)))
      (moved.1 ∙ ap (λ o. o.store) (every_true e))
