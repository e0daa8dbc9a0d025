-- The walk comes to document 01's list step: record by record it meets the refusals in their rank, or takes each cone's steps. Assumes nothing.
use Prim.Native.Nat.{ℕ, zero, suc, ◌+◌, ◌-◌, ◌≤◌, ◌<◌}
use native.Mathlib.Omega.{arith}
use native.Mathlib.Numerals.{add-one}
use mathlib.Core.Path.{◌≡◌, refl, sym, ap, ◌∙◌}
use mathlib.Core.Bool.{Bool, true, false, cond}
use mathlib.Core.List.{List, [], ◌∷◌}
use borrow.Author.Tests.{lt-ltb, le-ltb, ltb-true, ltb-false}
use lib.Dec.{ltb}
use lib.ListN.{length, get_or, take, drop, drop_of_length-le, length-take, length-drop}
use lib.Seq.{drop-cons}
use lib.Ieee.{Float}
use mir.Syntax.{w64}
use mir.Val.{Fits as Word}
use Rattle.std.proofs.lemmas.Bool.{or_parts}
use Rattle.extrema.specs.Extrema.{least_of}
use Rattle.vecmath.specs.Vector.{fold_of}
use Rattle.walks.specs.Records.{no_cone, over_records}
use Rattle.walks.proofs.Indexed.{kind_at}
use Rattle.walks.proofs.Law.{rest, turned, ended}
use Rattle.answers.specs.Refusal.{number_of, ◌⊳◌, unlike, bad_limit, Fit}
use Rattle.answers.specs.declared.Refusal.{Refusal}
use Rattle.answers.specs.Outcome.{Reply, Ruling, gives, refuses, tells, lengths, call_of}
use Rattle.answers.proofs.Laws.{clear_both, clear_lengths, numbered, lengths_are}
use Rattle.ordering.proofs.Listed.{list_loop}
use Rattle.conelist.specs.declared.Cone.{Cone}
use Rattle.conelist.specs.Layout.{dim, least_dim, kind_of_cone, sum_before, entries_of, bad_record, bad_records, bad_list, fit_all}
use Rattle.conelist.proofs.Placed.{all_fit}
use Rattle.place_turns.proofs.Records.{good}
use Rattle.whole_step.specs.List.{step_of_cone, list_step_length}
use Rattle.whole_step.specs.declared.Walk.{Walk}
use Rattle.whole_step.specs.Walk.{step_opening, short, step_over, onward, step_further, step_closing}

-- ---- the opening and a turn

pub opened : (n : ℕ) (αmax : Float) → n ≤ 256 → step_opening n αmax ≡ gives (record { total = 0; z = αmax; s = αmax })
unfolding step_opening
opened n αmax h = rw (le-ltb 256 n h) refl

module _ (dz ds z s : List Float) (αmax : Float) where
  -- over one record more
  abbrev pub turn : Ruling Walk → Cone → Ruling Walk
  turn w c = step_further w c dz ds z s αmax

  -- a walk that was refused stays so
  stays : (cs : List Cone) (n : ℕ) → over_records turn cs (refuses n) ≡ refuses n
  unfolding step_further
  stays [] n = refl
  stays (c ∷ cs) n = stays cs n

  module _ (w : Walk) (c : Cone) where
    -- a record that is refused ends the walk, whatever is left of the list
    pub turned_away : (cs : List Cone) (r : Refusal) → number_of r ≡ bad_record w.total c → over_records turn cs (turn (gives w) c) ≡ refuses (number_of r)
    unfolding step_further
    turned_away cs r e = rw (← e) (go (number_of r) (numbered r))
      where
        go : (n : ℕ) → (n ≡ 0 → ⊥) → over_records turn cs (onward n w c.kind dz ds z s αmax) ≡ refuses n
        go zero h = absurd (h refl)
        go (suc n) h = stays cs (suc n)

    -- or the walk goes on
    pub went_on : 0 ≡ bad_record w.total c → turn (gives w) c ≡ gives (step_over w c.kind dz ds z s αmax)
    unfolding step_further
    went_on e = rw (← e) refl

-- ---- a walk behind i records

module _ (cs : List Cone) (dz ds z s : List Float) (αmax : Float) where
  -- no slice ends before n entries
  abbrev Long : ℕ → Type 0
  Long n = (n ≤ length dz) × (n ≤ length ds) × (n ≤ length z) × (n ≤ length s)

  not_short : (n : ℕ) → Long n → short dz ds z s n ≡ false
  not_short n l = rw (le-ltb (length dz) n l.0, le-ltb (length ds) n l.1, le-ltb (length z) n l.2, le-ltb (length s) n l.3)

  -- one side, of the first i cones
  abbrev side : List Float → List Float → ℕ → Float
  side dy y i = fold_of i αmax (λ k a. least_of a (step_of_cone least_of cs y dy k αmax))

  -- a walk behind i records, none of which is refused: what is left to refuse, the entries, and each side's least where every slice reaches
  pub record Behind (i : ℕ) (w : Walk) : Type 0 where
    pub left : bad_list cs ≡ bad_records w.total (drop i cs)
    pub entries : w.total ≡ sum_before dim cs i
    pub least : Long (sum_before dim cs i) → (w.z ≡ side dz z i) × (w.s ≡ side ds s i)

  -- over 256 cones
  pub too_many : 256 < length cs → tells (refuses 2) tt ≡ list_step_length cs dz ds z s αmax
  unfolding call_of ◌⊳◌
  too_many h = rw (lt-ltb 256 (length cs) h)

  pub behind_start : length cs ≤ 256 → Behind 0 (record { total = 0; z = αmax; s = αmax })
  unfolding ◌⊳◌ fold_of
  behind_start h = record { left = rw (le-ltb 256 (length cs) h); entries = refl; least = λ l. (refl, refl) }

  module _ {i : ℕ} {w : Walk} {c : Cone} (h : Behind i w) (in_list : i < length cs) (here : c ≡ get_or cs i no_cone) where
    cut : drop i cs ≡ c ∷ drop (i + 1) cs
    cut = rw (here, add-one i) (drop-cons cs i no_cone in_list)

    -- the next record is refused
    pub behind_refused : (n : ℕ) → suc n ≡ bad_record w.total c → tells (refuses (suc n)) tt ≡ list_step_length cs dz ds z s αmax
    unfolding call_of ◌⊳◌
    behind_refused n e = rw (h.left, cut, ← e) refl

    -- or it is passed
    pub behind_turn : 0 ≡ bad_record w.total c → Behind (i + 1) (step_over w c.kind dz ds z s αmax)
    unfolding step_over fold_of ◌⊳◌
    behind_turn e =
        rw (add-one i)
        (record {
          left = left;
          entries = past;
          least = λ l. (rw (reached l, (h.least (before l)).0, h.entries, kind) refl, rw (reached l, (h.least (before l)).1, h.entries, kind) refl);
        })
      where
        end : ℕ
        end = w.total + dim c.kind

        left : bad_list cs ≡ bad_records end (drop (suc i) cs)
        left = rw (h.left, cut, ← e, add-one i) refl

        kind : c.kind ≡ kind_of_cone cs i
        kind = ap (λ (c : Cone). c.kind) here ∙ kind_at cs i

        past : end ≡ sum_before dim cs (suc i)
        past = rw (h.entries, kind) refl

        reached : Long (sum_before dim cs (suc i)) → short dz ds z s end ≡ false
        reached l = ap (short dz ds z s) past ∙ not_short _ l

        before : Long (sum_before dim cs (suc i)) → Long (sum_before dim cs i)
        before l = (omega (arith, l.0), omega (arith, l.1), omega (arith, l.2), omega (arith, l.3))

  same_call : (k : ℕ) (v v' : Reply) (old : Unit {0}) → (k ≡ 0 → v ≡ v') → call_of k v old old ≡ call_of k v' old old
  unfolding call_of
  same_call zero v v' old h = rw (h refl) refl
  same_call (suc k) v v' old h = refl

  -- the lengths that the slices have, and n, which they must have
  abbrev pub fitting : ℕ → List (ℕ × ℕ)
  fitting n = (length dz, n) ∷ (length ds, n) ∷ (length z, n) ∷ (length s, n) ∷ []

  -- behind its last record the walk comes to the list step
  pub walked : {i : ℕ} {w : Walk} → Behind i w → i ≡ length cs → call_of (unlike (fit_all (fitting w.total)) ⊳ bad_limit αmax) (lengths w.z w.s) tt tt ≡ list_step_length cs dz ds z s αmax
  unfolding ◌⊳◌
  walked {i} {w} h all =
      let entries : w.total ≡ entries_of cs = h.entries ∙ ap (sum_before dim cs) all in
      let clear : bad_list cs ≡ 0 = h.left ∙ ap (bad_records w.total) (drop_of_length-le cs {i = i} (omega arith)) in
      rw (clear, entries)
      (same_call _ _ _ tt (λ e.
      let f = all_fit (fitting (entries_of cs)) (clear_lengths _ (clear_both _ _ e).0) in
      let l = rw all at h.least (omega (arith, f.0), omega (arith, f.1.0), omega (arith, f.1.1.0), omega (arith, f.1.1.1.0)) in
      lengths_are (l.0 ∙ sym (list_loop least_of αmax (step_of_cone least_of cs z dz) (length cs))) (l.1 ∙ sym (list_loop least_of αmax (step_of_cone least_of cs s ds) (length cs)))))

  -- what is left of a walk, at record i, comes to the list step
  abbrev Comes : ℕ → Ruling Walk → Type 0
  Comes i w = step_closing (rest (turn dz ds z s αmax) cs i w) dz ds z s αmax ≡ list_step_length cs dz ds z s αmax

  -- so it does behind any i records, n before the end
  from_here : (n i : ℕ) (w : Walk) → n + i ≡ length cs → Behind i w → Comes i (gives w)
  unfolding step_further
  from_here zero i w e h = rw (ended (turn dz ds z s αmax) cs i (gives w) (omega arith)) (walked h (omega arith))
  from_here (suc n) i w e h = rw (turned (turn dz ds z s αmax) cs i (gives w) in_list) (go (bad_record w.total c) refl (from_here n (i + 1)))
    where
      c : Cone
      c = get_or cs i no_cone

      in_list : i < length cs
      in_list = omega arith

      go : (k : ℕ) → k ≡ bad_record w.total c → ((w : Walk) → n + (i + 1) ≡ length cs → Behind (i + 1) w → Comes (i + 1) (gives w)) → Comes (i + 1) (onward k w c.kind dz ds z s αmax)
      go zero f on = on _ (omega arith) (behind_turn h in_list refl f)
      go (suc k) f on = rw (stays dz ds z s αmax (drop (i + 1) cs) (suc k)) (behind_refused h in_list refl k f)

-- from its opening on it does
pub closes : (cs : List Cone) (dz ds z s : List Float) (αmax : Float)
    → step_closing (over_records (λ w c. step_further w c dz ds z s αmax) cs (step_opening (length cs) αmax)) dz ds z s αmax ≡ list_step_length cs dz ds z s αmax
unfolding step_opening
closes cs dz ds z s αmax = go (ltb 256 (length cs)) refl
  where
    go : (t : Bool) → ltb 256 (length cs) ≡ t
        → step_closing (over_records (turn dz ds z s αmax) cs (cond t (refuses 2) (gives (record { total = 0; z = αmax; s = αmax })))) dz ds z s αmax ≡ list_step_length cs dz ds z s αmax
    go true e = rw (stays dz ds z s αmax cs 2) (too_many cs dz ds z s αmax (ltb-true 256 (length cs) e))
    go false e = from_here cs dz ds z s αmax (length cs) 0 _ (omega arith) (behind_start cs dz ds z s αmax (ltb-false 256 (length cs) e))

-- ---- for the check: what a record that is not refused has; n is what `dim` gave

-- what the cone's step is lent
abbrev lent : (total n : ℕ) → List Float → List Float
lent total n y = take (total + n - total) (drop total y)

module _ (total : ℕ) (c : Cone) {n : ℕ} (d : n ≡ dim c.kind) (e : 0 ≡ bad_record total c) where
  pub end_fits : Word w64 (total + n)
  end_fits = let g = good total c (sym e) in record { fits = omega (arith, g.few) }

  length_lent : (y : List Float) → ltb (length y) (total + n) ≡ false → length (lent total n y) ≡ n
  length_lent y h = simp (length-take, length-drop) (omega (arith, ltb-false (length y) (total + n) h))

  pub lent_fit : (dz ds z s : List Float) → short dz ds z s (total + n) ≡ false
      → Fit (least_dim c.kind) (length (lent total n dz)) (length (lent total n ds) ∷ length (lent total n z) ∷ length (lent total n s) ∷ [])
  lent_fit dz ds z s h =
      let g = good total c (sym e) in
      let in_s = or_parts _ _ h in
      let in_z = or_parts _ _ in_s.0 in
      let in_both = or_parts _ _ in_z.0 in
      rw (length_lent dz in_both.0, length_lent ds in_both.1, length_lent z in_z.1, length_lent s in_s.1, d) (record { enough = g.enough; most = g.most; same = (refl, (refl, (refl, tt))) })

-- a pair of steps tells each side
pub sides : {a b a' b' : Float} → lengths a b ≡ lengths a' b' → (a ≡ a') × (b ≡ b')
sides e = (cc, cc)
