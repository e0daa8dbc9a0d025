-- Deeds on one cone are separate: each sees and writes its own cone's ranges alone, and ranges lie one behind another. Assumes nothing.
use Prim.Native.Nat.{ℕ, zero, suc, ◌+◌, ◌≤◌, ◌<◌}
use native.Mathlib.Omega.{arith}
use mathlib.Core.Path.{◌≡◌, refl, sym, ap, ap₂, ◌∙◌, fun_ext, subst, subst₂, subst⁻¹, subst⁻¹_refl, path_j}
use mathlib.Core.Bool.{Bool, true, false}
use mathlib.Core.List.{List, [], ◌∷◌, ◌++◌}
use mathlib.Core.Logic.{◌⊎◌, inl, inr}
use borrow.Author.Tests.{ltb-true, ltb-false}
use lib.Dec.{ltb}
use lib.ListN.{length, take, drop, take-append-drop, drop_of_length-le}
use lib.Seq.{ext_get_or, take-add}
use Rattle.answers.specs.Refusal.{unlike}
use Rattle.answers.specs.Outcome.{gives, refuses, Outcome, call_of, Gives}
use Rattle.answers.proofs.Laws.{clear_both, and_more}
use Rattle.conelist.specs.declared.Kind.{Kind}
use Rattle.conelist.specs.declared.Cone.{Cone}
use Rattle.conelist.specs.declared.Place.{Place}
use Rattle.conelist.specs.Layout.{dim, block_dim, kind_of_cone, sum_before, bad_place, laid_at, place_of, carried, spot_of, fit_all, Fits, part_of}
use Rattle.conewalk.proofs.Laid as listing
use Rattle.conelist.proofs.Placed.{clear_carried, clear_spot, open_at}
use Rattle.conecalls.specs.Deed.{blank, Buffer, per_entry, per_cone, per_block, Whole, Range, Tuple, Numbers, lengths_of, tests_of, width_of, own_of, back_of, owns, backs_of, Deed, ruled, later, refusal_of, Fitting, Fitted, Keeps}
use Rattle.conecalls.proofs.Own.{long_of, start, Fills, own_fits, length_back, own_back, own_apart, clear_first, fits_first, comes_refused}
use Rattle.sequences.specs.Rearranged.{naming, Rearranged}
use Rattle.sequences.specs.Local.{Name, called, form, Store, fetch, same_name, pick_from, Outside, Task, comes_to, answer, after_of, run_all}
use Rattle.sequences.proofs.Rearrange.{Separate, rearranged}

-- ---- several buffers

abbrev Checked : Place → Store → (bs : List Buffer) → Numbers bs → Type 0
Checked p σ bs ns = Fits (tests_of p bs (lengths_of bs (fetch σ bs ns)))

abbrev Full : Name → Type 0
Full a = Whole (form a)

-- what holds of a buffer that is left, and of one whose range is replaced, holds of it after the call; for two stores at once
module _ (p : Place) (σ τ : Store) (a : Name) (P : Full a → Full a → Type 0) (left : P (σ a) (τ a))
    (replaced : (new : Range (form a)) → length (σ a) ≡ width_of p (form a) → Fitting p.kind (form a) new → P (back_of p (form a) (σ a) new) (back_of p (form a) (τ a) new)) where
  abbrev Moved : (c : Name) → a ≡ c → Type 0
  Moved c e =
      (new : Range (form c)) → length (σ c) ≡ width_of p (form c) → Fitting p.kind (form c) new
      → P (subst⁻¹ Full e (back_of p (form c) (σ c) new)) (subst⁻¹ Full e (back_of p (form c) (τ c) new))

  moved : {c : Name} (e : a ≡ c) → Moved c e
  moved e = path_j Moved (λ new full long. subst₂ P (sym (subst⁻¹_refl Full {x = a} (back_of p (form a) (σ a) new))) (sym (subst⁻¹_refl Full {x = a} (back_of p (form a) (τ a) new))) (replaced new full long)) e

  picked : (bs : List Buffer) (ns : Numbers bs) (news : Tuple Range bs) → Checked p σ bs ns → Fitted p.kind bs news
      → P (pick_from a bs ns (backs_of p bs (fetch σ bs ns) news) (σ a)) (pick_from a bs ns (backs_of p bs (fetch τ bs ns) news) (τ a))
  picked [] ns news c f = left
  picked (b ∷ bs) ns news c f = go (same_name a (called b ns.0)) (picked bs ns.1 news.1 c.1 f.1)
    where
      pick : Store → Dec (a ≡ called b ns.0) → Full a
      pick σ t = elim t [ yes e ↦ subst⁻¹ Full e (back_of p b (σ (called b ns.0)) news.0) | no n ↦ pick_from a bs ns.1 (backs_of p bs (fetch σ bs ns.1) news.1) (σ a) ]

      go : (t : Dec (a ≡ called b ns.0))
          → P (pick_from a bs ns.1 (backs_of p bs (fetch σ bs ns.1) news.1) (σ a)) (pick_from a bs ns.1 (backs_of p bs (fetch τ bs ns.1) news.1) (τ a)) → P (pick σ t) (pick τ t)
      go (yes e) rest = moved e news.0 c.0 f.0
      go (no n) rest = rest

-- τ's contents put into σ, where they differ in none but these
pub picked_all : (σ τ : Store) (a : Name) (bs : List Buffer) (ns : Numbers bs) → (Outside a bs ns → σ a ≡ τ a) → pick_from a bs ns (fetch τ bs ns) (σ a) ≡ τ a
picked_all σ τ a [] ns h = h tt
picked_all σ τ a (b ∷ bs) ns h = go (same_name a (called b ns.0)) (picked_all σ τ a bs ns.1)
  where
    go : (t : Dec (a ≡ called b ns.0)) → ((Outside a bs ns.1 → σ a ≡ τ a) → pick_from a bs ns.1 (fetch τ bs ns.1) (σ a) ≡ τ a)
        → ◌≡◌ {A = Full a} (elim t [ yes e ↦ subst⁻¹ Full e (τ (called b ns.0)) | no n ↦ pick_from a bs ns.1 (fetch τ bs ns.1) (σ a) ]) (τ a)
    go (yes e) rest = path_j (λ c e. subst⁻¹ Full e (τ c) ≡ τ a) (subst⁻¹_refl Full {x = a} (τ a)) e
    go (no n) rest = rest (λ o. h (n, o))

unpicked : (σ : Store) (a : Name) (bs : List Buffer) (ns : Numbers bs) → pick_from a bs ns (fetch σ bs ns) (σ a) ≡ σ a
unpicked σ a bs ns = picked_all σ σ a bs ns (λ o. refl)

-- a buffer that is not written
pub outside : (a : Name) (bs : List Buffer) (ns : Numbers bs) (news : Tuple Whole bs) (old : Full a) → Outside a bs ns → pick_from a bs ns news old ≡ old
outside a [] ns news old o = refl
outside a (b ∷ bs) ns news old o = go (same_name a (called b ns.0)) (outside a bs ns.1 news.1 old o.1)
  where
    go : (t : Dec (a ≡ called b ns.0)) → pick_from a bs ns.1 news.1 old ≡ old
        → ◌≡◌ {A = Full a} (elim t [ yes e ↦ subst⁻¹ Full e news.0 | no n ↦ pick_from a bs ns.1 news.1 old ]) old
    go (yes e) rest = absurd (o.0 e)
    go (no n) rest = rest

-- a call that leaves what it was lent leaves all
pub left_all : (p : Place) (t : Task) (σ : Store) → (comes_to p t σ).holds ≡ fetch σ t.deed.writes t.writes → after_of p t σ ≡ σ
left_all p t σ e = fun_ext (λ a. ap (λ ys. pick_from a t.deed.writes t.writes ys (σ a)) e ∙ unpicked σ a t.deed.writes t.writes)

same_ruling : {R B : Type 0} (n : ℕ) (v : R) (old new old' new' : B) → (call_of n v old new).ruling ≡ (call_of n v old' new').ruling
unfolding call_of
same_ruling zero v old new old' new' = refl
same_ruling (suc n) v old new old' new' = refl

-- ---- the store, seen cone by cone

-- of a buffer: its length, the cone's own range, and what lies behind all cones
pub record Visible (b : Buffer) : Type 0 where
  pub long : ℕ
  pub part : Range b
  pub rest : Whole b

module _ (list : List Cone) where
  -- where all cones end
  abbrev end : Buffer → ℕ
  end b = start (laid_at list (length list)) b

  abbrev see : ℕ → (b : Buffer) → Whole b → Visible b
  see j b y = record { long = length y; part = own_of (laid_at list j) b y; rest = drop (end b) y }

  abbrev pub view : ℕ → Store → (a : Name) → Visible (form a)
  view j σ a = see j (form a) (σ a)

  -- a range ends where the next begins
  behind : (b : Buffer) (j k : ℕ) → j < k → start (laid_at list j) b + long_of (kind_of_cone list j) b ≤ start (laid_at list k) b
  behind (per_entry e) j k h = listing.behind dim list j k h
  behind (per_cone e) j k h = omega arith
  behind (per_block e) j k h = listing.behind block_dim list j k h

  apart : (b : Buffer) (j k : ℕ) → ¬ (k ≡ j) → (start (laid_at list j) b + long_of (kind_of_cone list j) b ≤ start (laid_at list k) b) ⊎ (start (laid_at list k) b + long_of (kind_of_cone list k) b ≤ start (laid_at list j) b)
  apart b j k n = go (ltb j k) refl
    where
      go : (t : Bool) → ltb j k ≡ t → (start (laid_at list j) b + long_of (kind_of_cone list j) b ≤ start (laid_at list k) b) ⊎ (start (laid_at list k) b + long_of (kind_of_cone list k) b ≤ start (laid_at list j) b)
      go true h = inl (behind b j k (ltb-true j k h))
      go false h = inr (behind b k j (omega (arith, ltb-false j k h)))

  wide : (k : ℕ) (b : Buffer) → width_of (laid_at list k) b ≡ end b
  wide k (per_entry e) = refl
  wide k (per_cone e) = refl
  wide k (per_block e) = refl

  inside : (k : ℕ) (b : Buffer) (y : Whole b) → bad_place list k ≡ 0 → length y ≡ width_of (laid_at list k) b → start (laid_at list k) b + long_of (kind_of_cone list k) b ≤ length y
  inside k b y z e = omega (arith, behind b k (length list) (listing.listed list k z).listed, wide k b)

  rest_back : (k : ℕ) (b : Buffer) (y : Whole b) (new : Range b) → Fills (laid_at list k) b y new → drop (end b) (back_of (laid_at list k) b y new) ≡ drop (end b) y
  rest_back k b y new f =
      let short : length y ≤ end b = omega (arith, f.full, wide k b) in
      let short' : length (back_of (laid_at list k) b y new) ≤ end b = rw (length_back (laid_at list k) b y new f) short in
      rw (drop_of_length-le y short) (drop_of_length-le (back_of (laid_at list k) b y new) short')

  -- ---- what the cones see is all there is

  parts : {A : Type 0} (size : Kind → ℕ) (j : ℕ) (y z : List A) → ((k : ℕ) → part_of (sum_before size list k) (size (kind_of_cone list k)) y ≡ part_of (sum_before size list k) (size (kind_of_cone list k)) z)
      → take (sum_before size list j) y ≡ take (sum_before size list j) z
  unfolding part_of
  parts size zero y z e = refl
  parts size (suc j) y z e =
      rw (take-add (sum_before size list j) (size (kind_of_cone list j)) y, take-add (sum_before size list j) (size (kind_of_cone list j)) z, parts size j y z e, e j)

  all_seen : (b : Buffer) (y z : Whole b) → ((j : ℕ) → see j b y ≡ see j b z) → y ≡ z
  all_seen b y z e = go b y z (λ j. ap (λ s. s.part) (e j)) (ap (λ s. s.long) (e 0)) (ap (λ s. s.rest) (e 0))
    where
      go : (b : Buffer) (y z : Whole b) → ((j : ℕ) → own_of (laid_at list j) b y ≡ own_of (laid_at list j) b z) → length y ≡ length z → drop (end b) y ≡ drop (end b) z → y ≡ z
      go (per_entry e) y z own long rest =
          sym (take-append-drop (end (per_entry e)) y) ∙ ap₂ ◌++◌ (parts dim (length list) y z own) rest ∙ take-append-drop (end (per_entry e)) z
      go (per_cone e) y z own long rest = ext_get_or (blank e) y z long (λ j h. own j)
      go (per_block e) y z own long rest =
          sym (take-append-drop (end (per_block e)) y) ∙ ap₂ ◌++◌ (parts block_dim (length list) y z own) rest ∙ take-append-drop (end (per_block e)) z

  -- ---- a call at its cone's place in a list that is not refused

  module _ (t : Task) (keeps : Keeps t.deed) where
    abbrev p : Place
    p = laid_at list t.cone

    abbrev d : Deed
    d = t.deed

    abbrev outs : Store → Tuple Whole d.writes
    outs σ = fetch σ d.writes t.writes

    abbrev ins : Store → Tuple Whole d.reads
    ins σ = fetch σ d.reads t.reads

    -- all that it does, from what it sees: the lengths and the cone's own ranges
    abbrev number : Store → ℕ
    number σ = refusal_of p d (lengths_of d.writes (outs σ)) (lengths_of d.reads (ins σ)) (owns p d.writes (outs σ)) (owns p d.reads (ins σ))

    abbrev does : Store → Gives d.Replies (Tuple Range d.writes)
    does σ = ruled d p.kind (owns p d.writes (outs σ)) (owns p d.reads (ins σ))

    fitted : (σ : Store) → bad_place list t.cone ≡ 0 → (bs : List Buffer) (ns : Numbers bs) → Checked p σ bs ns → Fitted p.kind bs (owns p bs (fetch σ bs ns))
    fitted σ z [] ns c = tt
    fitted σ z (b ∷ bs) ns c = (own_fits p b (σ (called b ns.0)) (inside t.cone b (σ (called b ns.0)) z c.0), fitted σ z bs ns.1 c.1)

    -- the buffer a after the call, from its refusal's number and what its rule gives
    abbrev left : ℕ → Gives d.Replies (Tuple Range d.writes) → Store → (a : Name) → Full a
    left n g σ a = pick_from a d.writes t.writes (call_of n g.reply (outs σ) (backs_of p d.writes (outs σ) g.news)).holds (σ a)

    -- where it is not refused: its cone is in the list, what it is lent for writing has the right lengths, and so have the ranges that its rule gives
    clear : (σ : Store) → number σ ≡ 0 → (bad_place list t.cone ≡ 0) × Checked p σ d.writes t.writes × Fitted p.kind d.writes (does σ).news
    clear σ e =
        let ms : List (ℕ × ℕ) = tests_of p d.writes (lengths_of d.writes (outs σ)) in
        let ns : List (ℕ × ℕ) = tests_of p d.reads (lengths_of d.reads (ins σ)) in
        let five = clear_first (spot_of p) (unlike (fit_all (ms ++ ns))) (d.early p.kind) (later d p.kind (owns p d.writes (outs σ)) (owns p d.reads (ins σ))) e in
        let none = (clear_spot p (clear_both (spot_of p) (unlike (fit_all (ms ++ ns))) five).0).0 in
        let fits = fits_first ms ns (open_at p (ms ++ ns) (sym five)).same in
        (none, fits.0, keeps p.kind (listing.listed list t.cone none).enough _ (fitted σ none d.writes t.writes fits.0) _ (fitted σ none d.reads t.reads fits.1))

    settled : (σ τ : Store) (a : Name) (P : Full a → Full a → Type 0) → P (σ a) (τ a)
        → ((new : Range (form a)) → Fills p (form a) (σ a) new → P (back_of p (form a) (σ a) new) (back_of p (form a) (τ a) new))
        → P (after_of p t σ a) (left (number σ) (does σ) τ a)
    unfolding call_of
    settled σ τ a P kept replaced = go (number σ) refl
      where
        go : (n : ℕ) → number σ ≡ n → P (left n (does σ) σ a) (left n (does σ) τ a)
        go zero e =
            let c = clear σ e in
            picked p σ τ a P kept
            (λ new full long. replaced new (record { full = full; inside = inside t.cone (form a) (σ a) c.0 full; long = long }))
            d.writes t.writes (does σ).news c.1 c.2
        go (suc n) e = subst₂ P (sym (unpicked σ a d.writes t.writes)) (sym (unpicked τ a d.writes t.writes)) kept

    -- the ranges that its rule gives are then there
    there : (σ : Store) → number σ ≡ 0 → owns p d.writes (backs_of p d.writes (outs σ) (does σ).news) ≡ (does σ).news
    there σ e = let c = clear σ e in go c.0 d.writes t.writes (does σ).news c.1 c.2
      where
        go : bad_place list t.cone ≡ 0 → (bs : List Buffer) (ns : Numbers bs) (news : Tuple Range bs) → Checked p σ bs ns → Fitted p.kind bs news
            → owns p bs (backs_of p bs (fetch σ bs ns) news) ≡ news
        go z [] ns news c f = refl
        go z (b ∷ bs) ns news c f =
            let y : Whole b = σ (called b ns.0) in
            and_more (own_back p b y news.0 (record { full = c.0; inside = inside t.cone b y z c.0; long = f.0 })) (go z bs ns.1 news.1 c.1 f.1)

    -- a call changes nothing that another cone sees
    others : (σ : Store) (j : ℕ) → ¬ (t.cone ≡ j) → view j (after_of p t σ) ≡ view j σ
    others σ j n =
        fun_ext (λ a. settled σ σ a (λ y z. see j (form a) y ≡ see j (form a) (σ a)) refl
        (λ new f i. record {
          long = length_back p (form a) (σ a) new f i;
          part = own_apart p (laid_at list j) (form a) (σ a) new f (apart (form a) j t.cone n) i;
          rest = rest_back t.cone (form a) (σ a) new f i;
        }))

    module _ (σ τ : Store) (e : view t.cone σ ≡ view t.cone τ) where
      same_lengths : (bs : List Buffer) (ns : Numbers bs) → lengths_of bs (fetch σ bs ns) ≡ lengths_of bs (fetch τ bs ns)
      same_lengths [] ns = refl
      same_lengths (b ∷ bs) ns = and_more (ap (λ v. (v (called b ns.0)).long) e) (same_lengths bs ns.1)

      pub same_owns : (bs : List Buffer) (ns : Numbers bs) → owns p bs (fetch σ bs ns) ≡ owns p bs (fetch τ bs ns)
      same_owns [] ns = refl
      same_owns (b ∷ bs) ns = and_more (ap (λ v. (v (called b ns.0)).part) e) (same_owns bs ns.1)

      same_does : does σ ≡ does τ
      same_does = ap₂ (ruled d p.kind) (same_owns d.writes t.writes) (same_owns d.reads t.reads)

      same_no : number σ ≡ number τ
      same_no = λ i. refusal_of p d (same_lengths d.writes t.writes i) (same_lengths d.reads t.reads i) (same_owns d.writes t.writes i) (same_owns d.reads t.reads i)

      -- what a call answers and leaves follows from what its cone sees
      own : (answer p t σ ≡ answer p t τ) × (view t.cone (after_of p t σ) ≡ view t.cone (after_of p t τ))
      own = (
        subst₂ (λ n g. answer p t σ ≡ (call_of n g.reply (outs τ) (backs_of p d.writes (outs τ) g.news)).ruling) same_no same_does (same_ruling _ _ _ _ _ _),
        fun_ext (λ a. subst₂ (λ n g. see t.cone (form a) (after_of p t σ a) ≡ see t.cone (form a) (left n g τ a)) same_no same_does
            (settled σ τ a (λ y z. see t.cone (form a) y ≡ see t.cone (form a) z) (ap (λ v. v a) e) (λ new f.
            let long : length (σ a) ≡ length (τ a) = ap (λ v. (v a).long) e in
            let f' : Fills p (form a) (τ a) new = record { full = sym long ∙ f.full; inside = rw (← long) f.inside; long = f.long } in
            λ i. record {
              long = (length_back p (form a) (σ a) new f ∙ long ∙ sym (length_back p (form a) (τ a) new f')) i;
              part = (own_back p (form a) (σ a) new f ∙ sym (own_back p (form a) (τ a) new f')) i;
              rest = (rest_back t.cone (form a) (σ a) new f ∙ ap (λ v. (v a).rest) e ∙ sym (rest_back t.cone (form a) (τ a) new f')) i;
            }))),
      )

-- ---- a call that is refused at its place: it tells so, and leaves all

refused : (p : Place) (t : Task) (σ : Store) (n : ℕ) → carried p ≡ suc n → (answer p t σ ≡ refuses (suc n)) × (after_of p t σ ≡ σ)
refused p t σ n e =
    let d : Deed = t.deed in
    let comes : comes_to p t σ ≡ record { ruling = refuses (suc n); holds = fetch σ d.writes t.writes } = comes_refused p d (fetch σ d.writes t.writes) (fetch σ d.reads t.reads) n e in
    (ap (λ o. o.ruling) comes, left_all p t σ (ap (λ o. o.holds) comes))

-- ---- how a call on a cone of a list ends: it is refused and leaves all, or its rule's answer is given and the ranges that it gives are there

module _ (list : List Cone) (t : Task) (keeps : Keeps t.deed) (σ : Store) where
  pub data Ending (p : Place) : Type 0 where
    refusing : (n : ℕ) → answer p t σ ≡ refuses n → after_of p t σ ≡ σ → Ending p
    giving : answer p t σ ≡ gives (does list t keeps σ).reply
        → (comes_to p t σ).holds ≡ backs_of (laid_at list t.cone) t.deed.writes (outs list t keeps σ) (does list t keeps σ).news
        → owns (laid_at list t.cone) t.deed.writes (comes_to p t σ).holds ≡ (does list t keeps σ).news
        → Ending p

  laid : Ending (laid_at list t.cone)
  unfolding call_of
  laid = go (number list t keeps σ) refl
    where
      comes : ℕ → Outcome t.deed.Replies (Tuple Whole t.deed.writes)
      comes n = call_of n (does list t keeps σ).reply (outs list t keeps σ) (backs_of (laid_at list t.cone) t.deed.writes (outs list t keeps σ) (does list t keeps σ).news)

      go : (n : ℕ) → number list t keeps σ ≡ n → Ending (laid_at list t.cone)
      go zero e =
          let c : comes_to (laid_at list t.cone) t σ ≡ comes 0 = ap comes e in
          let holds = ap (λ o. o.holds) c in
          giving (ap (λ o. o.ruling) c) holds (ap (owns (laid_at list t.cone) t.deed.writes) holds ∙ there list t keeps σ e)
      go (suc n) e =
          let c : comes_to (laid_at list t.cone) t σ ≡ comes (suc n) = ap comes e in
          refusing (suc n) (ap (λ o. o.ruling) c) (left_all (laid_at list t.cone) t σ (ap (λ o. o.holds) c))

  pub ending : Ending (place_of list t.cone)
  ending = go (carried (place_of list t.cone)) refl
    where
      go : (n : ℕ) → carried (place_of list t.cone) ≡ n → Ending (place_of list t.cone)
      go zero e = subst Ending (sym (listing.found list t.cone (clear_carried (place_of list t.cone) e))) laid
      go (suc n) e = let r = refused (place_of list t.cone) t σ n e in refusing (suc n) r.0 r.1

-- ---- calls of any sort C, each a deed on one cone of a list

module _ (list : List Cone) {C : Type 0} (task : C → Task) (keeps : (c : C) → Keeps (task c).deed) where
  abbrev at : C → Place
  at c = place_of list (task c).cone

  abbrev Same : ℕ → C → Store → Store → Type 0
  Same i c σ τ = (answer (at c) (task c) σ ≡ answer (at c) (task c) τ) × (view list i (after_of (at c) (task c) σ) ≡ view list i (after_of (at c) (task c) τ))

  apart_at : (c : C) (σ : Store) (j : ℕ) → ¬ ((task c).cone ≡ j) → (n : ℕ) → carried (at c) ≡ n → view list j (after_of (at c) (task c) σ) ≡ view list j σ
  apart_at c σ j n zero e = subst (λ p. view list j (after_of p (task c) σ) ≡ view list j σ) (sym (listing.found list (task c).cone (clear_carried (at c) e))) (others list (task c) (keeps c) σ j n)
  apart_at c σ j n (suc m) e = ap (view list j) (refused (at c) (task c) σ m e).1

  own_at : (c : C) (σ τ : Store) (n : ℕ) → carried (at c) ≡ n → view list (task c).cone σ ≡ view list (task c).cone τ → Same (task c).cone c σ τ
  own_at c σ τ zero e h =
      subst (λ p. (answer p (task c) σ ≡ answer p (task c) τ) × (view list (task c).cone (after_of p (task c) σ) ≡ view list (task c).cone (after_of p (task c) τ)))
      (sym (listing.found list (task c).cone (clear_carried (at c) e))) (own list (task c) (keeps c) σ τ h)
  own_at c σ τ (suc m) e h =
      let r = refused (at c) (task c) σ m e in
      let r' = refused (at c) (task c) τ m e in
      (r.0 ∙ sym r'.0, ap (view list (task c).cone) r.1 ∙ h ∙ ap (view list (task c).cone) (sym r'.1))

  pub separate : Separate (λ c. (task c).cone) (λ c. answer (at c) (task c)) (λ c. after_of (at c) (task c)) (view list)
  separate =
      record {
        others = λ c σ j n. apart_at c σ j n (carried (at c)) refl;
        own = λ c σ τ j h. subst (λ i. view list i σ ≡ view list i τ → Same i c σ τ) h (own_at c σ τ (carried (at c)) refl);
        whole = λ σ τ e. fun_ext (λ a. all_seen list (form a) (σ a) (τ a) (λ j. ap (λ v. v a) (e j)));
      }

  -- rearranged in any way that keeps each cone's own order: for every cone the calls that name it have the same answers, in their order; and all
  -- buffers end the same
  pub any_order : (σ : Store) (cs ds : List C) → Rearranged (λ c. (task c).cone) cs ds
      → ((j : ℕ) → naming (λ t. (task t.call).cone) j (run_all list task cs σ).answers ≡ naming (λ t. (task t.call).cone) j (run_all list task ds σ).answers)
      × ((run_all list task cs σ).store ≡ (run_all list task ds σ).store)
  any_order σ cs ds h = rearranged _ _ _ (view list) separate cs ds σ h
