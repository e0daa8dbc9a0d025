-- The least over several answers, over any order and any operation that picks one of two that is up to the other. Assumes nothing.
use mathlib.Core.Path.{◌≡◌, subst}
use mathlib.Core.List.Permᴰ
use mathlib.Core.List.{List, [], ◌∷◌, map, Permᴰ}
use mathlib.Core.Logic.{◌⊎◌, inl, inr, ◌↔◌}
use Rattle.ordering.specs.Upto.{over, handed_of, least_limits, passed_of, limits_of}

abbrev pub All : {A : Type 0} → (A → Type 0) → List A → Type 0
All P [] = Unit {0}
All P (x ∷ xs) = P x × All P xs

all_perm : {A : Type 0} (P : A → Type 0) {xs ys : List A} → Permᴰ xs ys → All P xs → All P ys
all_perm P Permᴰ.nil h = h
all_perm P (Permᴰ.cons e p) h = (subst P e h.0, all_perm P p h.1)
all_perm P (Permᴰ.swap e e') h = (subst P e' h.1.0, (subst P e h.0, h.1.1))
all_perm P (Permᴰ.trans p q) h = all_perm P q (all_perm P p h)

all_so : {A : Type 0} {P Q : A → Type 0} → ((x : A) → P x → Q x) → (xs : List A) → All P xs → All Q xs
all_so f [] h = tt
all_so f (x ∷ xs) h = (f x h.0, all_so f xs h.1)

module _ {A : Type 0} (◌≼◌ : A → A → Type 0) (◌⊓◌ : A → A → A) where
  infix 60 ◌≼◌ ◌≈◌
  infixl 70 ◌⊓◌
  -- what all editions of least share: the least is one of the two, and is up to the other
  pub record Edition : Type 0 where
    pub self : (x : A) → x ≼ x
    pub chain : (x y z : A) → x ≼ y → y ≼ z → x ≼ z
    pub picks : (a b : A) → ((a ⊓ b ≡ a) × (a ≼ b)) ⊎ ((a ⊓ b ≡ b) × (b ≼ a))

  -- one value
  abbrev pub ◌≈◌ : A → A → Type 0
  x ≈ y = (x ≼ y) × (y ≼ x)

  module _ (ed : Edition) where
    pub lower : (a b : A) → (a ⊓ b ≼ a) × (a ⊓ b ≼ b)
    lower a b = go (ed.picks a b)
      where
        go : ((a ⊓ b ≡ a) × (a ≼ b)) ⊎ ((a ⊓ b ≡ b) × (b ≼ a)) → (a ⊓ b ≼ a) × (a ⊓ b ≼ b)
        go (inl h) = rw h.0 (ed.self a, h.1)
        go (inr h) = rw h.0 (h.1, ed.self b)

    pub meet : (z a b : A) → z ≼ a → z ≼ b → z ≼ a ⊓ b
    meet z a b p q = go (ed.picks a b)
      where
        go : ((a ⊓ b ≡ a) × (a ≼ b)) ⊎ ((a ⊓ b ≡ b) × (b ≼ a)) → z ≼ a ⊓ b
        go (inl h) = rw h.0 p
        go (inr h) = rw h.0 q

    -- the least over a list is up to the limit and to each answer; and what is up to all those is up to it
    pub over_lower : (l : A) (xs : List A) (z : A) → z ≼ over ◌⊓◌ l xs → (z ≼ l) × All (λ x. z ≼ x) xs
    over_lower l [] z h = (h, tt)
    over_lower l (x ∷ xs) z h =
        let r = over_lower (l ⊓ x) xs z h in
        (ed.chain z (l ⊓ x) l r.0 (lower l x).0, (ed.chain z (l ⊓ x) x r.0 (lower l x).1, r.1))

    over_meet : (l : A) (xs : List A) (z : A) → z ≼ l → All (λ x. z ≼ x) xs → z ≼ over ◌⊓◌ l xs
    over_meet l [] z h hs = h
    over_meet l (x ∷ xs) z h hs = over_meet (l ⊓ x) xs z (meet z l x h hs.0) hs.1

    over_mono : (l m : A) (xs : List A) → l ≼ m → over ◌⊓◌ l xs ≼ over ◌⊓◌ m xs
    over_mono l m xs e = let r = over_lower l xs _ (ed.self (over ◌⊓◌ l xs)) in over_meet m xs _ (ed.chain _ l m r.0 e) r.1

    -- in whatever order the answers are taken
    up_to_perm : (l : A) {xs ys : List A} → Permᴰ xs ys → over ◌⊓◌ l xs ≼ over ◌⊓◌ l ys
    up_to_perm l {xs} {ys} p =
        let r = over_lower l xs _ (ed.self (over ◌⊓◌ l xs)) in
        over_meet l ys _ r.0 (all_perm (λ x. over ◌⊓◌ l xs ≼ x) p r.1)

    pub one_value : (l : A) {xs ys : List A} → Permᴰ xs ys → over ◌⊓◌ l xs ≈ over ◌⊓◌ l ys
    one_value l p = (up_to_perm l p, up_to_perm l (Permᴰ.symm p))

    -- ---- handing the running least on. i is above every limit

    module _ (i : A) where
      -- beside the limit l a step's answer counts as much as its answer without a limit
      abbrev TrimsAt : A → (A → A) → Type 0
      TrimsAt l step = l ⊓ step l ≈ l ⊓ step i

      -- the least of the limit and what each step is without one
      abbrev ends : A → List (A → A) → A
      ends l steps = over ◌⊓◌ l (map (λ s. s i) steps)

      at_limit : (z l : A) (steps : List (A → A)) → All (TrimsAt l) steps → z ≼ l → All (λ x. z ≼ x) (map (λ s. s l) steps) ↔ All (λ x. z ≼ x) (map (λ s. s i) steps)
      at_limit z l [] ts e = (λ a. a, λ a. a)
      at_limit z l (s ∷ ss) ts e =
          let t = ts.0 in
          let rest = at_limit z l ss ts.1 e in (
            λ a. (ed.chain z (l ⊓ s i) (s i) (ed.chain z (l ⊓ s l) _ (meet z l (s l) e a.0) t.0) (lower l (s i)).1, rest.0 a.1),
            λ a. (ed.chain z (l ⊓ s l) (s l) (ed.chain z (l ⊓ s i) _ (meet z l (s i) e a.0) t.1) (lower l (s l)).1, rest.1 a.1),
          )

      own_limit : (l : A) (steps : List (A → A)) → All (TrimsAt l) steps → over ◌⊓◌ l (map (λ s. s l) steps) ≈ ends l steps
      own_limit l steps ts =
          let at = map (λ s. s l) steps in
          let free = map (λ s. s i) steps in
          let p = over_lower l at _ (ed.self (over ◌⊓◌ l at)) in
          let q = over_lower l free _ (ed.self (over ◌⊓◌ l free)) in
          (over_meet l free _ p.0 ((at_limit _ l steps ts p.0).0 p.1), over_meet l at _ q.0 ((at_limit _ l steps ts q.0).1 q.1))

      -- so at every limit
      abbrev pub Trims : (A → A) → Type 0
      Trims step = (l : A) → l ≼ i → TrimsAt l step

      handed : (r : A) (steps : List (A → A)) → r ≼ i → All Trims steps → handed_of ◌⊓◌ r steps ≈ ends r steps
      handed r [] h ts = (ed.self r, ed.self r)
      handed r (s ∷ ss) h ts =
          let e = ts.0 r h in
          let rest = handed (r ⊓ s r) ss (ed.chain _ r i (lower r (s r)).0 h) ts.1 in
          (ed.chain _ _ _ rest.0 (over_mono (r ⊓ s r) (r ⊓ s i) (map (λ s. s i) ss) e.0), ed.chain _ _ _ (over_mono (r ⊓ s i) (r ⊓ s r) (map (λ s. s i) ss) e.1) rest.1)

      -- handing the running least on gives the value that the caller's limit gives
      pub handing_on : (l : A) (steps : List (A → A)) → l ≼ i → All Trims steps → handed_of ◌⊓◌ l steps ≈ over ◌⊓◌ l (map (λ s. s l) steps)
      handing_on l steps h ts =
          let p = handed l steps h ts in
          let q = own_limit l steps (all_so (λ s t. t l h) steps ts) in
          (ed.chain _ _ _ p.0 q.1, ed.chain _ _ _ q.0 p.1)

      -- which steps are such: the limit itself, a least with anything, and one that heeds no limit
      pub trims_limit : Trims (λ l. l)
      trims_limit l h = (meet _ l i (lower l l).0 (ed.chain _ l i (lower l l).0 h), meet _ l l (lower l i).0 (lower l i).0)

      -- what is up to a limit beside one answer and to ρ is so beside the other answer
      trimmed : (l a b ρ : A) → l ⊓ a ≼ l ⊓ b → l ⊓ (a ⊓ ρ) ≼ l ⊓ (b ⊓ ρ)
      trimmed l a b ρ e =
          let p = lower l (a ⊓ ρ) in
          let q = lower a ρ in
          let at_b = ed.chain _ _ _ (ed.chain _ _ _ (meet _ l a p.0 (ed.chain _ _ _ p.1 q.0)) e) (lower l b).1 in
          meet _ l (b ⊓ ρ) p.0 (meet _ b ρ at_b (ed.chain _ _ _ p.1 q.1))

      pub trims_least : (step : A → A) (ρ : A) → Trims step → Trims (λ l. step l ⊓ ρ)
      trims_least step ρ t l h = (trimmed l (step l) (step i) ρ (t l h).0, trimmed l (step i) (step l) ρ (t l h).1)

      pub trims_none : (c : A) → Trims (λ l. c)
      trims_none c l h = (ed.self _, ed.self _)

    -- ---- handing the answer itself on. o and i are the ends of what a limit may be

    module _ (o i : A) where
      abbrev pub Limit : A → Type 0
      Limit l = (o ≼ l) × (l ≼ i)

      -- a step is the least of its limit and what it is without one, which is not below o
      pub record Cuts (step : A → A) : Type 0 where
        pub least : (l : A) → Limit l → step l ≈ l ⊓ step i
        pub enough : o ≼ step i

      -- its bounds
      pub bounds : (step : A → A) → Cuts step → (l : A) → Limit l → (o ≼ step l) × (step l ≼ l)
      bounds step c l h =
          let e = c.least l h in
          (ed.chain o (l ⊓ step i) (step l) (meet o l (step i) h.0 c.enough) e.1, ed.chain (step l) (l ⊓ step i) l e.0 (lower l (step i)).0)

      cuts_trims : (l : A) → Limit l → (step : A → A) → Cuts step → TrimsAt i l step
      cuts_trims l h step c =
          let e = c.least l h in
          (ed.chain _ _ _ (lower l (step l)).1 e.0, meet _ l (step l) (lower l (step i)).0 e.1)

      -- a step's answer is such a limit again
      next : (r : A) (step : A → A) → Limit r → Cuts step → Limit (step r)
      next r step h c = let b = bounds step c r h in (b.0, ed.chain (step r) r i b.1 h.1)

      passed : (r : A) (steps : List (A → A)) → Limit r → All Cuts steps → passed_of r steps ≈ ends i r steps
      passed r [] h cs = (ed.self r, ed.self r)
      passed r (s ∷ ss) h cs =
          let e = cs.0.least r h in
          let rest = passed (s r) ss (next r s h cs.0) cs.1 in
          (ed.chain _ _ _ rest.0 (over_mono (s r) (r ⊓ s i) (map (λ s. s i) ss) e.0), ed.chain _ _ _ (over_mono (r ⊓ s i) (s r) (map (λ s. s i) ss) e.1) rest.1)

      -- handing the answer itself on gives the value that the caller's limit gives; each limit is then between o and i
      pub passing_on : (l : A) (steps : List (A → A)) → Limit l → All Cuts steps → passed_of l steps ≈ over ◌⊓◌ l (map (λ s. s l) steps)
      passing_on l steps h cs =
          let p = passed l steps h cs in
          let q = own_limit i l steps (all_so (cuts_trims l h) steps cs) in
          (ed.chain _ _ _ p.0 q.1, ed.chain _ _ _ q.0 p.1)

      pub limits : (l : A) (steps : List (A → A)) → Limit l → All Cuts steps → All Limit (limits_of l steps)
      limits l [] h cs = tt
      limits l (s ∷ ss) h cs = (h, limits (s l) ss (next l s h cs.0) cs.1)

      -- and so is each where the running least is handed on
      pub handed_limits : (l : A) (steps : List (A → A)) → Limit l → All Cuts steps → All Limit (least_limits ◌⊓◌ l steps)
      handed_limits l [] h cs = tt
      handed_limits l (s ∷ ss) h cs =
          let n = next l s h cs.0 in
          (h, handed_limits (l ⊓ s l) ss (meet o l (s l) h.0 n.0, ed.chain _ l i (lower l (s l)).0 h.1) cs.1)

      -- the list's step lies between o and i too
      pub within : (l : A) (steps : List (A → A)) → Limit l → All Cuts steps → Limit (over ◌⊓◌ l (map (λ s. s l) steps))
      within l steps h cs =
          let at = map (λ s. s l) steps in
          (over_meet l at o h.0 (each steps cs), ed.chain _ l i (over_lower l at _ (ed.self (over ◌⊓◌ l at))).0 h.1)
        where
          each : (steps : List (A → A)) → All Cuts steps → All (λ x. o ≼ x) (map (λ s. s l) steps)
          each [] cs = tt
          each (s ∷ ss) cs = ((bounds s cs.0 l h).0, each ss cs.1)

      -- ---- which steps are such: the limit itself, a least with what is not below o, and o

      pub cuts_limit : o ≼ i → Cuts (λ l. l)
      cuts_limit e = record { least = λ l h. (meet l l i (ed.self l) h.1, (lower l i).0); enough = e }

      pub cuts_least : (step : A → A) (ρ : A) → Cuts step → o ≼ ρ → Cuts (λ l. step l ⊓ ρ)
      cuts_least step ρ c e =
          record {
            least = λ l h.
                let k = c.least l h in
                let a = lower (step l) ρ in
                let b = lower l (step i ⊓ ρ) in
                let d = lower (step i) ρ in (
                  meet _ l (step i ⊓ ρ) (ed.chain _ _ _ a.0 (ed.chain _ _ _ k.0 (lower l (step i)).0))
                      (meet _ (step i) ρ (ed.chain _ _ _ a.0 (ed.chain _ _ _ k.0 (lower l (step i)).1)) a.1),
                  meet _ (step l) ρ (ed.chain _ _ _ (meet _ l (step i) b.0 (ed.chain _ _ _ b.1 d.0)) k.1) (ed.chain _ _ _ b.1 d.1),
                );
            enough = meet o (step i) ρ c.enough e;
          }

      pub cuts_none : Cuts (λ l. o)
      cuts_none = record { least = λ l h. (meet o l o h.0 (ed.self o), (lower l o).1); enough = ed.self o }
