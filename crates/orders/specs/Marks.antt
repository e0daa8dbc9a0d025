-- "No half-written scaling" (document 02, item 4), over sequences of calls: what a cone's scaling holds, and which call set it last. Assumes nothing.
use Rattle.std.specs.Prelude.{ℕ, ◌≡◌, true, List, [], ◌∷◌, ◌++◌, get_or}
use Rattle.answers.specs.Outcome.{done, truth, gives, ◌⨾◌}
use Rattle.conelist.specs.declared.Cone.{Cone}
use Rattle.conelist.specs.Layout.{kind_of_cone, laid_at}
use Rattle.conecalls.specs.Deed.{mark, Buffer, per_cone, Range, Tuple, owns, Numbers, ruled}
use Rattle.list_identity.specs.Identity.{set_identity_scaling_deed}
use Rattle.list_scaling.specs.Scaling.{update_scaling_deed}
use Rattle.sequences.specs.Rearranged.{Answered}
use Rattle.sequences.specs.Local as local
use Rattle.sequences.specs.Local.{called, Store, fetch, Outside}
use Rattle.orders.specs.Calls.{set_identity_scaling, deed_of, Request, task_of, meets_of, run_all}
use Rattle.orders.specs.Scaled.{seven, scaling}

-- ---- a scaling has its seven buffers for itself

-- cone k's identity scaling, in the same buffers; lambda is not among them
abbrev pub identity : (k : ℕ) → Request
identity k = record { cone = k; call = set_identity_scaling; writes = 0 ⨾ 2 ⨾ 3 ⨾ 0 ⨾ 1 ⨾ 0 ⨾ tt; reads = tt }

-- the call r writes none of these buffers
abbrev pub Spares : Request → (bs : List Buffer) → Numbers bs → Type 0
Spares r [] ns = Unit {0}
Spares r (b ∷ bs) ns = Outside (called b ns.0) (deed_of r.call).writes r.writes × Spares r bs ns.1

-- the buffers are "each with one use throughout": a call sets the scaling, in the scaling's buffers, or writes none of them
pub data Orderly : Request → Type 0 where
  scales : (k s z : ℕ) → Orderly (scaling k s z)
  resets : (k : ℕ) → Orderly (identity k)
  spares : (r : Request) → Spares r update_scaling_deed.writes seven → Orderly r

-- ---- "set by the last call that succeeded in setting the scaling"

-- a call, as it was answered
abbrev pub Reported : Type 0
Reported = Answered Request (local.Reply task_of)

-- cone k's scaling from s and z, answered true; its identity scaling, not refused
abbrev pub true_scaling : (k s z : ℕ) → Reported
true_scaling k s z = record { call = scaling k s z; answer = gives (truth true) }

abbrev pub done_identity : (k : ℕ) → Reported
done_identity k = record { call = identity k; answer = gives done }

-- a call that succeeded in setting the scaling of cone k
pub data Sets (k : ℕ) : Reported → Type 0 where
  by_scaling : (s z : ℕ) → Sets k (true_scaling k s z)
  by_identity : Sets k (done_identity k)

-- none of these did
abbrev pub Quiet : (k : ℕ) → List Reported → Type 0
Quiet k [] = Unit {0}
Quiet k (t ∷ ts) = ¬ Sets k t × Quiet k ts

module _ (list : List Cone) (k : ℕ) where
  -- what the scaling of cone k holds: the cone's own ranges of w, lambda, u, v, η, d, and its mark
  abbrev pub kept_of : Store → Tuple Range update_scaling_deed.writes
  kept_of σ = owns (laid_at list k) update_scaling_deed.writes (fetch σ update_scaling_deed.writes seven)

  -- the mark alone
  abbrev pub mark_at : Store → ℕ
  mark_at σ = get_or (σ (called (per_cone mark) 0)) k 0

  -- what a scaling from s and z gives, by the rule of the cone's kind, where it is made on τ
  abbrev pub scaled_from : (s z : ℕ) (τ : Store) → Tuple Range update_scaling_deed.writes
  scaled_from s z τ =
      (ruled update_scaling_deed (kind_of_cone list k) (kept_of τ) (owns (laid_at list k) update_scaling_deed.reads (fetch τ update_scaling_deed.reads (s ⨾ z ⨾ tt)))).news

  -- what the identity gives, "since identity scaling never sets" lambda, beside lambda as it was
  abbrev pub identity_from : (τ : Store) → Tuple Range update_scaling_deed.writes
  identity_from τ =
      let old : Tuple Range update_scaling_deed.writes = kept_of τ in
      let new : Tuple Range set_identity_scaling_deed.writes = (ruled set_identity_scaling_deed (kind_of_cone list k) (old.0 ⨾ old.1.1) tt).news in
      new.0 ⨾ old.1.0 ⨾ new.1

  -- of the calls cs, made one after another on σ, t was the last that set the scaling of cone k, which holds what t gave
  pub record LastSet (cs : List Request) (σ : Store) (t : Reported) (gave : Store → Tuple Range update_scaling_deed.writes) : Type 0 where
    pub before : List Request
    pub behind : List Request
    pub parts : cs ≡ before ++ (t.call ∷ behind)
    pub answered : (meets_of list t.call (run_all list before σ).store).ruling ≡ t.answer
    pub quiet : Quiet k (run_all list behind (run_all list (before ++ (t.call ∷ [])) σ).store).answers
    pub kept : kept_of (run_all list cs σ).store ≡ gave (run_all list before σ).store
