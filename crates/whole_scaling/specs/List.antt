-- The scaling of a whole list (document 02, item 1): "one call that goes through the list in order, stops at the first cone that answers false, and
-- names it". Assumes nothing.
use Rattle.std.specs.Prelude.{ℕ, zero, suc, cond, List, length, Float}
use Rattle.answers.specs.Refusal.{◌⊳◌, unlike}
use Rattle.answers.specs.Outcome.{Reply, Scaled, all_true, false_at, Ruling, gives, refuses, Outcome, ◌⨾◌}
use Rattle.conelist.specs.declared.Cone.{Cone}
use Rattle.conelist.specs.Layout.{bad_list, laid_at, place_of, fit_all}
use Rattle.conecalls.specs.Deed.{Whole, Tuple, comes}
use Rattle.list_scaling.specs.Scaling.{is_true, update_scaling_deed, lengths_at}

-- what the buffers lent for writing hold: w, lambda, u, v, η, d and the marks
abbrev pub Written : Type 0
Written = Tuple Whole update_scaling_deed.writes

-- behind the single call on cone k, by its ruling and what the buffers then hold: a true leads on to `rest`; a false is named, and nothing follows. A
-- refusal would be handed on, but none is met: `unrefused`, crates/orders/proofs/Scaled
unfoldable pub behind_of : ℕ → Ruling Reply → Written → (rest : Written → Outcome Scaled Written) → Outcome Scaled Written
behind_of k (gives reply) holds rest = cond (is_true reply) (rest holds) (record { ruling = gives (false_at k); holds = holds })
behind_of k (refuses n) holds rest = record { ruling = refuses n; holds = holds }

-- "the single calls made one by one up to and including that cone": on cone k and those behind it, so many that are left. Each is what the contract of
-- `update_scaling` says, of what the one before has left
abbrev pub singly_of : List Cone → (s z : List Float) → (left k : ℕ) → Written → Outcome Scaled Written
singly_of cs s z zero k holds = record { ruling = gives all_true; holds = holds }
singly_of cs s z (suc left) k holds =
    let came : Outcome Reply Written = comes (place_of cs k) update_scaling_deed holds (s ⨾ z ⨾ tt) in
    behind_of k came.ruling came.holds (singly_of cs s z left (suc k))

-- by the refusal's number: where it is 0, what the rule comes to; else the number alone, and the old contents
unfoldable pub unless : {A B : Type 0} → ℕ → B → Outcome A B → Outcome A B
unless zero old came = came
unless (suc n) old came = record { ruling = refuses (suc n); holds = old }

-- "Refusals: as for a single scaling, without 4": the list's, then 5, by the lengths that the record asks for, which are the same at every cone. "An
-- empty list answers true"
abbrev pub list_update_scaling : List Cone → (s z w lambda u v η d : List Float) (marks : List ℕ) → Outcome Scaled Written
list_update_scaling cs s z w lambda u v η d marks =
    let holds : Written = w ⨾ lambda ⨾ u ⨾ v ⨾ η ⨾ d ⨾ marks ⨾ tt in
    unless (bad_list cs ⊳ unlike (fit_all (lengths_at (laid_at cs 0) s z w lambda u v η d marks))) holds (singly_of cs s z (length cs) 0 holds)
