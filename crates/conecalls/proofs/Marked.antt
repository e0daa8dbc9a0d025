-- Deeds with a mark: what they come to is the deed's own, up to the one test or the one number that is set; and they keep lengths where the deed does, so
-- that `any_order` (crates/sequences) holds of such calls as it stands. Assumes nothing.
use Prim.Native.Nat.{ℕ}
use mathlib.Core.Path.{◌≡◌, refl, sym, ap, ◌∙◌, subst}
use mathlib.Core.Bool.{cond}
use mathlib.Core.List.{List, [], ◌∷◌, ◌++◌}
use lib.Dec.{eqb}
use Rattle.vecmath.proofs.Examples.{Line, ◌⇒◌, Right}
use Rattle.answers.specs.Refusal.{◌⊳◌, unlike}
use Rattle.answers.specs.Outcome.{Ruling, gives, refuses, call_of, Gives}
use Rattle.answers.proofs.Laws.{clear_both}
use Rattle.conelist.specs.declared.Kind.{Kind}
use Rattle.conelist.specs.declared.Kind.TheVariants.{Nonnegative}
use Rattle.conelist.specs.declared.Place.{Place}
use Rattle.conelist.specs.Layout.{carried, misplaced, refusal_at, Fits, Open}
use Rattle.conelist.proofs.Placed.{open_at}
use Rattle.conecalls.specs.Deed.{mark, Buffer, per_cone, Range, Tuple, Taking, given, Deed, ruled, later, comes_at, Fitted, Keeps}
use Rattle.conecalls.specs.Marked.{under, last, append, marked, marking}

-- ---- all ranges but the last, and the last

abbrev pub front : (c : Buffer) (bs : List Buffer) → Tuple Range (bs ++ (c ∷ [])) → Tuple Range bs
front c [] rs = tt
front c (b ∷ bs) rs = (rs.0, front c bs rs.1)

abbrev pub end : (c : Buffer) (bs : List Buffer) → Tuple Range (bs ++ (c ∷ [])) → Range c
end c [] rs = rs.0
end c (b ∷ bs) rs = end c bs rs.1

given_under : {A B : Type 0} (bs : List Buffer) (f : A → B) (g : Taking Range bs A) (rs : Tuple Range bs) → given Range bs (under bs f g) rs ≡ f (given Range bs g rs)
given_under [] f g rs = refl
given_under (b ∷ bs) f g rs = given_under bs f (g rs.0) rs.1

given_last : (c : Buffer) {A B : Type 0} (bs : List Buffer) (f : A → Range c → B) (g : Taking Range bs A) (rs : Tuple Range (bs ++ (c ∷ [])))
    → given Range (bs ++ (c ∷ [])) (last c bs f g) rs ≡ f (given Range bs g (front c bs rs)) (end c bs rs)
given_last c [] f g rs = refl
given_last c (b ∷ bs) f g rs = given_last c bs f (g rs.0) rs.1

front_fitted : (kind : Kind) (c : Buffer) (bs : List Buffer) (rs : Tuple Range (bs ++ (c ∷ []))) → Fitted kind (bs ++ (c ∷ [])) rs → Fitted kind bs (front c bs rs)
front_fitted kind c [] rs f = tt
front_fitted kind c (b ∷ bs) rs f = (f.0, front_fitted kind c bs rs.1 f.1)

-- a mark fits any cone
append_fitted : (kind : Kind) (bs : List Buffer) (rs : Tuple Range bs) (m : ℕ) → Fitted kind bs rs → Fitted kind (bs ++ (per_cone mark ∷ [])) (append Range (per_cone mark) bs rs m)
append_fitted kind [] rs m f = (tt, tt)
append_fitted kind (b ∷ bs) rs m f = (f.0, append_fitted kind bs rs.1 m f.1)

-- ---- a call that needs a mark

module _ (unfit : Kind → ℕ → ℕ) (d : Deed) (kind : Kind) (ws : Tuple Range d.writes) (rs : Tuple Range (d.reads ++ (per_cone mark ∷ []))) where
  abbrev before : Tuple Range d.reads
  before = front (per_cone mark) d.reads rs

  pub rule_is : ruled (marked unfit d) kind ws rs ≡ ruled d kind ws before
  rule_is =
      ap (λ g. given Range (d.reads ++ (per_cone mark ∷ [])) g rs) (given_under d.writes (last (per_cone mark) d.reads (λ g m. g)) (d.rule kind) ws)
      ∙ given_last (per_cone mark) d.reads (λ g m. g) (given Range d.writes (d.rule kind) ws) rs

  pub later_is : later (marked unfit d) kind ws rs ≡ later d kind ws before ++ (unfit kind (end (per_cone mark) d.reads rs) ∷ [])
  later_is =
      ap (λ g. given Range (d.reads ++ (per_cone mark ∷ [])) g rs) (given_under d.writes (last (per_cone mark) d.reads (λ ns m. ns ++ (unfit kind m ∷ []))) (d.late kind) ws)
      ∙ given_last (per_cone mark) d.reads (λ ns m. ns ++ (unfit kind m ∷ [])) (given Range d.writes (d.late kind) ws) rs

pub keeps_marked : (unfit : Kind → ℕ → ℕ) (d : Deed) → Keeps d → Keeps (marked unfit d)
keeps_marked unfit d keeps kind h ws f rs g =
    subst (λ (t : Gives d.Replies (Tuple Range d.writes)). Fitted kind d.writes t.news) (sym (rule_is unfit d kind ws rs))
    (keeps kind h ws f (front (per_cone mark) d.reads rs) (front_fitted kind (per_cone mark) d.reads rs g))

-- ---- a call that sets one

module _ (d : Deed) (sets : d.Replies → ℕ → ℕ) (kind : Kind) (ws : Tuple Range (d.writes ++ (per_cone mark ∷ []))) (rs : Tuple Range d.reads) where
  abbrev bs : List Buffer
  bs = d.writes

  -- the deed's answer and ranges with the mark that it sets, where the mark was m
  abbrev with : ℕ → Gives d.Replies (Tuple Range bs) → Gives d.Replies (Tuple Range (bs ++ (per_cone mark ∷ [])))
  with m t = record { reply = t.reply; news = append Range (per_cone mark) bs t.news (sets t.reply m) }

  pub sets_is : ruled (marking d sets) kind ws rs ≡ with (end (per_cone mark) bs ws) (ruled d kind (front (per_cone mark) bs ws) rs)
  sets_is =
      ap (λ g. given Range d.reads g rs) (given_last (per_cone mark) bs (λ g m. under d.reads (with m) g) (d.rule kind) ws)
      ∙ given_under d.reads (with (end (per_cone mark) bs ws)) (given Range bs (d.rule kind) (front (per_cone mark) bs ws)) rs

pub keeps_marking : (d : Deed) (sets : d.Replies → ℕ → ℕ) → Keeps d → Keeps (marking d sets)
keeps_marking d sets keeps kind h ws f rs g =
    let was : Tuple Range d.writes = front (per_cone mark) d.writes ws in
    subst (λ (t : Gives d.Replies (Tuple Range (d.writes ++ (per_cone mark ∷ [])))). Fitted kind (d.writes ++ (per_cone mark ∷ [])) t.news) (sym (sets_is d sets kind ws rs))
    (append_fitted kind d.writes (ruled d kind was rs).news _ (keeps kind h was (front_fitted kind (per_cone mark) d.writes ws f) rs g))

-- ---- what such a call has where it is not refused: of the marks, which it tests last, m is the length and n the one that it must be

front_fits : (ms : List (ℕ × ℕ)) (m n : ℕ) → Fits (ms ++ ((m, n) ∷ [])) → (m ≡ n) × Fits ms
front_fits [] m n f = (f.0, tt)
front_fits (l ∷ ms) m n f = let r = front_fits ms m n f.1 in (r.0, (f.0, r.1))

pub open_front : (p : Place) (ms : List (ℕ × ℕ)) (m n : ℕ) → Open p (ms ++ ((m, n) ∷ [])) → (m ≡ n) × Open p ms
open_front p ms m n o = let r = front_fits ms m n o.same in (r.0, record { here = o.here; same = r.1 })

-- behind its test of the lengths
pub open_tested : (p : Place) (ms : List (ℕ × ℕ)) (m n : ℕ) → 0 ≡ refusal_at p (ms ++ ((m, n) ∷ [])) → Open p ms
open_tested p ms m n e = (open_front p ms m n (open_at p (ms ++ ((m, n) ∷ [])) e)).1

-- k is the number of its refusal, with 8 or 0 behind the others
pub open_marked : (p : Place) (ms : List (ℕ × ℕ)) (m n k unfit : ℕ) → k ≡ refusal_at p (ms ++ ((m, n) ∷ [])) ⊳ unfit → k ≡ 0 → Open p ms
open_marked p ms m n k unfit e z = open_tested p ms m n (sym (clear_both _ _ (sym e ∙ z)).0)

-- ---- the test ranks last, computed: with 8 for a mark of 0, and a deed that is lent nothing and refused with `six`

abbrev call : (six : List ℕ) (marks : List ℕ) → Ruling (Unit {0})
call six marks =
    (comes_at (record { no = 0; index = 0; start = 0; kind = Nonnegative 0; block = 0; entries = 0; count = 1; blocks = 0 })
    (marked (λ kind m. cond (eqb m 0) 8 0) (record { writes = []; reads = []; early = λ kind. []; late = λ kind. six; Replies = Unit {0}; rule = λ kind. record { reply = tt; news = tt } }))
    marks).ruling

lines : List (Line (Ruling (Unit {0})))
lines = (call [] (1 ∷ []) ⇒ gives tt) ∷ (call [] (0 ∷ []) ⇒ refuses 8) ∷ (call (6 ∷ []) (0 ∷ []) ⇒ refuses 6) ∷ (call (6 ∷ []) [] ⇒ refuses 5) ∷ []

worked : Right lines
unfolding lines call_of ◌⊳◌ unlike carried misplaced
worked = refl
