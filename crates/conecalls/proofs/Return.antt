-- The ranges that a deed lent for writing come back, all at once: what the code leaves of its buffers is `backs_of`. Assumes nothing.
use Prim.Native.Nat.{ℕ, ◌+◌, ◌-◌}
use mathlib.Core.Path.{◌≡◌, refl, ap, ◌∙◌}
use mathlib.Core.List.{List, [], ◌∷◌, ◌++◌}
use lib.ListN.{take, drop, set}
use Rattle.answers.specs.Outcome.{Gives}
use Rattle.answers.proofs.Laws.{and_more}
use Rattle.conelist.specs.declared.Place.{Place}
use Rattle.conelist.specs.Layout.{dim, block_dim}
use Rattle.conelist.proofs.Placed.{back}
use Rattle.conecalls.specs.Deed.{Buffer, per_entry, per_cone, per_block, Whole, Range, Tuple, back_of, backs_of}

-- n and m are what `dim` and `block_dim` gave
module _ (p : Place) (n m : ℕ) where
  -- y as the code leaves it, where it lent the cone's own range and `new` came back
  abbrev pub left_of : (b : Buffer) → Whole b → Range b → Whole b
  left_of (per_entry e) y new = take p.start y ++ (new ++ drop (p.start + n - p.start) (drop p.start y))
  left_of (per_cone e) y new = set y p.index new
  left_of (per_block e) y new = take p.block y ++ (new ++ drop (p.block + m - p.block) (drop p.block y))

  abbrev pub lefts_of : (bs : List Buffer) → Tuple Whole bs → Tuple Range bs → Tuple Whole bs
  lefts_of [] ys news = tt
  lefts_of (b ∷ bs) ys news = (left_of b ys.0 news.0, lefts_of bs ys.1 news.1)

module _ (p : Place) {n m : ℕ} (long : n ≡ dim p.kind) (wide : m ≡ block_dim p.kind) where
  left : (b : Buffer) (y : Whole b) (new : Range b) → left_of p n m b y new ≡ back_of p b y new
  left (per_entry e) y new = back long p.start y refl
  left (per_cone e) y new = refl
  left (per_block e) y new = back wide p.block y refl

  lefts : (bs : List Buffer) (ys : Tuple Whole bs) (news : Tuple Range bs) → lefts_of p n m bs ys news ≡ backs_of p bs ys news
  lefts [] ys news = refl
  lefts (b ∷ bs) ys news = and_more (left b ys.0 news.0) (lefts bs ys.1 news.1)

  pub backs : (bs : List Buffer) (ys : Tuple Whole bs) {news news' : Tuple Range bs} → news ≡ news' → lefts_of p n m bs ys news ≡ backs_of p bs ys news'
  backs bs ys {news} e = lefts bs ys news ∙ ap (backs_of p bs ys) e

  -- the same, where the answer comes with the contents
  pub works : (bs : List Buffer) (ys : Tuple Whole bs) {A : Type 0} {reply : A} {news : Tuple Range bs} {does : Gives A (Tuple Range bs)} → record { reply = reply; news = news } ≡ does
      → ◌≡◌ {A = Gives A (Tuple Whole bs)} (record { reply = reply; news = lefts_of p n m bs ys news }) (record { reply = does.reply; news = backs_of p bs ys does.news })
  works bs ys {reply = reply} {news = news} e i = record { reply = (e i).reply; news = backs bs ys (ap (λ t. t.news) e) i }
